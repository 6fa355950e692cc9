use Rattle.std.proofs.Common.{◌≡◌, ◌++◌, drop}
use Rattle.std.specs.List.{filter}
use Rattle.gb_abs.specs.Cells.{is_below}
use Rattle.gb_abs.proofs.cells.append_below.Given as goal

abbrev pub invariant-loop-cell : goal.invariant-loop-cell
invariant-loop-cell l =
    l.cells.items ++ filter (is_below l.address) (drop l.cell-index l.from) ≡ l.fn.cells.items ++ filter (is_below l.address) l.from
