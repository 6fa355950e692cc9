use Rattle.std.proofs.Common.{◌≡◌, ◌++◌, drop}
use Rattle.std.specs.List.{filter}
use Rattle.gb_abs.specs.Cells.{is_above}
use Rattle.gb_abs.proofs.cells.append_above.Given as goal

abbrev pub invariant-loop-cell : goal.invariant-loop-cell
invariant-loop-cell l =
    l.cells.items ++ filter (is_above l.address) (drop l.cell-index l.from) ≡ l.fn.cells.items ++ filter (is_above l.address) l.from
