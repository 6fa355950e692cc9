use Rattle.std.proofs.Common.{◌≡◌, ◌++◌, drop}
use Rattle.std.specs.List.{filter}
use Rattle.gb_abs.specs.Cells.{is_outside}
use Rattle.gb_abs.proofs.cells.dropped.Given as goal

abbrev pub invariant-loop-cell : goal.invariant-loop-cell
invariant-loop-cell l =
    l.cells.items ++ filter (is_outside l.first l.last) (drop l.cell-index l.cell-items) ≡ filter (is_outside l.first l.last) l.cell-items
