use Rattle.std.proofs.Common.{◌≡◌, ◌++◌, drop, map}
use Rattle.gb_abs.specs.Cells.{widened_at}
use Rattle.gb_abs.proofs.cells.widened_or_same.Given as goal

abbrev pub invariant-loop-cell : goal.invariant-loop-cell
invariant-loop-cell l =
    l.cells.items ++ map (widened_at l.is_whole l.span l.val) (drop l.cell-index l.cell-items) ≡ map (widened_at l.is_whole l.span l.val) l.cell-items
