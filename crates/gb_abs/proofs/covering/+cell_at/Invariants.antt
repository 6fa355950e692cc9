use Rattle.std.proofs.Common.{length}
use Rattle.gb_abs.proofs.covering.+cell_at.Given as goal

abbrev pub decreases-cell_at : goal.decreases-cell_at
decreases-cell_at l = length l.cells.now
