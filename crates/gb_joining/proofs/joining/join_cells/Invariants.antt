use Rattle.std.proofs.Common.{length}
use Rattle.gb_joining.proofs.joining.join_cells.Given as goal

abbrev pub decreases-loop-rest : goal.decreases-loop-rest
decreases-loop-rest l = length l.rest
