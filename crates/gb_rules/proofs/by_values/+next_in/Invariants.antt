use Rattle.std.proofs.Common.{length}
use Rattle.gb_rules.proofs.by_values.+next_in.Given as goal

abbrev pub decreases-next_in : goal.decreases-next_in
decreases-next_in l = length l.cells.now
