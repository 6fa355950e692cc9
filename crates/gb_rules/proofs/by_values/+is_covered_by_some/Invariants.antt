use Rattle.std.proofs.Common.{length}
use Rattle.gb_rules.proofs.by_values.+is_covered_by_some.Given as goal

abbrev pub decreases-is_covered_by_some : goal.decreases-is_covered_by_some
decreases-is_covered_by_some l = length l.registers.now
