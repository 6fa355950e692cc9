use Rattle.std.proofs.Common.{length}
use Rattle.gb_abs.proofs.covering.+covers_items.Given as goal

abbrev pub decreases-covers_items : goal.decreases-covers_items
decreases-covers_items l = length l.s.now
