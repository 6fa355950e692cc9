use Rattle.std.proofs.Common.{length}
use Rattle.gb_calls.proofs.entering.+append_returning.Given as goal

abbrev pub decreases-append_returning : goal.decreases-append_returning
decreases-append_returning l = length l.items.now
