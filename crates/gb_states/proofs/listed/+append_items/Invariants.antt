use Rattle.std.proofs.Common.{length}
use Rattle.gb_states.proofs.listed.+append_items.Given as goal

abbrev pub decreases-append_items : goal.decreases-append_items
decreases-append_items l = length l.bytes.now
