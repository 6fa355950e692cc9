use Rattle.std.proofs.Common.{length}
use Rattle.gb_calls.proofs.in_bytes.+covers_items_in.Given as goal

abbrev pub decreases-covers_items_in : goal.decreases-covers_items_in
decreases-covers_items_in l = length l.bytes.now
