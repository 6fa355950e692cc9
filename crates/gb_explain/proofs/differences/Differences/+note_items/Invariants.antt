use Rattle.std.proofs.Common.{length}
use Rattle.gb_explain.proofs.differences.Differences.+note_items.Given as goal

abbrev pub decreases-note_items : goal.decreases-note_items
decreases-note_items l = length l.s.now
