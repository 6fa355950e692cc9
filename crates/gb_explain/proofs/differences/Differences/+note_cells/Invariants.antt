use Rattle.std.proofs.Common.{length}
use Rattle.gb_explain.proofs.differences.Differences.+note_cells.Given as goal

abbrev pub decreases-note_cells : goal.decreases-note_cells
decreases-note_cells l = length l.t.now
