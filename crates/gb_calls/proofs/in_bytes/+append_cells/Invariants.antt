use Rattle.std.proofs.Common.{length}
use Rattle.gb_calls.proofs.in_bytes.+append_cells.Given as goal

abbrev pub decreases-append_cells : goal.decreases-append_cells
decreases-append_cells l = length l.bytes.now
