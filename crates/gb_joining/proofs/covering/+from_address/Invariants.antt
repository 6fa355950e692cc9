use Rattle.std.proofs.Common.{length}
use Rattle.gb_joining.proofs.covering.+from_address.Given as goal

abbrev pub decreases-from_address : goal.decreases-from_address
decreases-from_address l = length l.cells.now
