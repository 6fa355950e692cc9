use Rattle.gb_ppu.proofs.EmptyMasks.{zero_lanes}
use Rattle.gb_ppu.proofs.mixing.is_zero.Goals as goal

pub returns : goal.returns
returns c = zero_lanes c.args.lanes c.fits-lanes.0
