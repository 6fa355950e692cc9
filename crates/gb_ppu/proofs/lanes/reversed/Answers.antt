use Rattle.gb_ppu.proofs.LaneLaws.{reversed_lanes}
use Rattle.gb_ppu.proofs.lanes.reversed.Goals as goal

pub returns : goal.returns
returns c = reversed_lanes c.args.lanes c.fits-lanes.0
