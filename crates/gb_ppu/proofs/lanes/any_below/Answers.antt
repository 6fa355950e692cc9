use Rattle.gb_ppu.proofs.EmptyMasks.{none_below}
use Rattle.gb_ppu.proofs.lanes.any_below.Goals as goal

pub returns : goal.returns
returns c = none_below c.args.lanes c.args.limit c.fits-lanes.0
