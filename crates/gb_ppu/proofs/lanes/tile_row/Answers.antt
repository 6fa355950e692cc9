use Rattle.gb_ppu.proofs.LaneLaws.{row_lanes}
use Rattle.gb_ppu.proofs.lanes.tile_row.Goals as goal

pub returns : goal.returns
returns c = row_lanes c.args.low c.args.high c.ranges.low.fits c.ranges.high.fits
