use Rattle.gb_ppu.proofs.LaneLaws.{colours_within, shaded_lanes}
use Rattle.gb_ppu.proofs.lanes.shades.Goals as goal

pub swizzle : goal.swizzle
swizzle c = colours_within c.args.palette c.args.colours c.ranges.palette.fits c.fits-colours.0 c.requires

pub returns : goal.returns
returns c = shaded_lanes c.args.palette c.args.colours c.ranges.palette.fits c.fits-colours.0 c.requires
