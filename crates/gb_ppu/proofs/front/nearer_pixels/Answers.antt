use Rattle.std.proofs.Common.{ltb, bit_or}
use Rattle.gb_ppu.proofs.LaneLaws.{itself, splat, paired, selected, compared, as_lanes, from_lanes, lane_fits}
use Rattle.gb_ppu.proofs.NearerLanes.{pixel_lane}
use Rattle.gb_ppu.proofs.front.nearer_pixels.Goals as goal

pub returns : goal.returns
returns c =
    let own = from_lanes c.own_xs-own.ensures in
    let colours = itself 0 8 c.args.colours c.fits-colours.0 in
    let xs = itself 0 8 c.args.xs c.fits-xs.0 in
    let pixels = itself 0 8 c.args.pixels c.fits-pixels.0 in
    as_lanes (selected (compared ltb own xs) (paired 0 bit_or colours (splat 0 8 _)) pixels)
    (λ i less. pixel_lane c.args.x _ c.args.attributes _ _ (lane_fits c.args.xs i c.fits-xs.1))
