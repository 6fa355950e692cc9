use Rattle.std.proofs.Common.{eqb, leb}
use Rattle.gb_ppu.proofs.LaneLaws.{itself, splat, selected, compared, as_lanes, from_lanes, lane_fits}
use Rattle.gb_ppu.proofs.NearerLanes.{over_lane}
use Rattle.gb_ppu.proofs.mixing.over.Goals as goal

pub returns : goal.returns
returns c =
    let colours = itself 0 16 c.args.colours c.fits-colours.0 in
    let pixels = itself 0 16 c.args.pixels c.fits-pixels.0 in
    let below = itself 0 16 c.args.below c.fits-below.0 in
    let above = itself 0 16 c.args.above c.fits-above.0 in
    let hiding = selected (compared leb (splat 0 16 128) pixels) colours (splat 0 16 0) in
    let shown = selected (compared eqb hiding (splat 0 16 0)) above below in
    as_lanes (selected (compared eqb (from_lanes c.colours_of.ensures) (splat 0 16 0)) below shown)
    (λ i less. over_lane _ _ _ _ (lane_fits c.args.pixels i c.fits-pixels.1))
