use Rattle.std.proofs.Common.{ltb}
use Rattle.gb_ppu.proofs.LaneLaws.{itself, selected, compared, as_lanes, from_lanes, lane_fits}
use Rattle.gb_ppu.proofs.NearerLanes.{x_lane}
use Rattle.gb_ppu.proofs.front.nearer_xs.Goals as goal

pub returns : goal.returns
returns c =
    let own = from_lanes c.own_xs.ensures in
    let xs = itself 0 8 c.args.xs c.fits-xs.0 in
    as_lanes (selected (compared ltb own xs) own xs) (λ i less. x_lane c.args.x _ _ (lane_fits c.args.xs i c.fits-xs.1))
