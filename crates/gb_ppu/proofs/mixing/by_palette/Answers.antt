use Rattle.std.proofs.Common.{eqb, bit_and}
use Rattle.gb_ppu.proofs.LaneLaws.{itself, splat, paired, selected, compared, as_lanes, lane_fits}
use Rattle.gb_ppu.proofs.NearerLanes.{palette_lane}
use Rattle.gb_ppu.proofs.mixing.by_palette.Goals as goal

pub returns : goal.returns
returns c =
    let bits = paired 0 bit_and (itself 0 16 c.args.pixels c.fits-pixels.0) (splat 0 16 16) in
    as_lanes
    (selected (compared eqb bits (splat 0 16 0)) (itself 0 16 c.args.first c.fits-first.0) (itself 0 16 c.args.second c.fits-second.0))
    (λ i less. palette_lane _ _ _ (lane_fits c.args.pixels i c.fits-pixels.1))
