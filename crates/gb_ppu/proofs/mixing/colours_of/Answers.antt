use Rattle.std.proofs.Common.{bit_and}
use Rattle.gb_ppu.proofs.LaneLaws.{itself, splat, paired, as_lanes, lane_fits}
use Rattle.gb_ppu.proofs.NearerLanes.{two_low}
use Rattle.gb_ppu.proofs.mixing.colours_of.Goals as goal

pub returns : goal.returns
returns c =
    as_lanes (paired 0 bit_and (itself 0 16 c.args.pixels c.fits-pixels.0) (splat 0 16 3)) (λ i less. two_low _ (lane_fits c.args.pixels i c.fits-pixels.1))
