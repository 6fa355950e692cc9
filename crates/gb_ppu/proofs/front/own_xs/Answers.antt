use Rattle.std.proofs.Common.{eqb, refl}
use Rattle.gb_ppu.proofs.LaneLaws.{itself, splat, selected, compared, as_lanes}
use Rattle.gb_ppu.proofs.front.own_xs.Goals as goal

pub returns : goal.returns
returns c = as_lanes (selected (compared eqb (itself 0 8 c.args.colours c.fits-colours.0) (splat 0 8 0)) (splat 0 8 255) (splat 0 8 c.args.x)) (λ i less. refl)
