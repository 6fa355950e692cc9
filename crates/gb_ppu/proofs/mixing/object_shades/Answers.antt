use Rattle.std.proofs.Common.{refl, arith}
use Rattle.gb_ppu.proofs.LaneLaws.{from_lanes, as_lanes}
use Rattle.gb_ppu.proofs.mixing.object_shades.Goals as goal

pub shades-requires : goal.shades-requires
shades-requires c = λ i less. rw (c.colours_of-colours.ensures.lanes i less) (omega arith)

pub shades-requires-2 : goal.shades-requires-2
shades-requires-2 c = λ i less. rw (c.colours_of-colours.ensures.lanes i less) (omega arith)

pub returns : goal.returns
returns c = as_lanes (from_lanes c.by_palette.ensures) (λ i less.
    rw (c.shades.ensures.lanes i less, c.shades-2.ensures.lanes i less, c.colours_of-colours.ensures.lanes i less) refl)
