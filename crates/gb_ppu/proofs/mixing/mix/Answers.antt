use Rattle.gb_ppu.proofs.LaneLaws.{from_lanes, as_lanes}
use Rattle.gb_ppu.proofs.MixedLanes.{mixed_by-none, mixed_by-over}
use Rattle.gb_ppu.proofs.mixing.mix.Goals as goal

pub returns-then-is_zero : goal.returns-then-is_zero
returns-then-is_zero c =
    as_lanes (from_lanes c.shades-below.ensures) (λ i less. mixed_by-none _ _ _ _ _ ((c.is_zero.ensures c.if-is_zero.true).lanes i less))

pub returns : goal.returns
returns c =
    as_lanes (from_lanes c.over.ensures) (λ i less. mixed_by-over _ _ _ _ _ _ _ (c.shades-below.ensures.lanes i less) (c.object_shades.ensures.lanes i less))
