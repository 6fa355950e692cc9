-- Places of the one byte among the bytes of the stack: items alone are (own rules: version 4).
use Rattle.std.specs.Prelude.{ℕ, ◌-◌}
use Rattle.gb_ops.specs.declared.machine.Region.{Region}
use Rattle.gb_domain.specs.declared.places.OneByte.{OneByte}
use Rattle.gb_domain.specs.declared.places.StackBytes.{StackBytes}
use Rattle.gb_copies.specs.Places.{without_addresses}
use Rattle.gb_relations.specs.Sound.{IsByteFree, IsBytePlaced}

-- the stack holds these items now: what lies below them is no place
unfoldable pub held_places : StackBytes → OneByte → OneByte
held_places stack b = without_addresses stack.region.first (stack.base - stack.count - 1) b

-- no item is a place
unfoldable pub places_outside : Region → OneByte → OneByte
places_outside region b = without_addresses region.first region.last b

-- ---- what that promises

-- however many items there were, a place in the stack is one of those that are left
pub record AreItemsLeft (stack : StackBytes) (s after : OneByte) : Type 0 where
  pub gives : (count : ℕ) → IsBytePlaced (record stack { count = count }) s.address → IsBytePlaced stack after.address

-- the address among the places lies outside the stack region
pub record IsOutside (region : Region) (s after : OneByte) : Type 0 where
  pub gives : (base count : ℕ) → IsBytePlaced (record { region = region; base = base; count = count }) s.address → IsByteFree region after.address
