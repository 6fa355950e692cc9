-- Where an instruction reads or stores a byte that places may hold (own; memory map).
use Rattle.std.specs.Prelude.{ℕ, ◌-◌, Bool, ◌&&◌, not, if◌then◌else◌, nat_le, Option, Some, None}
use Rattle.gb_ops.specs.declared.machine.Region.{Region}
use Rattle.gb_domain.specs.declared.places.Place.{Place}
use Rattle.gb_domain.specs.declared.places.StackBytes.{StackBytes}
use Rattle.gb_domain.specs.declared.places.Place.TheVariants as place
use Rattle.gb_domain.specs.Areas.{are_in_ram, meets, is_place_at}
use Rattle.gb_domain.specs.declared.pairs.Bounds.{Bounds}
use Rattle.gb_pairs.specs.Bounds.{is_one}

-- an address of RAM
abbrev pub is_ram : ℕ → Bool
is_ram a = are_in_ram a a

-- one outside the stack region
abbrev pub is_free : Region → ℕ → Bool
is_free region a = is_ram a && not (meets region a a)

-- a place at an address, where it may be one
abbrev pub place_where : Bool → ℕ → Option Place
place_where is_one a = if is_one then Some (place.Address a) else None

abbrev pub place_if : (ℕ → Bool) → ℕ → Option Place
place_if may_be a = place_where (may_be a) a

abbrev pub free_place : Region → ℕ → Option Place
free_place region a = place_if (is_free region) a

-- where a store to these addresses stores, where that is one known address
unfoldable pub stored_place : Region → Bounds → Option Place
stored_place region addresses = if is_one addresses then free_place region addresses.first else None

-- the echo of work RAM reads it
abbrev pub is_echo : ℕ → Bool
is_echo a = nat_le 0xE000 a && nat_le a 0xFDFF

abbrev pub behind_echo : ℕ → ℕ
behind_echo a = if is_echo a then a - 0x2000 else a

-- where a load from these addresses reads
unfoldable pub loaded_place : Region → Bounds → Option Place
loaded_place region addresses = if is_one addresses then free_place region (behind_echo addresses.first) else None

-- ---- places of the one byte, of which items may be

unfoldable pub stored_at : StackBytes → Bounds → Option Place
stored_at stack addresses = if is_one addresses then place_if (is_place_at stack) addresses.first else None

-- through the echo no item is one
abbrev pub place_read : StackBytes → ℕ → Option Place
place_read stack a = if is_echo a then free_place stack.region (a - 0x2000) else place_if (is_place_at stack) a

unfoldable pub loaded_at : StackBytes → Bounds → Option Place
loaded_at stack addresses = if is_one addresses then place_read stack addresses.first else None
