-- Areas of RAM (own; memory map).
use Rattle.std.specs.Prelude.{◌≡◌, ℕ, ◌+◌, Bool, true, not, ◌&&◌, ◌||◌, nat_le, nat_lt}
use Rattle.gb_ops.specs.declared.machine.Region.{Region}
use Rattle.gb_domain.specs.declared.places.StackBytes.{StackBytes}

-- Both lie in work RAM, C000 to DFFF, or both in high RAM, FF80 to FFFE.
abbrev pub are_in_ram : ℕ → ℕ → Bool
are_in_ram first last = nat_le 0xC000 first && nat_le last 0xDFFF || nat_le 0xFF80 first && nat_le last 0xFFFE

-- From first to last there are addresses, all of them in RAM.
abbrev pub is_area : ℕ → ℕ → Bool
is_area first last = nat_le first last && are_in_ram first last

-- The areas have an address in common.
abbrev pub meets : Region → ℕ → ℕ → Bool
meets region first last = nat_le first region.last && nat_le region.first last

-- The address lies in RAM and outside the region.
abbrev pub is_free_byte : Region → ℕ → Bool
is_free_byte region address = is_area address address && not (meets region address address)

-- It is that of one of so many items below a base. A base of 0 isn't known, and has none.
abbrev pub is_item : ℕ → ℕ → ℕ → Bool
is_item base count address = nat_lt address base && nat_le base (address + count)

-- A byte of memory may be a place at an address of RAM, outside the region or an item's.
abbrev pub is_place_at : StackBytes → ℕ → Bool
is_place_at k address = is_area address address && (not (meets k.region address address) || is_item k.base k.count address)

-- A stack region is an area of RAM.
pub record IsRegion (r : Region) : Type 0 where
  pub area : is_area r.first r.last ≡ true
