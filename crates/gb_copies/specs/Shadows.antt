-- Shadows that come and go (CPU instruction set: load instructions; MBCs; own).
use Rattle.std.specs.Prelude.{ℕ, Bool, true, false, ◌&&◌, ◌||◌, if◌then◌else◌, Option, Some, None}
use Rattle.gb_ops.specs.declared.op.Register.{Register}
use Rattle.gb_ops.specs.declared.registers.Registers.{Registers}
use Rattle.gb_ops.specs.Registers.{get, set}
use Rattle.gb_domain.specs.declared.places.Place.{Place}
use Rattle.gb_domain.specs.declared.places.Place.TheVariants as place
use Rattle.gb_domain.specs.declared.places.OneByte.{OneByte}
use Rattle.gb_domain.specs.Places.{no_place}
use Rattle.gb_domain.specs.Summaries.{no_shadows}
use Rattle.gb_copies.specs.Places.{is_address, address_outside}
use Rattle.gb_domain.specs.declared.summary.Shadows.{Shadows}

-- the place is one of them
unfoldable pub is_shadow : Place → Shadows → Bool
is_shadow (place.Register q) s = get q s.registers
is_shadow (place.Address a) s = is_address a s.address

-- a register was written
unfoldable pub without_register : Register → Shadows → Shadows
without_register q s = record s { registers = set q false s.registers }

-- one of the addresses was written
unfoldable pub without_addresses : ℕ → ℕ → Shadows → Shadows
without_addresses first last s = record s { address = address_outside first last s.address }

-- the address, where there is none yet: another one stays
abbrev pub address_or : ℕ → Option ℕ → Option ℕ
address_or a None = Some a
address_or a (Some b) = Some b

-- a register gets a place's byte: it is one of them exactly where the place is
unfoldable pub copied_to_register : Register → Place → Shadows → Shadows
copied_to_register to from s = record s { registers = set to (is_shadow from s) s.registers }

-- an address gets a place's byte: of two addresses the first stays
unfoldable pub copied_to_address : ℕ → Place → Shadows → Shadows
copied_to_address to from s = if is_shadow from s then record s { address = address_or to s.address } else without_addresses to to s

-- these registers too
abbrev pub either_registers : Registers Bool → Registers Bool → Registers Bool
either_registers s t = record { a = s.a || t.a; b = s.b || t.b; c = s.c || t.c; d = s.d || t.d; e = s.e || t.e; h = s.h || t.h; l = s.l || t.l }

-- of these only those
abbrev pub both_registers : Registers Bool → Registers Bool → Registers Bool
both_registers s t = record { a = s.a && t.a; b = s.b && t.b; c = s.c && t.c; d = s.d && t.d; e = s.e && t.e; h = s.h && t.h; l = s.l && t.l }

-- a register was stored into the window: it, and all places that hold its byte
abbrev pub stored_register : Register → OneByte → Shadows
stored_register q b =
    if get q b.registers
    then record { registers = b.registers; address = b.address }
    else record { registers = set q true no_place; address = None }

-- a byte was stored into the window, by a register or not
unfoldable pub stored : Option Register → OneByte → Shadows
stored None b = no_shadows
stored (Some q) b = stored_register q b
