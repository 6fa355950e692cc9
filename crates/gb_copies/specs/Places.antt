-- Places that come and go, and tests (own).
use Rattle.std.specs.Prelude.{ℕ, ◌+◌, Bool, true, false, ◌&&◌, ◌==◌, if◌then◌else◌, nat_le, Option, Some, None}
use Rattle.gb_ops.specs.declared.op.Register.{Register}
use Rattle.gb_ops.specs.declared.op.Register.TheVariants.{A}
use Rattle.gb_ops.specs.declared.registers.Registers.{Registers}
use Rattle.gb_ops.specs.Registers.{get, set}
use Rattle.gb_domain.specs.declared.places.Place.{Place}
use Rattle.gb_domain.specs.declared.places.Place.TheVariants as place
use Rattle.gb_domain.specs.declared.places.Test.{Test}
use Rattle.gb_domain.specs.declared.places.Test.TheVariants as test
use Rattle.gb_domain.specs.declared.places.OneByte.{OneByte}
use Rattle.gb_domain.specs.Places.{no_byte}
pub use Rattle.gb_domain.specs.RelationRules.{is_some_register, has_address, has_place}

-- ---- which places there are

abbrev pub is_address : ℕ → Option ℕ → Bool
is_address a None = false
is_address a (Some b) = a == b

unfoldable pub is_place : Place → OneByte → Bool
is_place (place.Register r) b = get r b.registers
is_place (place.Address a) b = is_address a b.address

abbrev pub one_if : Bool → ℕ
one_if true = 1
one_if false = 0

-- how many registers are among them
abbrev pub count_registers : Registers Bool → ℕ
count_registers s = one_if s.a + one_if s.b + one_if s.c + one_if s.d + one_if s.e + one_if s.h + one_if s.l

unfoldable pub count_places : OneByte → ℕ
count_places b = count_registers b.registers + one_if (has_address b)

-- ---- forgetting

-- without places nothing is said of a byte
abbrev pub of_places : OneByte → OneByte
of_places b = if has_place b then b else record b { test = None }

-- a register was written
unfoldable pub without_register : Register → OneByte → OneByte
without_register r b = of_places (record b { registers = set r false b.registers })

abbrev pub address_outside : ℕ → ℕ → Option ℕ → Option ℕ
address_outside first last None = None
address_outside first last (Some a) = if nat_le first a && nat_le a last then None else Some a

-- one of the addresses was written
unfoldable pub without_addresses : ℕ → ℕ → OneByte → OneByte
without_addresses first last b = of_places (record b { address = address_outside first last b.address })

-- the flags were written
unfoldable pub without_test : OneByte → OneByte
without_test b = record b { test = None }

-- a place was written
unfoldable pub without_place : Place → OneByte → OneByte
without_place (place.Register r) b = without_register r b
without_place (place.Address a) b = without_addresses a a b

-- ---- new places and tests

-- the place is one of them; an address takes the place of another
unfoldable pub with_place : Place → OneByte → OneByte
with_place (place.Register r) b = record b { registers = set r true b.registers }
with_place (place.Address a) b = record b { address = Some a }

-- the byte of one place, without a test
abbrev pub byte_at : Place → OneByte
byte_at p = with_place p no_byte

-- the byte of one place, of which the flags say this
abbrev pub only_tested : Place → Test → OneByte
only_tested p t = record (byte_at p) { test = Some t }

-- the flags say this of a place's byte: the other places stay where it's one of them
unfoldable pub tested : Place → Test → OneByte → OneByte
tested p t b = if is_place p b then record b { test = Some t } else only_tested p t

-- the flags say of what A held before it was written, which the others hold where A was a place beside others; else they say
-- of A whether it is 0
unfoldable pub tested_before_a : Test → OneByte → OneByte
tested_before_a t b =
    if b.registers.a && nat_le 2 (count_places b)
    then record (record b { registers = record b.registers { a = false } }) { test = Some t }
    else only_tested (place.Register A) (test.Bits 255)
