-- BIT, RES and SET on intervals, and whether a value may have a bit (CPU instruction set: single bits; own).
use Rattle.std.specs.Prelude.{ℕ, ◌/◌, ◌%◌, ◌^◌, Bool, false, true, not, ◌||◌, ◌==◌, nat_lt, if◌then◌else◌}
use Rattle.gb_domain.specs.declared.types.Val.{Val}
use Rattle.gb_domain.specs.declared.types.May.{May}
use Rattle.gb_domain.specs.declared.types.Flg.{Flg}
use Rattle.gb_ops.specs.Arithmetic as machine
use Rattle.gb_vals.specs.Vals.{between, single, is_single}
use Rattle.gb_vals.specs.Flags.{known, either, known_flags, greatest_flags}

-- the flags of a byte that isn't known, with this carry
abbrev pub tested_any : May → Flg
tested_any carry =
    record { zero = either; subtract = known false; half_carry = known true; carry = carry; is_own = false }

-- the flags of a known byte, C as it was
abbrev pub tested : ℕ → ℕ → Flg → Flg
tested n x f = record (known_flags (machine.bit_tested n x (greatest_flags f))) { carry = f.carry }

unfoldable pub test_bit : ℕ → Val → Flg → Flg
test_bit n v f = if is_single v then tested n v.lo f else tested_any f.carry

unfoldable pub reset_bit : ℕ → Val → Val
reset_bit n v = if is_single v then single (machine.bit_reset n v.lo) else between 0 v.hi

unfoldable pub set_bit : ℕ → Val → Val
set_bit n v = if is_single v then single (machine.bit_set n v.lo) else between v.lo 255

-- ---- bits that a value may have

-- bit i of n is set
abbrev pub has_bit : ℕ → ℕ → Bool
has_bit i n = n / 2 ^ i % 2 == 1

-- a byte within the bounds has bit i: an end has it, or the bits above it change from the least value to the greatest
unfoldable pub may_have_bit : Val → ℕ → Bool
may_have_bit v i = has_bit i v.lo || has_bit i v.hi || nat_lt (v.lo / 2 ^ i / 2) (v.hi / 2 ^ i / 2)

-- n enables an interrupt: it has one of bits 0 to 4
abbrev pub enables : ℕ → Bool
enables n = not (n % 32 == 0)

-- a byte within the bounds enables an interrupt: of two that follow one another one does
unfoldable pub may_enable : Val → Bool
may_enable v = nat_lt v.lo v.hi || enables v.lo
