-- Sets of flags (abstract interpretation: each flag a set of Bools; own), and F as a byte (CPU registers and flags).
use Rattle.std.specs.Prelude.{Bool, true, false, not, ◌==◌, if◌then◌else◌, Option, Some, None}
use Rattle.gb_ops.specs.declared.registers.Flags.{Flags}
use Rattle.gb_ops.specs.Flags.{flags_byte, flags_of}
use Rattle.gb_domain.specs.declared.types.Origin.{Origin}
use Rattle.gb_domain.specs.declared.types.Origin.TheVariants as origin
use Rattle.gb_domain.specs.declared.types.Val.{Val}
use Rattle.gb_domain.specs.declared.types.May.{May}
use Rattle.gb_domain.specs.declared.types.Flg.{Flg}
use Rattle.gb_vals.specs.Vals.{is_single}

abbrev pub known : Bool → May
known b = record { clear = not b; set = b }

abbrev pub either : May
either = record { clear = true; set = true }

abbrev pub is_known : May → Bool
is_known m = if m.clear then not m.set else m.set

-- Z by the bounds of a result: set where it may be 0, clear where it may be another value
abbrev pub zero_by : Val → May
zero_by v = record { clear = not (v.hi == 0); set = v.lo == 0 }

abbrev pub known_flags : Flags → Flg
known_flags f =
    record {
      zero = known f.zero;
      subtract = known f.subtract;
      half_carry = known f.half_carry;
      carry = known f.carry;
      is_own = false;
    }

-- the flags, each set where it may be: those that are known have this value
abbrev pub greatest_flags : Flg → Flags
greatest_flags f =
    record { zero = f.zero.set; subtract = f.subtract.set; half_carry = f.half_carry.set; carry = f.carry.set }

-- the flags, each clear where it may be
abbrev pub least_flags : Flg → Flags
least_flags f =
    record {
      zero = not f.zero.clear;
      subtract = not f.subtract.clear;
      half_carry = not f.half_carry.clear;
      carry = not f.carry.clear;
    }

-- what F is a copy of: F as the procedure was entered, or nothing
abbrev pub own_origin : Bool → Option Origin
own_origin true = Some origin.F
own_origin false = None

abbrev pub is_own_origin : Option Origin → Bool
is_own_origin None = false
is_own_origin (Some origin.F) = true
is_own_origin (Some _) = false

abbrev pub any_flags : Bool → Flg
any_flags is_own = record { zero = either; subtract = either; half_carry = either; carry = either; is_own = is_own }

abbrev pub with_own : Bool → Flg → Flg
with_own is_own f = record f { is_own = is_own }

-- PUSH AF: F as a byte, from its least to its greatest
unfoldable pub flags_val : Flg → Val
flags_val f =
    record { lo = flags_byte (least_flags f); hi = flags_byte (greatest_flags f); low_bits = 0; origin = own_origin f.is_own }

-- POP AF: the flags of a known byte, else any; F keeps its own origin alone
unfoldable pub flags_of_val : Val → Flg
flags_of_val v =
    if is_single v
    then with_own (is_own_origin v.origin) (known_flags (flags_of v.lo))
    else any_flags (is_own_origin v.origin)
