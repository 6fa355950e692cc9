-- ADD, ADC, SUB, SBC, CP, INC and DEC on intervals (abstract interpretation: interval arithmetic modulo 256; own).
use Rattle.std.specs.Prelude.{ℕ, ◌+◌, ◌-◌, ◌*◌, ◌/◌, ◌%◌, Bool, true, false, not, ◌&&◌, ◌||◌, ◌==◌, if◌then◌else◌, nat_lt, nat_le}
use Rattle.gb_domain.specs.declared.types.Val.{Val}
use Rattle.gb_domain.specs.declared.types.May.{May}
use Rattle.gb_domain.specs.declared.types.Flg.{Flg}
use Rattle.gb_ops.specs.Flags.{bit_of}
use Rattle.gb_ops.specs.Arithmetic as machine
use Rattle.gb_vals.specs.declared.outcome.AbsComputed.{AbsComputed}
use Rattle.gb_vals.specs.Vals.{between, any_val, is_single}
use Rattle.gb_vals.specs.Flags.{known, either, is_known, zero_by, greatest_flags}
use Rattle.gb_vals.specs.Outcomes.{exact}

-- ---- whole numbers from least to most

-- their low bytes, where they lie in one block of 256; else any byte
abbrev pub cut : ℕ → ℕ → Val
cut least most = if least / 256 == most / 256 then between (least % 256) (most % 256) else any_val

abbrev pub has_multiple_of_256 : ℕ → ℕ → Bool
has_multiple_of_256 least most = nat_le least (most / 256 * 256)

abbrev pub has_other : ℕ → ℕ → Bool
has_other least most = nat_lt least most || not (least % 256 == 0)

abbrev pub zero_of : ℕ → ℕ → May
zero_of least most = record { clear = has_other least most; set = has_multiple_of_256 least most }

-- the byte and the flags of sums from least to most: C where they exceed FF
unfoldable pub sum_of : ℕ → ℕ → AbsComputed
sum_of least most =
    record {
      val = cut least most;
      flags = record {
        zero = zero_of least most;
        subtract = known false;
        half_carry = either;
        carry = record { clear = nat_le least 255; set = nat_lt 255 most };
        is_own = false;
      };
    }

-- the byte and the flags of differences, each 256 more than it is, from least to most: C where they are below 0
unfoldable pub difference_of : ℕ → ℕ → AbsComputed
difference_of least most =
    record {
      val = cut least most;
      flags = record {
        zero = zero_of least most;
        subtract = known true;
        half_carry = either;
        carry = record { clear = nat_lt 255 most; set = nat_le least 255 };
        is_own = false;
      };
    }

-- ---- operations

-- the least and the greatest carry
abbrev pub least_bit : May → ℕ
least_bit m = bit_of (not m.clear) 1

abbrev pub greatest_bit : May → ℕ
greatest_bit m = bit_of m.set 1

unfoldable pub are_known : Val → Val → May → Bool
are_known a v carry = is_single a && is_single v && is_known carry

-- ADD (the carry known to be clear) and ADC
unfoldable pub sum : Val → Val → May → AbsComputed
sum a v carry =
    if are_known a v carry
    then exact (machine.added a.lo v.lo (greatest_bit carry))
    else sum_of (a.lo + v.lo + least_bit carry) (a.hi + v.hi + greatest_bit carry)

-- SUB (the borrow known to be clear) and SBC
unfoldable pub difference : Val → Val → May → AbsComputed
difference a v borrow =
    if are_known a v borrow
    then exact (machine.subtracted a.lo v.lo (greatest_bit borrow))
    else difference_of (a.lo + 256 - (v.hi + greatest_bit borrow)) (a.hi + 256 - (v.lo + least_bit borrow))

-- the value and the flags of INC and DEC: Z by the bounds, H either, C as it was
abbrev pub counted : Val → Bool → May → AbsComputed
counted v subtract carry =
    record {
      val = v;
      flags = record {
        zero = zero_by v;
        subtract = known subtract;
        half_carry = either;
        carry = carry;
        is_own = false;
      };
    }

-- the outcome, with C as it was
abbrev pub keeping_carry : May → AbsComputed → AbsComputed
keeping_carry carry o = record o { flags = record o.flags { carry = carry } }

-- one more, where that is a byte (the remainder is for empty intervals alone)
abbrev pub next_val : Val → Val
next_val v = if nat_lt v.hi 255 then between ((v.lo + 1) % 256) (v.hi + 1) else any_val

-- DEC of an interval: one less, where that is a byte
abbrev pub previous_val : Val → Val
previous_val v = if nat_lt 0 v.lo then between (v.lo - 1) (v.hi - 1) else any_val

unfoldable pub increment : Val → Flg → AbsComputed
increment v f =
    if is_single v
    then keeping_carry f.carry (exact (machine.incremented v.lo (greatest_flags f)))
    else counted (next_val v) false f.carry

unfoldable pub decrement : Val → Flg → AbsComputed
decrement v f =
    if is_single v
    then keeping_carry f.carry (exact (machine.decremented v.lo (greatest_flags f)))
    else counted (previous_val v) true f.carry
