-- What values say of low bits (abstract interpretation: strided intervals; own).
use Rattle.std.specs.Prelude.{◌≡◌, ℕ, zero, suc, Bool, true, ◌&&◌, ◌||◌, ◌==◌, nat_le, nat_lt}
use Rattle.gb_domain.specs.declared.types.Val.{Val}
use Rattle.gb_domain.specs.declared.low_bits.LowBits.{LowBits}
use Rattle.gb_domain.specs.declared.interval.StridedInterval.{StridedInterval}
use Rattle.gb_domain.specs.LowBits.{low_bits, are_congruent, covers}
use Rattle.gb_domain.specs.Interval.{low_bits_of}
use Rattle.gb_domain.specs.Meaning.{Has}

-- a value, its origin apart
abbrev pub interval_of : Val → StridedInterval
interval_of v = record { lo = v.lo; hi = v.hi; count = v.low_bits }

-- n low bits of both are the same; where n is 0 nothing is asked
abbrev pub have_same : ℕ → ℕ → ℕ → Bool
have_same zero x y = true
have_same (suc n) x y = are_congruent (suc n) x y

-- x has the low bits of v's values
abbrev pub has_low_bits : Val → ℕ → Bool
has_low_bits v x = have_same v.low_bits x v.lo

-- what n low bits of a number say k says too; where n is 0 they say nothing
abbrev pub say_same : LowBits → ℕ → ℕ → Bool
say_same k zero x = true
say_same k (suc n) x = covers k (low_bits (suc n) x)

-- what t says of low bits s says too; a single value says all eight
abbrev pub covers_low_bits : Val → Val → Bool
covers_low_bits s t = say_same (low_bits_of (interval_of s)) t.low_bits t.lo

-- At most seven low bits are known, and both ends have them; of a single value the count says nothing.
abbrev pub is_strided : Val → Bool
is_strided v = v.low_bits == 0 || nat_le v.low_bits 7 && (nat_lt v.lo v.hi && has_low_bits v v.hi)

-- x has the value's low bits exactly where it has those that are known
pub record SaysOfLowBits (v : Val) (k : LowBits) : Type 0 where
  pub gives : (x : ℕ) → has_low_bits v x ≡ true → Has k x
  pub takes : (x : ℕ) → Has k x → has_low_bits v x ≡ true
