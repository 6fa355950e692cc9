-- Which bytes have low bits, and lie in strided intervals (abstract interpretation: concretization; own).
use Rattle.std.specs.Prelude.{◌≡◌, ℕ, ◌%◌, ◌<◌, ◌≤◌, Option, Some, None}
use Rattle.gb_domain.specs.declared.low_bits.LowBits.{LowBits}
use Rattle.gb_domain.specs.declared.interval.StridedInterval.{StridedInterval}
use Rattle.gb_domain.specs.LowBits.{modulus, low_bits}

-- ---- low bits

-- x has the low bits: both are congruent
pub record Has (k : LowBits) (x : ℕ) : Type 0 where
  pub same : x % modulus k.count ≡ k.bits % modulus k.count

-- whatever has j's low bits has k's
pub record IsPartOf (j k : LowBits) : Type 0 where
  pub gives : (x : ℕ) → Has j x → Has k x

-- ---- strided intervals

-- x is one of v's values
pub record In (v : StridedInterval) (x : ℕ) : Type 0 where
  pub least : v.lo ≤ x
  pub most : x ≤ v.hi
  pub low : Has (low_bits v.count v.lo) x

-- lo to hi, with low bits
pub record IsWithin (lo hi : ℕ) (k : LowBits) (x : ℕ) : Type 0 where
  pub least : lo ≤ x
  pub most : x ≤ hi
  pub low : Has k x

-- it has a least and a greatest value, and one value has no count
pub record IsStrided (v : StridedInterval) : Type 0 where
  pub least : In v v.lo
  pub greatest : In v v.hi
  pub count : v.count < 8
  pub one : v.lo ≡ v.hi → v.count ≡ 0

-- they are bytes
pub record IsOfBytes (v : StridedInterval) : Type 0 where
  pub strided : IsStrided v
  pub most : v.hi < 256

abbrev pub InSome : Option StridedInterval → ℕ → Type 0
InSome None x = ⊥
InSome (Some v) x = In v x

-- what is left are exactly these values
pub record Leaves (wanted : ℕ → Type 0) (o : Option StridedInterval) : Type 0 where
  pub keeps : (x : ℕ) → wanted x → InSome o x
  pub only : (x : ℕ) → InSome o x → wanted x

-- x is one of v's values and of w's
pub record AreIn (v w : StridedInterval) (x : ℕ) : Type 0 where
  pub first : In v x
  pub second : In w x

-- each value of v has the low bits
pub record AllHave (v : StridedInterval) (k : LowBits) : Type 0 where
  pub gives : (x : ℕ) → In v x → Has k x

-- each value of v is one of w
pub record LiesIn (v w : StridedInterval) : Type 0 where
  pub gives : (x : ℕ) → In v x → In w x
