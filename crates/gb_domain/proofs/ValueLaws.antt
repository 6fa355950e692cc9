-- What values say of low bits, and covering.
use Rattle.std.proofs.Common.{◌≡◌, ℕ, zero, suc, ◌%◌, ◌<◌, ◌≤◌, Bool, true, false, ◌&&◌, ◌||◌, ◌==◌, nat_le, nat_lt, refl, subst, arith}
use Rattle.std.proofs.lemmas.Bool.{and_parts, eqb-true}
use Rattle.std.proofs.lemmas.Bool.Decides.{nat_tests}
use Rattle.gb_domain.specs.declared.types.Val.{Val}
use Rattle.gb_domain.specs.declared.low_bits.LowBits.{LowBits}
use Rattle.gb_domain.specs.LowBits.{modulus, low_bits, are_congruent}
use Rattle.gb_domain.specs.Interval.{low_bits_of}
use Rattle.gb_domain.specs.Meaning.{Has, IsStrided}
use Rattle.gb_domain.specs.Rules.{IsVal}
use Rattle.gb_domain.specs.Values.{interval_of, have_same, has_low_bits, say_same, covers_low_bits, SaysOfLowBits}
use Rattle.gb_domain.proofs.ModulusLaws.{Has-low_bits, low_bits-Has}
use Rattle.gb_domain.proofs.LowBitsLaws.{below, at_most, Has-covered}
use Rattle.gb_domain.proofs.IntervalLaws.{Has-zero, In-Has}

-- ---- the same low bits

same-eqb : (x y : ℕ) → x ≡ y → (x == y) ≡ true
same-eqb x y e = grind (arith, nat_tests)

pub Has-same : (n x y : ℕ) → have_same n x y ≡ true → Has (low_bits n y) x
unfolding are_congruent
Has-same zero x y h = Has-zero x y
Has-same (suc n) x y h = Has-low_bits (suc n) x y (eqb-true (x % modulus (suc n)) (y % modulus (suc n)) h)

pub same-Has : (n x y : ℕ) → Has (low_bits n y) x → have_same n x y ≡ true
unfolding are_congruent
same-Has zero x y h = refl
same-Has (suc n) x y h = same-eqb (x % modulus (suc n)) (y % modulus (suc n)) (low_bits-Has (suc n) x y h)

pub same_itself : (n x : ℕ) → have_same n x x ≡ true
same_itself n x = same-Has n x x (Has-low_bits n x x refl)

pub SaysOfLowBits-own : (v : Val) → SaysOfLowBits v (low_bits v.low_bits v.lo)
SaysOfLowBits-own v = record { gives = λ x. Has-same v.low_bits x v.lo; takes = λ x. same-Has v.low_bits x v.lo }

-- ---- values

record ByCount (v : Val) : Type 0 where
  few : v.low_bits < 8
  one : v.lo ≡ v.hi → v.low_bits ≡ 0
  top : has_low_bits v v.hi ≡ true

not_zero : (n : ℕ) → (suc n == 0) ≡ false
not_zero n = grind (arith, nat_tests)

second : (a b : Bool) → a ≡ false → (a || b) ≡ true → b ≡ true
second a b e h = subst (λ c. (c || b) ≡ true) e h

by_count : (n lo hi : ℕ) → (n == 0 || nat_le n 7 && (nat_lt lo hi && have_same n hi lo)) ≡ true → (n < 8) × ((lo ≡ hi → n ≡ 0) × (have_same n hi lo ≡ true))
by_count zero lo hi h = (omega arith, ((λ e. refl), refl))
by_count (suc n) lo hi h =
    let some : (nat_le (suc n) 7 && (nat_lt lo hi && have_same (suc n) hi lo)) ≡ true =
    second (suc n == 0) (nat_le (suc n) 7 && (nat_lt lo hi && have_same (suc n) hi lo)) (not_zero n) h in
    let p = and_parts (nat_le (suc n) 7) (nat_lt lo hi && have_same (suc n) hi lo) some in
    let q = and_parts (nat_lt lo hi) (have_same (suc n) hi lo) p.1 in
    let few : suc n ≤ 7 = at_most (suc n) 7 p.0 in
    let differ : lo < hi = below lo hi q.0 in
    (omega arith, ((λ e. absurd (omega (arith, e, differ))), q.1))

pub IsStrided-val : (v : Val) → IsVal v → IsStrided (interval_of v)
IsStrided-val v h =
    let k = by_count v.low_bits v.lo v.hi h.strided in
    record {
      least = record { least = omega arith; most = h.order; low = Has-same v.low_bits v.lo v.lo (same_itself v.low_bits v.lo) };
      greatest = record { least = h.order; most = omega arith; low = Has-same v.low_bits v.hi v.lo k.1.1 };
      count = k.0;
      one = k.1.0;
    }

-- ---- covering

same_covered : (k : LowBits) (n x y : ℕ) → say_same k n y ≡ true → Has k x → have_same n x y ≡ true
same_covered k zero x y h g = refl
same_covered k (suc n) x y h g = same-Has (suc n) x y (Has-covered k (low_bits (suc n) y) x h g)

-- a value of s has what t says of low bits
pub has_covered : (s t : Val) (x : ℕ) → covers_low_bits s t ≡ true → s.lo ≤ x → x ≤ s.hi → has_low_bits s x ≡ true → has_low_bits t x ≡ true
has_covered s t x h least most low =
    same_covered (low_bits_of (interval_of s)) t.low_bits x t.lo h
    (In-Has (interval_of s) x (record { least = least; most = most; low = Has-same s.low_bits x s.lo low }))
