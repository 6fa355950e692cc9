-- What is left of a value's low bits where it is cut to bounds.
use Rattle.std.proofs.Common.{◌≡◌, ℕ, ◌+◌, ◌-◌, ◌%◌, ◌≤◌, Bool, true, false, ◌&&◌, ◌||◌, ◌==◌, cond, nat_le, nat_lt, Option, Some, None, inl, inr, refl, sym, subst, arith}
use Rattle.std.specs.Prelude.{IfSome, min, option_map}
use Rattle.std.proofs.lemmas.Bool.{and_parts, or_cases, eqb-true, leb-true}
use Rattle.std.proofs.lemmas.Bool.Decides.{nat_tests}
use Rattle.gb_domain.specs.declared.low_bits.LowBits.{LowBits}
use Rattle.gb_domain.specs.declared.interval.StridedInterval.{StridedInterval}
use Rattle.gb_domain.specs.declared.types.Val.{Val}
use Rattle.gb_domain.specs.LowBits.{modulus, low_bits}
use Rattle.gb_domain.specs.Interval.{least, greatest, strided, with_low_bits}
use Rattle.gb_domain.specs.Meaning as interval
use Rattle.gb_domain.specs.Meaning.{Has, IsWithin, InSome}
use Rattle.gb_domain.specs.Values.{have_same, is_strided}
use Rattle.gb_domain.proofs.IntervalLaws.{least-has, least-above, Has-zero, with_low_bits_leaves}
use Rattle.gb_domain.proofs.ModulusLaws.{each_modulus}
use Rattle.gb_domain.proofs.ValueLaws.{Has-same, same-Has}
use Rattle.gb_vals.specs.Meaning.{In}
use Rattle.gb_pairs.specs.Reduced.{left_of, values_within}

-- ---- the greatest number with low bits has them

abbrev HasGreatest : ℕ → Type 0
HasGreatest m = (hi b x : ℕ) → x ≤ hi → x % m ≡ b % m → (hi - (hi % m + m - b % m) % m) % m ≡ b % m

has-greatest : (n : ℕ) → HasGreatest (modulus n)
has-greatest =
    each_modulus HasGreatest (λ hi b x l e. omega arith) (λ hi b x l e. omega arith) (λ hi b x l e. omega arith)
    (λ hi b x l e. omega arith) (λ hi b x l e. omega arith) (λ hi b x l e. omega arith)
    (λ hi b x l e. omega arith) (λ hi b x l e. omega arith) (λ hi b x l e. omega arith)

greatest_has : (hi : ℕ) (k : LowBits) (x : ℕ) → x ≤ hi → Has k x → Has k (greatest hi k)
unfolding greatest
greatest_has hi k x l h = record { same = has-greatest k.count hi k.bits x l h.same }

greatest_below : (hi : ℕ) (k : LowBits) → greatest hi k ≤ hi
unfolding greatest
greatest_below hi k = omega arith

-- ---- what is left

-- an interval within bounds whose ends have its low bits, which are no more than k's; one value has no count
pub record IsLeft (lo hi : ℕ) (k : LowBits) (i : StridedInterval) : Type 0 where
  pub least : lo ≤ i.lo
  pub most : i.hi ≤ hi
  pub order : i.lo ≤ i.hi
  pub low : Has (low_bits i.count i.lo) i.hi
  pub few : i.count ≤ k.count
  pub one : (i.lo == i.hi) ≡ true → i.count ≡ 0

few-strided : (b : Bool) (n : ℕ) → cond b 0 (min n 8) ≤ n
few-strided true n = omega arith
few-strided false n = omega arith

not_so : {X : Type 0} → false ≡ true → X
not_so e = cc

one-strided : (b : Bool) (n : ℕ) → b ≡ true → cond b 0 n ≡ 0
one-strided true n e = refl
one-strided false n e = not_so e

pub IfSome-left : (lo hi : ℕ) (k : LowBits) → IfSome (with_low_bits lo hi k) (IsLeft lo hi k)
unfolding with_low_bits
IfSome-left lo hi k = choose (nat_le (least lo k) hi) refl
  where
    some : Option StridedInterval
    some = Some (strided (least lo k) (greatest hi k) (min k.count 8))

    choose : (b : Bool) → nat_le (least lo k) hi ≡ b → IfSome (cond b some None) (IsLeft lo hi k)
    choose true e =
        let fits : least lo k ≤ hi = leb-true (least lo k) hi e in
        let has : Has k (greatest hi k) = greatest_has hi k (least lo k) fits (least-has lo k) in
        let keeps : (x : ℕ) → IsWithin lo hi k x → interval.In (strided (least lo k) (greatest hi k) (min k.count 8)) x =
        λ x w. subst (λ b. InSome (cond b some None) x) e ((with_low_bits_leaves lo hi k _ refl).keeps x w) in
        let first = keeps (least lo k) (record { least = least-above lo k; most = fits; low = least-has lo k }) in
        let above : lo ≤ least lo k = least-above lo k in
        let order : least lo k ≤ greatest hi k = first.most in
        let last = keeps (greatest hi k) (record { least = omega arith; most = greatest_below hi k; low = has }) in
        record {
          least = above;
          most = greatest_below hi k;
          order = order;
          low = last.low;
          few = few-strided (least lo k == greatest hi k) k.count;
          one = one-strided (least lo k == greatest hi k) (min k.count 8);
        }
    choose false e = tt

-- ---- values

with_ends : (a b c x : Bool) → (a ≡ false → b ≡ true) → (a ≡ false → c ≡ true) → x ≡ true → (a || b && (c && x)) ≡ true
with_ends true b c x f g h = refl
with_ends false b c x f g h = rw (f refl, g refl, h) refl

-- at most seven low bits are known of a strided value
few_low_bits : (v : Val) → is_strided v ≡ true → v.low_bits ≤ 7
few_low_bits v h = elim (or_cases (v.low_bits == 0) _ h) [
  | inl none ↦ let e : v.low_bits ≡ 0 = eqb-true v.low_bits 0 none in omega arith
  | inr some ↦ leb-true v.low_bits 7 (and_parts (nat_le v.low_bits 7) _ some).0
]

pub strided_left : (lo hi : ℕ) (v : Val) (i : StridedInterval) → IsLeft lo hi (low_bits v.low_bits v.lo) i → is_strided v ≡ true → is_strided (left_of v i) ≡ true
unfolding low_bits
strided_left lo hi v i h s =
    let most : v.low_bits ≤ 7 = few_low_bits v s in
    let few = h.few in
    let order = h.order in
    let counted : (i.count == 0) ≡ false → i.count ≡ 0 → ⊥ = λ e z. grind (arith, nat_tests) in
    with_ends (i.count == 0) (nat_le i.count 7) (nat_lt i.lo i.hi) (have_same i.count i.hi i.lo)
    (λ e. grind (arith, nat_tests))
    (λ e. apart (i.lo == i.hi) refl e)
    (same-Has i.count i.hi i.lo h.low)
  where
    apart : (b : Bool) → (i.lo == i.hi) ≡ b → (i.count == 0) ≡ false → nat_lt i.lo i.hi ≡ true
    apart true e c = let z : i.count ≡ 0 = h.one e in absurd (grind (arith, nat_tests))
    apart false e c = let order = h.order in grind (arith, nat_tests)

abbrev pub InIf : Option Val → ℕ → Type 0
InIf None n = ⊥
InIf (Some v) n = In v n

-- what is left keeps each number that lies in both
In-left : (lo hi : ℕ) (v : Val) (n : ℕ) → In v n → lo ≤ n → n ≤ hi → InIf (option_map (left_of v) (with_low_bits lo hi (low_bits v.low_bits v.lo))) n
In-left lo hi v n h l m =
    keep (with_low_bits lo hi (low_bits v.low_bits v.lo))
    ((with_low_bits_leaves lo hi (low_bits v.low_bits v.lo) _ refl).keeps n (record { least = l; most = m; low = Has-same v.low_bits n v.lo h.low }))
  where
    keep : (o : Option StridedInterval) → InSome o n → InIf (option_map (left_of v) o) n
    keep (Some i) k = record { least = k.least; most = k.most; low = same-Has i.count n i.lo k.low }
    keep None k = absurd k

pub In-within : (lo hi : ℕ) (v : Val) (n : ℕ) → In v n → lo ≤ n → n ≤ hi → InIf (values_within lo hi v) n
unfolding values_within
In-within lo hi v n h l m = choose (lo == v.lo && hi == v.hi)
  where
    choose : (b : Bool) → InIf (cond b (Some v) (option_map (left_of v) (with_low_bits lo hi (low_bits v.low_bits v.lo)))) n
    choose true = h
    choose false = In-left lo hi v n h l m

-- where no low bits are known the bounds are all that changes
plain_within :
    (lo hi : ℕ) (v : Val) → lo ≤ hi → v.low_bits ≡ 0
    → option_map (left_of v) (with_low_bits lo hi (low_bits v.low_bits v.lo)) ≡ Some (record v { lo = lo; hi = hi })
unfolding low_bits
plain_within lo hi v le none =
    same (with_low_bits lo hi k) (IfSome-left lo hi k) (keeps lo (record { least = omega arith; most = le; low = has lo }))
    (keeps hi (record { least = le; most = omega arith; low = has hi }))
  where
    k : LowBits
    k = low_bits v.low_bits v.lo

    has : (x : ℕ) → Has k x
    has x = subst (λ n. Has (low_bits n v.lo) x) (sym none) (Has-zero x v.lo)

    keeps : (x : ℕ) → IsWithin lo hi k x → InSome (with_low_bits lo hi k) x
    keeps = (with_low_bits_leaves lo hi k _ refl).keeps

    same : (o : Option StridedInterval) → IfSome o (IsLeft lo hi k) → InSome o lo → InSome o hi → option_map (left_of v) o ≡ Some (record v { lo = lo; hi = hi })
    same None h first last = absurd first
    same (Some i) h first last =
        let a : lo ≤ i.lo = h.least in
        let b : i.lo ≤ lo = first.least in
        let c : i.hi ≤ hi = h.most in
        let d : hi ≤ i.hi = last.most in
        let few : i.count ≤ min v.low_bits 8 = h.few in
        let least : i.lo ≡ lo = omega arith in
        let greatest : i.hi ≡ hi = omega arith in
        let count : i.count ≡ v.low_bits = omega arith in
        subst (λ n. Some (record v { lo = n; hi = i.hi; low_bits = i.count }) ≡ Some (record v { lo = lo; hi = hi })) (sym least)
        (subst (λ n. Some (record v { lo = lo; hi = n; low_bits = i.count }) ≡ Some (record v { lo = lo; hi = hi })) (sym greatest)
        (subst (λ n. Some (record v { lo = lo; hi = hi; low_bits = n }) ≡ Some (record v { lo = lo; hi = hi })) (sym count) refl))

pub plain_values : (lo hi : ℕ) (v : Val) → lo ≤ hi → v.low_bits ≡ 0 → Some (record v { lo = lo; hi = hi }) ≡ values_within lo hi v
unfolding values_within
plain_values lo hi v le none = choose (lo == v.lo && hi == v.hi) refl
  where
    choose :
        (b : Bool) → (lo == v.lo && hi == v.hi) ≡ b
        → Some (record v { lo = lo; hi = hi }) ≡ cond b (Some v) (option_map (left_of v) (with_low_bits lo hi (low_bits v.low_bits v.lo)))
    choose true e =
        let p = and_parts (lo == v.lo) (hi == v.hi) e in
        subst (λ n. Some (record v { lo = n; hi = hi }) ≡ Some v) (sym (eqb-true lo v.lo p.0))
        (subst (λ n. Some (record v { hi = n }) ≡ Some v) (sym (eqb-true hi v.hi p.1)) refl)
    choose false e = sym (plain_within lo hi v le none)
