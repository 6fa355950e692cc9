-- What is left of a register's bounds is what fits.
use Rattle.std.proofs.Common.{◌≡◌, ℕ, zero, suc, ◌+◌, ◌-◌, ◌%◌, ◌^◌, ◌≤◌, ◌<◌, Bool, true, false, ◌&&◌, ◌||◌, not, ◌==◌, nat_lt, nat_le, cond, List, [], ◌∷◌, Option, Some, None, is_some, refl, sym, ◌∙◌, ap, subst, arith}
use Rattle.std.proofs.Math.Nat.{mod-eq_of_lt}
use Rattle.std.specs.List.{AllByRecursion, list_all}
use Rattle.std.specs.Prelude.{min, max}
use Rattle.std.proofs.lemmas.Bool.{and_parts, eqb-true}
use Rattle.std.proofs.lemmas.Bool.Decides.{nat_tests}
use Rattle.gb_ops.specs.declared.machine.Banks.{Banks}
use Rattle.gb_ops.specs.declared.machine.Kind.{Kind}
use Rattle.gb_ops.specs.declared.machine.Kind.TheVariants as kind
use Rattle.gb_ops.specs.Cartridge.{at_least_one}
use Rattle.gb_domain.specs.declared.pairs.Bounds.{Bounds}
use Rattle.gb_domain.specs.declared.interval.StridedInterval.{StridedInterval}
use Rattle.gb_domain.specs.declared.low_bits.LowBits.{LowBits}
use Rattle.gb_domain.specs.LowBits.{modulus, low_bits}
use Rattle.gb_domain.specs.Interval.{least, greatest, strided, with_low_bits, low_bits_of, agree, more, cut}
use Rattle.gb_domain.specs.Meaning.{In, InSome, IsWithin, AreIn}
use Rattle.gb_domain.proofs.ModulusLaws.{Has-low_bits, low_bits-Has}
use Rattle.gb_domain.proofs.IntervalLaws.{least-has, least-above, with_low_bits_leaves, cut_leaves}
use Rattle.gb_domain.proofs.LowBitsLaws.{below, at_most}
use Rattle.gb_copies.specs.Sides.{least_from, greatest_from}
use Rattle.gb_copies.proofs.LeastLaws.{IsAtMost, least_from-at_most, IsReached, greatest_from-reached, IsFoundIn, greatest_from-found}
use Rattle.gb_copies.specs.declared.windows.BankWindow.{BankWindow}
use Rattle.gb_copies.specs.declared.windows.BankWindow.TheVariants.{First, Second}
use Rattle.gb_copies.specs.Windows.{has_windows, register_of, register_bits, counts_from_one, counted, left_by}
use Rattle.gb_copies.specs.Fitting.{Leaves, Fits, IsFitting, HoldsShadow, WithinSome, IsSoundFitting, is_some_in, some_has, is_outside, is_inside, leaves_by, leaves, fits, with_ends, fitting}

-- ---- low bits

-- one of the values has these low bits
record HasSome (v : StridedInterval) (n rest : ℕ) : Type 0 where
  byte : ℕ
  is_in : In v byte
  same : byte % modulus n ≡ rest % modulus n

-- an interval with low bits has a value
some-within : (lo hi : ℕ) (k : LowBits) → is_some (with_low_bits lo hi k) ≡ true → IsWithin lo hi k (least lo k)
unfolding with_low_bits
some-within lo hi k h = choose (nat_le (least lo k) hi) refl h
  where
    choose :
        (t : Bool) → nat_le (least lo k) hi ≡ t
        → is_some (cond t (Some (strided (least lo k) (greatest hi k) (min k.count 8))) None) ≡ true → IsWithin lo hi k (least lo k)
    choose true e i = record { least = least-above lo k; most = at_most (least lo k) hi e; low = least-has lo k }
    choose false e i = cc

some-keeps : (lo hi : ℕ) (k : LowBits) (x : ℕ) → IsWithin lo hi k x → InSome (with_low_bits lo hi k) x
some-keeps lo hi k = (with_low_bits_leaves lo hi k (with_low_bits lo hi k) refl).keeps

-- a cut that leaves something has a value of both
some-cut : (v w : StridedInterval) → is_some (cut v w) ≡ true → (x : ℕ) × InSome (cut v w) x
unfolding cut
some-cut v w i = choose (agree (low_bits_of v) (low_bits_of w)) i
  where
    choose :
        (t : Bool)
        → is_some (cond t (with_low_bits (max v.lo w.lo) (min v.hi w.hi) (more (low_bits_of v) (low_bits_of w))) None) ≡ true
        → (x : ℕ) × InSome (cond t (with_low_bits (max v.lo w.lo) (min v.hi w.hi) (more (low_bits_of v) (low_bits_of w))) None) x
    choose true j = (
      least (max v.lo w.lo) (more (low_bits_of v) (low_bits_of w)),
      some-keeps (max v.lo w.lo) (min v.hi w.hi) (more (low_bits_of v) (low_bits_of w)) (least (max v.lo w.lo) (more (low_bits_of v) (low_bits_of w)))
          (some-within (max v.lo w.lo) (min v.hi w.hi) (more (low_bits_of v) (low_bits_of w)) j),
    )
    choose false j = cc

AreIn-some : (v w : StridedInterval) → is_some (cut v w) ≡ true → (x : ℕ) × AreIn v w x
AreIn-some v w h = let x = some-cut v w h in (x.0, (cut_leaves v w (cut v w) refl).only x.0 x.1)

some-AreIn : (v w : StridedInterval) (x : ℕ) → AreIn v w x → is_some (cut v w) ≡ true
some-AreIn v w x h = is-some (cut v w) ((cut_leaves v w (cut v w) refl).keeps x h)
  where
    is-some : (o : Option StridedInterval) → InSome o x → is_some o ≡ true
    is-some None i = absurd i
    is-some (Some u) i = refl

some_has-yes : (v : StridedInterval) (n rest : ℕ) → some_has v n rest ≡ true → HasSome v n rest
unfolding some_has
some_has-yes v n rest h = choose (with_low_bits v.lo v.hi (low_bits n rest)) refl h
  where
    choose :
        (o : Option StridedInterval) → with_low_bits v.lo v.hi (low_bits n rest) ≡ o → is_some_in v o ≡ true → HasSome v n rest
    choose None e i = cc
    choose (Some w) e i =
        let x = AreIn-some v w i in
        let within = (with_low_bits_leaves v.lo v.hi (low_bits n rest) (Some w) (sym e)).only x.0 x.1.second in
        record { byte = x.0; is_in = x.1.first; same = low_bits-Has n x.0 rest within.low }

some_has-no : (v : StridedInterval) (n rest : ℕ) → HasSome v n rest → some_has v n rest ≡ true
unfolding some_has
some_has-no v n rest h =
    choose (with_low_bits v.lo v.hi (low_bits n rest)) refl
    (some-keeps v.lo v.hi (low_bits n rest) h.byte
    (record { least = h.is_in.least; most = h.is_in.most; low = Has-low_bits n h.byte rest h.same }))
  where
    choose :
        (o : Option StridedInterval) → with_low_bits v.lo v.hi (low_bits n rest) ≡ o → InSome o h.byte → is_some_in v o ≡ true
    choose None e i = absurd i
    choose (Some w) e i = some-AreIn v w h.byte (record { first = h.is_in; second = i })

-- a number beyond all values isn't one of them
pub some_has_outside : (v : StridedInterval) (n rest : ℕ) → is_outside v n rest ≡ true → some_has v n rest ≡ false
unfolding is_outside
some_has_outside v n rest h = choose (some_has v n rest) refl
  where
    no_byte :
        (lo hi x byte m : ℕ) → lo ≤ byte → byte ≤ hi → byte % m ≡ x % m
        → (nat_lt hi m && nat_lt x m && (nat_lt x lo || nat_lt hi x)) ≡ true → ⊥
    no_byte lo hi x byte m low high same h =
        let p = and_parts (nat_lt hi m && nat_lt x m) (nat_lt x lo || nat_lt hi x) h in
        let q = and_parts (nat_lt hi m) (nat_lt x m) p.0 in
        let below_m : byte < m = grind (arith, nat_tests) in
        let x_below : x < m = grind (arith, nat_tests) in
        let is : byte ≡ x = sym (mod-eq_of_lt below_m) ∙ same ∙ mod-eq_of_lt x_below in
        grind (arith, nat_tests)

    choose : (b : Bool) → some_has v n rest ≡ b → b ≡ false
    choose true e =
        let s = some_has-yes v n rest e in
        absurd (no_byte v.lo v.hi rest s.byte (modulus n) s.is_in.least s.is_in.most s.same h)
    choose false e = refl

none_low : (n x y : ℕ) → n ≡ 0 → x % modulus n ≡ y % modulus n
unfolding modulus
none_low n x y e = subst (λ k. x % 2 ^ min k 8 ≡ y % 2 ^ min k 8) (sym e) (one x y)
  where
    one : (x y : ℕ) → x % 1 ≡ y % 1
    one x y = omega arith

pub some_has_inside : (v : StridedInterval) (n rest : ℕ) → is_inside v rest ≡ true → some_has v n rest ≡ true
unfolding is_inside
some_has_inside v n rest h =
    let p = and_parts (v.count == 0 && nat_le v.lo rest) (nat_le rest v.hi) h in
    let q = and_parts (v.count == 0) (nat_le v.lo rest) p.0 in
    some_has-no v n rest
    (record {
      byte = rest;
      is_in = record {
        least = at_most v.lo rest q.1;
        most = at_most rest v.hi p.1;
        low = Has-low_bits v.count rest v.lo (none_low v.count rest v.lo (eqb-true v.count 0 q.0));
      };
      same = refl;
    })

-- ---- what a register's bits are

few_bits : (k : Kind) (which : BankWindow) → register_bits k which ≤ 8
few_bits kind.Rom First = omega arith
few_bits kind.Rom Second = omega arith
few_bits kind.Mbc1 First = omega arith
few_bits kind.Mbc1 Second = omega arith
few_bits kind.Mbc3 First = omega arith
few_bits kind.Mbc3 Second = omega arith
few_bits kind.Mbc5 First = omega arith
few_bits kind.Mbc5 Second = omega arith

modulus-power : (n : ℕ) → n ≤ 8 → modulus n ≡ 2 ^ n
unfolding modulus
modulus-power n few = ap (λ m. 2 ^ m) (smaller n few)
  where
    smaller : (n : ℕ) → n ≤ 8 → min n 8 ≡ n
    smaller n few = omega arith

-- a value whose low bits are a number below 2 ^ n
record HasNumber (v : StridedInterval) (n x : ℕ) : Type 0 where
  byte : ℕ
  is_in : In v byte
  same : byte % 2 ^ n ≡ x

number-yes : (v : StridedInterval) (n x : ℕ) → n ≤ 8 → x < 2 ^ n → some_has v n x ≡ true → HasNumber v n x
number-yes v n x few small h =
    let s = some_has-yes v n x h in
    let e = modulus-power n few in
    record { byte = s.byte; is_in = s.is_in; same = ap (λ m. s.byte % m) (sym e) ∙ s.same ∙ ap (λ m. x % m) e ∙ mod-eq_of_lt small }

number-no : (v : StridedInterval) (n x : ℕ) → n ≤ 8 → x < 2 ^ n → HasNumber v n x → some_has v n x ≡ true
number-no v n x few small h =
    let e = modulus-power n few in
    some_has-no v n x
    (record { byte = h.byte; is_in = h.is_in; same = ap (λ m. h.byte % m) e ∙ h.same ∙ sym (mod-eq_of_lt small) ∙ ap (λ m. x % m) (sym e) })

-- a value that leaves the number in a register of n bits
record LeavesBy (c : Bool) (v : StridedInterval) (n x : ℕ) : Type 0 where
  byte : ℕ
  is_in : In v byte
  left : counted c (byte % 2 ^ n) ≡ x

one-of-zero : (n x : ℕ) → n ≡ 0 → x ≡ 1 → at_least_one n ≡ x
one-of-zero n x e f = rw e (sym f)

itself : (n x : ℕ) → n ≡ x → (x == 0) ≡ false → at_least_one n ≡ x
itself n x e f = rw e (ap (λ b. cond b 1 x) f)

leaves_by-yes : (c : Bool) (v : StridedInterval) (n x : ℕ) → n ≤ 8 → x < 2 ^ n → leaves_by c v n x ≡ true → LeavesBy c v n x
leaves_by-yes false v n x few small h =
    let y = number-yes v n x few small h in record { byte = y.byte; is_in = y.is_in; left = y.same }
leaves_by-yes true v n x few small h =
    let parts = and_parts (not (x == 0)) (some_has v n x || x == 1 && some_has v n 0) h in
    choose (some_has v n x) refl (not-true (x == 0) parts.0) parts.1
  where
    below-one : (x m : ℕ) → x < m → 0 < m
    below-one x m h = omega arith

    not-true : (b : Bool) → not b ≡ true → b ≡ false
    not-true true i = cc
    not-true false i = refl

    choose : (b : Bool) → some_has v n x ≡ b → (x == 0) ≡ false → (b || x == 1 && some_has v n 0) ≡ true → LeavesBy true v n x
    choose true e z i =
        let y = number-yes v n x few small e in record { byte = y.byte; is_in = y.is_in; left = itself (y.byte % 2 ^ n) x y.same z }
    choose false e z i =
        let both = and_parts (x == 1) (some_has v n 0) i in
        let one : x ≡ 1 = eqb-true x 1 both.0 in
        let y = number-yes v n 0 few (below-one x (2 ^ n) small) both.1 in
        record { byte = y.byte; is_in = y.is_in; left = one-of-zero (y.byte % 2 ^ n) x y.same one }

leaves_by-no : (c : Bool) (v : StridedInterval) (n x : ℕ) → n ≤ 8 → x < 2 ^ n → LeavesBy c v n x → leaves_by c v n x ≡ true
leaves_by-no false v n x few small h = number-no v n x few small (record { byte = h.byte; is_in = h.is_in; same = h.left })
leaves_by-no true v n x few small h = choose (h.byte % 2 ^ n == 0) refl h.left
  where
    by-first : (z a w : Bool) → z ≡ false → a ≡ true → (not z && (a || w)) ≡ true
    by-first z a w e f = rw e (rw f refl)

    by-second : (z a o b : Bool) → z ≡ false → o ≡ true → b ≡ true → (not z && (a || o && b)) ≡ true
    by-second z true o b e f g = rw e refl
    by-second z false o b e f g = rw e (rw f (rw g refl))

    one : (x : ℕ) → x ≡ 1 → (x == 0) ≡ false
    one x e = rw e refl

    is-one : (x : ℕ) → x ≡ 1 → (x == 1) ≡ true
    is-one x e = rw e refl

    positive : (x m : ℕ) → x < m → 0 < m
    positive x m lt = omega arith

    choose : (t : Bool) → (h.byte % 2 ^ n == 0) ≡ t → cond t 1 (h.byte % 2 ^ n) ≡ x → (not (x == 0) && (some_has v n x || x == 1 && some_has v n 0)) ≡ true
    choose true e l =
        by-second (x == 0) (some_has v n x) (x == 1) (some_has v n 0) (one x (sym l)) (is-one x (sym l))
        (number-no v n 0 few (positive x (2 ^ n) small) (record { byte = h.byte; is_in = h.is_in; same = eqb-true (h.byte % 2 ^ n) 0 e }))
    choose false e l =
        by-first (x == 0) (some_has v n x) (x == 1 && some_has v n 0) (ap (λ y. y == 0) (sym l) ∙ e)
        (number-no v n x few small (record { byte = h.byte; is_in = h.is_in; same = l }))

leaves-yes : (k : Kind) (which : BankWindow) (x : ℕ) (v : StridedInterval) → leaves k which x v ≡ true → Leaves k which v x
unfolding leaves left_by
leaves-yes k which x v h =
    let parts = and_parts (nat_lt x (2 ^ register_bits k which)) _ h in
    let y =
    leaves_by-yes (counts_from_one k which) v (register_bits k which) x (few_bits k which)
    (below x (2 ^ register_bits k which) parts.0) parts.1 in
    record { byte = y.byte; is_in = y.is_in; left = y.left }

from-one : (n m : ℕ) → 1 < m → n < m → at_least_one n < m
from-one n m some small = grind (arith, nat_tests)

left-below : (k : Kind) (which : BankWindow) (byte : ℕ) → left_by k which byte < 2 ^ register_bits k which
unfolding left_by
left-below kind.Rom First byte = omega arith
left-below kind.Rom Second byte = omega arith
left-below kind.Mbc1 First byte = from-one (byte % 32) 32 (omega arith) (omega arith)
left-below kind.Mbc1 Second byte = omega arith
left-below kind.Mbc3 First byte = from-one (byte % 128) 128 (omega arith) (omega arith)
left-below kind.Mbc3 Second byte = omega arith
left-below kind.Mbc5 First byte = omega arith
left-below kind.Mbc5 Second byte = omega arith

leaves-no : (k : Kind) (which : BankWindow) (x : ℕ) (v : StridedInterval) → Leaves k which v x → leaves k which x v ≡ true
unfolding leaves left_by
leaves-no k which x v h =
    let small : x < 2 ^ register_bits k which = subst (λ y. y < 2 ^ register_bits k which) h.left (left-below k which h.byte) in
    both (nat_lt x (2 ^ register_bits k which)) _ (is-below x (2 ^ register_bits k which) small)
    (leaves_by-no (counts_from_one k which) v (register_bits k which) x (few_bits k which) small
    (record { byte = h.byte; is_in = h.is_in; left = h.left }))
  where
    both : (a b : Bool) → a ≡ true → b ≡ true → (a && b) ≡ true
    both a b e f = rw e f

    is-below : (x m : ℕ) → x < m → nat_lt x m ≡ true
    is-below x m lt = grind (arith, nat_tests)

-- ---- all places

fits-yes : (k : Kind) (which : BankWindow) (x : ℕ) (vs : List StridedInterval) → list_all (leaves k which x) vs ≡ true → Fits k which vs x
fits-yes k which x [] h = tt
fits-yes k which x (v ∷ vs) h =
    let parts = and_parts (leaves k which x v) (list_all (leaves k which x) vs) h in (leaves-yes k which x v parts.0, fits-yes k which x vs parts.1)

fits-no : (k : Kind) (which : BankWindow) (x : ℕ) (vs : List StridedInterval) → Fits k which vs x → list_all (leaves k which x) vs ≡ true
fits-no k which x [] h = refl
fits-no k which x (v ∷ vs) h = rw (leaves-no k which x v h.0) (fits-no k which x vs h.1)

-- ---- the ends

record IsFoundFrom (passes : ℕ → Bool) (n v k : ℕ) : Type 0 where
  least : v ≤ k
  most : k + 1 ≤ v + n
  passes_it : passes k ≡ true

abbrev IsFoundFromIn : (ℕ → Bool) → ℕ → ℕ → Option ℕ → Type 0
IsFoundFromIn passes n v None = Unit {0}
IsFoundFromIn passes n v (Some k) = IsFoundFrom passes n v k

IsFoundFromIn-next : (passes : ℕ → Bool) (n v : ℕ) (o : Option ℕ) → IsFoundFromIn passes n (v + 1) o → IsFoundFromIn passes (suc n) v o
IsFoundFromIn-next passes n v None h = tt
IsFoundFromIn-next passes n v (Some k) h =
    let low : v + 1 ≤ k = h.least in
    let high : k + 1 ≤ v + 1 + n = h.most in
    record { least = omega arith; most = omega arith; passes_it = h.passes_it }

least_from-found : (passes : ℕ → Bool) (n v : ℕ) → IsFoundFromIn passes n v (least_from passes n v)
least_from-found passes zero v = tt
least_from-found passes (suc n) v =
    choose (passes v) refl (IsFoundFromIn-next passes n v (least_from passes n (v + 1)) (least_from-found passes n (v + 1)))
  where
    choose :
        (b : Bool) → passes v ≡ b → IsFoundFromIn passes (suc n) v (least_from passes n (v + 1))
        → IsFoundFromIn passes (suc n) v (cond b (Some v) (least_from passes n (v + 1)))
    choose true e next = record { least = omega arith; most = omega arith; passes_it = e }
    choose false e next = next

-- what is known of the two ends
record AreEnds (k : Kind) (which : BankWindow) (vs : List StridedInterval) (first last : ℕ) (lo hi : Option ℕ) : Type 0 where
  at_most : (x : ℕ) → first ≤ x → x ≤ last → fits k which vs x ≡ true → IsAtMost lo x
  reached : (x : ℕ) → first ≤ x → x ≤ last → fits k which vs x ≡ true → IsReached hi x
  found_least : IsFoundFromIn (fits k which vs) (last + 1 - first) first lo
  found_greatest : IsFoundIn (fits k which vs) (last + 1 - first) last hi

within-count : (first last x : ℕ) → first ≤ x → x ≤ last → x < first + (last + 1 - first)
within-count first last x low high = omega arith

within-back : (first last x : ℕ) → first ≤ x → x ≤ last → last < x + (last + 1 - first)
within-back first last x low high = omega arith

are-ends :
    (k : Kind) (which : BankWindow) (vs : List StridedInterval) (first last : ℕ)
    → AreEnds k which vs first last (least_from (fits k which vs) (last + 1 - first) first) (greatest_from (fits k which vs) (last + 1 - first) last)
are-ends k which vs first last =
    record {
      at_most = λ x low high h. least_from-at_most (fits k which vs) (last + 1 - first) first x low (within-count first last x low high) h;
      reached = λ x low high h. greatest_from-reached (fits k which vs) (last + 1 - first) last x high (within-back first last x low high) h;
      found_least = least_from-found (fits k which vs) (last + 1 - first) first;
      found_greatest = greatest_from-found (fits k which vs) (last + 1 - first) last;
    }

IsFitting-ends :
    (k : Kind) (which : BankWindow) (vs : List StridedInterval) (first last : ℕ) (lo hi : Option ℕ)
    → AreEnds k which vs first last lo hi → IsFitting k which vs first last (with_ends lo hi)
unfolding fits
IsFitting-ends k which vs first last None hi h = λ x low high f. h.at_most x low high (fits-no k which x vs f)
IsFitting-ends k which vs first last (Some a) None h = λ x low high f. h.reached x low high (fits-no k which x vs f)
IsFitting-ends k which vs first last (Some a) (Some b) h =
    record {
      least_within = h.found_least.least;
      greatest_within = h.found_greatest.most;
      least = fits-yes k which a vs h.found_least.passes_it;
      greatest = fits-yes k which b vs h.found_greatest.passes_it;
      all = λ x low high f. (h.at_most x low high (fits-no k which x vs f), h.reached x low high (fits-no k which x vs f));
    }

IsFitting-fitting : (k : Kind) (which : BankWindow) (vs : List StridedInterval) (first last : ℕ) → IsFitting k which vs first last (fitting k which vs first last)
unfolding fitting
IsFitting-fitting k which vs first last = IsFitting-ends k which vs first last _ _ (are-ends k which vs first last)

pub fitting_fitted :
    (k : Kind) (which : BankWindow) (vs : List StridedInterval) (first last : ℕ) (o : Option Bounds)
    → o ≡ fitting k which vs first last → IsFitting k which vs first last o
fitting_fitted k which vs first last o e = subst (λ w. IsFitting k which vs first last w) (sym e) (IsFitting-fitting k which vs first last)

-- ---- soundness

fits-held :
    (k : Kind) (which : BankWindow) (r : Banks) (vs : List StridedInterval)
    → has_windows k ≡ true → AllByRecursion (HoldsShadow k which r) vs → Fits k which vs (register_of k which r)
fits-held k which r [] has h = tt
fits-held k which r (v ∷ vs) has h =
    (record { byte = h.0.byte; is_in = h.0.is_in; left = h.0.shadow has }, fits-held k which r vs has h.1)

within-fitting :
    (k : Kind) (which : BankWindow) (vs : List StridedInterval) (first last x : ℕ) (o : Option Bounds)
    → IsFitting k which vs first last o → first ≤ x → x ≤ last → Fits k which vs x → WithinSome o x
within-fitting k which vs first last x None h low high f = h x low high f
within-fitting k which vs first last x (Some b) h low high f = h.all x low high f

pub fitting_sound :
    (k : Kind) (which : BankWindow) (vs : List StridedInterval) (first last : ℕ) (o : Option Bounds)
    → o ≡ fitting k which vs first last → IsSoundFitting k which vs first last o
fitting_sound k which vs first last o e =
    record {
      gives = λ r has h low high.
          within-fitting k which vs first last (register_of k which r) o (fitting_fitted k which vs first last o e) low high (fits-held k which r vs has h);
    }
