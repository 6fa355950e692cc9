-- Cutting keeps exactly the values that it should.
use Rattle.std.proofs.Common.{◌≡◌, ℕ, ◌+◌, ◌-◌, ◌%◌, ◌^◌, ◌<◌, ◌≤◌, Bool, true, false, ◌==◌, nat_le, cond, Option, Some, None, refl, sym, ◌∙◌, ap, subst, arith}
use Rattle.std.proofs.lemmas.Bool.{and_parts, eqb-true}
use Rattle.std.proofs.lemmas.Bool.Decides.{nat_tests}
use Rattle.std.specs.Prelude.{min, max, IfSome}
use Rattle.gb_domain.specs.declared.low_bits.LowBits.{LowBits}
use Rattle.gb_domain.specs.declared.interval.StridedInterval.{StridedInterval}
use Rattle.gb_domain.specs.LowBits.{modulus, low_bits, all_of, are_congruent, is_common, common}
use Rattle.gb_domain.specs.Interval.{bounds, any_byte, low_bits_of, least, greatest, strided, with_low_bits, agree, more, cut, join, lies_in}
use Rattle.gb_domain.specs.Meaning.{Has, In, InSome, IsWithin, IsStrided, IsOfBytes, Leaves, AreIn, AllHave, LiesIn}
use Rattle.gb_domain.proofs.ModulusLaws.{each_modulus, Has-low_bits, low_bits-Has, Has-fewer, modulus-eight}
use Rattle.gb_domain.proofs.LowBitsLaws.{Has-all_of, Has-covered, at_most, common_first, common_second}
use Rattle.gb_domain.proofs.PassingLaws.{passing_found}

-- ---- the least and the greatest value

abbrev IsLeastOf : ℕ → Type 0
IsLeastOf m = (lo b : ℕ) → ((lo + (b % m + m - lo % m) % m) % m ≡ b % m) × (lo ≤ lo + (b % m + m - lo % m) % m)

least-of : (n : ℕ) → IsLeastOf (modulus n)
least-of =
    each_modulus IsLeastOf (λ lo b. (omega arith, omega arith)) (λ lo b. (omega arith, omega arith))
    (λ lo b. (omega arith, omega arith)) (λ lo b. (omega arith, omega arith)) (λ lo b. (omega arith, omega arith))
    (λ lo b. (omega arith, omega arith)) (λ lo b. (omega arith, omega arith)) (λ lo b. (omega arith, omega arith))
    (λ lo b. (omega arith, omega arith))

abbrev NoneIsLess : ℕ → Type 0
NoneIsLess m = (lo b x : ℕ) → lo ≤ x → x % m ≡ b % m → lo + (b % m + m - lo % m) % m ≤ x

none-less : (n : ℕ) → NoneIsLess (modulus n)
none-less =
    each_modulus NoneIsLess (λ lo b x l e. omega arith) (λ lo b x l e. omega arith) (λ lo b x l e. omega arith)
    (λ lo b x l e. omega arith) (λ lo b x l e. omega arith) (λ lo b x l e. omega arith)
    (λ lo b x l e. omega arith) (λ lo b x l e. omega arith) (λ lo b x l e. omega arith)

abbrev IsGreatestOf : ℕ → Type 0
IsGreatestOf m =
    (hi b x : ℕ) → x ≤ hi → x % m ≡ b % m
    → ((hi - (hi % m + m - b % m) % m) % m ≡ b % m) × (x ≤ hi - (hi % m + m - b % m) % m)

greatest-of : (n : ℕ) → IsGreatestOf (modulus n)
greatest-of =
    each_modulus IsGreatestOf (λ hi b x l e. (omega arith, omega arith)) (λ hi b x l e. (omega arith, omega arith))
    (λ hi b x l e. (omega arith, omega arith)) (λ hi b x l e. (omega arith, omega arith))
    (λ hi b x l e. (omega arith, omega arith)) (λ hi b x l e. (omega arith, omega arith))
    (λ hi b x l e. (omega arith, omega arith)) (λ hi b x l e. (omega arith, omega arith))
    (λ hi b x l e. (omega arith, omega arith))

pub least-has : (lo : ℕ) (k : LowBits) → Has k (least lo k)
unfolding least
least-has lo k = record { same = (least-of k.count lo k.bits).0 }

pub least-above : (lo : ℕ) (k : LowBits) → lo ≤ least lo k
unfolding least
least-above lo k = (least-of k.count lo k.bits).1

least-below : (lo : ℕ) (k : LowBits) (x : ℕ) → lo ≤ x → Has k x → least lo k ≤ x
unfolding least
least-below lo k x l h = none-less k.count lo k.bits x l h.same

greatest-has : (hi : ℕ) (k : LowBits) (x : ℕ) → x ≤ hi → Has k x → Has k (greatest hi k)
unfolding greatest
greatest-has hi k x l h = record { same = (greatest-of k.count hi k.bits x l h.same).0 }

greatest-above : (hi : ℕ) (k : LowBits) (x : ℕ) → x ≤ hi → Has k x → x ≤ greatest hi k
unfolding greatest
greatest-above hi k x l h = (greatest-of k.count hi k.bits x l h.same).1

greatest-below : (hi : ℕ) (k : LowBits) → greatest hi k ≤ hi
unfolding greatest
greatest-below hi k = omega arith

-- ---- intervals of what has low bits

pub Has-zero : (x y : ℕ) → Has (low_bits 0 y) x
unfolding modulus
Has-zero x y = Has-low_bits 0 x y (one x y)
  where
    one : (x y : ℕ) → x % 1 ≡ y % 1
    one x y = omega arith

Has-of_least : (k : LowBits) (x y : ℕ) → Has k x → Has k y → Has (low_bits (min k.count 8) y) x
Has-of_least k x y h g =
    let e : modulus (min k.count 8) ≡ modulus k.count = modulus-eight k.count in
    let same : x % modulus k.count ≡ y % modulus k.count = h.same ∙ sym g.same in
    Has-low_bits (min k.count 8) x y (subst (λ m. x % m ≡ y % m) (sym e) same)

Has-from_least : (k : LowBits) (x y : ℕ) → Has (low_bits (min k.count 8) y) x → Has k y → Has k x
Has-from_least k x y h g =
    let e : modulus (min k.count 8) ≡ modulus k.count = modulus-eight k.count in
    let same : x % modulus (min k.count 8) ≡ y % modulus (min k.count 8) = low_bits-Has (min k.count 8) x y h in
    record { same = subst (λ m. x % m ≡ y % m) e same ∙ g.same }

In-strided :
    (lo hi : ℕ) (k : LowBits) (x : ℕ) → lo ≤ x → x ≤ hi → Has k lo → Has k x → In (strided lo hi (min k.count 8)) x
In-strided lo hi k x low high g h = choose (lo == hi)
  where
    choose : (b : Bool) → In (record { lo = lo; hi = hi; count = cond b 0 (min k.count 8) }) x
    choose true = record { least = low; most = high; low = Has-zero x lo }
    choose false = record { least = low; most = high; low = Has-of_least k x lo h g }

strided-In : (lo hi : ℕ) (k : LowBits) (x : ℕ) → Has k lo → In (strided lo hi (min k.count 8)) x → Has k x
strided-In lo hi k x g m = choose (lo == hi) refl m
  where
    choose : (b : Bool) → (lo == hi) ≡ b → In (record { lo = lo; hi = hi; count = cond b 0 (min k.count 8) }) x → Has k x
    choose true e m =
        let equal : lo ≡ hi = eqb-true lo hi e in
        let same : lo ≡ x = omega arith in
        subst (λ z. Has k z) same g
    choose false e m = Has-from_least k x lo m.low g

not_above : (x y : ℕ) → x ≤ y → nat_le x y ≡ true
not_above x y h = grind (arith, nat_tests)

with_low_bits-keeps : (lo hi : ℕ) (k : LowBits) (x : ℕ) → IsWithin lo hi k x → InSome (with_low_bits lo hi k) x
unfolding with_low_bits
with_low_bits-keeps lo hi k x w =
    let low : least lo k ≤ x = least-below lo k x w.least w.low in
    let high : x ≤ greatest hi k = greatest-above hi k x w.most w.low in
    let some : nat_le (least lo k) hi ≡ true = not_above (least lo k) hi (omega arith) in
    subst (λ b. InSome (cond b (Some (strided (least lo k) (greatest hi k) (min k.count 8))) None) x) (sym some)
    (In-strided (least lo k) (greatest hi k) k x low high (least-has lo k) w.low)

with_low_bits-only : (lo hi : ℕ) (k : LowBits) (x : ℕ) → InSome (with_low_bits lo hi k) x → IsWithin lo hi k x
unfolding with_low_bits
with_low_bits-only lo hi k x = choose (nat_le (least lo k) hi)
  where
    choose :
        (b : Bool) → InSome (cond b (Some (strided (least lo k) (greatest hi k) (min k.count 8))) None) x → IsWithin lo hi k x
    choose true m =
        let low : lo ≤ least lo k = least-above lo k in
        let high : greatest hi k ≤ hi = greatest-below hi k in
        let from : least lo k ≤ x = m.least in
        let to : x ≤ greatest hi k = m.most in
        record {
          least = omega arith;
          most = omega arith;
          low = strided-In (least lo k) (greatest hi k) k x (least-has lo k) m;
        }
    choose false m = absurd m

pub with_low_bits_leaves :
    (lo hi : ℕ) (k : LowBits) (o : Option StridedInterval) → o ≡ with_low_bits lo hi k → Leaves (IsWithin lo hi k) o
with_low_bits_leaves lo hi k o e =
    subst (λ r. Leaves (IsWithin lo hi k) r) (sym e)
    (record { keeps = with_low_bits-keeps lo hi k; only = with_low_bits-only lo hi k })

-- ---- the result is a strided interval

-- two bytes with eight low bits in common are one
Has-eight_same : (k : LowBits) (x y : ℕ) → x < 256 → y < 256 → 8 ≤ k.count → Has k x → Has k y → x ≡ y
unfolding modulus
Has-eight_same k x y s t many h g =
    let e : min k.count 8 ≡ 8 = omega arith in
    let same : x % modulus k.count ≡ y % modulus k.count = h.same ∙ sym g.same in
    let wide : x % 2 ^ 8 ≡ y % 2 ^ 8 = subst (λ n. x % 2 ^ n ≡ y % 2 ^ n) e same in
    byte x y s t wide
  where
    byte : (x y : ℕ) → x < 256 → y < 256 → x % 256 ≡ y % 256 → x ≡ y
    byte x y s t e = omega arith

differ : (x y : ℕ) → (x == y) ≡ false → x ≡ y → ⊥
differ x y h e = grind (arith, nat_tests)

count-below : (lo hi : ℕ) (k : LowBits) → lo < 256 → hi < 256 → (lo == hi) ≡ false → Has k lo → Has k hi → min k.count 8 < 8
count-below lo hi k s t other g h = choose (nat_le 8 k.count) refl
  where
    few : (n : ℕ) → nat_le 8 n ≡ false → min n 8 < 8
    few n e = grind (arith, nat_tests)

    choose : (b : Bool) → nat_le 8 k.count ≡ b → min k.count 8 < 8
    choose true e = absurd (differ lo hi other (Has-eight_same k lo hi s t (at_most 8 k.count e) g h))
    choose false e = few k.count e

IsStrided-from : (lo hi : ℕ) (k : LowBits) → lo ≤ hi → hi < 256 → Has k lo → Has k hi → IsStrided (strided lo hi (min k.count 8))
IsStrided-from lo hi k order byte g h =
    record {
      least = In-strided lo hi k lo (omega arith) order g g;
      greatest = In-strided lo hi k hi order (omega arith) g h;
      count = counted (lo == hi) refl;
      one = single (lo == hi) refl;
    }
  where
    counted : (b : Bool) → (lo == hi) ≡ b → cond b 0 (min k.count 8) < 8
    counted true e = omega arith
    counted false e = count-below lo hi k (omega arith) byte e g h

    single : (b : Bool) → (lo == hi) ≡ b → lo ≡ hi → cond b 0 (min k.count 8) ≡ 0
    single true e same = refl
    single false e same = absurd (differ lo hi e same)

with_low_bits-strided : (lo hi : ℕ) (k : LowBits) → hi < 256 → IfSome (with_low_bits lo hi k) IsStrided
unfolding with_low_bits
with_low_bits-strided lo hi k byte = choose (nat_le (least lo k) hi) refl
  where
    choose :
        (b : Bool) → nat_le (least lo k) hi ≡ b
        → IfSome (cond b (Some (strided (least lo k) (greatest hi k) (min k.count 8))) None) IsStrided
    choose true e =
        let fits : least lo k ≤ hi = at_most (least lo k) hi e in
        let has : Has k (least lo k) = least-has lo k in
        let below : greatest hi k ≤ hi = greatest-below hi k in
        IsStrided-from (least lo k) (greatest hi k) k
        (greatest-above hi k (least lo k) fits has) (omega arith) has (greatest-has hi k (least lo k) fits has)
    choose false e = tt

pub with_low_bits_strided :
    (lo hi : ℕ) (k : LowBits) (o : Option StridedInterval) → o ≡ with_low_bits lo hi k → hi < 256 → IfSome o IsStrided
with_low_bits_strided lo hi k o e byte = subst (λ r. IfSome r IsStrided) (sym e) (with_low_bits-strided lo hi k byte)

-- ---- low bits of intervals

pub In-Has : (v : StridedInterval) (x : ℕ) → In v x → Has (low_bits_of v) x
unfolding low_bits_of
In-Has v x m = choose (v.lo == v.hi) refl
  where
    choose : (b : Bool) → (v.lo == v.hi) ≡ b → Has (cond b (all_of v.lo) (low_bits v.count v.lo)) x
    choose true e =
        let equal : v.lo ≡ v.hi = eqb-true v.lo v.hi e in
        let same : x ≡ v.lo = omega arith in
        subst (λ z. Has (all_of v.lo) z) (sym same) (Has-all_of v.lo)
    choose false e = m.low

pub In-from : (v : StridedInterval) (x : ℕ) → v.lo ≤ x → x ≤ v.hi → Has (low_bits_of v) x → In v x
unfolding low_bits_of
In-from v x low high h = record { least = low; most = high; low = choose (v.lo == v.hi) refl h }
  where
    choose : (b : Bool) → (v.lo == v.hi) ≡ b → Has (cond b (all_of v.lo) (low_bits v.count v.lo)) x → Has (low_bits v.count v.lo) x
    choose true e h =
        let equal : v.lo ≡ v.hi = eqb-true v.lo v.hi e in
        let same : x ≡ v.lo = omega arith in
        subst (λ z. Has (low_bits v.count v.lo) z) (sym same) (Has-low_bits v.count v.lo v.lo refl)
    choose false e h = h

-- ---- both

eqb-same : (x y : ℕ) → x ≡ y → (x == y) ≡ true
eqb-same x y e = grind (arith, nat_tests)

Has-agree : (j k : LowBits) (x : ℕ) → Has j x → Has k x → agree j k ≡ true
unfolding agree are_congruent
Has-agree j k x h g =
    let n = min j.count k.count in
    eqb-same (j.bits % modulus n) (k.bits % modulus n)
    (sym (Has-fewer n j x (omega arith) h) ∙ Has-fewer n k x (omega arith) g)

Has-more : (j k : LowBits) (x : ℕ) → Has j x → Has k x → Has (more j k) x
Has-more j k x h g = choose (nat_le k.count j.count)
  where
    choose : (b : Bool) → Has (cond b j k) x
    choose true = h
    choose false = g

record HasBoth (j k : LowBits) (x : ℕ) : Type 0 where
  first : Has j x
  second : Has k x

agree-same : (j k : LowBits) → agree j k ≡ true → j.bits % modulus (min j.count k.count) ≡ k.bits % modulus (min j.count k.count)
unfolding agree are_congruent
agree-same j k h = eqb-true _ _ h

HasBoth-more : (j k : LowBits) (x : ℕ) → agree j k ≡ true → Has (more j k) x → HasBoth j k x
HasBoth-more j k x a h = choose (nat_le k.count j.count) refl h
  where
    more_than : (n m : ℕ) → nat_le n m ≡ false → m ≤ n
    more_than n m e = grind (arith, nat_tests)

    choose : (b : Bool) → nat_le k.count j.count ≡ b → Has (cond b j k) x → HasBoth j k x
    choose true e h =
        let le : k.count ≤ j.count = at_most k.count j.count e in
        let n : min j.count k.count ≡ k.count = omega arith in
        let same : j.bits % modulus k.count ≡ k.bits % modulus k.count = subst (λ c. j.bits % modulus c ≡ k.bits % modulus c) n (agree-same j k a) in
        record { first = h; second = record { same = Has-fewer k.count j x le h ∙ same } }
    choose false e h =
        let le : j.count ≤ k.count = more_than k.count j.count e in
        let n : min j.count k.count ≡ j.count = omega arith in
        let same : j.bits % modulus j.count ≡ k.bits % modulus j.count = subst (λ c. j.bits % modulus c ≡ k.bits % modulus c) n (agree-same j k a) in
        record { first = record { same = Has-fewer j.count k x le h ∙ sym same }; second = h }

cut-keeps : (v w : StridedInterval) (x : ℕ) → AreIn v w x → InSome (cut v w) x
unfolding cut
cut-keeps v w x m =
    let j = low_bits_of v in
    let k = low_bits_of w in
    let h : Has (low_bits_of v) x = In-Has v x m.first in
    let g : Has (low_bits_of w) x = In-Has w x m.second in
    let first = m.first in
    let second = m.second in
    subst (λ b. InSome (cond b (with_low_bits (max v.lo w.lo) (min v.hi w.hi) (more j k)) None) x) (sym (Has-agree j k x h g))
    (with_low_bits-keeps (max v.lo w.lo) (min v.hi w.hi) (more j k) x
    (record { least = greater v.lo w.lo x first.least second.least; most = smaller v.hi w.hi x first.most second.most; low = Has-more j k x h g }))
  where
    greater : (a b x : ℕ) → a ≤ x → b ≤ x → max a b ≤ x
    greater a b x p q = omega arith

    smaller : (a b x : ℕ) → x ≤ a → x ≤ b → x ≤ min a b
    smaller a b x p q = omega arith

cut-only : (v w : StridedInterval) (x : ℕ) → InSome (cut v w) x → AreIn v w x
unfolding cut
cut-only v w x = choose (agree (low_bits_of v) (low_bits_of w)) refl
  where
    both : (a b p q x : ℕ) → max a b ≤ x → x ≤ min p q → (a ≤ x) × (b ≤ x) × (x ≤ p) × (x ≤ q)
    both a b p q x l m = (omega arith, omega arith, omega arith, omega arith)

    choose :
        (b : Bool) → agree (low_bits_of v) (low_bits_of w) ≡ b
        → InSome (cond b (with_low_bits (max v.lo w.lo) (min v.hi w.hi) (more (low_bits_of v) (low_bits_of w))) None) x → AreIn v w x
    choose true e m =
        let within = with_low_bits-only (max v.lo w.lo) (min v.hi w.hi) (more (low_bits_of v) (low_bits_of w)) x m in
        let has = HasBoth-more (low_bits_of v) (low_bits_of w) x e within.low in
        let b = both v.lo w.lo v.hi w.hi x within.least within.most in
        record { first = In-from v x b.0 b.2 has.first; second = In-from w x b.1 b.3 has.second }
    choose false e m = absurd m

pub cut_leaves : (v w : StridedInterval) (o : Option StridedInterval) → o ≡ cut v w → Leaves (AreIn v w) o
cut_leaves v w o e = subst (λ r. Leaves (AreIn v w) r) (sym e) (record { keeps = cut-keeps v w; only = cut-only v w })

cut-strided : (v w : StridedInterval) → v.hi < 256 → IfSome (cut v w) IsStrided
unfolding cut
cut-strided v w byte = choose (agree (low_bits_of v) (low_bits_of w))
  where
    choose :
        (b : Bool)
        → IfSome (cond b (with_low_bits (max v.lo w.lo) (min v.hi w.hi) (more (low_bits_of v) (low_bits_of w))) None) IsStrided
    choose true = with_low_bits-strided (max v.lo w.lo) (min v.hi w.hi) (more (low_bits_of v) (low_bits_of w)) (omega arith)
    choose false = tt

pub cut_strided : (v w : StridedInterval) (o : Option StridedInterval) → o ≡ cut v w → v.hi < 256 → IfSome o IsStrided
cut_strided v w o e byte = subst (λ r. IfSome r IsStrided) (sym e) (cut-strided v w byte)

-- ---- the least that holds two

Has-least : (v : StridedInterval) → Has (low_bits_of v) v.lo
unfolding low_bits_of
Has-least v = choose (v.lo == v.hi)
  where
    choose : (b : Bool) → Has (cond b (all_of v.lo) (low_bits v.count v.lo)) v.lo
    choose true = Has-all_of v.lo
    choose false = Has-low_bits v.count v.lo v.lo refl

common-few : (j k : LowBits) → min (common j k).count 8 ≡ (common j k).count
unfolding common low_bits
common-few j k = omega arith

either_least : (P : ℕ → Type 0) (a b : ℕ) → P a → P b → P (min a b)
either_least P a b h g = choose (nat_le a b) refl
  where
    choose : (t : Bool) → nat_le a b ≡ t → P (min a b)
    choose true e =
        let same : a ≡ min a b = grind (arith, nat_tests) in
        subst P same h
    choose false e =
        let same : b ≡ min a b = grind (arith, nat_tests) in
        subst P same g

either_greatest : (P : ℕ → Type 0) (a b : ℕ) → P a → P b → P (max a b)
either_greatest P a b h g = choose (nat_le a b) refl
  where
    choose : (t : Bool) → nat_le a b ≡ t → P (max a b)
    choose true e =
        let same : b ≡ max a b = grind (arith, nat_tests) in
        subst P same g
    choose false e =
        let same : a ≡ max a b = grind (arith, nat_tests) in
        subst P same h

Has-join : (v w : StridedInterval) → Has (common (low_bits_of v) (low_bits_of w)) (min v.lo w.lo)
Has-join v w =
    either_least (Has (common (low_bits_of v) (low_bits_of w))) v.lo w.lo
    ((common_first (low_bits_of v) (low_bits_of w) _ refl).gives v.lo (Has-least v))
    ((common_second (low_bits_of v) (low_bits_of w) _ refl).gives w.lo (Has-least w))

In-joined :
    (v w : StridedInterval) (x : ℕ) → min v.lo w.lo ≤ x → x ≤ max v.hi w.hi → Has (common (low_bits_of v) (low_bits_of w)) x → In (join v w) x
unfolding join
In-joined v w x low high h =
    let k = common (low_bits_of v) (low_bits_of w) in
    subst (λ n. In (strided (min v.lo w.lo) (max v.hi w.hi) n) x) (common-few (low_bits_of v) (low_bits_of w))
    (In-strided (min v.lo w.lo) (max v.hi w.hi) k x low high (Has-join v w) h)

pub In-join_first : (v w : StridedInterval) (x : ℕ) → In v x → In (join v w) x
In-join_first v w x m =
    let low = m.least in
    let high = m.most in
    In-joined v w x (omega arith) (omega arith) ((common_first (low_bits_of v) (low_bits_of w) _ refl).gives x (In-Has v x m))

pub In-join_second : (v w : StridedInterval) (x : ℕ) → In w x → In (join v w) x
In-join_second v w x m =
    let low = m.least in
    let high = m.most in
    In-joined v w x (omega arith) (omega arith) ((common_second (low_bits_of v) (low_bits_of w) _ refl).gives x (In-Has w x m))

pub join_first : (v w o : StridedInterval) → o ≡ join v w → LiesIn v o
join_first v w o e = record { gives = λ x m. subst (λ r. In r x) (sym e) (In-join_first v w x m) }

pub join_second : (v w o : StridedInterval) → o ≡ join v w → LiesIn w o
join_second v w o e = record { gives = λ x m. subst (λ r. In r x) (sym e) (In-join_second v w x m) }

pub IsOfBytes-join : (v w : StridedInterval) → IsOfBytes v → IsOfBytes w → IsOfBytes (join v w)
unfolding join
IsOfBytes-join v w h g =
    let k = common (low_bits_of v) (low_bits_of w) in
    let order : v.lo ≤ v.hi = h.strided.least.most in
    let first : v.hi < 256 = h.most in
    let second : w.hi < 256 = g.most in
    record {
      strided = subst (λ n. IsStrided (strided (min v.lo w.lo) (max v.hi w.hi) n)) (common-few (low_bits_of v) (low_bits_of w))
          (IsStrided-from (min v.lo w.lo) (max v.hi w.hi) k (omega arith) (omega arith) (Has-join v w)
          (either_greatest (Has k) v.hi w.hi
          ((common_first (low_bits_of v) (low_bits_of w) _ refl).gives v.hi (In-Has v v.hi h.strided.greatest))
          ((common_second (low_bits_of v) (low_bits_of w) _ refl).gives w.hi (In-Has w w.hi g.strided.greatest))));
      most = omega arith;
    }

pub IsOfBytes-bounds : (lo hi : ℕ) → lo ≤ hi → hi < 256 → IsOfBytes (bounds lo hi)
IsOfBytes-bounds lo hi order byte =
    record {
      strided = record {
        least = record { least = omega arith; most = order; low = Has-zero lo lo };
        greatest = record { least = order; most = omega arith; low = Has-zero hi lo };
        count = omega arith;
        one = λ e. refl;
      };
      most = byte;
    }

pub IsOfBytes-any : IsOfBytes any_byte
IsOfBytes-any = IsOfBytes-bounds 0 255 (omega arith) (omega arith)

-- nothing is added to any byte
no_bit : (k : LowBits) → is_common (low_bits_of any_byte) k 0 ≡ false
unfolding is_common low_bits_of low_bits
no_bit k = refl

none_common : (k : LowBits) → (common (low_bits_of any_byte) k).count ≡ 0
unfolding common low_bits
none_common k = ap (λ n. min n 8) (passing_found (is_common (low_bits_of any_byte) k) 8 0 (no_bit k))

pub join_any : (w : StridedInterval) → w.hi < 256 → join any_byte w ≡ any_byte
unfolding join
join_any w byte =
    let least : min 0 w.lo ≡ 0 = omega arith in
    let most : max 255 w.hi ≡ 255 = omega arith in
    ap (λ lo. strided lo (max 255 w.hi) (common (low_bits_of any_byte) (low_bits_of w)).count) least
    ∙ (ap (λ hi. strided 0 hi (common (low_bits_of any_byte) (low_bits_of w)).count) most ∙ ap (strided 0 255) (none_common (low_bits_of w)))

-- ---- lying in another one

pub In-lies_in : (v w : StridedInterval) (x : ℕ) → lies_in v w ≡ true → In v x → In w x
unfolding lies_in
In-lies_in v w x h m =
    let p = and_parts _ _ h in
    let q = and_parts _ _ p.0 in
    let low : w.lo ≤ v.lo = at_most w.lo v.lo q.0 in
    let high : v.hi ≤ w.hi = at_most v.hi w.hi q.1 in
    record { least = omega arith; most = omega arith; low = Has-covered (low_bits_of v) (low_bits w.count w.lo) x p.1 (In-Has v x m) }

pub lies_in_sound : (v w : StridedInterval) (o : Bool) → o ≡ lies_in v w → o ≡ true → LiesIn v w
lies_in_sound v w o e h = record { gives = λ x. In-lies_in v w x (sym e ∙ h) }

pub low_bits_of_sound : (v : StridedInterval) (o : LowBits) → o ≡ low_bits_of v → AllHave v o
low_bits_of_sound v o e = subst (λ r. AllHave v r) (sym e) (record { gives = In-Has v })
