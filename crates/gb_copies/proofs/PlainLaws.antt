-- Where no low bits are known, intervals are cut by their bounds alone.
use Rattle.std.proofs.Common.{◌≡◌, ℕ, ◌+◌, ◌%◌, ◌^◌, ◌<◌, ◌≤◌, Bool, true, false, nat_lt, Option, Some, None, refl, sym, ◌∙◌, ap, subst, arith}
use Rattle.std.proofs.lemmas.Bool.Decides.{nat_tests}
use Rattle.std.specs.Prelude.{min, max}
use Rattle.gb_domain.specs.declared.interval.StridedInterval.{StridedInterval}
use Rattle.gb_domain.specs.LowBits.{modulus, low_bits}
use Rattle.gb_domain.specs.Interval.{bounds, cut}
use Rattle.gb_domain.specs.Meaning.{Has, In, IsStrided, AreIn}
use Rattle.gb_domain.proofs.ModulusLaws.{each_count, low_bits-Has}
use Rattle.gb_domain.proofs.IntervalLaws.{Has-zero, cut_leaves, cut_strided}

-- ---- the interval that has all bytes between two

-- two neighbours have no low bits in common
neighbours : (n x : ℕ) → n < 8 → (x + 1) % modulus n ≡ x % modulus n → n ≡ 0
unfolding modulus
neighbours n x few e =
    let same : min n 8 ≡ n = omega arith in
    let le : n ≤ 8 = omega arith in
    each_count (λ k. (x + 1) % 2 ^ k ≡ x % 2 ^ k → k ≡ 0) (λ h. refl) (λ h. absurd (omega (arith, h))) (λ h. absurd (omega (arith, h)))
    (λ h. absurd (omega (arith, h))) (λ h. absurd (omega (arith, h))) (λ h. absurd (omega (arith, h)))
    (λ h. absurd (omega (arith, h))) (λ h. absurd (omega (arith, h))) (λ h. absurd (omega (arith, h)))
    n le (subst (λ k. (x + 1) % 2 ^ k ≡ x % 2 ^ k) same e)

abbrev interval : ℕ → ℕ → ℕ → StridedInterval
interval lo hi n = record { lo = lo; hi = hi; count = n }

-- an interval's values are these
record HasAll (u : StridedInterval) (lo hi : ℕ) : Type 0 where
  keeps : (x : ℕ) → lo ≤ x → x ≤ hi → In u x
  least : lo ≤ u.lo
  most : u.hi ≤ hi

is_bounds : (u : StridedInterval) (lo hi : ℕ) → IsStrided u → lo ≤ hi → HasAll u lo hi → u ≡ bounds lo hi
is_bounds u lo hi is order h =
    let first : u.lo ≤ lo = (h.keeps lo (omega arith) order).least in
    let last : hi ≤ u.hi = (h.keeps hi order (omega arith)).most in
    let above : lo ≤ u.lo = h.least in
    let below : u.hi ≤ hi = h.most in
    let low : u.lo ≡ lo = omega arith in
    let high : u.hi ≡ hi = omega arith in
    ap (λ z. interval z u.hi u.count) low ∙ ap (λ z. interval lo z u.count) high
    ∙ ap (λ z. interval lo hi z) (choose (nat_lt lo hi) refl low high)
  where
    choose : (t : Bool) → nat_lt lo hi ≡ t → u.lo ≡ lo → u.hi ≡ hi → u.count ≡ 0
    choose true e low high =
        let next : lo + 1 ≤ hi = grind (arith, nat_tests) in
        let has = (h.keeps (lo + 1) (omega arith) next).low in
        let same : (lo + 1) % modulus u.count ≡ lo % modulus u.count =
        low_bits-Has u.count (lo + 1) u.lo has ∙ ap (λ z. z % modulus u.count) low in
        neighbours u.count lo is.count same
    choose false e low high =
        let equal : u.lo ≡ u.hi = grind (arith, nat_tests) in
        is.one equal

-- ---- cuts

In-plain : (v : StridedInterval) (x : ℕ) → v.count ≡ 0 → v.lo ≤ x → x ≤ v.hi → In v x
In-plain v x e low high = record { least = low; most = high; low = subst (λ n. Has (low_bits n v.lo) x) (sym e) (Has-zero x v.lo) }

AreIn-plain :
    (v w : StridedInterval) (x : ℕ) → v.count ≡ 0 → w.count ≡ 0 → max v.lo w.lo ≤ x → x ≤ min v.hi w.hi → AreIn v w x
AreIn-plain v w x d e low high = record { first = In-plain v x d (omega arith) (omega arith); second = In-plain w x e (omega arith) (omega arith) }

least-of_both : (v w : StridedInterval) (x : ℕ) → AreIn v w x → max v.lo w.lo ≤ x
least-of_both v w x h =
    let a : v.lo ≤ x = h.first.least in
    let b : w.lo ≤ x = h.second.least in
    omega arith

most-of_both : (v w : StridedInterval) (x : ℕ) → AreIn v w x → x ≤ min v.hi w.hi
most-of_both v w x h =
    let a : x ≤ v.hi = h.first.most in
    let b : x ≤ w.hi = h.second.most in
    omega arith

pub cut_plain :
    (v w : StridedInterval) → v.hi < 256 → v.count ≡ 0 → w.count ≡ 0 → max v.lo w.lo ≤ min v.hi w.hi
    → cut v w ≡ Some (bounds (max v.lo w.lo) (min v.hi w.hi))
cut_plain v w byte d e order = choose (cut v w) refl
  where
    choose : (o : Option StridedInterval) → o ≡ cut v w → o ≡ Some (bounds (max v.lo w.lo) (min v.hi w.hi))
    choose None is = absurd ((cut_leaves v w None is).keeps (max v.lo w.lo) (AreIn-plain v w (max v.lo w.lo) d e (omega arith) order))
    choose (Some u) is =
        let left = cut_leaves v w (Some u) is in
        let strided = cut_strided v w (Some u) is byte in
        ap (λ z. Some z)
        (is_bounds u (max v.lo w.lo) (min v.hi w.hi) strided order
        (record {
          keeps = λ x low high. left.keeps x (AreIn-plain v w x d e low high);
          least = least-of_both v w u.lo (left.only u.lo strided.least);
          most = most-of_both v w u.hi (left.only u.hi strided.greatest);
        }))

pub cut_apart : (v w : StridedInterval) → v.hi < 256 → min v.hi w.hi < max v.lo w.lo → cut v w ≡ None
cut_apart v w byte apart = choose (cut v w) refl
  where
    choose : (o : Option StridedInterval) → o ≡ cut v w → o ≡ None
    choose None is = refl
    choose (Some u) is =
        let strided = cut_strided v w (Some u) is byte in
        let both = (cut_leaves v w (Some u) is).only u.lo strided.least in
        let low : max v.lo w.lo ≤ u.lo = least-of_both v w u.lo both in
        let high : u.lo ≤ min v.hi w.hi = most-of_both v w u.lo both in
        absurd (omega arith)
