-- Reducing only cuts: values and bounds become smaller, origins and links stay.
use Rattle.std.proofs.Common.{◌≡◌, ℕ, ◌≤◌, Bool, true, false, ◌&&◌, ◌||◌, ◌==◌, cond, nat_lt, Option, Some, None, refl, sym, ◌∙◌, subst, arith}
use Rattle.std.specs.Prelude.{IfSome, option_map, option_and_then}
use Rattle.std.proofs.lemmas.Bool.{and_parts, eqb-true}
use Rattle.std.proofs.lemmas.Bool.Decides.{nat_tests}
use Rattle.gb_ops.specs.declared.op.Register.{Register}
use Rattle.gb_ops.specs.Registers.{get}
use Rattle.gb_domain.specs.declared.types.Val.{Val}
use Rattle.gb_domain.specs.declared.pairs.WordPair.{WordPair}
use Rattle.gb_domain.specs.declared.pairs.WordPair.TheVariants as pair
use Rattle.gb_domain.specs.declared.pairs.Bounds.{Bounds}
use Rattle.gb_domain.specs.declared.pairs.Other.{Other}
use Rattle.gb_domain.specs.declared.pairs.Other.TheVariants as other
use Rattle.gb_domain.specs.declared.pairs.PairBounds.{PairBounds}
use Rattle.gb_domain.specs.declared.pairs.Link.{Link}
use Rattle.gb_domain.specs.Pairs.{bounds_in, facts_of}
use Rattle.gb_domain.specs.declared.interval.StridedInterval.{StridedInterval}
use Rattle.gb_domain.specs.LowBits.{low_bits}
use Rattle.gb_domain.specs.Interval.{with_low_bits}
use Rattle.gb_domain.specs.Values.{is_strided}
use Rattle.gb_vals.specs.Logic.{smaller, larger}
use Rattle.gb_pairs.specs.declared.values.Values.{Values}
use Rattle.gb_pairs.specs.Bounds.{cut, is_empty, high_of, low_of, box, bounds_of}
use Rattle.gb_pairs.specs.Reduced.{unbased, pairs_at, pairs_width, cut_by_other, others_at, left_of, values_within, cut_val, with_register, with_bounds, with_register_if, with_bounds_if, cut_other, cut_other_if, high_bounds, low_bounds, with_bytes_if, settled, reduced_by_link, reduced_within, reduced_pair, reduced_once, reduced, restricted}
use Rattle.gb_pairs.specs.Sound.{IsCut}
use Rattle.gb_pairs.proofs.RegisterLaws.{each_set, each_facts}
use Rattle.gb_pairs.proofs.StrideLaws.{IsLeft, IfSome-left, strided_left}

-- ---- on bounds and values

-- bounds within others
pub record IsPart (b c : Bounds) : Type 0 where
  pub first : c.first ≤ b.first
  pub last : b.last ≤ c.last

IsPart-cut_left : (b c : Bounds) → IsPart (cut b c) b
IsPart-cut_left b c = record { first = grind (arith, nat_tests); last = grind (arith, nat_tests) }

IsPart-cut_right : (b c : Bounds) → IsPart (cut b c) c
IsPart-cut_right b c = record { first = grind (arith, nat_tests); last = grind (arith, nat_tests) }

IsPart-trans : (b c d : Bounds) → IsPart b c → IsPart c d → IsPart b d
IsPart-trans b c d h k =
    let f1 = h.first in
    let f2 = k.first in
    let l1 = h.last in
    let l2 = k.last in
    record { first = omega arith; last = omega arith }

IsPart-cut_by_other : (l : Link) (o b : Bounds) → IsPart (cut_by_other l o b) b
unfolding cut_by_other
IsPart-cut_by_other l o b = choose (nat_lt 65535 (pairs_width l o) || is_empty (pairs_at l o))
  where
    choose : (c : Bool) → IsPart (cond c b (cut b (pairs_at l o))) b
    choose true = record { first = omega arith; last = omega arith }
    choose false = IsPart-cut_left b _

pub IsPart-bounds_of : (p : WordPair) (v : Values) → IsPart (bounds_of p v) (facts_of p v.pairs).bounds
unfolding bounds_of
IsPart-bounds_of p v = IsPart-cut_right (box (get (high_of p) v.registers) (get (low_of p) v.registers)) _

-- a value within another, with its origin
record IsPartVal (y v : Val) : Type 0 where
  least : v.lo ≤ y.lo
  most : y.hi ≤ v.hi
  order : y.lo ≤ y.hi
  strided : is_strided v ≡ true → is_strided y ≡ true
  origin : y.origin ≡ v.origin

both_stay : (v : Val) (lo hi : ℕ) → (lo == v.lo && hi == v.hi) ≡ true → (lo ≡ v.lo) × (hi ≡ v.hi)
both_stay v lo hi h = let p = and_parts (lo == v.lo) (hi == v.hi) h in (eqb-true lo v.lo p.0, eqb-true hi v.hi p.1)

IfSome-within : (lo hi : ℕ) (v : Val) → v.lo ≤ lo → hi ≤ v.hi → lo ≤ hi → IfSome (values_within lo hi v) (λ y. IsPartVal y v)
unfolding values_within
IfSome-within lo hi v least most order = choose (lo == v.lo && hi == v.hi) refl
  where
    part :
        (o : Option StridedInterval) → IfSome o (IsLeft lo hi (low_bits v.low_bits v.lo)) → IfSome (option_map (left_of v) o) (λ y. IsPartVal y v)
    part None h = tt
    part (Some i) h =
        let a = h.least in
        let b = h.most in
        record { least = omega arith; most = omega arith; order = h.order; strided = λ s. strided_left lo hi v i h s; origin = refl }

    choose :
        (b : Bool) → (lo == v.lo && hi == v.hi) ≡ b
        → IfSome (cond b (Some v) (option_map (left_of v) (with_low_bits lo hi (low_bits v.low_bits v.lo)))) (λ y. IsPartVal y v)
    choose true e =
        let same = both_stay v lo hi e in
        let first = same.0 in
        let last = same.1 in
        record { least = omega arith; most = omega arith; order = omega arith; strided = λ s. s; origin = refl }
    choose false e = part (with_low_bits lo hi (low_bits v.low_bits v.lo)) (IfSome-left lo hi (low_bits v.low_bits v.lo))

IfSome-cut_val : (v : Val) (d : Bounds) → IfSome (cut_val v d) (λ y. IsPartVal y v)
unfolding cut_val
IfSome-cut_val v d = choose (nat_lt (smaller v.hi d.last) (larger v.lo d.first)) refl
  where
    choose :
        (b : Bool) → nat_lt (smaller v.hi d.last) (larger v.lo d.first) ≡ b
        → IfSome (cond b None (values_within (larger v.lo d.first) (smaller v.hi d.last) v)) (λ y. IsPartVal y v)
    choose true e = tt
    choose false e =
        IfSome-within (larger v.lo d.first) (smaller v.hi d.last) v (grind (arith, nat_tests)) (grind (arith, nat_tests)) (grind (arith, nat_tests))

-- ---- on values of all registers

pub IsCut-itself : (v : Values) → IsCut v v
IsCut-itself v =
    record {
      least = λ r. omega arith;
      most = λ r. omega arith;
      order = λ r e. e;
      strided = λ r e. e;
      origin = λ r. refl;
      first = λ p. omega arith;
      last = λ p. omega arith;
      link = λ p. refl;
    }

IsCut-trans : (u v w : Values) → IsCut u v → IsCut v w → IsCut u w
IsCut-trans u v w h k =
    record {
      least = λ r. let a = h.least r in let b = k.least r in omega arith;
      most = λ r. let a = h.most r in let b = k.most r in omega arith;
      order = λ r e. k.order r (h.order r e);
      strided = λ r e. k.strided r (h.strided r e);
      origin = λ r. k.origin r ∙ h.origin r;
      first = λ p. let a = h.first p in let b = k.first p in omega arith;
      last = λ p. let a = h.last p in let b = k.last p in omega arith;
      link = λ p. k.link p ∙ h.link p;
    }

IsCut-with_register :
    (u v : Values) (r : Register) (y : Val) → IsCut u v → IsPartVal y (get r v.registers) → IsCut u (with_register r y v)
IsCut-with_register u v r y h k =
    let least : (get r u.registers).lo ≤ y.lo = let a = h.least r in let b = k.least in omega arith in
    let most : y.hi ≤ (get r u.registers).hi = let a = h.most r in let b = k.most in omega arith in
    record {
      least = each_set (λ q z. (get q u.registers).lo ≤ z.lo) r y v.registers least h.least;
      most = each_set (λ q z. z.hi ≤ (get q u.registers).hi) r y v.registers most h.most;
      order = each_set (λ q z. (get q u.registers).lo ≤ (get q u.registers).hi → z.lo ≤ z.hi) r y v.registers (λ e. k.order) h.order;
      strided =
          each_set (λ q z. is_strided (get q u.registers) ≡ true → is_strided z ≡ true) r y v.registers (λ e. k.strided (h.strided r e)) h.strided;
      origin = each_set (λ q z. z.origin ≡ (get q u.registers).origin) r y v.registers (k.origin ∙ h.origin r) h.origin;
      first = h.first;
      last = h.last;
      link = h.link;
    }

IsCut-with_bounds :
    (u v : Values) (p : WordPair) (b : Bounds) → IsCut u v → IsPart b (facts_of p u.pairs).bounds → IsCut u (with_bounds p b v)
IsCut-with_bounds u v p b h k =
    record {
      least = h.least;
      most = h.most;
      order = h.order;
      strided = h.strided;
      origin = h.origin;
      first = each_facts (λ q f. (facts_of q u.pairs).bounds.first ≤ f.bounds.first) p _ v.pairs k.first h.first;
      last = each_facts (λ q f. f.bounds.last ≤ (facts_of q u.pairs).bounds.last) p _ v.pairs k.last h.last;
      link = each_facts (λ q f. f.link ≡ (facts_of q u.pairs).link) p _ v.pairs (h.link p) h.link;
    }

-- ---- the steps of reducing

with_register_if_cuts :
    (u v : Values) (r : Register) (o : Option Val)
    → IsCut u v → IfSome o (λ y. IsPartVal y (get r v.registers)) → IfSome (with_register_if r o v) (IsCut u)
with_register_if_cuts u v r None h k = tt
with_register_if_cuts u v r (Some y) h k = IsCut-with_register u v r y h k

with_bounds_if_cuts :
    (u v : Values) (p : WordPair) (b : Bounds) → IsCut u v → IsPart b (facts_of p u.pairs).bounds → IfSome (with_bounds_if p b v) (IsCut u)
with_bounds_if_cuts u v p b h k = choose (is_empty b)
  where
    choose : (c : Bool) → IfSome (cond c None (Some (with_bounds p b v))) (IsCut u)
    choose true = tt
    choose false = IsCut-with_bounds u v p b h k

cut_other_cuts : (o : Other) (d : Bounds) (v : Values) → IfSome (cut_other o d v) (IsCut v)
unfolding cut_other
cut_other_cuts (other.Register r) d v = with_register_if_cuts v v r _ (IsCut-itself v) (IfSome-cut_val _ d)
cut_other_cuts (other.Pair p) d v = with_bounds_if_cuts v v p _ (IsCut-itself v) (IsPart-cut_left _ d)
cut_other_cuts (other.Cell a) d v = IsCut-itself v
cut_other_cuts other.Nothing d v = IsCut-itself v

cut_other_if_cuts : (o : Other) (d : Option Bounds) (v : Values) → IfSome (cut_other_if o d v) (IsCut v)
cut_other_if_cuts o None v = IsCut-itself v
cut_other_if_cuts o (Some d) v = cut_other_cuts o d v

high_differs : (p : WordPair) (y : Val) (v : Values) → get (low_of p) (with_register (high_of p) y v).registers ≡ get (low_of p) v.registers
high_differs pair.Bc y v = refl
high_differs pair.De y v = refl
high_differs pair.Hl y v = refl

with_bytes_if_cuts :
    (u v : Values) (p : WordPair) (high low : Option Val)
    → IsCut u v → IfSome high (λ y. IsPartVal y (get (high_of p) v.registers))
    → IfSome low (λ y. IsPartVal y (get (low_of p) v.registers)) → IfSome (with_bytes_if p high low v) (IsCut u)
with_bytes_if_cuts u v p None low h j k = tt
with_bytes_if_cuts u v p (Some y) low h j k =
    with_register_if_cuts u (with_register (high_of p) y v) (low_of p) low (IsCut-with_register u v (high_of p) y h j)
    (subst (λ w. IfSome low (λ z. IsPartVal z w)) (sym (high_differs p y v)) k)

settled_cuts :
    (u v : Values) (p : WordPair) (b : Bounds) → IsCut u v → IsPart b (facts_of p u.pairs).bounds → IfSome (settled p b v) (IsCut u)
unfolding settled
settled_cuts u v p b h k =
    with_bytes_if_cuts u (with_bounds p b v) p _ _ (IsCut-with_bounds u v p b h k) (IfSome-cut_val _ (high_bounds b)) (IfSome-cut_val _ (low_bounds b))

then_settled_cuts :
    (u : Values) (o : Option Values) (p : WordPair) (b : Bounds)
    → IfSome o (IsCut u) → IsPart b (facts_of p u.pairs).bounds → IfSome (option_and_then (settled p b) o) (IsCut u)
then_settled_cuts u None p b h k = tt
then_settled_cuts u (Some v) p b h k = settled_cuts u v p b h k

reduced_by_link_cuts :
    (p : WordPair) (l : Link) (o b : Bounds) (v : Values)
    → IsPart b (facts_of p v.pairs).bounds → IfSome (reduced_by_link p l o b v) (IsCut v)
unfolding reduced_by_link
reduced_by_link_cuts p l o b v h = choose (is_empty o || is_empty (cut_by_other l o b))
  where
    choose :
        (c : Bool)
        → IfSome
        (cond c None (option_and_then (settled p (cut_by_other l o b)) (cut_other_if l.other (others_at l o (cut_by_other l o b)) v)))
        (IsCut v)
    choose true = tt
    choose false =
        then_settled_cuts v _ p (cut_by_other l o b) (cut_other_if_cuts l.other (others_at l o (cut_by_other l o b)) v)
        (IsPart-trans _ b _ (IsPart-cut_by_other l o b) h)

reduced_within_cuts :
    (p : WordPair) (l : Option Link) (m b : Bounds) (v : Values)
    → IsPart b (facts_of p v.pairs).bounds → IfSome (reduced_within p l m b v) (IsCut v)
reduced_within_cuts p None m b v h = settled_cuts v v p b (IsCut-itself v) h
reduced_within_cuts p (Some l) m b v h = reduced_by_link_cuts p l _ b v h

pub reduced_pair_cuts : (entered read : PairBounds) (p : WordPair) (v : Values) → IfSome (reduced_pair entered read p v) (IsCut v)
unfolding reduced_pair
reduced_pair_cuts entered read p v = choose (is_empty (bounds_of p v))
  where
    choose : (c : Bool) → IfSome (cond c None (reduced_within p (unbased entered (facts_of p v.pairs).link) (bounds_in p read) (bounds_of p v) v)) (IsCut v)
    choose true = tt
    choose false = reduced_within_cuts p _ _ (bounds_of p v) v (IsPart-bounds_of p v)

pub one_pair_cuts :
    (entered read : PairBounds) (p : WordPair) (v : Values) (o : Option Values) → o ≡ reduced_pair entered read p v → IfSome o (IsCut v)
one_pair_cuts entered read p v o e = subst (λ r. IfSome r (IsCut v)) (sym e) (reduced_pair_cuts entered read p v)

-- ---- all of them

pub then_cuts :
    (f : Values → Option Values) (u : Values) (o : Option Values)
    → IfSome o (IsCut u) → ((v : Values) → IfSome (f v) (IsCut v)) → IfSome (option_and_then f o) (IsCut u)
then_cuts f u None h k = tt
then_cuts f u (Some v) h k = further (f v) (k v)
  where
    further : (o : Option Values) → IfSome o (IsCut v) → IfSome o (IsCut u)
    further None m = tt
    further (Some w) m = IsCut-trans u v w h m

pub reduced_by_two_cuts :
    (entered read : PairBounds) (v : Values) → IfSome (option_and_then (reduced_pair entered read pair.De) (reduced_pair entered read pair.Bc v)) (IsCut v)
reduced_by_two_cuts entered read v = then_cuts _ v _ (reduced_pair_cuts entered read pair.Bc v) (reduced_pair_cuts entered read pair.De)

pub reduced_once_cuts : (entered read : PairBounds) (v : Values) → IfSome (reduced_once entered read v) (IsCut v)
unfolding reduced_once
reduced_once_cuts entered read v = then_cuts _ v _ (reduced_by_two_cuts entered read v) (reduced_pair_cuts entered read pair.Hl)

-- where both are asked one after another
pub cuts_then : (u v : Values) (o r : Option Values) → o ≡ Some v → IfSome o (IsCut u) → IfSome r (IsCut v) → IfSome r (IsCut u)
cuts_then u v o None e h k = tt
cuts_then u v o (Some w) e h k = IsCut-trans u v w (subst (λ p. IfSome p (IsCut u)) e h) k

pub reduced_cuts : (entered read : PairBounds) (v : Values) (o : Option Values) → o ≡ reduced entered read v → IfSome o (IsCut v)
unfolding reduced
reduced_cuts entered read v o e =
    subst (λ r. IfSome r (IsCut v)) (sym e) (then_cuts _ v _ (reduced_once_cuts entered read v) (reduced_once_cuts entered read))

pub restricted_cuts : (p : WordPair) (within : Bounds) (v : Values) (o : Option Values) → o ≡ restricted p within v → IfSome o (IsCut v)
unfolding restricted
restricted_cuts p within v o e =
    subst (λ r. IfSome r (IsCut v)) (sym e)
    (with_bounds_if_cuts v v p _ (IsCut-itself v)
    (IsPart-trans _ (bounds_of p v) _ (IsPart-cut_left (bounds_of p v) within) (IsPart-bounds_of p v)))
