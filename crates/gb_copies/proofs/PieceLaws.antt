-- What a test leaves of an interval holds each of its values that meet the test, and no others but the interval's own.
use Rattle.std.proofs.Common.{◌≡◌, ℕ, ◌+◌, ◌-◌, ◌%◌, ◌<◌, ◌≤◌, Bool, true, false, ◌&&◌, not, ◌==◌, cond, nat_lt, Option, Some, None, IfSome, refl, sym, ◌∙◌, subst, arith}
use Rattle.std.proofs.lemmas.Bool.{not-true}
use Rattle.std.proofs.lemmas.Bool.Decides.{nat_tests}
use Rattle.gb_ops.specs.declared.op.Condition.{Condition}
use Rattle.gb_ops.specs.declared.op.Condition.TheVariants as condition
use Rattle.gb_ops.specs.declared.registers.Flags.{Flags}
use Rattle.gb_ops.specs.Flags.{is_met}
use Rattle.gb_domain.specs.declared.interval.StridedInterval.{StridedInterval}
use Rattle.gb_domain.specs.declared.places.Test.{Test}
use Rattle.gb_domain.specs.declared.places.Test.TheVariants as test
use Rattle.gb_domain.specs.LowBits.{modulus, are_congruent}
use Rattle.gb_domain.specs.Interval.{bounds, cut}
use Rattle.gb_domain.specs.Meaning.{In, InSome, IsStrided, IsOfBytes, LiesIn}
use Rattle.gb_domain.proofs.ModulusLaws.{low_bits-Has}
use Rattle.gb_domain.proofs.IntervalLaws.{Has-zero, cut_leaves, cut_strided}
use Rattle.gb_copies.specs.Meaning.{IsTested}
use Rattle.gb_copies.specs.Sides.{between, without, compared, has_bits, is_left, least_from, greatest_from, cut_to_ends, with_bits, side_of}
use Rattle.gb_copies.proofs.LeastLaws.{IsAtMost, least_from-at_most, IsReached, greatest_from-reached}

-- ---- cuts

-- some of v's values
pub record IsPiece (v w : StridedInterval) : Type 0 where
  pub lies : LiesIn w v
  pub strided : IsStrided w

InSome-cut : (v w : StridedInterval) (x : ℕ) → In v x → In w x → InSome (cut v w) x
InSome-cut v w x m n = (cut_leaves v w (cut v w) refl).keeps x (record { first = m; second = n })

IsPiece-cut : (v w : StridedInterval) → v.hi < 256 → IfSome (cut v w) (IsPiece v)
IsPiece-cut v w byte = choose (cut v w) refl
  where
    choose : (o : Option StridedInterval) → o ≡ cut v w → IfSome o (IsPiece v)
    choose None e = tt
    choose (Some u) e =
        record {
          lies = record { gives = λ x m. ((cut_leaves v w (Some u) e).only x m).first };
          strided = cut_strided v w (Some u) e byte;
        }

IsPiece-itself : (v : StridedInterval) → IsStrided v → IsPiece v v
IsPiece-itself v h = record { lies = record { gives = λ x m. m }; strided = h }

In-bounds : (lo hi x : ℕ) → lo ≤ x → x ≤ hi → In (bounds lo hi) x
In-bounds lo hi x low high = record { least = low; most = high; low = Has-zero x lo }

-- ---- comparisons

InSome-between : (first end : ℕ) (v : StridedInterval) (x : ℕ) → first ≤ x → x < end → In v x → InSome (between first end v) x
unfolding between
InSome-between first end v x low high m = choose (nat_lt first end) refl
  where
    choose : (b : Bool) → nat_lt first end ≡ b → InSome (cond b (cut v (bounds first (end - 1))) None) x
    choose true e = InSome-cut v (bounds first (end - 1)) x m (In-bounds first (end - 1) x low (omega arith))
    choose false e = absurd (grind (arith, nat_tests))

IsPiece-between : (first end : ℕ) (v : StridedInterval) → v.hi < 256 → IfSome (between first end v) (IsPiece v)
unfolding between
IsPiece-between first end v byte = choose (nat_lt first end)
  where
    choose : (b : Bool) → IfSome (cond b (cut v (bounds first (end - 1))) None) (IsPiece v)
    choose true = IsPiece-cut v (bounds first (end - 1)) byte
    choose false = tt

InSome-without : (n : ℕ) (v : StridedInterval) (x : ℕ) → v.hi < 256 → (x == n) ≡ false → In v x → InSome (without n v) x
InSome-without n v x byte differs m = choose (v.lo == n) (v.hi == n) refl refl
  where
    choose :
        (b c : Bool) → (v.lo == n) ≡ b → (v.hi == n) ≡ c
        → InSome (cond b (between (n + 1) 256 v) (cond c (between 0 n v) (Some v))) x
    choose true c e f = InSome-between (n + 1) 256 v x (grind (arith, nat_tests)) (omega arith) m
    choose false true e f = InSome-between 0 n v x (omega arith) (grind (arith, nat_tests)) m
    choose false false e f = m

IsPiece-without : (n : ℕ) (v : StridedInterval) → IsOfBytes v → IfSome (without n v) (IsPiece v)
IsPiece-without n v h = choose (v.lo == n) (v.hi == n)
  where
    choose : (b c : Bool) → IfSome (cond b (between (n + 1) 256 v) (cond c (between 0 n v) (Some v))) (IsPiece v)
    choose true c = IsPiece-between (n + 1) 256 v h.most
    choose false true = IsPiece-between 0 n v h.most
    choose false false = IsPiece-itself v h.strided

InSome-compared :
    (n : ℕ) (k : Condition) (v : StridedInterval) (x : ℕ) (f : Flags)
    → v.hi < 256 → IsTested (Some (test.Compare n)) x f → is_met k f ≡ true → In v x → InSome (compared n k v) x
unfolding compared is_met
InSome-compared n condition.NotZero v x f byte says h m = InSome-without n v x byte (sym says.0 ∙ not-true f.zero h) m
InSome-compared n condition.Zero v x f byte says h m =
    let e : (x == n) ≡ true = sym says.0 ∙ h in
    InSome-between n (n + 1) v x (grind (arith, nat_tests)) (grind (arith, nat_tests)) m
InSome-compared n condition.NotCarry v x f byte says h m =
    let e : nat_lt x n ≡ false = sym says.1 ∙ not-true f.carry h in
    InSome-between n 256 v x (grind (arith, nat_tests)) (omega arith) m
InSome-compared n condition.Carry v x f byte says h m =
    let e : nat_lt x n ≡ true = sym says.1 ∙ h in
    InSome-between 0 n v x (omega arith) (grind (arith, nat_tests)) m

IsPiece-compared : (n : ℕ) (k : Condition) (v : StridedInterval) → IsOfBytes v → IfSome (compared n k v) (IsPiece v)
unfolding compared
IsPiece-compared n condition.NotZero v h = IsPiece-without n v h
IsPiece-compared n condition.Zero v h = IsPiece-between n (n + 1) v h.most
IsPiece-compared n condition.NotCarry v h = IsPiece-between n 256 v h.most
IsPiece-compared n condition.Carry v h = IsPiece-between 0 n v h.most

-- ---- tests of bits

is_left-own : (m : ℕ) (wanted : Bool) (v : StridedInterval) (x : ℕ) → has_bits m wanted x ≡ true → In v x → is_left m wanted v x ≡ true
unfolding is_left are_congruent
is_left-own m wanted v x h i =
    both (has_bits m wanted x) (x % modulus v.count) (v.lo % modulus v.count) h (low_bits-Has v.count x v.lo i.low)
  where
    both : (a : Bool) (y z : ℕ) → a ≡ true → y ≡ z → (a && y == z) ≡ true
    both a y z e f = rw e (grind (arith, nat_tests))

InSome-cut_to_ends :
    (v : StridedInterval) (l g : Option ℕ) (x : ℕ) → In v x → IsAtMost l x → IsReached g x → InSome (cut_to_ends v l g) x
InSome-cut_to_ends v None g x m low high = absurd low
InSome-cut_to_ends v (Some a) None x m low high = absurd high
InSome-cut_to_ends v (Some a) (Some b) x m low high = InSome-cut v (bounds a b) x m (In-bounds a b x low high)

InSome-with_bits :
    (m : ℕ) (wanted : Bool) (v : StridedInterval) (x : ℕ) → has_bits m wanted x ≡ true → In v x → InSome (with_bits m wanted v) x
unfolding with_bits
InSome-with_bits m wanted v x h i =
    let low : v.lo ≤ x = i.least in
    let high : x ≤ v.hi = i.most in
    let own = is_left-own m wanted v x h i in
    InSome-cut_to_ends v
    (least_from (is_left m wanted v) (v.hi + 1 - v.lo) v.lo)
    (greatest_from (is_left m wanted v) (v.hi + 1 - v.lo) v.hi) x i
    (least_from-at_most (is_left m wanted v) (v.hi + 1 - v.lo) v.lo x low (omega arith) own)
    (greatest_from-reached (is_left m wanted v) (v.hi + 1 - v.lo) v.hi x high (omega arith) own)

IsPiece-cut_to_ends : (v : StridedInterval) (l g : Option ℕ) → v.hi < 256 → IfSome (cut_to_ends v l g) (IsPiece v)
IsPiece-cut_to_ends v None g byte = tt
IsPiece-cut_to_ends v (Some a) None byte = tt
IsPiece-cut_to_ends v (Some a) (Some b) byte = IsPiece-cut v (bounds a b) byte

IsPiece-with_bits : (m : ℕ) (wanted : Bool) (v : StridedInterval) → v.hi < 256 → IfSome (with_bits m wanted v) (IsPiece v)
unfolding with_bits
IsPiece-with_bits m wanted v byte =
    IsPiece-cut_to_ends v
    (least_from (is_left m wanted v) (v.hi + 1 - v.lo) v.lo)
    (greatest_from (is_left m wanted v) (v.hi + 1 - v.lo) v.hi) byte

-- ---- tests

pub InSome-side_of :
    (t : Test) (k : Condition) (v : StridedInterval) (x : ℕ) (f : Flags)
    → v.hi < 256 → IsTested (Some t) x f → is_met k f ≡ true → In v x → InSome (side_of t k v) x
unfolding side_of is_met
InSome-side_of (test.Compare n) k v x f byte says h m = InSome-compared n k v x f byte says h m
InSome-side_of (test.Bits n) condition.Zero v x f byte says h m = InSome-with_bits n false v x (sym says ∙ h) m
InSome-side_of (test.Bits n) condition.NotZero v x f byte says h m =
    InSome-with_bits n true v x (subst (λ z. not z ≡ true) says h) m
InSome-side_of (test.Bits n) condition.Carry v x f byte says h m = m
InSome-side_of (test.Bits n) condition.NotCarry v x f byte says h m = m

pub IsPiece-side_of : (t : Test) (k : Condition) (v : StridedInterval) → IsOfBytes v → IfSome (side_of t k v) (IsPiece v)
unfolding side_of
IsPiece-side_of (test.Compare n) k v h = IsPiece-compared n k v h
IsPiece-side_of (test.Bits n) condition.Zero v h = IsPiece-with_bits n false v h.most
IsPiece-side_of (test.Bits n) condition.NotZero v h = IsPiece-with_bits n true v h.most
IsPiece-side_of (test.Bits n) condition.Carry v h = IsPiece-itself v h.strided
IsPiece-side_of (test.Bits n) condition.NotCarry v h = IsPiece-itself v h.strided
