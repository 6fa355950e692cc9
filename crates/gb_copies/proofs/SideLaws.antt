-- What a branch leaves holds the byte, and is part of what was there.
use Rattle.std.proofs.Common.{◌≡◌, ℕ, zero, suc, ◌<◌, ◌≤◌, Bool, true, false, ◌&&◌, ◌||◌, ◌==◌, cond, nat_lt, nat_le, Option, Some, None, is_some, IfSome, refl, sym, ◌∙◌, ap, subst, arith}
use Rattle.std.proofs.lemmas.Bool.Decides.{nat_tests}
use Rattle.gb_ops.specs.declared.op.Register.{Register}
use Rattle.gb_ops.specs.declared.op.Register.TheVariants.{A, B, C, D, E, H, L}
use Rattle.gb_ops.specs.declared.op.Condition.{Condition}
use Rattle.gb_ops.specs.declared.registers.Registers.{Registers}
use Rattle.gb_ops.specs.declared.registers.Flags.{Flags}
use Rattle.gb_ops.specs.Registers.{get}
use Rattle.gb_ops.specs.Flags.{is_met}
use Rattle.gb_domain.specs.declared.types.Val.{Val}
use Rattle.gb_domain.specs.declared.interval.StridedInterval.{StridedInterval}
use Rattle.gb_domain.specs.declared.places.Test.{Test}
use Rattle.gb_domain.specs.declared.places.OneByte.{OneByte}
use Rattle.gb_domain.specs.Meaning.{InSome, IsStrided, IsOfBytes}
use Rattle.gb_domain.specs.Meaning as interval
use Rattle.gb_domain.specs.Values.{interval_of, have_same, is_strided}
use Rattle.gb_domain.proofs.ValueLaws.{Has-same, same-Has}
use Rattle.gb_vals.specs.Meaning.{In}
use Rattle.gb_copies.specs.declared.sides.PlaceContents.{PlaceContents}
use Rattle.gb_copies.specs.Meaning.{IsTested, HoldOneByte}
use Rattle.gb_copies.specs.Places.{has_address}
use Rattle.gb_copies.specs.Sides.{shared, side_of, side_if, is_asked, given, with_byte, with_byte_if, narrowed_by_test, narrowed}
use Rattle.gb_copies.proofs.PieceLaws.{IsPiece, InSome-side_of, IsPiece-side_of}
use Rattle.gb_copies.proofs.SharedLaws.{IsShared, shared-keeps, shared-only, IsOfBytes-shared}
use Rattle.gb_copies.specs.Sound.{HoldContents, HoldContentsIn, IsSoundNarrowing, IsCutVal, IsCut}

-- ---- values as intervals

In-interval : (v : Val) (x : ℕ) → In v x → interval.In (interval_of v) x
In-interval v x m = record { least = m.least; most = m.most; low = Has-same v.low_bits x v.lo m.low }

-- a place that gets the byte's values stands for the byte, whatever its origin
In-given : (is : Bool) (v : StridedInterval) (w : Val) (x : ℕ) → (is ≡ true → interval.In v x) → In w x → In (given is v w) x
In-given true v w x n m = let k = n refl in record { least = k.least; most = k.most; low = same-Has v.count x v.lo k.low }
In-given false v w x n m = m

by_count : (n lo hi : ℕ) → n < 8 → (lo ≡ hi → n ≡ 0) → lo ≤ hi → have_same n hi lo ≡ true → (n == 0 || nat_le n 7 && (nat_lt lo hi && have_same n hi lo)) ≡ true
by_count zero lo hi few one order same = refl
by_count (suc n) lo hi few one order same =
    all (suc n == 0) (nat_le (suc n) 7) (nat_lt lo hi) (have_same (suc n) hi lo) (grind (arith, nat_tests)) (differ (nat_lt lo hi) refl) same
  where
    all : (a b c d : Bool) → b ≡ true → c ≡ true → d ≡ true → (a || b && (c && d)) ≡ true
    all true b c d e f g = refl
    all false b c d e f g = rw e (rw f g)

    differ : (t : Bool) → nat_lt lo hi ≡ t → t ≡ true
    differ true e = refl
    differ false e =
        let equal : lo ≡ hi = grind (arith, nat_tests) in
        let none : suc n ≡ 0 = one equal in
        absurd (omega arith)

is_strided-given : (v : StridedInterval) (w : Val) → IsStrided v → is_strided (given true v w) ≡ true
is_strided-given v w h =
    by_count v.count v.lo v.hi h.count h.one h.least.most (same-Has v.count v.hi v.lo h.greatest.low)

-- ---- what the places share

In-memory :
    (address : Option ℕ) (v : Val) (memory : ℕ → ℕ) (y : ℕ)
    → ((a : ℕ) → address ≡ Some a → In v (memory a)) → ((a : ℕ) → address ≡ Some a → memory a ≡ y)
    → is_some address ≡ true → In v y
In-memory None v memory y m e is = cc
In-memory (Some a) v memory y m e is = subst (λ z. In v z) (e a refl) (m a refl)

In-shared :
    (b : OneByte) (c : PlaceContents) (x : Registers ℕ) (memory : ℕ → ℕ) (f : Flags)
    → HoldContents b c x memory → (h : HoldOneByte b x memory f) → InSome (shared b c) h.byte
In-shared b c x memory f m h =
    shared-keeps b c h.byte h.small
    (record {
      registers = λ r is. In-interval (get r c.registers) h.byte (subst (λ y. In (get r c.registers) y) (h.registers r is) (m.0 r));
      memory = λ is. In-interval c.memory h.byte (In-memory b.address c.memory memory h.byte m.1 h.address is);
    })

-- ---- the side of a test

InSome-side_if :
    (t : Test) (k : Condition) (o : Option StridedInterval) (x : ℕ) (f : Flags)
    → IfSome o IsOfBytes → IsTested (Some t) x f → is_met k f ≡ true → InSome o x → InSome (side_if t k o) x
InSome-side_if t k None x f bytes says h m = absurd m
InSome-side_if t k (Some v) x f bytes says h m = InSome-side_of t k v x f bytes.most says h m

-- each value is one that the places share
record IsLeft (b : OneByte) (c : PlaceContents) (w : StridedInterval) : Type 0 where
  shared : (x : ℕ) → interval.In w x → IsShared b c x
  strided : IsStrided w

IsLeft-side_if :
    (b : OneByte) (c : PlaceContents) (t : Test) (k : Condition) (o : Option StridedInterval)
    → IfSome o IsOfBytes → ((x : ℕ) → InSome o x → IsShared b c x) → IfSome (side_if t k o) (IsLeft b c)
IsLeft-side_if b c t k None bytes only = tt
IsLeft-side_if b c t k (Some v) bytes only = choose (side_of t k v) (IsPiece-side_of t k v bytes)
  where
    choose : (o : Option StridedInterval) → IfSome o (IsPiece v) → IfSome o (IsLeft b c)
    choose None h = tt
    choose (Some w) h = record { shared = λ x m. only x (h.lies.gives x m); strided = h.strided }

-- ---- the places

with_byte-register :
    (r : Register) (b : OneByte) (v : StridedInterval) (c : PlaceContents)
    → given (get r b.registers) v (get r c.registers) ≡ get r (with_byte b v c).registers
unfolding with_byte
with_byte-register A b v c = refl
with_byte-register B b v c = refl
with_byte-register C b v c = refl
with_byte-register D b v c = refl
with_byte-register E b v c = refl
with_byte-register H b v c = refl
with_byte-register L b v c = refl

HoldContents-with_byte :
    (b : OneByte) (v : StridedInterval) (c : PlaceContents) (x : Registers ℕ) (memory : ℕ → ℕ) (f : Flags)
    → HoldContents b c x memory → (h : HoldOneByte b x memory f) → interval.In v h.byte → HoldContents b (with_byte b v c) x memory
unfolding with_byte
HoldContents-with_byte b v c x memory f m h k = (
  λ r.
      subst (λ w. In w (get r x)) (with_byte-register r b v c)
      (In-given (get r b.registers) v (get r c.registers) (get r x) (λ is. subst (λ y. interval.In v y) (sym (h.registers r is)) k) (m.0 r)),
  λ a e. In-given (has_address b) v c.memory (memory a) (λ is. subst (λ y. interval.In v y) (sym (h.address a e)) k) (m.1 a e),
)

HoldContentsIn-with_byte_if :
    (b : OneByte) (o : Option StridedInterval) (c : PlaceContents) (x : Registers ℕ) (memory : ℕ → ℕ) (f : Flags)
    → HoldContents b c x memory → (h : HoldOneByte b x memory f) → InSome o h.byte → HoldContentsIn b (with_byte_if b o c) x memory
HoldContentsIn-with_byte_if b None c x memory f m h k = k
HoldContentsIn-with_byte_if b (Some v) c x memory f m h k = HoldContents-with_byte b v c x memory f m h k

HoldContentsIn-narrowed_by_test :
    (b : OneByte) (t : Option Test) (k : Condition) (c : PlaceContents) (x : Registers ℕ) (memory : ℕ → ℕ) (f : Flags)
    → HoldContents b c x memory → (h : HoldOneByte b x memory f) → IsTested t h.byte f → is_met k f ≡ true
    → HoldContentsIn b (narrowed_by_test b t k c) x memory
HoldContentsIn-narrowed_by_test b None k c x memory f m h says met = m
HoldContentsIn-narrowed_by_test b (Some t) k c x memory f m h says met = choose (is_asked t k)
  where
    choose : (asked : Bool) → HoldContentsIn b (cond asked (with_byte_if b (side_if t k (shared b c)) c) (Some c)) x memory
    choose false = m
    choose true =
        HoldContentsIn-with_byte_if b (side_if t k (shared b c)) c x memory f m h
        (InSome-side_if t k (shared b c) h.byte f (IsOfBytes-shared b c) says met (In-shared b c x memory f m h))

pub narrowed_sound : (b : OneByte) (k : Condition) (c : PlaceContents) (o : Option PlaceContents) → o ≡ narrowed b k c → IsSoundNarrowing b k c o
unfolding narrowed
narrowed_sound b k c o e =
    subst (λ r. IsSoundNarrowing b k c r) (sym e)
    (record { gives = λ x memory f m h met. HoldContentsIn-narrowed_by_test b b.test k c x memory f m h h.test met })

-- ---- contents are cut

IsCutVal-same : (v : Val) → IsCutVal v v
IsCutVal-same v = record { least = omega arith; most = omega arith; order = λ h. h; strided = λ h. h; origin = refl }

IsCutVal-given :
    (is : Bool) (v : StridedInterval) (w : Val)
    → IsStrided v → (is ≡ true → (x : ℕ) → interval.In v x → interval.In (interval_of w) x) → IsCutVal w (given is v w)
IsCutVal-given true v w h lies =
    record {
      least = (lies refl v.lo h.least).least;
      most = (lies refl v.hi h.greatest).most;
      order = λ o. h.least.most;
      strided = λ s. is_strided-given v w h;
      origin = refl;
    }
IsCutVal-given false v w h lies = IsCutVal-same w

given-other : (is : Bool) (v : StridedInterval) (w : Val) → is ≡ false → given is v w ≡ w
given-other true v w h = cc
given-other false v w h = refl

IsCut-same : (b : OneByte) (c : PlaceContents) → IsCut b c c
IsCut-same b c =
    record {
      registers = λ r. IsCutVal-same (get r c.registers);
      memory = IsCutVal-same c.memory;
      other_registers = λ r h. refl;
      other_memory = λ h. refl;
    }

IsCut-with_byte : (b : OneByte) (v : StridedInterval) (c : PlaceContents) → IsLeft b c v → IsCut b c (with_byte b v c)
unfolding with_byte
IsCut-with_byte b v c h =
    record {
      registers = λ r.
          subst (λ w. IsCutVal (get r c.registers) w) (with_byte-register r b v c)
          (IsCutVal-given (get r b.registers) v (get r c.registers) h.strided (λ is x m. (h.shared x m).registers r is));
      memory = IsCutVal-given (has_address b) v c.memory h.strided (λ is x m. (h.shared x m).memory is);
      other_registers = λ r is. sym (with_byte-register r b v c) ∙ given-other (get r b.registers) v (get r c.registers) is;
      other_memory = λ is. given-other (has_address b) v c.memory (ap is_some is);
    }

IsCut-with_byte_if : (b : OneByte) (o : Option StridedInterval) (c : PlaceContents) → IfSome o (IsLeft b c) → IfSome (with_byte_if b o c) (IsCut b c)
IsCut-with_byte_if b None c h = tt
IsCut-with_byte_if b (Some v) c h = IsCut-with_byte b v c h

IsCut-narrowed_by_test :
    (b : OneByte) (t : Option Test) (k : Condition) (c : PlaceContents) → IfSome (narrowed_by_test b t k c) (IsCut b c)
IsCut-narrowed_by_test b None k c = IsCut-same b c
IsCut-narrowed_by_test b (Some t) k c = choose (is_asked t k)
  where
    choose : (asked : Bool) → IfSome (cond asked (with_byte_if b (side_if t k (shared b c)) c) (Some c)) (IsCut b c)
    choose false = IsCut-same b c
    choose true =
        IsCut-with_byte_if b (side_if t k (shared b c)) c
        (IsLeft-side_if b c t k (shared b c) (IsOfBytes-shared b c) (shared-only b c))

pub narrowed_cuts : (b : OneByte) (k : Condition) (c : PlaceContents) (o : Option PlaceContents) → o ≡ narrowed b k c → IfSome o (IsCut b c)
unfolding narrowed
narrowed_cuts b k c o e = subst (λ r. IfSome r (IsCut b c)) (sym e) (IsCut-narrowed_by_test b b.test k c)
