-- What all places share are exactly the bytes that are among the values of each.
use Rattle.std.proofs.Common.{◌≡◌, ℕ, ◌<◌, ◌≤◌, Bool, true, false, Option, Some, None, IfSome, refl, arith}
use Rattle.gb_ops.specs.declared.op.Register.{Register}
use Rattle.gb_ops.specs.declared.op.Register.TheVariants.{A, B, C, D, E, H, L}
use Rattle.gb_ops.specs.Registers.{get}
use Rattle.gb_domain.specs.declared.types.Val.{Val}
use Rattle.gb_domain.specs.declared.interval.StridedInterval.{StridedInterval}
use Rattle.gb_domain.specs.declared.places.OneByte.{OneByte}
use Rattle.gb_domain.specs.Interval.{any_byte, cut}
use Rattle.gb_domain.specs.Meaning.{In, InSome, IsOfBytes}
use Rattle.gb_domain.specs.Values.{interval_of}
use Rattle.gb_domain.proofs.IntervalLaws.{Has-zero, cut_leaves, cut_strided, IsOfBytes-any}
use Rattle.gb_copies.specs.declared.sides.PlaceContents.{PlaceContents}
use Rattle.gb_copies.specs.Places.{has_address}
use Rattle.gb_copies.specs.Sides.{cut_if, shared}

-- a byte is among the values of each place
pub record IsShared (b : OneByte) (c : PlaceContents) (x : ℕ) : Type 0 where
  pub registers : (r : Register) → get r b.registers ≡ true → In (interval_of (get r c.registers)) x
  pub memory : has_address b ≡ true → In (interval_of c.memory) x

-- ---- one place

InSome-cut_if :
    (is : Bool) (w : Val) (o : Option StridedInterval) (x : ℕ)
    → (is ≡ true → In (interval_of w) x) → InSome o x → InSome (cut_if is w o) x
InSome-cut_if true w None x n m = absurd m
InSome-cut_if true w (Some v) x n m =
    (cut_leaves v (interval_of w) (cut v (interval_of w)) refl).keeps x (record { first = m; second = n refl })
InSome-cut_if false w o x n m = m

-- what is left is among both
record IsOfBoth (is : Bool) (w : Val) (o : Option StridedInterval) (x : ℕ) : Type 0 where
  place : is ≡ true → In (interval_of w) x
  before : InSome o x

IsOfBoth-cut_if : (is : Bool) (w : Val) (o : Option StridedInterval) (x : ℕ) → InSome (cut_if is w o) x → IsOfBoth is w o x
IsOfBoth-cut_if true w None x m = absurd m
IsOfBoth-cut_if true w (Some v) x m =
    let both = (cut_leaves v (interval_of w) (cut v (interval_of w)) refl).only x m in
    record { place = λ is. both.second; before = both.first }
IsOfBoth-cut_if false w o x m = record { place = λ is. cc; before = m }

IsOfBytes-cut : (v w : StridedInterval) → v.hi < 256 → IfSome (cut v w) IsOfBytes
IsOfBytes-cut v w byte = choose (cut v w) refl
  where
    choose : (o : Option StridedInterval) → o ≡ cut v w → IfSome o IsOfBytes
    choose None e = tt
    choose (Some u) e =
        let strided = cut_strided v w (Some u) e byte in
        let within : u.hi ≤ v.hi = ((cut_leaves v w (Some u) e).only u.hi strided.greatest).first.most in
        record { strided = strided; most = omega arith }

IsOfBytes-cut_if : (is : Bool) (w : Val) (o : Option StridedInterval) → IfSome o IsOfBytes → IfSome (cut_if is w o) IsOfBytes
IsOfBytes-cut_if true w None h = tt
IsOfBytes-cut_if true w (Some v) h = IsOfBytes-cut v (interval_of w) h.most
IsOfBytes-cut_if false w o h = h

-- ---- all places

abbrev cut_memory : OneByte → PlaceContents → Option StridedInterval
cut_memory b c = cut_if (has_address b) c.memory (Some any_byte)

abbrev cut_l : OneByte → PlaceContents → Option StridedInterval
cut_l b c = cut_if b.registers.l c.registers.l (cut_memory b c)

abbrev cut_h : OneByte → PlaceContents → Option StridedInterval
cut_h b c = cut_if b.registers.h c.registers.h (cut_l b c)

abbrev cut_e : OneByte → PlaceContents → Option StridedInterval
cut_e b c = cut_if b.registers.e c.registers.e (cut_h b c)

abbrev cut_d : OneByte → PlaceContents → Option StridedInterval
cut_d b c = cut_if b.registers.d c.registers.d (cut_e b c)

abbrev cut_c : OneByte → PlaceContents → Option StridedInterval
cut_c b c = cut_if b.registers.c c.registers.c (cut_d b c)

abbrev cut_b : OneByte → PlaceContents → Option StridedInterval
cut_b b c = cut_if b.registers.b c.registers.b (cut_c b c)

pub shared-keeps : (b : OneByte) (c : PlaceContents) (x : ℕ) → x < 256 → IsShared b c x → InSome (shared b c) x
unfolding shared
shared-keeps b c x small h =
    InSome-cut_if b.registers.a c.registers.a (cut_b b c) x (h.registers A)
    (InSome-cut_if b.registers.b c.registers.b (cut_c b c) x (h.registers B)
    (InSome-cut_if b.registers.c c.registers.c (cut_d b c) x (h.registers C)
    (InSome-cut_if b.registers.d c.registers.d (cut_e b c) x (h.registers D)
    (InSome-cut_if b.registers.e c.registers.e (cut_h b c) x (h.registers E)
    (InSome-cut_if b.registers.h c.registers.h (cut_l b c) x (h.registers H)
    (InSome-cut_if b.registers.l c.registers.l (cut_memory b c) x (h.registers L)
    (InSome-cut_if (has_address b) c.memory (Some any_byte) x h.memory
    (record { least = omega arith; most = omega arith; low = Has-zero x 0 }))))))))

abbrev IsAt : OneByte → PlaceContents → ℕ → Register → Type 0
IsAt b c x r = get r b.registers ≡ true → In (interval_of (get r c.registers)) x

each_register :
    (P : Register → Type 0) → P A → P B → P C → P D → P E → P H → P L → (r : Register) → P r
each_register P a b c d e h l A = a
each_register P a b c d e h l B = b
each_register P a b c d e h l C = c
each_register P a b c d e h l D = d
each_register P a b c d e h l E = e
each_register P a b c d e h l H = h
each_register P a b c d e h l L = l

pub shared-only : (b : OneByte) (c : PlaceContents) (x : ℕ) → InSome (shared b c) x → IsShared b c x
unfolding shared
shared-only b c x m =
    let at_a = IsOfBoth-cut_if b.registers.a c.registers.a (cut_b b c) x m in
    let at_b = IsOfBoth-cut_if b.registers.b c.registers.b (cut_c b c) x at_a.before in
    let at_c = IsOfBoth-cut_if b.registers.c c.registers.c (cut_d b c) x at_b.before in
    let at_d = IsOfBoth-cut_if b.registers.d c.registers.d (cut_e b c) x at_c.before in
    let at_e = IsOfBoth-cut_if b.registers.e c.registers.e (cut_h b c) x at_d.before in
    let at_h = IsOfBoth-cut_if b.registers.h c.registers.h (cut_l b c) x at_e.before in
    let at_l = IsOfBoth-cut_if b.registers.l c.registers.l (cut_memory b c) x at_h.before in
    let at_memory = IsOfBoth-cut_if (has_address b) c.memory (Some any_byte) x at_l.before in
    record {
      registers = each_register (IsAt b c x) at_a.place at_b.place at_c.place at_d.place at_e.place at_h.place at_l.place;
      memory = at_memory.place;
    }

pub IsOfBytes-shared : (b : OneByte) (c : PlaceContents) → IfSome (shared b c) IsOfBytes
unfolding shared
IsOfBytes-shared b c =
    IsOfBytes-cut_if b.registers.a c.registers.a (cut_b b c) (IsOfBytes-cut_if b.registers.b c.registers.b (cut_c b c)
    (IsOfBytes-cut_if b.registers.c c.registers.c (cut_d b c) (IsOfBytes-cut_if b.registers.d c.registers.d (cut_e b c)
    (IsOfBytes-cut_if b.registers.e c.registers.e (cut_h b c) (IsOfBytes-cut_if b.registers.h c.registers.h (cut_l b c)
    (IsOfBytes-cut_if b.registers.l c.registers.l (cut_memory b c)
    (IsOfBytes-cut_if (has_address b) c.memory (Some any_byte) IsOfBytes-any)))))))
