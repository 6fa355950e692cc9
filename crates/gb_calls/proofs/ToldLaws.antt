-- What the caller's state says of what an exit's copies are copies of holds of the machine.
use Rattle.std.proofs.Common.{◌≡◌, ℕ, suc, ◌+◌, ◌-◌, ◌≤◌, Bool, true, false, ◌==◌, cond, List, [], ◌∷◌, map, slice_get, slice_index, Option, Some, None, is_some, inl, inr, refl, sym, ◌∙◌, ap, subst, arith}
use Rattle.std.proofs.lemmas.Bool.{eqb-true, or_cases}
use Rattle.std.proofs.lemmas.Option.{get_or_from_slice_get}
use Rattle.gb_ops.specs.declared.op.Register.TheVariants as register
use Rattle.gb_ops.specs.Memory.{Storage}
use Rattle.gb_domain.specs.declared.types.Origin.{Origin}
use Rattle.gb_domain.specs.declared.types.Origin.TheVariants as origin
use Rattle.gb_domain.specs.declared.types.Cell.{Cell}
use Rattle.gb_domain.specs.declared.types.Halves.{Halves}
use Rattle.gb_domain.specs.declared.types.Val.{Val}
use Rattle.gb_domain.specs.declared.interval.StridedInterval.{StridedInterval}
use Rattle.gb_domain.specs.Interval.{cut}
use Rattle.gb_domain.specs.Meaning.{In, InSome}
use Rattle.gb_domain.specs.Summaries.{Program}
use Rattle.gb_domain.specs.Types.{AbsState}
use Rattle.gb_domain.specs.Values.{interval_of}
use Rattle.gb_domain.proofs.IntervalLaws.{cut_leaves}
use Rattle.gb_domain.proofs.ValueLaws.{Has-same, same-Has}
use Rattle.gb_product.specs.Below.gb_vals.Flags.{flags_val}
use Rattle.gb_product.specs.Below.gb_vals.Strided.{left_of}
use Rattle.gb_product.specs.Below.gb_abs.Covering.{covers_origin, cell_at}
use Rattle.gb_product.specs.Below.gb_abs.Meaning.{Activation, origin_value, Holds, AreItems, IsMemory, is_located}
use Rattle.gb_product.specs.Below.gb_abs.Origins.{without_origin, is_own}
use Rattle.gb_product.specs.Below.gb_abs.Stack.{youngest}
use Rattle.gb_product.specs.Below.gb_abs.Storage.{peek}
use Rattle.gb_product.specs.Below.gb_summaries.Returning.{is_given}
use Rattle.gb_product.specs.Meaning.{Means}
use Rattle.gb_product.proofs.CoveringLaws.{Holds-byte}
use Rattle.gb_product.proofs.Below.gb_abs_laws.CoveringLaws.{AreCells, Holds-any, Holds-cell, same_origin}
use Rattle.gb_product.proofs.Below.gb_abs_laws.OriginLaws.{Holds-without_origin}
use Rattle.gb_product.proofs.Below.gb_abs_laws.StackLaws.{AreTop-youngest}
use Rattle.gb_product.specs.Below.gb_abs_effects.Pairs.{word_or_any}
use Rattle.gb_product.proofs.Below.gb_abs_effects_laws.PairLaws.{Holds-pushed}
use Rattle.gb_calls.specs.Parts.{byte_there}
use Rattle.gb_calls.specs.Resuming.{given_from, given_addresses}
use Rattle.gb_calls.specs.Told.{byte_or_any, named, shared, have_some, told_of, told, is_left_of, is_left, given_back, place_back, val_back, cell_back}

-- ---- what an origin names

-- the caller's state, in the program, means the machine as its callee was entered, which has these kept addresses
pub record IsCaller (program : Program) (kept : List ℕ) (s : AbsState) (entry : Activation) (base : ℕ) (called : Activation) : Type 0 where
  pub means : Means s entry base called.entered
  pub located : is_located s ≡ true
  pub program_is : entry.program ≡ program
  pub names : called.kept ≡ kept

Holds-return :
    (s : AbsState) (entry : Activation) (base : ℕ) (called : Activation) (o : Option Halves)
    → Means s entry base called.entered → is_located s ≡ true → youngest s ≡ o
    → Holds (word_or_any o).high entry (peek called.entered.storage (called.entered.processor.sp + 1))
    × Holds (word_or_any o).low entry (peek called.entered.storage called.entered.processor.sp)
Holds-return s entry base called None m set is = (Holds-any entry _ (m.parts.memory.bytes _), Holds-any entry _ (m.parts.memory.bytes _))
Holds-return s entry base called (Some w) m set is =
    let top = AreTop-youngest s w entry called.entered.processor.sp base called.entered.storage is (m.parts.stack set) m.parts.items in
    (top.high, top.low)

Holds-kept :
    (program : Program) (kept : List ℕ) (s : AbsState) (entry : Activation) (base : ℕ) (called : Activation) (i : ℕ) (o : Option ℕ)
    → IsCaller program kept s entry base called → slice_get kept i ≡ o
    → Holds (byte_or_any program s o) entry (peek called.entered.storage (slice_index called.kept i))
Holds-kept program kept s entry base called i None c is = Holds-any entry _ (c.means.parts.memory.bytes _)
Holds-kept program kept s entry base called i (Some a) c is =
    let at : slice_index called.kept i ≡ a = ap (λ xs. slice_index xs i) c.names ∙ get_or_from_slice_get kept i a 0 is in
    subst (λ n. Holds (byte_there program s a) entry (peek called.entered.storage n)) (sym at)
    (subst (λ p. Holds (byte_there p s a) entry (peek called.entered.storage a)) c.program_is (Holds-byte s a entry base called.entered c.means))

pub Holds-named :
    (program : Program) (kept : List ℕ) (s : AbsState) (entry : Activation) (base : ℕ) (called : Activation) (o : Origin) (x : ℕ)
    → IsCaller program kept s entry base called → x ≤ 255 → x ≡ origin_value o called → Holds (named program kept s o) entry x
Holds-named program kept s entry base called origin.A x c byte e = subst (Holds s.core.registers.a entry) (sym e) (c.means.parts.core.registers register.A)
Holds-named program kept s entry base called origin.F x c byte e =
    subst (Holds (flags_val s.core.flags) entry) (sym e) (Holds-pushed s.core.flags entry called.entered.processor.flags c.means.parts.core.flags)
Holds-named program kept s entry base called origin.B x c byte e = subst (Holds s.core.registers.b entry) (sym e) (c.means.parts.core.registers register.B)
Holds-named program kept s entry base called origin.C x c byte e = subst (Holds s.core.registers.c entry) (sym e) (c.means.parts.core.registers register.C)
Holds-named program kept s entry base called origin.D x c byte e = subst (Holds s.core.registers.d entry) (sym e) (c.means.parts.core.registers register.D)
Holds-named program kept s entry base called origin.E x c byte e = subst (Holds s.core.registers.e entry) (sym e) (c.means.parts.core.registers register.E)
Holds-named program kept s entry base called origin.H x c byte e = subst (Holds s.core.registers.h entry) (sym e) (c.means.parts.core.registers register.H)
Holds-named program kept s entry base called origin.L x c byte e = subst (Holds s.core.registers.l entry) (sym e) (c.means.parts.core.registers register.L)
Holds-named program kept s entry base called origin.Ie x c byte e = subst (Holds s.core.ie entry) (sym e) c.means.parts.core.ie
Holds-named program kept s entry base called origin.ReturnHigh x c byte e =
    subst (Holds (word_or_any (youngest s)).high entry) (sym e) (Holds-return s entry base called (youngest s) c.means c.located refl).0
Holds-named program kept s entry base called origin.ReturnLow x c byte e =
    subst (Holds (word_or_any (youngest s)).low entry) (sym e) (Holds-return s entry base called (youngest s) c.means c.located refl).1
Holds-named program kept s entry base called (origin.Kept i) x c byte e =
    subst (Holds (byte_or_any program s (slice_get kept i)) entry) (sym e) (Holds-kept program kept s entry base called i (slice_get kept i) c refl)
Holds-named program kept s entry base called origin.MarkHigh x c byte e = Holds-any entry x byte
Holds-named program kept s entry base called origin.MarkLow x c byte e = Holds-any entry x byte

-- ---- by the rules of version 4

In-interval : (v : Val) (entry : Activation) (x : ℕ) → Holds v entry x → In (interval_of v) x
In-interval v entry x h = record { least = h.least; most = h.most; low = Has-same v.low_bits x v.lo h.low }

Holds-left : (v : Val) (i : StridedInterval) (entry : Activation) (x : ℕ) → Holds v entry x → In i x → Holds (left_of v (Some i)) entry x
Holds-left v i entry x h m = record { least = m.least; most = m.most; low = same-Has i.count x i.lo m.low; origin = h.origin }

Holds-shared :
    (v w : Val) (entry : Activation) (x : ℕ) → Holds v entry x → In (interval_of w) x → Holds (shared v w) entry x × (have_some v w ≡ true)
Holds-shared v w entry x h m =
    choose (cut (interval_of v) (interval_of w)) ((cut_leaves (interval_of v) (interval_of w) _ refl).keeps x (record { first = In-interval v entry x h; second = m }))
  where
    choose : (o : Option StridedInterval) → InSome o x → Holds (left_of v o) entry x × (is_some o ≡ true)
    choose None i = absurd i
    choose (Some i) k = (Holds-left v i entry x h k, refl)

-- no copy
Holds-plain : (v : Val) (called entry : Activation) (x : ℕ) → v.origin ≡ None → Holds v called x → Holds v entry x
Holds-plain v called entry x none h = record { least = h.least; most = h.most; low = h.low; origin = λ o is. cc }

-- the caller is told a value that holds, and there is one
pub record IsTold (program : Program) (kept : List ℕ) (s : AbsState) (entry : Activation) (v : Val) (x : ℕ) : Type 0 where
  pub holds : Holds (told program kept s v) entry x
  pub left : is_left program kept s v ≡ true

pub IsTold-exit :
    (program : Program) (kept : List ℕ) (s : AbsState) (entry : Activation) (base : ℕ) (called : Activation)
    → IsCaller program kept s entry base called → (v : Val) (x : ℕ) → x ≤ 255 → Holds v called x → IsTold program kept s entry v x
unfolding told is_left
IsTold-exit program kept s entry base called c v x byte h = let both = choose v.origin refl in record { holds = both.0; left = both.1 }
  where
    choose : (p : Option Origin) → v.origin ≡ p → Holds (told_of program kept s p v) entry x × (is_left_of program kept s p v ≡ true)
    choose None is = (Holds-plain v called entry x is h, refl)
    choose (Some o) is =
        Holds-shared (named program kept s o) v entry x (Holds-named program kept s entry base called o x c byte (h.origin o is)) (In-interval v called x h)

-- the same of each value, where the rules are of version 4
abbrev pub Tells : Program → Bool → List ℕ → AbsState → Activation → Activation → Type 0
Tells program whole kept s entry called =
    whole ≡ true → (v : Val) (x : ℕ) → x ≤ 255 → Holds v called x → IsTold program kept s entry v x

-- ---- by all rules

same_own : (p : Option Origin) (o : Origin) → covers_origin p (Some o) ≡ true → p ≡ Some o
same_own None o h = cc
same_own (Some q) o h = ap Some (same_origin q o h)

-- what an exit gives back is what its procedure was entered with
pub own-value : (o : Origin) (v : Val) (called : Activation) (n : ℕ) → is_own o v ≡ true → Holds v called n → n ≡ origin_value o called
own-value o v called n is h = h.origin o (same_own v.origin o is)

Holds-given_back :
    (o : Origin) (caller exit : Val) (entry called : Activation) (n : ℕ)
    → Holds caller entry (origin_value o called) → Holds exit called n → Holds (given_back o caller exit) entry n
Holds-given_back o caller exit entry called n m h = choose (is_own o exit) refl
  where
    choose : (b : Bool) → is_own o exit ≡ b → Holds (cond b caller (without_origin exit)) entry n
    choose true is = subst (λ y. Holds caller entry y) (sym (own-value o exit called n is h)) m
    choose false is = Holds-without_origin exit called entry n h

pub Holds-place_back :
    (program : Program) (whole : Bool) (kept : List ℕ) (s : AbsState) (o : Origin) (exit : Val) (entry called : Activation) (n : ℕ)
    → Tells program whole kept s entry called → Holds (named program kept s o) entry (origin_value o called) → n ≤ 255 → Holds exit called n
    → Holds (place_back program whole kept s o exit) entry n
Holds-place_back program false kept s o exit entry called n t m byte h = Holds-given_back o (named program kept s o) exit entry called n m h
Holds-place_back program true kept s o exit entry called n t m byte h = (t refl exit n byte h).holds

pub Holds-val_back :
    (program : Program) (whole : Bool) (kept : List ℕ) (s : AbsState) (exit : Val) (entry called : Activation) (n : ℕ)
    → Tells program whole kept s entry called → n ≤ 255 → Holds exit called n → Holds (val_back program whole kept s exit) entry n
Holds-val_back program false kept s exit entry called n t byte h = Holds-without_origin exit called entry n h
Holds-val_back program true kept s exit entry called n t byte h = (t refl exit n byte h).holds

pub AreItems-back :
    (program : Program) (whole : Bool) (kept : List ℕ) (s : AbsState) (items : List Val) (entry called : Activation) (top : ℕ) (m : Storage)
    → Tells program whole kept s entry called → IsMemory m → AreItems items called top m → AreItems (map (val_back program whole kept s) items) entry top m
AreItems-back program whole kept s [] entry called top m t is h = tt
AreItems-back program whole kept s (v ∷ items) entry called top m t is h = (
  Holds-val_back program whole kept s v entry called (peek m (top - 1)) t (is.bytes (top - 1)) h.0,
  AreItems-back program whole kept s items entry called (top - 1) m t is h.1,
)

pub AreCells-back :
    (program : Program) (whole : Bool) (kept : List ℕ) (s : AbsState) (cells : List Cell) (entry called : Activation) (m : Storage)
    → Tells program whole kept s entry called → IsMemory m → AreCells cells called m → AreCells (map (cell_back program whole kept s) cells) entry m
AreCells-back program whole kept s [] entry called m t is h = tt
AreCells-back program whole kept s (c ∷ cells) entry called m t is h = (
  Holds-val_back program whole kept s c.val entry called (peek m c.address) t (is.bytes c.address) h.0,
  AreCells-back program whole kept s cells entry called m t is h.1,
)

-- ---- bytes that are given back

pub IsGiven-from :
    (i : ℕ) (kept : List ℕ) (cells : List Cell) (called : Activation) (m : Storage)
    → IsMemory m → AreCells cells called m → ((j : ℕ) → slice_index called.kept (i + j) ≡ slice_index kept j)
    → (a : ℕ) → is_given (given_from i kept cells) a ≡ true → peek m a ≡ peek called.entered.storage a
IsGiven-from i [] cells called m is h at a e = cc
IsGiven-from i (b ∷ kept) cells called m is h at a e =
    choose (is_own (origin.Kept i) (cell_at b cells)) refl e (λ next. IsGiven-from (i + 1) kept cells called m is h next a)
  where
    later : (j : ℕ) → slice_index called.kept (i + 1 + j) ≡ slice_index kept j
    later j = let next : i + suc j ≡ i + 1 + j = omega arith in ap (slice_index called.kept) (sym next) ∙ at (suc j)

    here : slice_index called.kept i ≡ b
    here = let none : i + 0 ≡ i = omega arith in ap (slice_index called.kept) (sym none) ∙ at 0

    choose :
        (c : Bool) → is_own (origin.Kept i) (cell_at b cells) ≡ c
        → is_given (cond c (b ∷ given_from (i + 1) kept cells) (given_from (i + 1) kept cells)) a ≡ true
        → (((j : ℕ) → slice_index called.kept (i + 1 + j) ≡ slice_index kept j) → is_given (given_from (i + 1) kept cells) a ≡ true → peek m a ≡ peek called.entered.storage a)
        → peek m a ≡ peek called.entered.storage a
    choose false own k rest = rest later k
    choose true own k rest =
        elim (or_cases (b == a) (is_given (given_from (i + 1) kept cells) a) k) [
          | inl same ↦
              let back : peek m b ≡ peek called.entered.storage b =
              own-value (origin.Kept i) (cell_at b cells) called (peek m b) own (Holds-cell cells b called m is h) ∙ ap (peek called.entered.storage) here in
              subst (λ n. peek m n ≡ peek called.entered.storage n) (eqb-true b a same) back
          | inr given ↦ rest later given
        ]

pub IsGiven-back :
    (kept : List ℕ) (cells : List Cell) (called : Activation) (m : Storage)
    → IsMemory m → AreCells cells called m → called.kept ≡ kept
    → (a : ℕ) → is_given (given_addresses kept cells) a ≡ true → peek m a ≡ peek called.entered.storage a
unfolding given_addresses
IsGiven-back kept cells called m is h names a e = IsGiven-from 0 kept cells called m is h (λ j. let none : 0 + j ≡ j = omega arith in ap (slice_index called.kept) none ∙ ap (λ xs. slice_index xs j) names) a e
