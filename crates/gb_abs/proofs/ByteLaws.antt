-- Bytes of the stack, taken off and put on, and what is held of them where SP is set: what the machine's stack holds then.
use Rattle.std.proofs.Common.{◌≡◌, ℕ, zero, suc, ◌+◌, ◌-◌, ◌%◌, ◌≤◌, ◌<◌, Bool, true, false, nat_lt, cond, List, [], ◌∷◌, ◌++◌, length, take, replicate, Option, Some, None, refl, sym, ap, subst, arith, length-append, length-take-le}
use Rattle.std.proofs.lemmas.List.{length-replicate, length-take}
use Rattle.std.specs.Prelude.{IfSome}
use Rattle.std.proofs.lemmas.Bool.Decides.{nat_tests}
use Rattle.gb_ops.specs.declared.machine.Region.{Region}
use Rattle.gb_ops.specs.Effects.{with_sp}
use Rattle.gb_ops.specs.Memory.{Storage}
use Rattle.gb_ops.specs.Play.{MState}
use Rattle.gb_domain.specs.declared.types.Val.{Val}
use Rattle.gb_domain.specs.declared.types.Core.{Core}
use Rattle.gb_domain.specs.Types.{AbsState}
use Rattle.gb_domain.specs.Areas.{IsRegion}
use Rattle.gb_vals.specs.Vals.{any_val}
use Rattle.gb_abs.specs.Meaning.{Activation, AreItems, MeansCore, MeansParts, IsMemory, is_located}
use Rattle.gb_abs.specs.Stack.{AreInRegion}
use Rattle.gb_abs.specs.Bytes.{without_newest, with_any_bytes, resized, IsSoundTaking, IsSoundAppending, IsSoundResizing}
use Rattle.gb_abs.proofs.CoveringLaws.{Holds-any}
use Rattle.gb_abs.proofs.StackLaws.{MeansCore-sp}

-- ---- lists

replicate-next : (c : ℕ) → 0 < c → any_val ∷ replicate (c - 1) any_val ≡ replicate c any_val
replicate-next zero h = absurd (omega arith)
replicate-next (suc c) h = let e : suc c - 1 ≡ c = omega arith in rw e refl

pub appended_any : (xs : List Val) (c : ℕ) → 0 < c → (xs ++ any_val ∷ []) ++ replicate (c - 1) any_val ≡ xs ++ replicate c any_val
appended_any [] c h = replicate-next c h
appended_any (x ∷ xs) c h = ap (λ ys. x ∷ ys) (appended_any xs c h)

length-taken : (n : ℕ) (xs : List Val) → n - length (take n xs) ≡ n - length xs
length-taken n xs = let kept = length-take n xs in grind (arith, nat_tests)

pub resized_items :
    (n : ℕ) (xs : List Val) → take n xs ++ replicate (n - length (take n xs)) any_val ≡ take n xs ++ replicate (n - length xs) any_val
resized_items n xs = ap (λ c. take n xs ++ replicate c any_val) (length-taken n xs)

-- ---- items

AreItems-take : (j : ℕ) (items : List Val) (entry : Activation) (top : ℕ) (s : Storage) → AreItems items entry top s → AreItems (take j items) entry top s
AreItems-take zero [] entry top s h = tt
AreItems-take zero (v ∷ items) entry top s h = tt
AreItems-take (suc j) [] entry top s h = tt
AreItems-take (suc j) (v ∷ items) entry top s h = (h.0, AreItems-take j items entry (top - 1) s h.1)

AreItems-any : (k : ℕ) (entry : Activation) (top : ℕ) (s : Storage) → IsMemory s → AreItems (replicate k any_val) entry top s
AreItems-any zero entry top s m = tt
AreItems-any (suc k) entry top s m = (Holds-any entry _ (m.bytes (top - 1)), AreItems-any k entry (top - 1) s m)

AreItems-behind :
    (items : List Val) (k : ℕ) (entry : Activation) (top : ℕ) (s : Storage) → IsMemory s → AreItems items entry top s → AreItems (items ++ replicate k any_val) entry top s
AreItems-behind [] k entry top s m h = AreItems-any k entry top s m
AreItems-behind (v ∷ items) k entry top s m h = (h.0, AreItems-behind items k entry (top - 1) s m h.1)

-- ---- the operations

region_end : (region : Region) → IsRegion region → region.last < 0xFFFF
region_end region r = let area = r.area in grind (arith, nat_tests)

MeansParts-without_newest :
    (k : ℕ) (s : AbsState) (region : Region) (entry : Activation) (base : ℕ) (x : MState) → k ≤ length s.items → MeansParts s entry base x → is_located s ≡ true
    → AreInRegion region base (length s.items) → IsRegion region
    → MeansParts (without_newest k s) entry base (record x { processor = with_sp x.processor ((x.processor.sp + k) % 65536) })
unfolding without_newest
MeansParts-without_newest k s region entry base x some m set room r =
    let stack = m.stack set in
    let last = room.last in
    let end = region_end region r in
    let left : length (take (length s.items - k) s.items) ≡ length s.items - k = length-take-le (length s.items - k) s.items (omega arith) in
    record {
      core = MeansCore-sp s.core entry x ((x.processor.sp + k) % 65536) m.core;
      memory = m.memory;
      sp = omega arith;
      stack = λ e. omega arith;
      items = AreItems-take (length s.items - k) s.items entry base x.storage m.items;
      cells = m.cells;
    }

MeansParts-with_any_bytes :
    (k : ℕ) (s : AbsState) (region : Region) (entry : Activation) (base : ℕ) (x : MState) → MeansParts s entry base x → is_located s ≡ true
    → AreInRegion region base (length s.items + k) → IsRegion region
    → MeansParts (with_any_bytes k s) entry base (record x { processor = with_sp x.processor ((x.processor.sp + (65536 - k)) % 65536) })
unfolding with_any_bytes
MeansParts-with_any_bytes k s region entry base x m set room r =
    let stack = m.stack set in
    let first = room.first in
    let last = room.last in
    let end = region_end region r in
    let whole = length-append s.items (replicate k any_val) in
    let more = length-replicate k any_val in
    record {
      core = MeansCore-sp s.core entry x ((x.processor.sp + (65536 - k)) % 65536) m.core;
      memory = m.memory;
      sp = omega arith;
      stack = λ e. omega arith;
      items = AreItems-behind s.items k entry base x.storage m.memory m.items;
      cells = m.cells;
    }

MeansCore-set : (core : Core) (entry : Activation) (x : MState) → MeansCore core entry x → MeansCore (record core { stack_set = true }) entry x
MeansCore-set core entry x m =
    record {
      registers = m.registers;
      flags = m.flags;
      ie = m.ie;
      ime = m.ime;
      controller = m.controller;
      count = m.count;
      locked = m.locked;
      stopped = m.stopped;
    }

length-resized : (n : ℕ) (items : List Val) → length (take n items ++ replicate (n - length items) any_val) ≡ n
length-resized n items =
    let whole = length-append (take n items) (replicate (n - length items) any_val) in
    let more = length-replicate (n - length items) any_val in
    let kept = length-take n items in
    grind (arith, nat_tests)

MeansParts-resized :
    (n : ℕ) (s : AbsState) (region : Region) (entry : Activation) (base : ℕ) (x : MState)
    → MeansParts s entry base x → AreInRegion region base n → IsRegion region
    → MeansParts (resized n s) entry base (record x { processor = with_sp x.processor (base - n) })
unfolding resized
MeansParts-resized n s region entry base x m room r =
    let first = room.first in
    let last = room.last in
    let end = region_end region r in
    let whole = length-resized n s.items in
    record {
      core = MeansCore-set s.core entry _ (MeansCore-sp s.core entry x (base - n) m.core);
      memory = m.memory;
      sp = omega arith;
      stack = λ e. omega arith;
      items = AreItems-behind (take n s.items) (n - length s.items) entry base x.storage m.memory (AreItems-take n s.items entry base x.storage m.items);
      cells = m.cells;
    }

pub taking_sound :
    (k : ℕ) (s : AbsState) (o : Option AbsState) → o ≡ cond (nat_lt (length s.items) k) None (Some (without_newest k s)) → IfSome o (λ after. IsSoundTaking k s after)
taking_sound k s o e = subst (λ r. IfSome r (λ after. IsSoundTaking k s after)) (sym e) (choose (nat_lt (length s.items) k) refl)
  where
    choose : (b : Bool) → nat_lt (length s.items) k ≡ b → IfSome (cond b None (Some (without_newest k s))) (λ after. IsSoundTaking k s after)
    choose true h = tt
    choose false h =
        let some : k ≤ length s.items = grind (arith, nat_tests) in
        record { gives = λ region entry base x m set room r. MeansParts-without_newest k s region entry base x some m set room r }

pub appending_sound :
    (k room : ℕ) (s : AbsState) (o : Option AbsState) → o ≡ cond (nat_lt room (length s.items + k)) None (Some (with_any_bytes k s)) → IfSome o (λ after. IsSoundAppending k s after)
appending_sound k room s o e = subst (λ r. IfSome r (λ after. IsSoundAppending k s after)) (sym e) (choose (nat_lt room (length s.items + k)))
  where
    choose : (b : Bool) → IfSome (cond b None (Some (with_any_bytes k s))) (λ after. IsSoundAppending k s after)
    choose true = tt
    choose false = record { gives = λ region entry base x m set inside r. MeansParts-with_any_bytes k s region entry base x m set inside r }

pub resizing_sound :
    (n room : ℕ) (s : AbsState) (o : Option AbsState) → o ≡ cond (nat_lt room n) None (Some (resized n s)) → IfSome o (λ after. IsSoundResizing n s after)
resizing_sound n room s o e = subst (λ r. IfSome r (λ after. IsSoundResizing n s after)) (sym e) (choose (nat_lt room n))
  where
    choose : (b : Bool) → IfSome (cond b None (Some (resized n s))) (λ after. IsSoundResizing n s after)
    choose true = tt
    choose false = record { gives = λ region entry base x m inside r. MeansParts-resized n s region entry base x m inside r }
