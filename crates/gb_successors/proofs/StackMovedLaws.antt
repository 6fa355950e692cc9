-- The states that a move of the stack leaves stand for the machine behind it.
use Rattle.std.proofs.Common.{◌≡◌, ℕ, ◌+◌, ◌-◌, ◌%◌, ◌≤◌, false, cond, nat_lt, List, ◌++◌, length, take, replicate, Some, None, refl, sym, ◌∙◌, ap, subst, arith, length-append, length-take-le, true, ◌<◌}
use Rattle.std.proofs.lemmas.List.{length-replicate, length-take}
use Rattle.std.proofs.lemmas.Bool.Decides.{nat_tests}
use Rattle.gb_ops.specs.declared.machine.Region.{Region}
use Rattle.gb_ops.specs.declared.registers.Processor.{Processor}
use Rattle.gb_ops.specs.Play.{MState}
use Rattle.gb_domain.specs.declared.rules.Rules.{Rules}
use Rattle.gb_domain.specs.declared.rules.Rules.TheVariants.{Simple, Extended}
use Rattle.gb_domain.specs.declared.setting.Setting.{Setting}
use Rattle.gb_domain.specs.declared.types.Val.{Val}
use Rattle.gb_domain.specs.declared.types.Core.{Core}
use Rattle.gb_domain.specs.Areas.{IsRegion}
use Rattle.gb_domain.specs.Limits.{item_room}
use Rattle.gb_domain.specs.Types.{AbsState}
use Rattle.gb_product.specs.Below.gb_vals.Vals.{any_val}
use Rattle.gb_product.specs.Below.gb_abs.Bytes.{without_newest, with_any_bytes, resized}
use Rattle.gb_product.specs.Below.gb_abs.Origins.{core_without_origins}
use Rattle.gb_product.specs.Below.gb_abs.Meaning.{Activation, MeansCore, MeansParts}
use Rattle.gb_product.specs.Below.gb_abs.Operations.{with_core}
use Rattle.gb_product.specs.Below.gb_abs.Stack.{AreInRegion}
use Rattle.gb_product.proofs.Below.gb_abs_laws.ByteLaws.{taking_sound, appending_sound, resizing_sound}
use Rattle.gb_product.proofs.Below.gb_abs_laws.OriginLaws.{AreCells-without_origins, MeansCore-without_origins}
use Rattle.gb_product.proofs.Below.gb_abs_laws.StackLaws.{MeansParts-with_core}
use Rattle.gb_product.proofs.Below.gb_abs_laws.LocationLaws.{located-set}
use Rattle.gb_domain.specs.declared.pairs.Bounds.{Bounds}
use Rattle.gb_successors.specs.declared.stacks.Stack.{Stack}
use Rattle.gb_successors.specs.declared.stacks.StackMove.{StackMove}
use Rattle.gb_successors.specs.declared.stacks.StackMove.TheVariants as move
use Rattle.gb_successors.specs.Sound.{HasRoomFor, HoldsBytes, bytes_moved}
use Rattle.gb_successors.specs.Stacks.{appended_if_room, set_if_room, begun_anew, with_aside, with_stack_moved, core_set, moved_core}
use Rattle.gb_successors.proofs.SpMoveLaws.{IsMovedTo}

-- ---- what is held

not_less : (n m : ℕ) → m ≤ n → nat_lt n m ≡ false
not_less n m h = grind (arith, nat_tests)

pub length-taken : (n : ℕ) (items : List Val) → length (take (length items - n) items) ≡ length items - n
length-taken n items = length-take-le (length items - n) items (omega arith)

pub length-appended : (n : ℕ) (items : List Val) → length (items ++ replicate n any_val) ≡ length items + n
length-appended n items =
    let whole = length-append items (replicate n any_val) in
    let more = length-replicate n any_val in
    omega arith

pub length-resized : (n : ℕ) (items : List Val) → length (take n items ++ replicate (n - length items) any_val) ≡ n
length-resized n items =
    let whole = length-append (take n items) (replicate (n - length items) any_val) in
    let more = length-replicate (n - length items) any_val in
    let kept = length-take n items in
    grind (arith, nat_tests)

-- SP is set by the rules of version 3, which hold up to 255 bytes
few_fit : (r : Rules) (n : ℕ) → r ≡ Extended → n ≤ 255 → nat_lt (item_room r) n ≡ false
unfolding item_room
few_fit Extended n h few = not_less 255 n few
few_fit Simple n h few = absurd (let bad : Simple ≡ Extended = h in cc)

pub set-if_room : (z : Setting) (n : ℕ) (s : AbsState) → z.rules ≡ Extended → n ≤ 255 → set_if_room z n s ≡ resized n s
unfolding set_if_room
set-if_room z n s h few = ap (λ b. cond b s (resized n s)) (few_fit z.rules n h few)

appended-if_room : (z : Setting) (n : ℕ) (s : AbsState) → nat_lt (item_room z.rules) (length s.items + n) ≡ false → appended_if_room z n s ≡ with_any_bytes n s
unfolding appended_if_room
appended-if_room z n s h = ap (λ b. cond b s (with_any_bytes n s)) h

-- ---- the machine with its effect's processor, whose storage is as before

-- states behind a move, and the machine there
pub record IsMoved (region : Region) (m : StackMove) (s t : AbsState) (entry : Activation) (base : ℕ) (y : MState) : Type 0 where
  pub means : MeansParts t entry base y
  pub room : AreInRegion region base (length t.items)
  pub bytes : length t.items ≡ bytes_moved m (length s.items)

-- what a core holds of, wherever SP is
pub taken_off :
    (z : Setting) (region : Region) (n : ℕ) (s : AbsState) (core : Core) (entry : Activation) (base : ℕ) (x : MState) (p : Processor)
    → MeansParts s entry base x → MeansCore core entry (record x { processor = p }) → core.stack_set ≡ s.core.stack_set → HoldsBytes n s
    → AreInRegion region base (length s.items) → IsRegion region → p.sp ≡ (x.processor.sp + n) % 65536
    → IsMoved region (move.Take n) s (with_core (with_stack_moved z (move.Take n) s) (moved_core (move.Take n) core)) entry base (record x { processor = p })
unfolding with_stack_moved moved_core without_newest
taken_off z region n s core entry base x p m c keeps holds room is sp =
    let sound = taking_sound n s (Some (without_newest n s)) (sym (ap (λ b. cond b None (Some (without_newest n s))) (not_less (length s.items) n holds.held))) in
    let moved = sound.gives region entry base x m holds.located room is in
    let fewer = length-taken n s.items in
    let first = room.first in
    record {
      means = MeansParts-with_core (without_newest n s) core entry base _ (record x { processor = p }) moved c refl refl sp (λ on. located-set s.summary.aside s.core.stack_set holds.located);
      room = record { first = omega arith; last = room.last };
      bytes = omega arith;
    }

longer : (n : ℕ) (s : AbsState) → length (with_any_bytes n s).items ≡ length s.items + n
unfolding with_any_bytes
longer n s = length-appended n s.items

pub put_on :
    (z : Setting) (region : Region) (n : ℕ) (s : AbsState) (core : Core) (entry : Activation) (base : ℕ) (x : MState) (p : Processor)
    → MeansParts s entry base x → MeansCore core entry (record x { processor = p }) → HasRoomFor n z region s base
    → IsRegion region → p.sp ≡ (x.processor.sp + (65536 - n)) % 65536
    → IsMoved region (move.Append n) s (with_core (with_stack_moved z (move.Append n) s) (moved_core (move.Append n) core)) entry base (record x { processor = p })
unfolding with_stack_moved moved_core with_any_bytes
put_on z region n s core entry base x p m c has is sp =
    let sound = appending_sound n (item_room z.rules) s (Some (with_any_bytes n s)) (sym (ap (λ b. cond b None (Some (with_any_bytes n s))) has.held)) in
    let moved = sound.gives region entry base x m has.located has.room is in
    subst (λ (t : AbsState). IsMoved region (move.Append n) s (with_core t core) entry base (record x { processor = p })) (sym (appended-if_room z n s has.held))
    (record {
      means = MeansParts-with_core (with_any_bytes n s) core entry base _ (record x { processor = p }) moved c refl refl sp (λ on. located-set s.summary.aside s.core.stack_set has.located);
      room = subst (AreInRegion region base) (sym (longer n s)) has.room;
      bytes = longer n s;
    })

MeansCore-set : (core : Core) (entry : Activation) (x : MState) → MeansCore core entry x → MeansCore (core_set core) entry x
MeansCore-set core entry x m =
    record {
      registers = m.registers;
      flags = m.flags;
      ie = m.ie;
      ime = m.ime;
      controller = m.controller;
      count = m.count;
      locked = m.locked;
      stopped = m.stopped;
    }

-- SP is set so many bytes below a base
set_below :
    (region : Region) (n : ℕ) (s : AbsState) (core : Core) (entry : Activation) (base : ℕ) (x : MState) (p : Processor)
    → MeansParts s entry base x → MeansCore core entry (record x { processor = p }) → AreInRegion region base n → IsRegion region → p.sp ≡ base - n
    → IsMoved region (move.Set n) s (with_core (resized n s) (core_set core)) entry base (record x { processor = p })
unfolding resized
set_below region n s core entry base x p m c room is sp =
    let sound = resizing_sound n n s (Some (resized n s)) (sym (ap (λ b. cond b None (Some (resized n s))) (not_less n n (omega arith)))) in
    let moved = sound.gives region entry base x m room is in
    let left = length-resized n s.items in
    record {
      means = MeansParts-with_core (resized n s) (core_set core) entry base _ (record x { processor = p }) moved (MeansCore-set core entry _ c) refl refl sp (λ on. refl);
      room = subst (AreInRegion region base) (sym left) room;
      bytes = omega arith;
    }

-- SP isn't put aside then
same_resized : (n : ℕ) (s : AbsState) → resized n (with_aside None s) ≡ resized n s
unfolding resized
same_resized n s = refl

pub set_own :
    (k : Stack) (n : ℕ) (s : AbsState) (core : Core) (entry : Activation) (base : ℕ) (x : MState) (p : Processor) → k.setting.rules ≡ Extended
    → MeansParts s entry base x → MeansCore core entry (record x { processor = p }) → AreInRegion k.region base n → IsRegion k.region → IsMovedTo k base (move.Set n) x.processor.sp p.sp
    → IsMoved k.region (move.Set n) s (with_core (with_stack_moved k.setting (move.Set n) s) (moved_core (move.Set n) core)) entry base (record x { processor = p })
unfolding with_stack_moved moved_core
set_own k n s core entry base x p extended m c room is to =
    let below = to room is in
    subst (λ (t : AbsState). IsMoved k.region (move.Set n) s (with_core t (core_set core)) entry base (record x { processor = p })) (sym (set-if_room k.setting n (with_aside None s) extended below.few ∙ same_resized n s))
    (set_below k.region n s core entry base x p m c room is below.at)

-- ---- SP is put aside

never_located : {X : Type 0} → false ≡ true → X
never_located e = cc

pub put_aside :
    (k : Stack) (b : Bounds) (s : AbsState) (core : Core) (entry : Activation) (base : ℕ) (x : MState) (p : Processor)
    → MeansParts s entry base x → MeansCore core entry (record x { processor = p }) → AreInRegion k.region base (length s.items) → p.sp < 65536
    → IsMoved k.region (move.Aside b) s (with_core (with_stack_moved k.setting (move.Aside b) s) (moved_core (move.Aside b) core)) entry base (record x { processor = p })
unfolding with_stack_moved moved_core
put_aside k b s core entry base x p m c room small =
    record {
      means = record { core = c; memory = m.memory; sp = small; stack = λ e. never_located e; items = m.items; cells = m.cells };
      room = room;
      bytes = refl;
    }

-- ---- main begins anew

-- with nothing on a stack that isn't set
abbrev forgotten : AbsState → AbsState
forgotten s = record (begun_anew (with_aside None s)) { core = record (core_without_origins s.core) { stack_set = false } }

MeansCore-unset : (core : Core) (entry : Activation) (x : MState) → MeansCore core entry x → MeansCore (record core { stack_set = false }) entry x
MeansCore-unset core entry x m =
    record {
      registers = m.registers;
      flags = m.flags;
      ie = m.ie;
      ime = m.ime;
      controller = m.controller;
      count = m.count;
      locked = m.locked;
      stopped = m.stopped;
    }

MeansParts-forgotten : (s : AbsState) (entry other : Activation) (base top : ℕ) (x : MState) → other.program ≡ entry.program → MeansParts s entry base x → MeansParts (forgotten s) other top x
MeansParts-forgotten s entry other base top x same m =
    record {
      core = MeansCore-unset (core_without_origins s.core) other x (MeansCore-without_origins s.core entry other x (ap (λ p. p.kind) (sym same)) m.core);
      memory = m.memory;
      sp = m.sp;
      stack = λ on. absurd (cc);
      items = tt;
      cells = AreCells-without_origins s.cells entry other x.storage m.cells;
    }

same_forgotten : (n : ℕ) (s : AbsState) (core : Core) → with_core (resized n (begun_anew (with_aside None s))) core ≡ with_core (resized n (forgotten s)) core
unfolding resized
same_forgotten n s core = refl

pub set_anew :
    (k : Stack) (n : ℕ) (s : AbsState) (core : Core) (entry other : Activation) (base : ℕ) (x : MState) (p : Processor) → other.program ≡ entry.program → k.setting.rules ≡ Extended
    → MeansParts s entry base x → MeansCore core entry (record x { processor = p }) → AreInRegion k.region (k.region.last + 1) n → IsRegion k.region
    → IsMovedTo k base (move.Restart n) x.processor.sp p.sp
    → IsMoved k.region (move.Restart n) s (with_core (with_stack_moved k.setting (move.Restart n) s) (moved_core (move.Restart n) core)) other (k.region.last + 1) (record x { processor = p })
unfolding with_stack_moved moved_core
set_anew k n s core entry other base x p same extended m c room is to =
    let base_of_main : ℕ = k.region.last + 1 in
    let done =
    set_below k.region n (forgotten s) (core_without_origins core) other base_of_main x p (MeansParts-forgotten s entry other base base_of_main x same m)
    (MeansCore-without_origins core entry other (record x { processor = p }) (ap (λ p. p.kind) (sym same)) c) room is to.at in
    subst (λ (t : AbsState). IsMoved k.region (move.Restart n) s t other (k.region.last + 1) (record x { processor = p }))
    (sym (ap (λ (t : AbsState). with_core t (core_set (core_without_origins core))) (set-if_room k.setting n (begun_anew (with_aside None s)) extended to.few) ∙ same_forgotten n s (core_set (core_without_origins core))))
    (record { means = done.means; room = done.room; bytes = done.bytes })
