-- What leaves SP and interrupts alone leaves a stack aside that is put aside; where SP is put aside, interrupts are off.
use Rattle.std.proofs.Common.{◌≡◌, ℕ, ◌-◌, ◌≤◌, Bool, true, false, not, cond, nat_lt, ◌⊎◌, inl, inr, Option, Some, None, refl, sym, ◌∙◌, ap, subst}
use Rattle.gb_ops.specs.declared.machine.Effect.{Effect}
use Rattle.gb_ops.specs.declared.op.Indirect.{Indirect}
use Rattle.gb_ops.specs.declared.op.Indirect.TheVariants as indirect
use Rattle.gb_ops.specs.declared.op.Op.{Op}
use Rattle.gb_ops.specs.declared.op.Op.TheVariants as op
use Rattle.gb_ops.specs.declared.op.Operand.{Operand}
use Rattle.gb_ops.specs.declared.op.Operand.TheVariants as operand
use Rattle.gb_ops.specs.declared.op.Pair.{Pair}
use Rattle.gb_ops.specs.declared.op.Pair.TheVariants as pair
use Rattle.gb_ops.specs.declared.op.StackPair.{StackPair}
use Rattle.gb_ops.specs.declared.op.StackPair.TheVariants as stack
use Rattle.gb_ops.specs.declared.registers.Ime.{Ime}
use Rattle.gb_ops.specs.declared.registers.Ime.TheVariants.{Off, Pending, On}
use Rattle.gb_ops.specs.declared.registers.Processor.{Processor}
use Rattle.gb_ops.specs.Effects as Effects
use Rattle.gb_ops.specs.Flags.{is_met}
use Rattle.gb_ops.specs.Pairs as machine
use Rattle.gb_domain.specs.declared.pairs.Bounds.{Bounds}
use Rattle.gb_domain.specs.declared.rules.Rules.{Rules}
use Rattle.gb_domain.specs.declared.rules.Rules.TheVariants.{Simple, Extended}
use Rattle.gb_domain.specs.declared.types.ImeSet.{ImeSet}
use Rattle.std.proofs.lemmas.Bool.{and_parts}
use Rattle.std.specs.Prelude.{is_some}
use Rattle.gb_product.specs.Below.gb_summaries.Meaning.{IsAside}
use Rattle.gb_product.specs.Below.gb_abs_effects.Targets.{moves_sp}
use Rattle.gb_product.proofs.Below.gb_abs_effects_laws.TargetLaws.{sp-kept}
use Rattle.gb_product.specs.Below.gb_abs.Meaning.{ime_may_be}
use Rattle.gb_product.specs.Below.gb_abs_effects.declared.writes.AbsWrite.{AbsWrite}
use Rattle.gb_product.specs.Below.gb_abs_effects.declared.writes.AbsWrite.TheVariants as write
use Rattle.gb_successors.specs.declared.stacks.Around.{Around}
use Rattle.gb_successors.specs.declared.stacks.Stack.{Stack}
use Rattle.gb_successors.specs.declared.stacks.StackMove.{StackMove}
use Rattle.gb_successors.specs.declared.stacks.StackMove.TheVariants as move
use Rattle.gb_successors.specs.Stacks.{is_off_alone, own_bytes, main_bytes, set_by, set_to, set_within, aside_if, aside_within, back_or, popped_by, extended, displaced_by, push_of, stack_move}
use Rattle.gb_successors.specs.Summaries.{enables_interrupts, puts_aside}

-- ---- interrupts

store_operand-ime : (p : Processor) (to : Operand) (n : ℕ) → (Effects.store_operand p to n).processor.ime ≡ p.ime
unfolding Effects.store_operand
store_operand-ime p (operand.Register r) n = refl
store_operand-ime p operand.AtHl n = refl

with_pair-ime : (p : Processor) (which : Pair) (w : ℕ) → (machine.with_pair p which w).ime ≡ p.ime
unfolding machine.with_pair
with_pair-ime p pair.Bc w = refl
with_pair-ime p pair.De w = refl
with_pair-ime p pair.Hl w = refl
with_pair-ime p pair.Sp w = refl

with_indirect-ime : (p : Processor) (which : Indirect) → (Effects.with_indirect p which).ime ≡ p.ime
unfolding Effects.with_indirect
with_indirect-ime p indirect.Bc = refl
with_indirect-ime p indirect.De = refl
with_indirect-ime p indirect.HlIncrement = with_pair-ime p pair.Hl _
with_indirect-ime p indirect.HlDecrement = with_pair-ime p pair.Hl _

only_if-ime : (b : Bool) (e : Effect) (p : Processor) → e.processor.ime ≡ p.ime → (Effects.only_if b e p).processor.ime ≡ p.ime
unfolding Effects.only_if
only_if-ime true e p h = h
only_if-ime false e p h = refl

-- interrupts that are off stay off
off_kept : (o : Op) (p : Processor) (l h : ℕ) → moves_sp o ≡ false → enables_interrupts o ≡ false → p.ime ≡ Off → (Effects.effect_of o p l h).processor.ime ≡ Off
unfolding Effects.effect_of Effects.update_operand Effects.update_a Effects.jump
off_kept (op.LoadPair to w) p l h m e off = with_pair-ime p to w ∙ off
off_kept (op.StoreA to) p l h m e off = with_indirect-ime p to ∙ off
off_kept (op.LoadA from) p l h m e off = with_indirect-ime p from ∙ off
off_kept (op.IncrementPair which) p l h m e off = with_pair-ime p which _ ∙ off
off_kept (op.DecrementPair which) p l h m e off = with_pair-ime p which _ ∙ off
off_kept (op.Increment which) p l h m e off = store_operand-ime _ which _ ∙ off
off_kept (op.Decrement which) p l h m e off = store_operand-ime _ which _ ∙ off
off_kept (op.LoadImmediate to v) p l h m e off = store_operand-ime _ to _ ∙ off
off_kept (op.AddHl which) p l h m e off = with_pair-ime p pair.Hl _ ∙ off
off_kept (op.JumpRelativeIf c e8) p l h m e off = only_if-ime (is_met c p.flags) _ p refl ∙ off
off_kept (op.Load to from) p l h m e off = store_operand-ime _ to _ ∙ off
off_kept (op.ReturnIf c) p l h m e off = cc
off_kept op.Return p l h m e off = cc
off_kept op.ReturnFromInterrupt p l h m e off = cc
off_kept (op.Pop to) p l h m e off = cc
off_kept (op.Push from) p l h m e off = cc
off_kept (op.JumpIf c w) p l h m e off = only_if-ime (is_met c p.flags) _ p refl ∙ off
off_kept (op.CallIf c w) p l h m e off = cc
off_kept (op.Call w) p l h m e off = cc
off_kept (op.Restart w) p l h m e off = cc
off_kept (op.AddSp e8) p l h m e off = cc
off_kept (op.LoadHlSp e8) p l h m e off = with_pair-ime p pair.Hl _ ∙ off
off_kept op.LoadSpHl p l h m e off = cc
off_kept (op.Shift how which) p l h m e off = store_operand-ime _ which _ ∙ off
off_kept (op.Reset n which) p l h m e off = store_operand-ime _ which _ ∙ off
off_kept (op.Set n which) p l h m e off = store_operand-ime _ which _ ∙ off
off_kept op.DisableInterrupts p l h m e off = refl
off_kept op.EnableInterrupts p l h m e off = cc
off_kept o p l h m e off = off

-- ---- a stack aside

-- what leaves SP, and interrupts off
pub aside_holds :
    (o : Op) (s : Option Bounds) (p : Processor) (l h : ℕ) → moves_sp o ≡ false → (enables_interrupts o ≡ true → s ≡ None) → IsAside s p
    → IsAside s (Effects.effect_of o p l h).processor
aside_holds o None p l h still quiet a = tt
aside_holds o (Some b) p l h still quiet a = by (enables_interrupts o) refl
  where
    by : (e : Bool) → enables_interrupts o ≡ e → IsAside (Some b) (Effects.effect_of o p l h).processor
    by true e = absurd (let bad : Some b ≡ None = quiet e in cc)
    by false e =
        let sp = sp-kept o p l h still in
        record { first = subst (λ n. b.first ≤ n) (sym sp) a.first; last = subst (λ n. n ≤ b.last) (sym sp) a.last; off = off_kept o p l h still e a.off }

pub none_aside : (s : Option Bounds) (p : Processor) → s ≡ None → IsAside s p
none_aside s p e = subst (λ o. IsAside o p) (sym e) tt

-- ---- SP is put aside

-- what may put it aside, or leaves it there elsewhere
abbrev pub IsLeaving : Op → Type 0
IsLeaving (op.LoadPair to w) = Unit {0}
IsLeaving op.LoadSpHl = Unit {0}
IsLeaving (op.Pop to) = Unit {0}
IsLeaving _ = ⊥

no_leave : {X : Type 0} (m : StackMove) (b : Bounds) → puts_aside m ≡ false → m ≡ move.Aside b → X
no_leave m b stays e = absurd (let bad : false ≡ true = sym stays ∙ ap puts_aside e in cc)

push_stays : (w : AbsWrite) → puts_aside (push_of w) ≡ false
push_stays (write.Push high low) = refl
push_stays write.Nothing = refl
push_stays (write.Byte span v) = refl
push_stays (write.Word a low high) = refl

extended_stays : (r : Rules) (m : StackMove) → puts_aside m ≡ false → puts_aside (extended r m) ≡ false
extended_stays Simple m h = refl
extended_stays Extended m h = h

displaced_stays : (e8 : ℕ) → puts_aside (displaced_by e8) ≡ false
displaced_stays e8 = by (nat_lt e8 128)
  where
    by : (t : Bool) → puts_aside (cond t (move.Take e8) (move.Append (256 - e8))) ≡ false
    by true = refl
    by false = refl

pub leaves_by : (k : Stack) (g : Around) (o : Op) (w : AbsWrite) (hl : Option Bounds) (b : Bounds) → stack_move k g o w hl ≡ move.Aside b → IsLeaving o
unfolding stack_move
leaves_by k g (op.LoadPair to a) w hl b e = tt
leaves_by k g op.LoadSpHl w hl b e = tt
leaves_by k g (op.Pop to) w hl b e = tt
leaves_by k g (op.Push from) w hl b e = no_leave _ b (push_stays w) e
leaves_by k g (op.IncrementPair pair.Sp) w hl b e = no_leave _ b (extended_stays k.setting.rules (move.Take 1) refl) e
leaves_by k g (op.DecrementPair pair.Sp) w hl b e = no_leave _ b (extended_stays k.setting.rules (move.Append 1) refl) e
leaves_by k g (op.AddSp e8) w hl b e = no_leave _ b (extended_stays k.setting.rules (displaced_by e8) (displaced_stays e8)) e
leaves_by k g (op.CallIf c a) w hl b e = no_leave _ b (extended_stays k.setting.rules (push_of w) (push_stays w)) e
leaves_by k g (op.Call a) w hl b e = no_leave _ b (extended_stays k.setting.rules (push_of w) (push_stays w)) e
leaves_by k g (op.Restart a) w hl b e = no_leave _ b (extended_stays k.setting.rules (push_of w) (push_stays w)) e
leaves_by k g (op.ReturnIf c) w hl b e = no_leave _ b (extended_stays k.setting.rules (move.Take 2) refl) e
leaves_by k g op.Return w hl b e = no_leave _ b (extended_stays k.setting.rules (move.Take 2) refl) e
leaves_by k g op.ReturnFromInterrupt w hl b e = no_leave _ b (extended_stays k.setting.rules (move.Take 2) refl) e
leaves_by k g o w hl b e = cc

stack_pair-ime : (p : Processor) (to : StackPair) (l h : ℕ) → (Effects.effect_of (op.Pop to) p l h).processor.ime ≡ p.ime
unfolding Effects.effect_of machine.with_stack_pair
stack_pair-ime p stack.Af l h = refl
stack_pair-ime p stack.Bc l h = refl
stack_pair-ime p stack.De l h = refl
stack_pair-ime p stack.Hl l h = refl

-- it leaves interrupts off
pub off_left : (o : Op) (p : Processor) (l h : ℕ) → IsLeaving o → p.ime ≡ Off → (Effects.effect_of o p l h).processor.ime ≡ Off
unfolding Effects.effect_of
off_left (op.LoadPair to w) p l h leaves off = with_pair-ime p to w ∙ off
off_left op.LoadSpHl p l h leaves off = off
off_left (op.Pop to) p l h leaves off = stack_pair-ime p to l h ∙ off
off_left o p l h leaves off = absurd leaves

-- ---- interrupts are off where it may be put aside

pub off_alone : (i : ImeSet) (m : Ime) → is_off_alone i ≡ true → ime_may_be i m ≡ true → m ≡ Off
off_alone i Off h may = refl
off_alone i Pending h may = absurd (both_of i.pending may (and_parts (not i.pending) (not i.on) (and_parts i.off _ h).1).0)
  where
    both_of : (b : Bool) → b ≡ true → not b ≡ true → ⊥
    both_of true e f = cc
    both_of false e f = cc
off_alone i On h may = absurd (both_of i.on may (and_parts (not i.pending) (not i.on) (and_parts i.off _ h).1).1)
  where
    both_of : (b : Bool) → b ≡ true → not b ≡ true → ⊥
    both_of true e f = cc
    both_of false e f = cc

if_may : (m : StackMove) (may : Bool) (c b : Bounds) → puts_aside m ≡ false → aside_if m may c ≡ move.Aside b → may ≡ true
if_may move.Lost true c b h e = refl
if_may move.Lost false c b h e = cc
if_may m may c b h e = no_leave m b h e

within_may : (m : StackMove) (may : Bool) (o : Option Bounds) (b : Bounds) → puts_aside m ≡ false → aside_within m may o ≡ move.Aside b → may ≡ true
within_may m may None b h e = no_leave m b h e
within_may m may (Some c) b h e = if_may m may c b h e

set_stays : (own main : Option ℕ) → puts_aside (set_by own main) ≡ false
set_stays (Some n) main = refl
set_stays None None = refl
set_stays None (Some n) = refl

to_stays : (r : Rules) (k : Stack) (a : ℕ) → puts_aside (set_to r k a) ≡ false
to_stays Simple k a = refl
to_stays Extended k a = set_stays (own_bytes k a) (main_bytes k a)

within_stays : (k : Stack) (o : Option Bounds) → puts_aside (set_within k o) ≡ false
within_stays k None = refl
within_stays k (Some b) = by (nat_lt b.first b.last)
  where
    by : (t : Bool) → puts_aside (cond t move.Lost (set_to k.setting.rules k b.first)) ≡ false
    by true = refl
    by false = to_stays k.setting.rules k b.first

-- where it comes back it isn't put aside
back_aside : (r : Rules) (back : Option ℕ) (m : StackMove) (b : Bounds) → back_or r back m ≡ move.Aside b → m ≡ move.Aside b
back_aside Extended (Some n) m b e = cc
back_aside Extended None m b e = e
back_aside Simple back m b e = e

popped_aside : (r : Rules) (o : Option Bounds) (b : Bounds) → popped_by r o ≡ move.Aside b → is_some o ≡ true
popped_aside Extended (Some c) b e = refl
popped_aside Extended None b e = cc
popped_aside Simple o b e = cc

-- it was put aside before, or may be
pub left_where : (k : Stack) (g : Around) (o : Op) (w : AbsWrite) (hl : Option Bounds) (b : Bounds) → stack_move k g o w hl ≡ move.Aside b → (g.may_leave ≡ true) ⊎ (is_some g.aside ≡ true)
unfolding stack_move
left_where k g (op.LoadPair pair.Sp a) w hl b e = inl (if_may (set_to k.setting.rules k a) g.may_leave _ b (to_stays k.setting.rules k a) e)
left_where k g (op.LoadPair pair.Bc a) w hl b e = cc
left_where k g (op.LoadPair pair.De a) w hl b e = cc
left_where k g (op.LoadPair pair.Hl a) w hl b e = cc
left_where k g op.LoadSpHl w hl b e = inl (within_may (set_within k hl) g.may_leave hl b (within_stays k hl) (back_aside k.setting.rules g.back _ b e))
left_where k g (op.Pop to) w hl b e = inr (popped_aside k.setting.rules g.aside b e)
left_where k g o w hl b e = absurd (leaves_by k g o w hl b e)
