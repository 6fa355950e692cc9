-- An instruction that is executed leaves no HALT mark.
use Rattle.std.proofs.Common.{◌≡◌, ℕ, Bool, true, false, List, refl, ◌∙◌}
use Rattle.gb_ops.specs.declared.machine.Effect.{Effect}
use Rattle.gb_ops.specs.declared.registers.Processor.{Processor}
use Rattle.gb_ops.specs.declared.op.Operand.{Operand}
use Rattle.gb_ops.specs.declared.op.Operand.TheVariants as operand
use Rattle.gb_ops.specs.declared.op.Pair.{Pair}
use Rattle.gb_ops.specs.declared.op.Pair.TheVariants as pair
use Rattle.gb_ops.specs.declared.op.StackPair.{StackPair}
use Rattle.gb_ops.specs.declared.op.StackPair.TheVariants as stack
use Rattle.gb_ops.specs.declared.op.Indirect.{Indirect}
use Rattle.gb_ops.specs.declared.op.Indirect.TheVariants as indirect
use Rattle.gb_ops.specs.declared.op.Op.{Op}
use Rattle.gb_ops.specs.declared.op.Op.TheVariants as op
use Rattle.gb_ops.specs.declared.op.Row.{Row}
use Rattle.gb_ops.specs.Pairs.{with_pair, with_stack_pair}
use Rattle.gb_ops.specs.Effects as Effects
use Rattle.gb_ops.specs.Machine.{executed, advanced}
use Rattle.gb_ops.specs.Play.{MState, within, outside}
use Rattle.gb_successors.proofs.SuccessorLaws.{given}

store_operand-mark : (p : Processor) (to : Operand) (n : ℕ) → (Effects.store_operand p to n).processor.halt_mark ≡ p.halt_mark
unfolding Effects.store_operand
store_operand-mark p (operand.Register r) n = refl
store_operand-mark p operand.AtHl n = refl

with_pair-mark : (p : Processor) (which : Pair) (w : ℕ) → (with_pair p which w).halt_mark ≡ p.halt_mark
unfolding with_pair
with_pair-mark p pair.Bc w = refl
with_pair-mark p pair.De w = refl
with_pair-mark p pair.Hl w = refl
with_pair-mark p pair.Sp w = refl

with_stack_pair-mark : (p : Processor) (which : StackPair) (l h : ℕ) → (with_stack_pair p which l h).halt_mark ≡ p.halt_mark
unfolding with_stack_pair
with_stack_pair-mark p stack.Bc l h = refl
with_stack_pair-mark p stack.De l h = refl
with_stack_pair-mark p stack.Hl l h = refl
with_stack_pair-mark p stack.Af l h = refl

with_indirect-mark : (p : Processor) (which : Indirect) → (Effects.with_indirect p which).halt_mark ≡ p.halt_mark
unfolding Effects.with_indirect
with_indirect-mark p indirect.Bc = refl
with_indirect-mark p indirect.De = refl
with_indirect-mark p indirect.HlIncrement = with_pair-mark p pair.Hl _
with_indirect-mark p indirect.HlDecrement = with_pair-mark p pair.Hl _

only_if-mark : (b : Bool) (e : Effect) (p : Processor) → e.processor.halt_mark ≡ p.halt_mark → (Effects.only_if b e p).processor.halt_mark ≡ p.halt_mark
unfolding Effects.only_if
only_if-mark true e p h = h
only_if-mark false e p h = refl

mark-kept : (o : Op) (p : Processor) (l h : ℕ) → (Effects.effect_of o p l h).processor.halt_mark ≡ p.halt_mark
unfolding Effects.effect_of Effects.update_operand Effects.update_a Effects.jump Effects.push Effects.call Effects.return_to
mark-kept (op.LoadPair to w) p l h = with_pair-mark p to w
mark-kept (op.StoreA to) p l h = with_indirect-mark p to
mark-kept (op.LoadA from) p l h = with_indirect-mark p from
mark-kept (op.IncrementPair which) p l h = with_pair-mark p which _
mark-kept (op.DecrementPair which) p l h = with_pair-mark p which _
mark-kept (op.Increment which) p l h = store_operand-mark _ which _
mark-kept (op.Decrement which) p l h = store_operand-mark _ which _
mark-kept (op.LoadImmediate to v) p l h = store_operand-mark _ to _
mark-kept (op.AddHl which) p l h = with_pair-mark p pair.Hl _
mark-kept (op.JumpRelativeIf c e8) p l h = only_if-mark _ _ p refl
mark-kept (op.Load to from) p l h = store_operand-mark _ to _
mark-kept (op.ReturnIf c) p l h = only_if-mark _ _ p refl
mark-kept (op.Pop to) p l h = with_stack_pair-mark p to l h
mark-kept (op.JumpIf c w) p l h = only_if-mark _ _ p refl
mark-kept (op.CallIf c w) p l h = only_if-mark _ _ p refl
mark-kept (op.LoadHlSp e8) p l h = with_pair-mark p pair.Hl _
mark-kept (op.Shift how which) p l h = store_operand-mark _ which _
mark-kept (op.Reset n which) p l h = store_operand-mark _ which _
mark-kept (op.Set n which) p l h = store_operand-mark _ which _
mark-kept o p l h = refl

advanced-mark : (p : Processor) (row : Row) → (advanced p row).halt_mark ≡ false
unfolding advanced
advanced-mark p row = refl

pub executed_mark : (rom : List ℕ) (x : MState) (row : Row) (reads : List ℕ) → (outside (executed (within rom x) row reads)).processor.halt_mark ≡ false
unfolding executed within outside
executed_mark rom x row reads =
    mark-kept row.op (advanced x.processor row) (given rom row x reads).low (given rom row x reads).high ∙ advanced-mark x.processor row
