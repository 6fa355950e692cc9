-- The stack's instructions: what they read and write, where they go on, and what they make of the bytes that are held.
use Rattle.std.proofs.Common.{◌≡◌, ℕ, ◌+◌, ◌/◌, ◌%◌, true, false, cond, nat_lt, length, refl, ap}
use Rattle.gb_ops.specs.declared.op.Op.{Op}
use Rattle.gb_ops.specs.declared.op.Op.TheVariants as op
use Rattle.gb_domain.specs.declared.setting.Setting.{Setting}
use Rattle.gb_domain.specs.declared.types.Val.{Val}
use Rattle.gb_domain.specs.declared.types.Core.{Core}
use Rattle.gb_domain.specs.declared.types.Halves.{Halves}
use Rattle.gb_domain.specs.Types.{AbsState}
use Rattle.gb_domain.specs.Limits.{item_room}
use Rattle.gb_product.specs.Below.gb_vals.Vals.{single}
use Rattle.gb_product.specs.Below.gb_abs.Stack.{pushed, popped}
use Rattle.gb_product.specs.Below.gb_abs_effects.declared.reads.AbsRead.TheVariants as read
use Rattle.gb_product.specs.Below.gb_abs_effects.declared.writes.AbsWrite.{AbsWrite}
use Rattle.gb_product.specs.Below.gb_abs_effects.declared.writes.AbsWrite.TheVariants as write
use Rattle.gb_product.specs.Below.gb_abs_effects.declared.targets.Target.TheVariants as target
use Rattle.gb_product.specs.Below.gb_abs_effects.Accesses.{read_of}
use Rattle.gb_product.specs.Below.gb_abs_effects.Targets.{target_of, is_push, is_pop, is_call, is_return}
use Rattle.gb_product.specs.Below.gb_abs_effects.Transfer.{transfer}
use Rattle.gb_successors.specs.Stacks.{pushed_if_room}
use Rattle.gb_successors.proofs.SimpleLaws.{with_stack_of}

-- an instruction of another class
no_other : false ≡ true → ⊥
no_other h = cc

-- PUSH
pub record IsPush (z : Setting) (o : Op) (next : ℕ) (sp : Halves) (c : Core) (low high : Val) : Type 0 where
  pub first : Val
  pub second : Val
  pub write_is : (transfer z.is_whole o next sp c low high).write ≡ write.Push first second
  pub read_is : read_of o c ≡ read.Nothing
  pub target_is : target_of o next c ≡ target.At next
  pub leaves : (s : AbsState) → with_stack_of z o (write.Push first second) s ≡ pushed_if_room z (record { high = first; low = second }) s

pub IsPush-is_push : (z : Setting) (o : Op) (next : ℕ) (sp : Halves) (c : Core) (low high : Val) → is_push o ≡ true → IsPush z o next sp c low high
unfolding transfer read_of target_of with_stack_of
IsPush-is_push z (op.Push from) next sp c low high h = record { first = _; second = _; write_is = refl; read_is = refl; target_is = refl; leaves = λ s. refl }
IsPush-is_push z o next sp c low high h = absurd (no_other h)

-- a call
pub record IsCall (z : Setting) (o : Op) (next : ℕ) (sp : Halves) (c : Core) (low high : Val) : Type 0 where
  pub address : ℕ
  pub write_is : (transfer z.is_whole o next sp c low high).write ≡ write.Push (single (next / 256)) (single (next % 256))
  pub read_is : read_of o c ≡ read.Nothing
  pub target_is : target_of o next c ≡ target.Call address
  pub leaves : (w : AbsWrite) (s : AbsState) → with_stack_of z o w s ≡ s

pub IsCall-is_call : (z : Setting) (o : Op) (next : ℕ) (sp : Halves) (c : Core) (low high : Val) → is_call o ≡ true → IsCall z o next sp c low high
unfolding transfer read_of target_of with_stack_of
IsCall-is_call z (op.CallIf k a) next sp c low high h = record { address = a; write_is = refl; read_is = refl; target_is = refl; leaves = λ w s. refl }
IsCall-is_call z (op.Call a) next sp c low high h = record { address = a; write_is = refl; read_is = refl; target_is = refl; leaves = λ w s. refl }
IsCall-is_call z (op.Restart a) next sp c low high h = record { address = a; write_is = refl; read_is = refl; target_is = refl; leaves = λ w s. refl }
IsCall-is_call z o next sp c low high h = absurd (no_other h)

-- POP
pub record IsPop (z : Setting) (o : Op) (next : ℕ) (sp : Halves) (c : Core) (low high : Val) : Type 0 where
  pub write_is : (transfer z.is_whole o next sp c low high).write ≡ write.Nothing
  pub read_is : read_of o c ≡ read.Top
  pub target_is : target_of o next c ≡ target.At next
  pub leaves : (w : AbsWrite) (s : AbsState) → with_stack_of z o w s ≡ popped s

pub IsPop-is_pop : (z : Setting) (o : Op) (next : ℕ) (sp : Halves) (c : Core) (low high : Val) → is_pop o ≡ true → IsPop z o next sp c low high
unfolding transfer read_of target_of with_stack_of
IsPop-is_pop z (op.Pop to) next sp c low high h = record { write_is = refl; read_is = refl; target_is = refl; leaves = λ w s. refl }
IsPop-is_pop z o next sp c low high h = absurd (no_other h)

-- a return
pub record IsReturn (z : Setting) (o : Op) (next : ℕ) (sp : Halves) (c : Core) (low high : Val) : Type 0 where
  pub write_is : (transfer z.is_whole o next sp c low high).write ≡ write.Nothing
  pub read_is : read_of o c ≡ read.Top
  pub target_is : target_of o next c ≡ target.Return
  pub leaves : (w : AbsWrite) (s : AbsState) → with_stack_of z o w s ≡ s

pub IsReturn-is_return : (z : Setting) (o : Op) (next : ℕ) (sp : Halves) (c : Core) (low high : Val) → is_return o ≡ true → IsReturn z o next sp c low high
unfolding transfer read_of target_of with_stack_of
IsReturn-is_return z (op.ReturnIf k) next sp c low high h = record { write_is = refl; read_is = refl; target_is = refl; leaves = λ w s. refl }
IsReturn-is_return z op.Return next sp c low high h = record { write_is = refl; read_is = refl; target_is = refl; leaves = λ w s. refl }
IsReturn-is_return z op.ReturnFromInterrupt next sp c low high h = record { write_is = refl; read_is = refl; target_is = refl; leaves = λ w s. refl }
IsReturn-is_return z o next sp c low high h = absurd (no_other h)

-- where there is room, the word is pushed
pub pushed-if_room : (z : Setting) (i : Halves) (s : AbsState) → nat_lt (item_room z.rules) (length s.items + 2) ≡ false → pushed_if_room z i s ≡ pushed i s
unfolding pushed_if_room
pushed-if_room z i s h = ap (λ b. cond b s (pushed i s)) h
