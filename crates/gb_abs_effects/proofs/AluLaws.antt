-- The operations of A with an operand are followed.
use Rattle.std.proofs.Common.{◌≡◌, ℕ, ◌<◌, Bool, true, false, cond, Option, Some, None, refl, sym, ◌∙◌, arith}
use Rattle.std.specs.Int.Bits.{and_self, or_self}
use Rattle.gb_ops.specs.declared.op.Register.TheVariants.{A, B, C, D, E, H, L}
use Rattle.gb_ops.specs.declared.op.AluOp.{AluOp}
use Rattle.gb_ops.specs.declared.op.AluOp.TheVariants as alu_op
use Rattle.gb_ops.specs.declared.op.Operand.{Operand}
use Rattle.gb_ops.specs.declared.op.Operand.TheVariants as operand
use Rattle.gb_ops.specs.declared.registers.Flags.{Flags}
use Rattle.gb_ops.specs.Arithmetic.{alu_result, logical}
use Rattle.gb_ops.specs.Effects as Effects
use Rattle.gb_ops.specs.Play.{MState}
use Rattle.gb_domain.specs.declared.types.Origin.{Origin}
use Rattle.gb_domain.specs.declared.types.Val.{Val}
use Rattle.gb_domain.specs.declared.types.Core.{Core}
use Rattle.gb_domain.specs.Rules.{IsVal, IsCore}
use Rattle.gb_abs.specs.Below.gb_vals.Vals.{single, is_single}
use Rattle.gb_abs.specs.Below.gb_vals.Meaning.{Gives}
use Rattle.gb_abs.specs.Below.gb_vals.Alu.{alu_origin, itself_origin, result_with_itself}
use Rattle.gb_abs.specs.Meaning.{Activation, Holds, HoldsFlags, MeansCore, origin_value}
use Rattle.gb_abs.proofs.OperationLaws.{Holds-single}
use Rattle.gb_abs_effects.specs.ByRules.{alu_by, itself_by}
use Rattle.gb_abs_effects.specs.Transfer.{operand_val, update_a, apply_alu}
use Rattle.gb_abs_effects.specs.Sound.{Follows, IsAbsEffect}
use Rattle.gb_abs_effects.proofs.ByRulesLaws.{alu_by-sound, alu_by-inhabited, alu_by-kept, alu_by-written, itself_by-sound, itself_by-inhabited, itself_by-kept, itself_by-written}
use Rattle.gb_abs_effects.proofs.CoreLaws.{In-from, FlagsIn-from, HoldsFlags-written}
use Rattle.gb_abs_effects.proofs.OperandLaws.{Follows-update_a, IsAbsEffect-update_a}

-- ---- A is a copy of what it was a copy of only where it stays

-- an origin of the result is one of A, and the result is A
alu-kept-value :
    (how : AluOp) (a : Val) (entry : Activation) (x y : ℕ) (g : Flags) (o : Origin)
    → Holds a entry x → alu_origin how a ≡ Some o → (alu_result how x y g).value ≡ origin_value o entry
unfolding alu_result
alu-kept-value alu_op.Cp a entry x y g o h e = h.origin o e
alu-kept-value alu_op.Add a entry x y g o h e = cc
alu-kept-value alu_op.Adc a entry x y g o h e = cc
alu-kept-value alu_op.Sub a entry x y g o h e = cc
alu-kept-value alu_op.Sbc a entry x y g o h e = cc
alu-kept-value alu_op.And a entry x y g o h e = cc
alu-kept-value alu_op.Xor a entry x y g o h e = cc
alu-kept-value alu_op.Or a entry x y g o h e = cc

own-origin-of : (b : Bool) (a : Option Origin) (o : Origin) → cond b None a ≡ Some o → a ≡ Some o
own-origin-of true a o e = cc
own-origin-of false a o e = e

itself-kept-value :
    (how : AluOp) (a : Val) (entry : Activation) (x : ℕ) (g : Flags) (o : Origin)
    → Holds a entry x → itself_origin how a ≡ Some o → (result_with_itself how x g).value ≡ origin_value o entry
unfolding alu_result logical
itself-kept-value alu_op.Cp a entry x g o h e = h.origin o e
itself-kept-value alu_op.And a entry x g o h e = and_self x ∙ h.origin o (own-origin-of (is_single a) a.origin o e)
itself-kept-value alu_op.Or a entry x g o h e = or_self x ∙ h.origin o (own-origin-of (is_single a) a.origin o e)
itself-kept-value alu_op.Add a entry x g o h e = cc
itself-kept-value alu_op.Adc a entry x g o h e = cc
itself-kept-value alu_op.Sub a entry x g o h e = cc
itself-kept-value alu_op.Sbc a entry x g o h e = cc
itself-kept-value alu_op.Xor a entry x g o h e = cc

-- ---- with another operand

Follows-alu :
    (whole : Bool) (how : AluOp) (s : Core) (entry : Activation) (x : MState) (v : Val) (y : ℕ)
    → IsVal v → Holds v entry y
    → IsCore s → MeansCore s entry x
    → Follows (update_a (alu_by whole how s.registers.a v s.flags) s) entry x (Effects.update_a x.processor (alu_result how x.processor.registers.a y x.processor.flags))
Follows-alu whole how s entry x v y is_v h is m =
    let a = s.registers.a in
    let n = x.processor.registers.a in
    let g = x.processor.flags in
    let o = alu_by whole how a v s.flags in
    let c = alu_result how n y g in
    let gives : Gives o c = (alu_by-sound whole how a v s.flags (is.registers A).hi is_v.hi).gives n y g (In-from a entry n (m.registers A)) (In-from v entry y h) (FlagsIn-from s.flags entry g m.flags) in
    let value : Holds o.val entry c.value = record { least = gives.value.least; most = gives.value.most; low = gives.value.low; origin = λ k e. alu-kept-value how a entry n y g k (m.registers A) (sym (alu_by-kept whole how a v s.flags) ∙ e) } in
    let flags : HoldsFlags o.flags entry c.flags = HoldsFlags-written o.flags entry c.flags gives.flags (alu_by-written whole how a v s.flags) in
    Follows-update_a s entry x o c value flags m

-- ---- with A itself

Follows-itself :
    (whole : Bool) (how : AluOp) (s : Core) (entry : Activation) (x : MState)
    → IsCore s → MeansCore s entry x
    → Follows (update_a (itself_by whole how s.registers.a s.flags) s) entry x (Effects.update_a x.processor (result_with_itself how x.processor.registers.a x.processor.flags))
Follows-itself whole how s entry x is m =
    let a = s.registers.a in
    let n = x.processor.registers.a in
    let g = x.processor.flags in
    let o = itself_by whole how a s.flags in
    let c = result_with_itself how n g in
    let gives : Gives o c = (itself_by-sound whole how a s.flags (is.registers A).hi).gives n g (In-from a entry n (m.registers A)) (FlagsIn-from s.flags entry g m.flags) in
    let value : Holds o.val entry c.value = record { least = gives.value.least; most = gives.value.most; low = gives.value.low; origin = λ k e. itself-kept-value how a entry n g k (m.registers A) (sym (itself_by-kept whole how a s.flags) ∙ e) } in
    let flags : HoldsFlags o.flags entry c.flags = HoldsFlags-written o.flags entry c.flags gives.flags (itself_by-written whole how a s.flags) in
    Follows-update_a s entry x o c value flags m

-- ---- the instructions

pub Follows-immediate :
    (whole : Bool) (how : AluOp) (s : Core) (entry : Activation) (x : MState) (v : ℕ)
    → v < 256 → IsCore s → MeansCore s entry x
    → Follows (update_a (alu_by whole how s.registers.a (single v) s.flags) s) entry x (Effects.update_a x.processor (alu_result how x.processor.registers.a v x.processor.flags))
Follows-immediate whole how s entry x v small is m =
    Follows-alu whole how s entry x (single v) v (record { order = omega arith; hi = small; strided = refl }) (Holds-single v entry) is m

pub Follows-apply_alu :
    (whole : Bool) (how : AluOp) (from : Operand) (s : Core) (entry : Activation) (x : MState) (low : Val) (l : ℕ)
    → IsVal low → Holds low entry l → IsCore s → MeansCore s entry x
    → Follows (apply_alu whole how from s low) entry x (Effects.update_a x.processor (alu_result how x.processor.registers.a (Effects.operand_value x.processor from l) x.processor.flags))
unfolding apply_alu operand_val Effects.operand_value
Follows-apply_alu whole how (operand.Register A) s entry x low l is_low h is m = Follows-itself whole how s entry x is m
Follows-apply_alu whole how (operand.Register B) s entry x low l is_low h is m = Follows-alu whole how s entry x s.registers.b _ (is.registers B) (m.registers B) is m
Follows-apply_alu whole how (operand.Register C) s entry x low l is_low h is m = Follows-alu whole how s entry x s.registers.c _ (is.registers C) (m.registers C) is m
Follows-apply_alu whole how (operand.Register D) s entry x low l is_low h is m = Follows-alu whole how s entry x s.registers.d _ (is.registers D) (m.registers D) is m
Follows-apply_alu whole how (operand.Register E) s entry x low l is_low h is m = Follows-alu whole how s entry x s.registers.e _ (is.registers E) (m.registers E) is m
Follows-apply_alu whole how (operand.Register H) s entry x low l is_low h is m = Follows-alu whole how s entry x s.registers.h _ (is.registers H) (m.registers H) is m
Follows-apply_alu whole how (operand.Register L) s entry x low l is_low h is m = Follows-alu whole how s entry x s.registers.l _ (is.registers L) (m.registers L) is m
Follows-apply_alu whole how operand.AtHl s entry x low l is_low h is m = Follows-alu whole how s entry x low l is_low h is m

-- ---- ranges

IsAbsEffect-alu : (whole : Bool) (how : AluOp) (s : Core) (v : Val) → IsVal v → IsCore s → IsAbsEffect (update_a (alu_by whole how s.registers.a v s.flags) s)
IsAbsEffect-alu whole how s v h is =
    IsAbsEffect-update_a s (alu_by whole how s.registers.a v s.flags) (alu_by-inhabited whole how s.registers.a v s.flags (is.registers A) h is.flags) is

pub IsAbsEffect-immediate : (whole : Bool) (how : AluOp) (s : Core) (v : ℕ) → v < 256 → IsCore s → IsAbsEffect (update_a (alu_by whole how s.registers.a (single v) s.flags) s)
IsAbsEffect-immediate whole how s v small is = IsAbsEffect-alu whole how s (single v) (record { order = omega arith; hi = small; strided = refl }) is

IsAbsEffect-itself : (whole : Bool) (how : AluOp) (s : Core) → IsCore s → IsAbsEffect (update_a (itself_by whole how s.registers.a s.flags) s)
IsAbsEffect-itself whole how s is =
    IsAbsEffect-update_a s (itself_by whole how s.registers.a s.flags) (itself_by-inhabited whole how s.registers.a s.flags (is.registers A) is.flags) is

pub IsAbsEffect-apply_alu : (whole : Bool) (how : AluOp) (from : Operand) (s : Core) (low : Val) → IsVal low → IsCore s → IsAbsEffect (apply_alu whole how from s low)
unfolding apply_alu operand_val
IsAbsEffect-apply_alu whole how (operand.Register A) s low h is = IsAbsEffect-itself whole how s is
IsAbsEffect-apply_alu whole how (operand.Register B) s low h is = IsAbsEffect-alu whole how s s.registers.b (is.registers B) is
IsAbsEffect-apply_alu whole how (operand.Register C) s low h is = IsAbsEffect-alu whole how s s.registers.c (is.registers C) is
IsAbsEffect-apply_alu whole how (operand.Register D) s low h is = IsAbsEffect-alu whole how s s.registers.d (is.registers D) is
IsAbsEffect-apply_alu whole how (operand.Register E) s low h is = IsAbsEffect-alu whole how s s.registers.e (is.registers E) is
IsAbsEffect-apply_alu whole how (operand.Register H) s low h is = IsAbsEffect-alu whole how s s.registers.h (is.registers H) is
IsAbsEffect-apply_alu whole how (operand.Register L) s low h is = IsAbsEffect-alu whole how s s.registers.l (is.registers L) is
IsAbsEffect-apply_alu whole how operand.AtHl s low h is = IsAbsEffect-alu whole how s low h is
