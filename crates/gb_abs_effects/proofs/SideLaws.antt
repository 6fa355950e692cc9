-- The side by the machine's own condition is possible, and means what the core means.
use Rattle.std.proofs.Common.{◌≡◌, ℕ, Bool, true, false, not, Option, Some, None, refl, sym, ◌∙◌, subst}
use Rattle.std.specs.Prelude.{IfSome}
use Rattle.gb_ops.specs.declared.op.Condition.{Condition}
use Rattle.gb_ops.specs.declared.op.Condition.TheVariants as condition
use Rattle.gb_ops.specs.declared.op.Operand.{Operand}
use Rattle.gb_ops.specs.declared.op.Operand.TheVariants as operand
use Rattle.gb_ops.specs.declared.op.Op.{Op}
use Rattle.gb_ops.specs.declared.op.Op.TheVariants as op
use Rattle.gb_ops.specs.declared.registers.Flags.{Flags}
use Rattle.gb_ops.specs.declared.registers.Processor.{Processor}
use Rattle.gb_ops.specs.declared.machine.Effect.{Effect}
use Rattle.gb_ops.specs.Flags.{is_met}
use Rattle.gb_ops.specs.Effects.{effect_of, only_if, jump, return_to, call, store_operand, update_operand, update_a, push}
use Rattle.gb_ops.specs.Play.{MState}
use Rattle.gb_domain.specs.declared.types.Core.{Core}
use Rattle.gb_domain.specs.Rules.{IsCore}
use Rattle.gb_domain.specs.declared.types.Flg.{Flg}
use Rattle.gb_abs.specs.Below.gb_vals.Tests.{side, IsOnSide, IsKept, IsSide}
use Rattle.gb_abs.proofs.Below.gb_vals_laws.BranchLaws.{side_sound, side_inhabited, side_kept}
use Rattle.gb_abs.specs.Meaning.{Activation, HoldsFlags, MeansCore}
use Rattle.gb_abs_effects.specs.declared.sides.Sides.{Sides}
use Rattle.gb_abs_effects.specs.Sides.{opposite, condition_of, with_flags_if, side_of, sides_by, sides_of}
use Rattle.gb_abs_effects.specs.Sound.{side_by, IsMeant, AreSoundSides, AreSides}
use Rattle.gb_abs_effects.proofs.CoreLaws.{some-is, FlagsIn-from, MeansCore-changed, IsCore-changed}

-- ---- which instructions are taken

store_operand-taken : (p : Processor) (to : Operand) (n : ℕ) → (store_operand p to n).is_taken ≡ true
unfolding store_operand
store_operand-taken p (operand.Register r) n = refl
store_operand-taken p operand.AtHl n = refl

only_if-taken : (b : Bool) (e : Effect) (p : Processor) → e.is_taken ≡ true → (only_if b e p).is_taken ≡ b
unfolding only_if
only_if-taken true e p h = h
only_if-taken false e p h = refl

-- an instruction without a condition is taken
pub is_taken-without : (o : Op) (p : Processor) (l h : ℕ) → condition_of o ≡ None → (effect_of o p l h).is_taken ≡ true
unfolding effect_of update_operand update_a jump push call return_to
is_taken-without (op.Increment which) p l h e = store_operand-taken _ which _
is_taken-without (op.Decrement which) p l h e = store_operand-taken _ which _
is_taken-without (op.LoadImmediate to v) p l h e = store_operand-taken _ to _
is_taken-without (op.Load to from) p l h e = store_operand-taken _ to _
is_taken-without (op.Shift how which) p l h e = store_operand-taken _ which _
is_taken-without (op.Reset n which) p l h e = store_operand-taken _ which _
is_taken-without (op.Set n which) p l h e = store_operand-taken _ which _
is_taken-without (op.JumpRelativeIf c e8) p l h e = cc
is_taken-without (op.ReturnIf c) p l h e = cc
is_taken-without (op.JumpIf c w) p l h e = cc
is_taken-without (op.CallIf c w) p l h e = cc
is_taken-without o p l h e = refl

-- another is taken where its condition is met
pub is_taken-with : (o : Op) (c : Condition) (p : Processor) (l h : ℕ) → condition_of o ≡ Some c → (effect_of o p l h).is_taken ≡ is_met c p.flags
unfolding effect_of jump call return_to
is_taken-with (op.JumpRelativeIf d e8) c p l h e = subst (λ k. (effect_of (op.JumpRelativeIf d e8) p l h).is_taken ≡ is_met k p.flags) (some-is d c e) (only_if-taken (is_met d p.flags) _ p refl)
is_taken-with (op.ReturnIf d) c p l h e = subst (λ k. (effect_of (op.ReturnIf d) p l h).is_taken ≡ is_met k p.flags) (some-is d c e) (only_if-taken (is_met d p.flags) _ p refl)
is_taken-with (op.JumpIf d w) c p l h e = subst (λ k. (effect_of (op.JumpIf d w) p l h).is_taken ≡ is_met k p.flags) (some-is d c e) (only_if-taken (is_met d p.flags) _ p refl)
is_taken-with (op.CallIf d w) c p l h e = subst (λ k. (effect_of (op.CallIf d w) p l h).is_taken ≡ is_met k p.flags) (some-is d c e) (only_if-taken (is_met d p.flags) _ p refl)
is_taken-with o c p l h e = cc

-- ---- a side

IsMeant-with_flags_if :
    (s : Core) (entry : Activation) (x : MState) (o : Option Flg)
    → IsOnSide o x.processor.flags → IsKept s.flags o → MeansCore s entry x → IsMeant (with_flags_if s o) entry x
IsMeant-with_flags_if s entry x None on kept m = on
IsMeant-with_flags_if s entry x (Some f) on kept m =
    let flags : HoldsFlags f entry x.processor.flags = record { zero = on.zero; subtract = on.subtract; half_carry = on.half_carry; carry = on.carry; own = λ e. m.flags.own (sym kept ∙ e) } in
    MeansCore-changed s entry x s.registers f s.ime x.processor m.registers flags m.ime m.locked m.stopped m

IsMeant-side_of :
    (c : Condition) (s : Core) (entry : Activation) (x : MState)
    → is_met c x.processor.flags ≡ true → MeansCore s entry x → IsMeant (side_of c s) entry x
unfolding side_of
IsMeant-side_of c s entry x met m =
    let on = (side_sound c s.flags (side c s.flags) refl).gives x.processor.flags (FlagsIn-from s.flags entry x.processor.flags m.flags) met in
    IsMeant-with_flags_if s entry x (side c s.flags) on (side_kept c s.flags (side c s.flags) refl) m

set_from : (b : Bool) → not b ≡ false → b ≡ true
set_from true h = refl
set_from false h = cc

clear_not : (b : Bool) → b ≡ false → not b ≡ true
clear_not true h = cc
clear_not false h = refl

pub met-opposite : (c : Condition) (g : Flags) → is_met c g ≡ false → is_met (opposite c) g ≡ true
unfolding is_met
met-opposite condition.NotZero g h = set_from g.zero h
met-opposite condition.Zero g h = clear_not g.zero h
met-opposite condition.NotCarry g h = set_from g.carry h
met-opposite condition.Carry g h = clear_not g.carry h

IsMeant-conditional :
    (c : Condition) (s : Core) (entry : Activation) (x : MState) (b : Bool)
    → is_met c x.processor.flags ≡ b → MeansCore s entry x → IsMeant (side_by b (sides_by (Some c) s)) entry x
IsMeant-conditional c s entry x true met m = IsMeant-side_of c s entry x met m
IsMeant-conditional c s entry x false met m = IsMeant-side_of (opposite c) s entry x (met-opposite c x.processor.flags met) m

IsMeant-sides_of :
    (o : Op) (s : Core) (entry : Activation) (x : MState) (l h : ℕ)
    → MeansCore s entry x → IsMeant (side_by (effect_of o x.processor l h).is_taken (sides_of o s)) entry x
unfolding sides_of
IsMeant-sides_of o s entry x l h m = choose (condition_of o) refl
  where
    choose : (k : Option Condition) → condition_of o ≡ k → IsMeant (side_by (effect_of o x.processor l h).is_taken (sides_by k s)) entry x
    choose None e =
        subst (λ b. IsMeant (side_by b (sides_by None s)) entry x) (sym (is_taken-without o x.processor l h e)) m
    choose (Some c) e =
        subst (λ b. IsMeant (side_by b (sides_by (Some c) s)) entry x) (sym (is_taken-with o c x.processor l h e)) (IsMeant-conditional c s entry x (is_met c x.processor.flags) refl m)

pub sides_of_sound : (o : Op) (s : Core) (sides : Sides) → sides ≡ sides_of o s → AreSoundSides o s sides
sides_of_sound o s sides e =
    subst (λ k. AreSoundSides o s k) (sym e) (record { gives = λ entry x l h m. IsMeant-sides_of o s entry x l h m })

-- ---- its ranges

IsCore-with_flags_if : (s : Core) (o : Option Flg) → IsSide o → IsCore s → IfSome (with_flags_if s o) IsCore
IsCore-with_flags_if s None h c = tt
IsCore-with_flags_if s (Some f) h c = IsCore-changed s s.registers f s.ime c.registers h c.ime c

IsCore-side_of : (c : Condition) (s : Core) → IsCore s → IfSome (side_of c s) IsCore
unfolding side_of
IsCore-side_of c s is = IsCore-with_flags_if s (side c s.flags) (side_inhabited c s.flags (side c s.flags) refl is.flags) is

AreSides-sides_by : (k : Option Condition) (s : Core) → IsCore s → AreSides (sides_by k s)
AreSides-sides_by None s is = record { taken = is; not_taken = tt }
AreSides-sides_by (Some c) s is = record { taken = IsCore-side_of c s is; not_taken = IsCore-side_of (opposite c) s is }

pub sides_of_inhabited : (o : Op) (s : Core) (sides : Sides) → sides ≡ sides_of o s → IsCore s → AreSides sides
unfolding sides_of
sides_of_inhabited o s sides e is = subst (λ k. AreSides k) (sym e) (AreSides-sides_by (condition_of o) s is)
