-- Where an instruction goes on by the rules of version 3, and what it read on top of the stack.
use Rattle.std.proofs.Common.{◌≡◌, ℕ, Bool, true, false, not, cond, ◌&&◌, ◌==◌, nat_lt, ◌⊎◌, inl, inr, Option, Some, None, refl, sym, ◌∙◌, ap, subst, arith}
use Rattle.std.proofs.lemmas.Bool.{eqb-true}
use Rattle.std.proofs.lemmas.Bool.Decides.{nat_tests}
use Rattle.gb_ops.specs.declared.op.Pair.TheVariants as pair
use Rattle.gb_ops.specs.declared.op.Register.TheVariants.{H, L}
use Rattle.gb_ops.specs.declared.op.Operand.{Operand}
use Rattle.gb_ops.specs.declared.op.Operand.TheVariants as operand
use Rattle.gb_ops.specs.declared.op.Op.{Op}
use Rattle.gb_ops.specs.declared.op.Op.TheVariants as op
use Rattle.gb_ops.specs.Pairs.{word, pair_value}
use Rattle.gb_ops.specs.Effects as Effects
use Rattle.gb_ops.specs.Play.{MState}
use Rattle.gb_domain.specs.declared.pairs.Bounds.{Bounds}
use Rattle.gb_domain.specs.declared.rules.Rules.{Rules}
use Rattle.gb_domain.specs.declared.rules.Rules.TheVariants.{Simple, Extended}
use Rattle.gb_domain.specs.declared.setting.Setting.{Setting}
use Rattle.gb_domain.specs.declared.types.Origin.{Origin}
use Rattle.gb_domain.specs.declared.types.Origin.TheVariants.{ReturnHigh, ReturnLow}
use Rattle.gb_domain.specs.declared.types.Val.{Val}
use Rattle.gb_domain.specs.declared.types.Core.{Core}
use Rattle.gb_domain.specs.declared.types.Halves.{Halves}
use Rattle.gb_product.specs.Below.gb_abs.Meaning.{Activation, origin_value, Holds, MeansCore}
use Rattle.gb_product.specs.Below.gb_abs.Origins.{is_own}
use Rattle.gb_product.proofs.Below.gb_abs_laws.CoveringLaws.{origin_from}
use Rattle.gb_product.specs.Below.gb_abs_effects.declared.reads.AbsRead.TheVariants as read
use Rattle.gb_product.specs.Below.gb_abs_effects.declared.targets.Target.{Target}
use Rattle.gb_product.specs.Below.gb_abs_effects.declared.targets.Target.TheVariants as target
use Rattle.gb_product.specs.Below.gb_abs_effects.declared.writes.AbsWrite.{AbsWrite}
use Rattle.gb_product.specs.Below.gb_abs_effects.declared.writes.AbsWrite.TheVariants as write
use Rattle.gb_product.specs.Below.gb_abs_effects.Accesses.{read_of, operand_read}
use Rattle.gb_product.specs.Below.gb_abs_effects.Pairs.{is_word_known, least_word, pair_halves}
use Rattle.gb_product.specs.Below.gb_abs_effects.Targets.{target_of, is_call, is_pop, is_return}
use Rattle.gb_product.proofs.Below.gb_abs_effects_laws.TargetLaws.{target_of_sound, pc-returned}
use Rattle.gb_product.specs.Below.gb_relations.Pointers.{WithinIf}
use Rattle.gb_successors.specs.declared.stacks.Around.{Around}
use Rattle.gb_successors.specs.declared.stacks.Stack.{Stack}
use Rattle.gb_successors.specs.declared.stacks.StackMove.{StackMove}
use Rattle.gb_successors.specs.declared.stacks.StackMove.TheVariants as move
use Rattle.gb_successors.specs.Refined.{is_return_word, popped_target, target_within, jumped_target, moved_target, extended_target}
use Rattle.gb_successors.specs.Stacks.{extended, push_of, stack_move}
use Rattle.gb_successors.proofs.SpMoveLaws.{extended_is}
use Rattle.gb_successors.proofs.AroundLaws.{popped_none}

no_such : false ≡ true → ⊥
no_such h = cc

-- ---- words

-- the machine's PC is where it is said
abbrev pub GoesTo : Bool → Target → Activation → ℕ → Type 0
GoesTo is_main (target.At a) entry pc = pc ≡ a
GoesTo is_main (target.Call a) entry pc = pc ≡ a
GoesTo is_main (target.Main a) entry pc = pc ≡ a
GoesTo is_main target.Return entry pc = (pc ≡ word (origin_value ReturnHigh entry) (origin_value ReturnLow entry)) × (is_main ≡ false)
GoesTo is_main _ entry pc = Unit {0}

both_of : (b c : Bool) → (b && c) ≡ true → (b ≡ true) × (c ≡ true)
both_of true c h = (refl, h)
both_of false c h = cc

not_of : (b : Bool) → not b ≡ true → b ≡ false
not_of false h = refl
not_of true h = cc

pub own_value : (o : Origin) (v : Val) (entry : Activation) (n : ℕ) → is_own o v ≡ true → Holds v entry n → n ≡ origin_value o entry
own_value o v entry n is h = h.origin o (origin_from v.origin (Some o) o is refl)

single_value : (v : Val) (entry : Activation) (n : ℕ) → (v.lo == v.hi) ≡ true → Holds v entry n → n ≡ v.lo
single_value v entry n is h =
    let same = eqb-true v.lo v.hi is in
    let least = h.least in
    let most = h.most in
    omega arith

returns_to : (is_main : Bool) (w : Halves) (entry : Activation) (l h : ℕ) → Holds w.low entry l → Holds w.high entry h → (not is_main && is_return_word w) ≡ true → GoesTo is_main target.Return entry (word h l)
returns_to is_main w entry l h low high is =
    let parts = both_of (not is_main) (is_return_word w) is in
    let own = both_of (is_own ReturnHigh w.high) (is_own ReturnLow w.low) parts.1 in
    (ap (λ n. word n l) (own_value ReturnHigh w.high entry h own.0 high) ∙ ap (word (origin_value ReturnHigh entry)) (own_value ReturnLow w.low entry l own.1 low), not_of is_main parts.0)

goes_known : (w : Halves) (entry : Activation) (l h : ℕ) → Holds w.low entry l → Holds w.high entry h → is_word_known w ≡ true → word h l ≡ least_word w
goes_known w entry l h low high is =
    let parts = both_of _ _ is in
    ap (λ n. word n l) (single_value w.high entry h parts.0 high) ∙ ap (word w.high.lo) (single_value w.low entry l parts.1 low)

goes_popped : (is_main : Bool) (w : Halves) (entry : Activation) (l h : ℕ) → Holds w.low entry l → Holds w.high entry h → GoesTo is_main (popped_target is_main w) entry (word h l)
goes_popped is_main w entry l h low high = choose (not is_main && is_return_word w) refl (is_word_known w) refl
  where
    choose : (r : Bool) → (not is_main && is_return_word w) ≡ r → (s : Bool) → is_word_known w ≡ s
        → GoesTo is_main (cond r target.Return (cond s (target.At (least_word w)) target.Lost)) entry (word h l)
    choose true e s f = returns_to is_main w entry l h low high e
    choose false e true f = goes_known w entry l h low high f
    choose false e false f = tt

goes_within : (is_main : Bool) (b : Option Bounds) (entry : Activation) (a : ℕ) → WithinIf b a → GoesTo is_main (target_within b) entry a
goes_within is_main None entry a w = tt
goes_within is_main (Some b) entry a w = choose (nat_lt b.first b.last) refl
  where
    choose : (t : Bool) → nat_lt b.first b.last ≡ t → GoesTo is_main (cond t target.Unknown (target.At b.first)) entry a
    choose true e = tt
    choose false e =
        let least = w.least in
        let most = w.most in
        grind (arith, nat_tests)

goes_jumped :
    (is_main : Bool) (w : Halves) (b : Option Bounds) (entry : Activation) (l h : ℕ) → Holds w.low entry l → Holds w.high entry h → WithinIf b (word h l) → GoesTo is_main (jumped_target is_main w b) entry (word h l)
goes_jumped is_main w b entry l h low high within = choose (not is_main && is_return_word w) refl
  where
    choose : (r : Bool) → (not is_main && is_return_word w) ≡ r → GoesTo is_main (cond r target.Return (target_within b)) entry (word h l)
    choose true e = returns_to is_main w entry l h low high e
    choose false e = goes_within is_main b entry (word h l) within

-- ---- by the stack's move

-- main may begin anew at the next address
goes_either : (is_main : Bool) (m : StackMove) (next : ℕ) (entry : Activation) (pc : ℕ) → pc ≡ next → GoesTo is_main (moved_target m next (target.At next)) entry pc
goes_either is_main (move.Restart n) next entry pc h = h
goes_either is_main move.Stay next entry pc h = h
goes_either is_main (move.Push w) next entry pc h = h
goes_either is_main (move.Take n) next entry pc h = h
goes_either is_main (move.Append n) next entry pc h = h
goes_either is_main (move.Set n) next entry pc h = h
goes_either is_main (move.Aside b) next entry pc h = h
goes_either is_main move.Lost next entry pc h = h

call_moved : (w : AbsWrite) (next : ℕ) (t : Target) → moved_target (push_of w) next t ≡ t
call_moved (write.Push high low) next t = refl
call_moved write.Nothing next t = refl
call_moved (write.Byte span v) next t = refl
call_moved (write.Word a low high) next t = refl

goes_called : (is_main : Bool) (r : Rules) (w : AbsWrite) (next a : ℕ) (entry : Activation) (pc : ℕ) → pc ≡ a → GoesTo is_main (moved_target (extended r (push_of w)) next (target.Call a)) entry pc
goes_called is_main Simple w next a entry pc h = h
goes_called is_main Extended w next a entry pc h = subst (λ t. GoesTo is_main t entry pc) (sym (call_moved w next (target.Call a))) h

-- JP HL
jumps :
    (k : Stack) (v : AbsWrite) (b : Option Bounds) (next : ℕ) (w : Halves) (core : Core) (entry : Activation) (x : MState) (l h : ℕ) → MeansCore core entry x → WithinIf b (Effects.hl x.processor)
    → GoesTo k.setting.is_main (jumped_target k.setting.is_main (pair_halves pair.Hl core) b) entry (Effects.effect_of op.JumpHl x.processor l h).processor.pc
unfolding Effects.effect_of Effects.jump pair_value pair_halves
jumps k v b next w core entry x l h m within =
    goes_jumped k.setting.is_main (record { high = core.registers.h; low = core.registers.l }) b entry x.processor.registers.l x.processor.registers.h (m.registers L) (m.registers H) within

-- what the machine does, by what its reads gave
pub goes_to :
    (k : Stack) (g : Around) (o : Op) (v : AbsWrite) (b : Option Bounds) (next : ℕ) (w : Halves) (core : Core) (entry : Activation) (x : MState) (l h : ℕ)
    → Holds w.low entry l → Holds w.high entry h → MeansCore core entry x → x.processor.pc ≡ next → (Effects.effect_of o x.processor l h).is_taken ≡ true
    → (o ≡ op.JumpHl → WithinIf b (Effects.hl x.processor))
    → GoesTo k.setting.is_main (extended_target k.setting o next w core b (stack_move k g o v b) (target_of o next core)) entry (Effects.effect_of o x.processor l h).processor.pc
unfolding target_of stack_move
goes_to k g (op.ReturnIf condition) v b next w core entry x l h low high m at taken hl =
    subst (λ pc. GoesTo k.setting.is_main (popped_target k.setting.is_main w) entry pc) (sym (pc-returned (op.ReturnIf condition) next core x.processor l h refl taken)) (goes_popped k.setting.is_main w entry l h low high)
goes_to k g op.Return v b next w core entry x l h low high m at taken hl =
    subst (λ pc. GoesTo k.setting.is_main (popped_target k.setting.is_main w) entry pc) (sym (pc-returned op.Return next core x.processor l h refl taken)) (goes_popped k.setting.is_main w entry l h low high)
goes_to k g op.ReturnFromInterrupt v b next w core entry x l h low high m at taken hl =
    subst (λ pc. GoesTo k.setting.is_main (popped_target k.setting.is_main w) entry pc) (sym (pc-returned op.ReturnFromInterrupt next core x.processor l h refl taken)) (goes_popped k.setting.is_main w entry l h low high)
goes_to k g op.JumpHl v b next w core entry x l h low high m at taken hl = jumps k v b next w core entry x l h m (hl refl)
goes_to k g (op.JumpRelative e8) v b next w core entry x l h low high m at taken hl = (target_of_sound (op.JumpRelative e8) next core _ refl).gives entry x l h m at taken
goes_to k g (op.JumpRelativeIf condition e8) v b next w core entry x l h low high m at taken hl = (target_of_sound (op.JumpRelativeIf condition e8) next core _ refl).gives entry x l h m at taken
goes_to k g (op.JumpIf condition a) v b next w core entry x l h low high m at taken hl = (target_of_sound (op.JumpIf condition a) next core _ refl).gives entry x l h m at taken
goes_to k g (op.Jump a) v b next w core entry x l h low high m at taken hl = (target_of_sound (op.Jump a) next core _ refl).gives entry x l h m at taken
goes_to k g (op.CallIf condition a) v b next w core entry x l h low high m at taken hl =
    goes_called k.setting.is_main k.setting.rules v next a entry _ ((target_of_sound (op.CallIf condition a) next core _ refl).gives entry x l h m at taken)
goes_to k g (op.Call a) v b next w core entry x l h low high m at taken hl =
    goes_called k.setting.is_main k.setting.rules v next a entry _ ((target_of_sound (op.Call a) next core _ refl).gives entry x l h m at taken)
goes_to k g (op.Restart a) v b next w core entry x l h low high m at taken hl =
    goes_called k.setting.is_main k.setting.rules v next a entry _ ((target_of_sound (op.Restart a) next core _ refl).gives entry x l h m at taken)
goes_to k g o v b next w core entry x l h low high m at taken hl =
    goes_either k.setting.is_main (stack_move k g o v b) next entry _ ((target_of_sound o next core (target.At next) refl).gives entry x l h m at taken)

-- ---- what a word leads to is neither a call nor main begun anew

record IsNoJump (x : Target) : Type 0 where
  pub at : (a : ℕ) → target.At a ≡ x → ⊥
  pub returned : target.Return ≡ x → ⊥
  pub lost : target.Lost ≡ x → ⊥
  pub unknown : target.Unknown ≡ x → ⊥

main_is_no_jump : (a : ℕ) → IsNoJump (target.Main a)
main_is_no_jump a = record { at = λ b e. cc; returned = λ e. cc; lost = λ e. cc; unknown = λ e. cc }

call_is_no_jump : (a : ℕ) → IsNoJump (target.Call a)
call_is_no_jump a = record { at = λ b e. cc; returned = λ e. cc; lost = λ e. cc; unknown = λ e. cc }

not_popped : (x : Target) → IsNoJump x → (is_main : Bool) (w : Halves) → popped_target is_main w ≡ x → ⊥
not_popped x h is_main w = choose (not is_main && is_return_word w) (is_word_known w)
  where
    choose : (r s : Bool) → cond r target.Return (cond s (target.At (least_word w)) target.Lost) ≡ x → ⊥
    choose true s e = h.returned e
    choose false true e = h.at (least_word w) e
    choose false false e = h.lost e

not_within : (x : Target) → IsNoJump x → (b : Option Bounds) → target_within b ≡ x → ⊥
not_within x h None e = h.unknown e
not_within x h (Some b) e = choose (nat_lt b.first b.last) e
  where
    choose : (t : Bool) → cond t target.Unknown (target.At b.first) ≡ x → ⊥
    choose true e = h.unknown e
    choose false e = h.at b.first e

not_jumped : (x : Target) → IsNoJump x → (is_main : Bool) (w : Halves) (b : Option Bounds) → jumped_target is_main w b ≡ x → ⊥
not_jumped x h is_main w b = choose (not is_main && is_return_word w)
  where
    choose : (r : Bool) → cond r target.Return (target_within b) ≡ x → ⊥
    choose true e = h.returned e
    choose false e = not_within x h b e

-- ---- main alone begins anew

no_main : (a : ℕ) (t : Target) → ((b : ℕ) → t ≡ target.Main b → ⊥) → (m : StackMove) (next : ℕ) → ((n : ℕ) → m ≡ move.Restart n → ⊥) → moved_target m next t ≡ target.Main a → ⊥
no_main a t h (move.Restart n) next other e = other n refl
no_main a t h move.Stay next other e = h a e
no_main a t h (move.Push w) next other e = h a e
no_main a t h (move.Take n) next other e = h a e
no_main a t h (move.Append n) next other e = h a e
no_main a t h (move.Set n) next other e = h a e
no_main a t h (move.Aside b) next other e = h a e
no_main a t h move.Lost next other e = h a e

pub main_restarts :
    (z : Setting) (o : Op) (next : ℕ) (w : Halves) (core : Core) (b : Option Bounds) (m : StackMove) (a : ℕ) → ((n : ℕ) → m ≡ move.Restart n → ⊥)
    → extended_target z o next w core b m (target_of o next core) ≡ target.Main a → ⊥
unfolding target_of
main_restarts z (op.ReturnIf condition) next w core b m a h e = not_popped _ (main_is_no_jump a) z.is_main w e
main_restarts z op.Return next w core b m a h e = not_popped _ (main_is_no_jump a) z.is_main w e
main_restarts z op.ReturnFromInterrupt next w core b m a h e = not_popped _ (main_is_no_jump a) z.is_main w e
main_restarts z op.JumpHl next w core b m a h e = not_jumped _ (main_is_no_jump a) z.is_main (pair_halves pair.Hl core) b e
main_restarts z o next w core b m a h e = no_main a _ (λ c f. cc) m next h e

not_restart : (r : Rules) (m : StackMove) (n k : ℕ) → m ≡ move.Take k → extended r m ≡ move.Restart n → ⊥
not_restart Simple m n k h e = cc
not_restart Extended m n k h e = absurd (let bad : move.Take k ≡ move.Restart n = sym h ∙ e in cc)

pub restart_target :
    (k : Stack) (g : Around) (o : Op) (v : AbsWrite) (b : Option Bounds) (next : ℕ) (w : Halves) (core : Core) (n : ℕ) → stack_move k g o v b ≡ move.Restart n
    → extended_target k.setting o next w core b (stack_move k g o v b) (target_of o next core) ≡ target.Main next
unfolding stack_move
restart_target k g (op.ReturnIf condition) v b next w core n e = absurd (not_restart k.setting.rules (move.Take 2) n 2 refl e)
restart_target k g op.Return v b next w core n e = absurd (not_restart k.setting.rules (move.Take 2) n 2 refl e)
restart_target k g op.ReturnFromInterrupt v b next w core n e = absurd (not_restart k.setting.rules (move.Take 2) n 2 refl e)
restart_target k g op.JumpHl v b next w core n e = cc
restart_target k g o v b next w core n e = ap (λ m. moved_target m next (target_of o next core)) e

-- ---- calls

no_call : (a : ℕ) (t : Target) → ((b : ℕ) → t ≡ target.Call b → ⊥) → (m : StackMove) (next : ℕ) → moved_target m next t ≡ target.Call a → ⊥
no_call a t h (move.Restart n) next e = cc
no_call a t h move.Stay next e = h a e
no_call a t h (move.Push w) next e = h a e
no_call a t h (move.Take n) next e = h a e
no_call a t h (move.Append n) next e = h a e
no_call a t h (move.Set n) next e = h a e
no_call a t h (move.Aside b) next e = h a e
no_call a t h move.Lost next e = h a e

pub call_is :
    (z : Setting) (o : Op) (next : ℕ) (w : Halves) (core : Core) (b : Option Bounds) (m : StackMove) (a : ℕ)
    → extended_target z o next w core b m (target_of o next core) ≡ target.Call a → is_call o ≡ true
unfolding target_of
call_is z (op.ReturnIf condition) next w core b m a e = absurd (not_popped _ (call_is_no_jump a) z.is_main w e)
call_is z op.Return next w core b m a e = absurd (not_popped _ (call_is_no_jump a) z.is_main w e)
call_is z op.ReturnFromInterrupt next w core b m a e = absurd (not_popped _ (call_is_no_jump a) z.is_main w e)
call_is z op.JumpHl next w core b m a e = absurd (not_jumped _ (call_is_no_jump a) z.is_main (pair_halves pair.Hl core) b e)
call_is z (op.CallIf condition c) next w core b m a e = refl
call_is z (op.Call c) next w core b m a e = refl
call_is z (op.Restart c) next w core b m a e = refl
call_is z o next w core b m a e = absurd (no_call a _ (λ c f. cc) m next e)

-- ---- the word on top of the stack

operand_no_top : (which : Operand) (core : Core) → operand_read which core ≡ read.Top → ⊥
unfolding operand_read
operand_no_top (operand.Register r) core e = cc
operand_no_top operand.AtHl core e = cc

-- what reads it pops it, or returns by it
pub top_reads : (o : Op) (core : Core) → read_of o core ≡ read.Top → (is_pop o ≡ true) ⊎ (is_return o ≡ true)
unfolding read_of
top_reads (op.Pop to) core e = inl refl
top_reads (op.ReturnIf condition) core e = inr refl
top_reads op.Return core e = inr refl
top_reads op.ReturnFromInterrupt core e = inr refl
top_reads (op.Increment which) core e = absurd (operand_no_top which core e)
top_reads (op.Decrement which) core e = absurd (operand_no_top which core e)
top_reads (op.Load to from) core e = absurd (operand_no_top from core e)
top_reads (op.Alu how from) core e = absurd (operand_no_top from core e)
top_reads (op.Shift how which) core e = absurd (operand_no_top which core e)
top_reads (op.Bit n which) core e = absurd (operand_no_top which core e)
top_reads (op.Reset n which) core e = absurd (operand_no_top which core e)
top_reads (op.Set n which) core e = absurd (operand_no_top which core e)
top_reads o core e = cc

-- what it does to the stack
pub takes_two : (k : Stack) (g : Around) (o : Op) (v : AbsWrite) (b : Option Bounds) → k.setting.rules ≡ Extended → (is_pop o ≡ true → g.aside ≡ None) → (is_pop o ≡ true) ⊎ (is_return o ≡ true) → stack_move k g o v b ≡ move.Take 2
unfolding stack_move
takes_two k g (op.Pop to) v b r none h = popped_none k.setting.rules g.aside (none refl)
takes_two k g (op.ReturnIf condition) v b r none h = extended_is k.setting.rules _ r
takes_two k g op.Return v b r none h = extended_is k.setting.rules _ r
takes_two k g op.ReturnFromInterrupt v b r none h = extended_is k.setting.rules _ r
takes_two k g o v b r none (inl h) = absurd (no_such h)
takes_two k g o v b r none (inr h) = absurd (no_such h)

-- a return of which the word isn't known is lost
pub return_target : (z : Setting) (o : Op) (next : ℕ) (w : Halves) (core : Core) (b : Option Bounds) (m : StackMove) (t : Target) → is_return o ≡ true → extended_target z o next w core b m t ≡ popped_target z.is_main w
return_target z (op.ReturnIf condition) next w core b m t h = refl
return_target z op.Return next w core b m t h = refl
return_target z op.ReturnFromInterrupt next w core b m t h = refl
return_target z o next w core b m t h = absurd (no_such h)
