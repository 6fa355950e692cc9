-- Where an instruction leaves PC and SP.
use Rattle.std.proofs.Common.{◌≡◌, ℕ, ◌+◌, ◌%◌, ◌≤◌, ◌<◌, Bool, true, false, cond, refl, sym, ◌∙◌, ap, subst, arith}
use Rattle.std.proofs.lemmas.Bool.{and_parts}
use Rattle.gb_ops.specs.declared.op.Register.TheVariants.{H, L}
use Rattle.gb_ops.specs.declared.op.Operand.{Operand}
use Rattle.gb_ops.specs.declared.op.Operand.TheVariants as operand
use Rattle.gb_ops.specs.declared.op.Pair.{Pair}
use Rattle.gb_ops.specs.declared.op.Pair.TheVariants as pair
use Rattle.gb_ops.specs.declared.op.StackPair.{StackPair}
use Rattle.gb_ops.specs.declared.op.StackPair.TheVariants as stack
use Rattle.gb_ops.specs.declared.op.Indirect.{Indirect}
use Rattle.gb_ops.specs.declared.op.Indirect.TheVariants as indirect
use Rattle.gb_ops.specs.declared.op.Op.{Op}
use Rattle.gb_ops.specs.declared.op.Op.TheVariants as op
use Rattle.gb_ops.specs.declared.registers.Processor.{Processor}
use Rattle.gb_ops.specs.declared.machine.Effect.{Effect}
use Rattle.gb_ops.specs.declared.machine.Read.TheVariants as machine_read
use Rattle.gb_ops.specs.declared.machine.Write.TheVariants as write
use Rattle.gb_ops.specs.Arithmetic.{displaced}
use Rattle.gb_ops.specs.Flags.{is_met}
use Rattle.gb_ops.specs.Pairs as machine
use Rattle.gb_ops.specs.Effects as Effects
use Rattle.gb_ops.specs.Play.{MState}
use Rattle.gb_domain.specs.declared.types.Core.{Core}
use Rattle.gb_domain.specs.Rules.{IsVal, IsCore}
use Rattle.gb_abs.specs.Below.gb_vals.Vals.{is_single}
use Rattle.gb_abs.proofs.Below.gb_vals_laws.MeaningLaws.{single-is}
use Rattle.gb_abs.specs.Meaning.{Activation, MeansCore}
use Rattle.gb_domain.specs.declared.types.Halves.{Halves}
use Rattle.gb_abs_effects.specs.declared.targets.Target.{Target}
use Rattle.gb_abs_effects.specs.declared.targets.Target.TheVariants as target
use Rattle.gb_abs_effects.specs.Pairs.{is_word_known, least_word, pair_halves}
use Rattle.gb_abs_effects.specs.Targets.{word_target, target_of, is_sp, moves_sp}
use Rattle.gb_abs_effects.specs.Sound.{HasBytes, HoldsTarget, IsTargetAt, IsSoundTarget}
use Rattle.gb_abs_effects.proofs.CoreLaws.{In-from, byte-of}

-- ---- parts of effects

store_operand-pc : (p : Processor) (to : Operand) (n : ℕ) → (Effects.store_operand p to n).processor.pc ≡ p.pc
unfolding Effects.store_operand
store_operand-pc p (operand.Register r) n = refl
store_operand-pc p operand.AtHl n = refl

store_operand-sp : (p : Processor) (to : Operand) (n : ℕ) → (Effects.store_operand p to n).processor.sp ≡ p.sp
unfolding Effects.store_operand
store_operand-sp p (operand.Register r) n = refl
store_operand-sp p operand.AtHl n = refl

with_pair-pc : (p : Processor) (which : Pair) (w : ℕ) → (machine.with_pair p which w).pc ≡ p.pc
unfolding machine.with_pair
with_pair-pc p pair.Bc w = refl
with_pair-pc p pair.De w = refl
with_pair-pc p pair.Hl w = refl
with_pair-pc p pair.Sp w = refl

with_pair-sp : (p : Processor) (which : Pair) (w : ℕ) → is_sp which ≡ false → (machine.with_pair p which w).sp ≡ p.sp
unfolding machine.with_pair
with_pair-sp p pair.Bc w e = refl
with_pair-sp p pair.De w e = refl
with_pair-sp p pair.Hl w e = refl
with_pair-sp p pair.Sp w e = cc

with_stack_pair-pc : (p : Processor) (which : StackPair) (l h : ℕ) → (machine.with_stack_pair p which l h).pc ≡ p.pc
unfolding machine.with_stack_pair
with_stack_pair-pc p stack.Bc l h = refl
with_stack_pair-pc p stack.De l h = refl
with_stack_pair-pc p stack.Hl l h = refl
with_stack_pair-pc p stack.Af l h = refl

with_indirect-pc : (p : Processor) (which : Indirect) → (Effects.with_indirect p which).pc ≡ p.pc
unfolding Effects.with_indirect
with_indirect-pc p indirect.Bc = refl
with_indirect-pc p indirect.De = refl
with_indirect-pc p indirect.HlIncrement = with_pair-pc p pair.Hl _
with_indirect-pc p indirect.HlDecrement = with_pair-pc p pair.Hl _

with_indirect-sp : (p : Processor) (which : Indirect) → (Effects.with_indirect p which).sp ≡ p.sp
unfolding Effects.with_indirect
with_indirect-sp p indirect.Bc = refl
with_indirect-sp p indirect.De = refl
with_indirect-sp p indirect.HlIncrement = with_pair-sp p pair.Hl _ refl
with_indirect-sp p indirect.HlDecrement = with_pair-sp p pair.Hl _ refl

-- ---- PC

-- a jump that is taken
only_if-pc :
    (b : Bool) (e : Effect) (p : Processor) (to : ℕ) → (Effects.only_if b e p).is_taken ≡ true → e.processor.pc ≡ to → (Effects.only_if b e p).processor.pc ≡ to
unfolding Effects.only_if
only_if-pc true e p to taken h = h
only_if-pc false e p to taken h = cc

-- HL, where it is known
HoldsTarget-hl : (s : Core) (entry : Activation) (x : MState) → MeansCore s entry x → HoldsTarget (word_target (pair_halves pair.Hl s)) (Effects.hl x.processor)
unfolding pair_halves machine.pair_value
HoldsTarget-hl s entry x m = choose (is_word_known (pair_halves pair.Hl s)) refl
  where
    known : is_word_known (pair_halves pair.Hl s) ≡ true → Effects.hl x.processor ≡ least_word (pair_halves pair.Hl s)
    known e =
        let both = and_parts (is_single s.registers.h) (is_single s.registers.l) e in
        let high : x.processor.registers.h ≡ s.registers.h.lo = single-is s.registers.h _ both.0 (In-from s.registers.h entry _ (m.registers H)) in
        let low : x.processor.registers.l ≡ s.registers.l.lo = single-is s.registers.l _ both.1 (In-from s.registers.l entry _ (m.registers L)) in
        omega arith

    choose :
        (b : Bool) → is_word_known (pair_halves pair.Hl s) ≡ b
        → HoldsTarget (cond b (target.At (least_word (pair_halves pair.Hl s))) target.Unknown) (Effects.hl x.processor)
    choose true e = known e
    choose false e = tt

HoldsTarget-target_of :
    (o : Op) (next : ℕ) (s : Core) (entry : Activation) (x : MState) (l h : ℕ)
    → MeansCore s entry x → x.processor.pc ≡ next → (Effects.effect_of o x.processor l h).is_taken ≡ true
    → HoldsTarget (target_of o next s) (Effects.effect_of o x.processor l h).processor.pc
unfolding target_of Effects.effect_of Effects.update_operand Effects.update_a Effects.jump Effects.push Effects.call Effects.return_to
HoldsTarget-target_of (op.LoadPair to w) next s entry x l h m pc taken = with_pair-pc x.processor to w ∙ pc
HoldsTarget-target_of (op.StoreA to) next s entry x l h m pc taken = with_indirect-pc x.processor to ∙ pc
HoldsTarget-target_of (op.LoadA from) next s entry x l h m pc taken = with_indirect-pc x.processor from ∙ pc
HoldsTarget-target_of (op.IncrementPair which) next s entry x l h m pc taken = with_pair-pc x.processor which _ ∙ pc
HoldsTarget-target_of (op.DecrementPair which) next s entry x l h m pc taken = with_pair-pc x.processor which _ ∙ pc
HoldsTarget-target_of (op.Increment which) next s entry x l h m pc taken = store_operand-pc _ which _ ∙ pc
HoldsTarget-target_of (op.Decrement which) next s entry x l h m pc taken = store_operand-pc _ which _ ∙ pc
HoldsTarget-target_of (op.LoadImmediate to v) next s entry x l h m pc taken = store_operand-pc _ to _ ∙ pc
HoldsTarget-target_of (op.AddHl which) next s entry x l h m pc taken = with_pair-pc x.processor pair.Hl _ ∙ pc
HoldsTarget-target_of (op.JumpRelative e8) next s entry x l h m pc taken = ap (λ n. displaced n e8) pc
HoldsTarget-target_of (op.JumpRelativeIf c e8) next s entry x l h m pc taken = only_if-pc (is_met c x.processor.flags) _ x.processor _ taken (ap (λ n. displaced n e8) pc)
HoldsTarget-target_of (op.Load to from) next s entry x l h m pc taken = store_operand-pc _ to _ ∙ pc
HoldsTarget-target_of (op.ReturnIf c) next s entry x l h m pc taken = tt
HoldsTarget-target_of op.Return next s entry x l h m pc taken = tt
HoldsTarget-target_of op.ReturnFromInterrupt next s entry x l h m pc taken = tt
HoldsTarget-target_of (op.Pop to) next s entry x l h m pc taken = with_stack_pair-pc x.processor to l h ∙ pc
HoldsTarget-target_of (op.JumpIf c w) next s entry x l h m pc taken = only_if-pc (is_met c x.processor.flags) _ x.processor _ taken refl
HoldsTarget-target_of (op.Jump w) next s entry x l h m pc taken = refl
HoldsTarget-target_of (op.CallIf c w) next s entry x l h m pc taken = only_if-pc (is_met c x.processor.flags) _ x.processor _ taken refl
HoldsTarget-target_of (op.Call w) next s entry x l h m pc taken = refl
HoldsTarget-target_of (op.Restart w) next s entry x l h m pc taken = refl
HoldsTarget-target_of (op.LoadHlSp e8) next s entry x l h m pc taken = with_pair-pc x.processor pair.Hl _ ∙ pc
HoldsTarget-target_of op.JumpHl next s entry x l h m pc taken = HoldsTarget-hl s entry x m
HoldsTarget-target_of (op.Shift how which) next s entry x l h m pc taken = store_operand-pc _ which _ ∙ pc
HoldsTarget-target_of (op.Reset n which) next s entry x l h m pc taken = store_operand-pc _ which _ ∙ pc
HoldsTarget-target_of (op.Set n which) next s entry x l h m pc taken = store_operand-pc _ which _ ∙ pc
HoldsTarget-target_of o next s entry x l h m pc taken = pc

pub target_of_sound : (o : Op) (next : ℕ) (s : Core) (t : Target) → t ≡ target_of o next s → IsSoundTarget o next s t
target_of_sound o next s t e =
    subst (λ k. IsSoundTarget o next s k) (sym e) (record { gives = λ entry x l h m pc taken. HoldsTarget-target_of o next s entry x l h m pc taken })

-- ---- SP

only_if-sp : (b : Bool) (e : Effect) (p : Processor) → e.processor.sp ≡ p.sp → (Effects.only_if b e p).processor.sp ≡ p.sp
unfolding Effects.only_if
only_if-sp true e p h = h
only_if-sp false e p h = refl

-- an instruction that doesn't move SP leaves it
pub sp-kept : (o : Op) (p : Processor) (l h : ℕ) → moves_sp o ≡ false → (Effects.effect_of o p l h).processor.sp ≡ p.sp
unfolding Effects.effect_of Effects.update_operand Effects.update_a Effects.jump
sp-kept (op.LoadPair to w) p l h e = with_pair-sp p to w e
sp-kept (op.StoreA to) p l h e = with_indirect-sp p to
sp-kept (op.LoadA from) p l h e = with_indirect-sp p from
sp-kept (op.IncrementPair which) p l h e = with_pair-sp p which _ e
sp-kept (op.DecrementPair which) p l h e = with_pair-sp p which _ e
sp-kept (op.Increment which) p l h e = store_operand-sp _ which _
sp-kept (op.Decrement which) p l h e = store_operand-sp _ which _
sp-kept (op.LoadImmediate to v) p l h e = store_operand-sp _ to _
sp-kept (op.AddHl which) p l h e = with_pair-sp p pair.Hl _ refl
sp-kept (op.JumpRelativeIf c e8) p l h e = only_if-sp (is_met c p.flags) _ p refl
sp-kept (op.Load to from) p l h e = store_operand-sp _ to _
sp-kept (op.ReturnIf c) p l h e = cc
sp-kept op.Return p l h e = cc
sp-kept op.ReturnFromInterrupt p l h e = cc
sp-kept (op.Pop to) p l h e = cc
sp-kept (op.Push from) p l h e = cc
sp-kept (op.JumpIf c w) p l h e = only_if-sp (is_met c p.flags) _ p refl
sp-kept (op.CallIf c w) p l h e = cc
sp-kept (op.Call w) p l h e = cc
sp-kept (op.Restart w) p l h e = cc
sp-kept (op.AddSp e8) p l h e = cc
sp-kept (op.LoadHlSp e8) p l h e = with_pair-sp p pair.Hl _ refl
sp-kept op.LoadSpHl p l h e = cc
sp-kept (op.Shift how which) p l h e = store_operand-sp _ which _
sp-kept (op.Reset n which) p l h e = store_operand-sp _ which _
sp-kept (op.Set n which) p l h e = store_operand-sp _ which _
sp-kept o p l h e = refl

-- LD SP,n16
pub sp-loaded : (w : ℕ) (p : Processor) (l h : ℕ) → (Effects.effect_of (op.LoadPair pair.Sp w) p l h).processor.sp ≡ w
unfolding Effects.effect_of machine.with_pair
sp-loaded w p l h = refl

-- ---- SP stays an address

with_pair-small : (p : Processor) (which : Pair) (w : ℕ) → p.sp < 65536 → w < 65536 → (machine.with_pair p which w).sp < 65536
unfolding machine.with_pair
with_pair-small p pair.Bc w small h = small
with_pair-small p pair.De w small h = small
with_pair-small p pair.Hl w small h = small
with_pair-small p pair.Sp w small h = h

only_if-small : (b : Bool) (e : Effect) (p : Processor) → p.sp < 65536 → e.processor.sp < 65536 → (Effects.only_if b e p).processor.sp < 65536
unfolding Effects.only_if
only_if-small true e p small h = h
only_if-small false e p small h = small

displaced-small : (from e8 : ℕ) → displaced from e8 < 65536
unfolding displaced
displaced-small from e8 = omega arith

wrapped : (n : ℕ) → n % 65536 < 65536
wrapped n = omega arith

hl-small : (s : Core) (entry : Activation) (x : MState) → IsCore s → MeansCore s entry x → Effects.hl x.processor < 65536
unfolding machine.pair_value
hl-small s entry x is m =
    let high : x.processor.registers.h ≤ 255 = byte-of s.registers.h entry _ (is.registers H) (m.registers H) in
    let low : x.processor.registers.l ≤ 255 = byte-of s.registers.l entry _ (is.registers L) (m.registers L) in
    omega arith

pub sp-small :
    (o : Op) (s : Core) (entry : Activation) (x : MState) (l h : ℕ)
    → HasBytes o → IsCore s → MeansCore s entry x → x.processor.sp < 65536 → (Effects.effect_of o x.processor l h).processor.sp < 65536
unfolding Effects.effect_of Effects.push Effects.call Effects.return_to
sp-small (op.LoadPair to w) s entry x l h bytes is m small = with_pair-small x.processor to w small bytes
sp-small (op.IncrementPair which) s entry x l h bytes is m small = with_pair-small x.processor which _ small (wrapped (machine.pair_value x.processor which + 1))
sp-small (op.DecrementPair which) s entry x l h bytes is m small = with_pair-small x.processor which _ small (wrapped (machine.pair_value x.processor which + 65535))
sp-small (op.ReturnIf c) s entry x l h bytes is m small = only_if-small (is_met c x.processor.flags) _ x.processor small (wrapped (x.processor.sp + 2))
sp-small op.Return s entry x l h bytes is m small = wrapped (x.processor.sp + 2)
sp-small op.ReturnFromInterrupt s entry x l h bytes is m small = wrapped (x.processor.sp + 2)
sp-small (op.Pop to) s entry x l h bytes is m small = wrapped (x.processor.sp + 2)
sp-small (op.Push from) s entry x l h bytes is m small = wrapped (x.processor.sp + 65534)
sp-small (op.CallIf c w) s entry x l h bytes is m small = only_if-small (is_met c x.processor.flags) _ x.processor small (wrapped (x.processor.sp + 65534))
sp-small (op.Call w) s entry x l h bytes is m small = wrapped (x.processor.sp + 65534)
sp-small (op.Restart w) s entry x l h bytes is m small = wrapped (x.processor.sp + 65534)
sp-small (op.AddSp e8) s entry x l h bytes is m small = displaced-small x.processor.sp e8
sp-small op.LoadSpHl s entry x l h bytes is m small = hl-small s entry x is m
sp-small o s entry x l h bytes is m small = subst (λ n. n < 65536) (sym (sp-kept o x.processor l h refl)) small

-- ---- the stack's instructions

store_operand-no_push : (p : Processor) (to : Operand) (n a w : ℕ) → (Effects.store_operand p to n).write ≡ write.Push a w → ⊥
unfolding Effects.store_operand
store_operand-no_push p (operand.Register r) n a w e = cc
store_operand-no_push p operand.AtHl n a w e = cc

only_if-pushed :
    (b : Bool) (e : Effect) (p : Processor) (a w sp : ℕ)
    → e.processor.sp ≡ sp → (Effects.only_if b e p).write ≡ write.Push a w → (Effects.only_if b e p).processor.sp ≡ sp
unfolding Effects.only_if
only_if-pushed true e p a w sp h push = h
only_if-pushed false e p a w sp h push = cc

only_if-no_push : (b : Bool) (to : ℕ) (p : Processor) (a w : ℕ) → (Effects.only_if b (Effects.jump p to) p).write ≡ write.Push a w → ⊥
unfolding Effects.only_if Effects.jump
only_if-no_push true to p a w push = cc
only_if-no_push false to p a w push = cc

only_if-no_push_back : (b : Bool) (l h : ℕ) (p : Processor) (a w : ℕ) → (Effects.only_if b (Effects.return_to p l h) p).write ≡ write.Push a w → ⊥
unfolding Effects.only_if Effects.return_to
only_if-no_push_back true l h p a w push = cc
only_if-no_push_back false l h p a w push = cc

-- what pushes leaves SP two below
pub sp-pushed :
    (o : Op) (p : Processor) (l h a w : ℕ)
    → (Effects.effect_of o p l h).write ≡ write.Push a w → (Effects.effect_of o p l h).processor.sp ≡ (p.sp + 65534) % 65536
unfolding Effects.effect_of Effects.update_operand Effects.update_a Effects.jump Effects.push Effects.call Effects.return_to
sp-pushed (op.Increment which) p l h a w push = absurd (store_operand-no_push _ which _ a w push)
sp-pushed (op.Decrement which) p l h a w push = absurd (store_operand-no_push _ which _ a w push)
sp-pushed (op.LoadImmediate to v) p l h a w push = absurd (store_operand-no_push _ to _ a w push)
sp-pushed (op.JumpRelativeIf c e8) p l h a w push = absurd (only_if-no_push (is_met c p.flags) _ p a w push)
sp-pushed (op.Load to from) p l h a w push = absurd (store_operand-no_push _ to _ a w push)
sp-pushed (op.ReturnIf c) p l h a w push = absurd (only_if-no_push_back (is_met c p.flags) l h p a w push)
sp-pushed (op.Push from) p l h a w push = refl
sp-pushed (op.JumpIf c to) p l h a w push = absurd (only_if-no_push (is_met c p.flags) to p a w push)
sp-pushed (op.CallIf c to) p l h a w push = only_if-pushed (is_met c p.flags) _ p a w _ refl push
sp-pushed (op.Call to) p l h a w push = refl
sp-pushed (op.Restart to) p l h a w push = refl
sp-pushed (op.Shift how which) p l h a w push = absurd (store_operand-no_push _ which _ a w push)
sp-pushed (op.Reset n which) p l h a w push = absurd (store_operand-no_push _ which _ a w push)
sp-pushed (op.Set n which) p l h a w push = absurd (store_operand-no_push _ which _ a w push)
sp-pushed o p l h a w push = cc

operand_read-no_word : (p : Processor) (which : Operand) (a : ℕ) → Effects.operand_read p which ≡ machine_read.Word a → ⊥
unfolding Effects.operand_read
operand_read-no_word p (operand.Register r) a e = cc
operand_read-no_word p operand.AtHl a e = cc

-- an effect that is taken
only_if-taken : (b : Bool) (e : Effect) (p : Processor) (P : Effect → Type 0) → (Effects.only_if b e p).is_taken ≡ true → P e → P (Effects.only_if b e p)
unfolding Effects.only_if
only_if-taken true e p P taken h = h
only_if-taken false e p P taken h = cc

-- what pops, and is taken, leaves SP two above
pub sp-popped :
    (o : Op) (p : Processor) (l h a : ℕ)
    → (Effects.effect_of o p l h).is_taken ≡ true → Effects.read_of o p ≡ machine_read.Word a → (Effects.effect_of o p l h).processor.sp ≡ (p.sp + 2) % 65536
unfolding Effects.effect_of Effects.read_of Effects.return_to
sp-popped (op.Increment which) p l h a taken word = absurd (operand_read-no_word p which a word)
sp-popped (op.Decrement which) p l h a taken word = absurd (operand_read-no_word p which a word)
sp-popped (op.Load to from) p l h a taken word = absurd (operand_read-no_word p from a word)
sp-popped (op.Alu how which) p l h a taken word = absurd (operand_read-no_word p which a word)
sp-popped (op.ReturnIf c) p l h a taken word =
    only_if-taken (is_met c p.flags) _ p (λ e. e.processor.sp ≡ (p.sp + 2) % 65536) taken refl
sp-popped op.Return p l h a taken word = refl
sp-popped op.ReturnFromInterrupt p l h a taken word = refl
sp-popped (op.Pop to) p l h a taken word = refl
sp-popped (op.Shift how which) p l h a taken word = absurd (operand_read-no_word p which a word)
sp-popped (op.Bit n which) p l h a taken word = absurd (operand_read-no_word p which a word)
sp-popped (op.Reset n which) p l h a taken word = absurd (operand_read-no_word p which a word)
sp-popped (op.Set n which) p l h a taken word = absurd (operand_read-no_word p which a word)
sp-popped o p l h a taken word = cc

word_target-no_return : (w : Halves) → word_target w ≡ target.Return → ⊥
word_target-no_return w e = choose (is_word_known w) e
  where
    choose : (b : Bool) → cond b (target.At (least_word w)) target.Unknown ≡ target.Return → ⊥
    choose true e = cc
    choose false e = cc

-- a return that is taken goes on at the word that was read
pub pc-returned :
    (o : Op) (next : ℕ) (s : Core) (p : Processor) (l h : ℕ)
    → target_of o next s ≡ target.Return → (Effects.effect_of o p l h).is_taken ≡ true
    → (Effects.effect_of o p l h).processor.pc ≡ machine.word h l
unfolding target_of Effects.effect_of Effects.return_to
pc-returned (op.ReturnIf c) next s p l h e taken =
    only_if-taken (is_met c p.flags) _ p (λ f. f.processor.pc ≡ machine.word h l) taken refl
pc-returned op.Return next s p l h e taken = refl
pc-returned op.ReturnFromInterrupt next s p l h e taken = refl
pc-returned op.JumpHl next s p l h e taken = absurd (word_target-no_return (pair_halves pair.Hl s) e)
pc-returned o next s p l h e taken = cc

-- ---- targets are addresses

least_word-small : (s : Core) → IsCore s → least_word (pair_halves pair.Hl s) < 65536
unfolding pair_halves
least_word-small s is =
    let high : IsVal s.registers.h = is.registers H in
    let low : IsVal s.registers.l = is.registers L in
    let a : s.registers.h.lo ≤ s.registers.h.hi = high.order in
    let b : s.registers.h.hi < 256 = high.hi in
    let c : s.registers.l.lo ≤ s.registers.l.hi = low.order in
    let d : s.registers.l.hi < 256 = low.hi in
    omega arith

IsTargetAt-hl : (s : Core) → IsCore s → IsTargetAt (word_target (pair_halves pair.Hl s))
IsTargetAt-hl s is = choose (is_word_known (pair_halves pair.Hl s))
  where
    choose : (b : Bool) → IsTargetAt (cond b (target.At (least_word (pair_halves pair.Hl s))) target.Unknown)
    choose true = least_word-small s is
    choose false = tt

vector-small : (w : ℕ) → w < 256 → w < 65536
vector-small w h = omega arith

IsTargetAt-target_of : (o : Op) (next : ℕ) (s : Core) → HasBytes o → next < 65536 → IsCore s → IsTargetAt (target_of o next s)
unfolding target_of
IsTargetAt-target_of (op.JumpRelative e8) next s bytes small is = displaced-small next e8
IsTargetAt-target_of (op.JumpRelativeIf c e8) next s bytes small is = displaced-small next e8
IsTargetAt-target_of (op.ReturnIf c) next s bytes small is = tt
IsTargetAt-target_of op.Return next s bytes small is = tt
IsTargetAt-target_of op.ReturnFromInterrupt next s bytes small is = tt
IsTargetAt-target_of (op.JumpIf c w) next s bytes small is = bytes
IsTargetAt-target_of (op.Jump w) next s bytes small is = bytes
IsTargetAt-target_of (op.CallIf c w) next s bytes small is = bytes
IsTargetAt-target_of (op.Call w) next s bytes small is = bytes
IsTargetAt-target_of (op.Restart w) next s bytes small is = vector-small w bytes
IsTargetAt-target_of op.JumpHl next s bytes small is = IsTargetAt-hl s is
IsTargetAt-target_of o next s bytes small is = small

pub target_of_at : (o : Op) (next : ℕ) (s : Core) (t : Target) → t ≡ target_of o next s → HasBytes o → next < 65536 → IsCore s → IsTargetAt t
target_of_at o next s t e bytes small is = subst IsTargetAt (sym e) (IsTargetAt-target_of o next s bytes small is)
