-- The effect of each instruction is followed.
use Rattle.std.proofs.Common.{◌≡◌, ℕ, ◌+◌, ◌%◌, Bool, true, false, refl, sym, ◌∙◌, ap, subst, arith}
use Rattle.std.proofs.lemmas.Bool.{true≢false}
use Rattle.gb_ops.specs.declared.op.Register.TheVariants.{A}
use Rattle.gb_ops.specs.declared.op.Op.{Op}
use Rattle.gb_ops.specs.declared.op.Op.TheVariants as op
use Rattle.gb_ops.specs.declared.registers.Processor.{Processor}
use Rattle.gb_ops.specs.declared.registers.Ime.TheVariants as ime
use Rattle.gb_ops.specs.declared.machine.Effect.{Effect}
use Rattle.gb_ops.specs.declared.machine.Write.TheVariants as write
use Rattle.gb_ops.specs.Arithmetic as arithmetic
use Rattle.gb_ops.specs.Pairs as machine
use Rattle.gb_ops.specs.Flags.{is_met}
use Rattle.gb_ops.specs.Effects as Effects
use Rattle.gb_ops.specs.Play.{MState}
use Rattle.gb_domain.specs.declared.types.Val.{Val}
use Rattle.gb_domain.specs.declared.types.Flg.{Flg}
use Rattle.gb_domain.specs.declared.types.Core.{Core}
use Rattle.gb_domain.specs.declared.types.Halves.{Halves}
use Rattle.gb_domain.specs.Rules.{IsVal, IsCore}
use Rattle.gb_abs.specs.Below.gb_vals.Vals.{single}
use Rattle.gb_abs.specs.Below.gb_vals.Logic.{complement_result}
use Rattle.gb_abs.specs.Below.gb_vals.Shifts.{rotation_of_a, rotation_result}
use Rattle.gb_abs.specs.Below.gb_vals.Bits.{test_bit}
use Rattle.gb_abs.specs.Below.gb_vals.Daa.{adjustment_of}
use Rattle.gb_abs.specs.Below.gb_vals.Carry.{set_carry, complement_carry, set_carry_result, complement_carry_result}
use Rattle.gb_abs.proofs.Below.gb_vals_laws.ShiftLaws.{rotate_a_sound}
use Rattle.gb_abs.proofs.Below.gb_vals_laws.BitLaws.{test_bit_sound}
use Rattle.gb_abs.proofs.Below.gb_vals_laws.DaaLaws.{adjust_sound}
use Rattle.gb_abs.proofs.Below.gb_vals_laws.CarryLaws.{set_carry_sound, complement_carry_sound}
use Rattle.gb_abs.proofs.Below.gb_vals_laws.OriginLaws.{rotate_a_computed, adjust_computed, test_bit_written}
use Rattle.gb_abs.specs.Meaning.{Activation, MeansCore}
use Rattle.gb_abs.proofs.OperationLaws.{MeansCore-set_register, Holds-single}
use Rattle.gb_abs_effects.specs.declared.writes.AbsEffect.{AbsEffect}
use Rattle.gb_abs_effects.specs.ByRules.{complement_by}
use Rattle.gb_abs_effects.specs.Pairs.{known_word, with_indirect, stack_pair_halves, with_stack_pair}
use Rattle.gb_abs_effects.specs.Transfer.{quiet, pushes, with_ime, only_off, only_on, enabled, operand_val, transfer, untaken}
use Rattle.gb_abs_effects.specs.Sound.{HasBytes, Follows, Begins, IsSoundTransfer, IsSoundUntaken}
use Rattle.gb_abs_effects.proofs.ByRulesLaws.{complement_by-sound, complement_by-computed}
use Rattle.gb_abs_effects.proofs.CoreLaws.{MeansCore-at, MeansCore-ime}
use Rattle.gb_abs_effects.proofs.PairLaws.{HoldsWord, HoldsWord-known, MeansCore-with_pair, MeansCore-with_stack_pair, HoldsWord-stack_pair}
use Rattle.gb_abs_effects.proofs.OperandLaws.{Follows-store_operand, Follows-change_a, Follows-change_flags, Follows-test_operand}
use Rattle.gb_abs_effects.proofs.AluLaws.{Follows-immediate, Follows-apply_alu}
use Rattle.gb_abs.proofs.SpanLaws.{IsIn-alone}
use Rattle.gb_abs_effects.proofs.ReadLaws.{IsIn-indirect, IsIn-high, untaken-reads}
use Rattle.gb_abs_effects.proofs.SideLaws.{is_taken-without}
use Rattle.gb_abs_effects.proofs.TargetLaws.{sp-small}
use Rattle.gb_abs_effects.proofs.InstructionLaws.{Follows-moved, a-byte, Follows-pushed, Follows-loaded, MeansCore-with_indirect, Follows-next, Follows-previous, Follows-add_hl, Follows-add_sp, Follows-load_hl, enabled-holds, Follows-increment, Follows-decrement, Follows-shift, Follows-reset, Follows-set, Follows-load, Follows-only_if}

-- the address of the next instruction is pushed
Follows-call :
    (s : Core) (entry : Activation) (x : MState) (next to : ℕ)
    → x.processor.pc ≡ next → MeansCore s entry x → Follows (pushes s (known_word next)) entry x (Effects.call x.processor to)
unfolding Effects.call
Follows-call s entry x next to pc m =
    Follows-pushed s entry x (known_word next) x.processor.pc to (subst (λ n. HoldsWord (known_word next) entry n) (sym pc) (HoldsWord-known entry next)) m

Follows-return :
    (s : Core) (entry : Activation) (x : MState) (l h : ℕ) → MeansCore s entry x → Follows (quiet s) entry x (Effects.return_to x.processor l h)
unfolding Effects.return_to
Follows-return s entry x l h m = Follows-moved s entry x ((x.processor.sp + 2) % 65536) (machine.word h l) m

Follows-jump : (s : Core) (entry : Activation) (x : MState) (to : ℕ) → MeansCore s entry x → Follows (quiet s) entry x (Effects.jump x.processor to)
unfolding Effects.jump
Follows-jump s entry x to m = Follows-moved s entry x x.processor.sp to m

set_carry-written : (f : Flg) → (set_carry f).is_own ≡ false
unfolding set_carry
set_carry-written f = refl

complement_carry-written : (f : Flg) → (complement_carry f).is_own ≡ false
unfolding complement_carry
complement_carry-written f = refl

Follows-transfer :
    (whole : Bool) (o : Op) (next : ℕ) (sp : Halves) (s : Core) (low high : Val) (entry : Activation) (x : MState) (l h : ℕ)
    → HasBytes o → IsCore s → IsVal low → (o ≡ op.Stop → ⊥) → Begins o next sp s low high entry x l h
    → Follows (transfer whole o next sp s low high) entry x (Effects.effect_of o x.processor l h)
unfolding transfer Effects.effect_of Effects.push Effects.update_a
Follows-transfer whole op.Nop next sp s low high entry x l h bytes is is_low going b = record { core = b.core; write = tt }
Follows-transfer whole op.Stop next sp s low high entry x l h bytes is is_low going b = absurd (going refl)
Follows-transfer whole op.Halt next sp s low high entry x l h bytes is is_low going b = record { core = b.core; write = tt }
Follows-transfer whole (op.LoadPair to w) next sp s low high entry x l h bytes is is_low going b =
    record { core = MeansCore-with_pair to s entry x (known_word w) w (HoldsWord-known entry w) b.core; write = tt }
Follows-transfer whole (op.StoreA to) next sp s low high entry x l h bytes is is_low going b =
    record { core = MeansCore-with_indirect whole to s entry x b.sp is b.core; write = (IsIn-indirect to s entry x b.core, b.core.registers A, a-byte s entry x is b.core) }
Follows-transfer whole (op.LoadA from) next sp s low high entry x l h bytes is is_low going b =
    record { core = MeansCore-set_register (with_indirect whole from s) entry (record x { processor = Effects.with_indirect x.processor from }) A low l b.low_read (MeansCore-with_indirect whole from s entry x b.sp is b.core); write = tt }
Follows-transfer whole (op.IncrementPair which) next sp s low high entry x l h bytes is is_low going b = Follows-next whole which s entry x b.sp is b.core
Follows-transfer whole (op.DecrementPair which) next sp s low high entry x l h bytes is is_low going b = Follows-previous whole which s entry x b.sp is b.core
Follows-transfer whole (op.Increment which) next sp s low high entry x l h bytes is is_low going b = Follows-increment whole which s entry x low l is_low b.low_read is b.core
Follows-transfer whole (op.Decrement which) next sp s low high entry x l h bytes is is_low going b = Follows-decrement whole which s entry x low l is_low b.low_read is b.core
Follows-transfer whole (op.LoadImmediate to v) next sp s low high entry x l h bytes is is_low going b =
    Follows-store_operand to s entry x (single v) v (Holds-single v entry) (omega arith) b.core
Follows-transfer whole (op.RotateA how) next sp s low high entry x l h bytes is is_low going b =
    Follows-change_a (rotation_result how) s entry x (rotation_of_a how s.registers.a s.flags) (rotate_a_sound how s.registers.a s.flags _ refl (is.registers A).hi) (rotate_a_computed how s.registers.a s.flags _ refl) b.core
Follows-transfer whole (op.StoreSp w) next sp s low high entry x l h bytes is is_low going b =
    record { core = b.core; write = (refl, b.sp_low, b.sp_high) }
Follows-transfer whole (op.AddHl which) next sp s low high entry x l h bytes is is_low going b = Follows-add_hl whole which sp s entry x b.sp (record { high = b.sp_high; low = b.sp_low }) is b.core
Follows-transfer whole (op.JumpRelative e8) next sp s low high entry x l h bytes is is_low going b = Follows-jump s entry x (arithmetic.displaced x.processor.pc e8) b.core
Follows-transfer whole (op.JumpRelativeIf c e8) next sp s low high entry x l h bytes is is_low going b =
    Follows-only_if (is_met c x.processor.flags) (quiet s) entry x _ b.taken (Follows-jump s entry x (arithmetic.displaced x.processor.pc e8) b.core)
Follows-transfer whole op.DecimalAdjust next sp s low high entry x l h bytes is is_low going b =
    Follows-change_a arithmetic.adjusted s entry x (adjustment_of s.registers.a s.flags) (adjust_sound s.registers.a s.flags _ refl) (adjust_computed s.registers.a s.flags _ refl) b.core
Follows-transfer whole op.Complement next sp s low high entry x l h bytes is is_low going b =
    Follows-change_a complement_result s entry x (complement_by whole s.registers.a s.flags) (complement_by-sound whole s.registers.a s.flags (is.registers A).hi) (complement_by-computed whole s.registers.a s.flags) b.core
Follows-transfer whole op.SetCarry next sp s low high entry x l h bytes is is_low going b =
    Follows-change_flags set_carry_result s entry x (set_carry s.flags) (set_carry_sound s.flags _ refl) (set_carry-written s.flags) b.core
Follows-transfer whole op.ComplementCarry next sp s low high entry x l h bytes is is_low going b =
    Follows-change_flags complement_carry_result s entry x (complement_carry s.flags) (complement_carry_sound s.flags _ refl) (complement_carry-written s.flags) b.core
Follows-transfer whole (op.Load to from) next sp s low high entry x l h bytes is is_low going b = Follows-load to from s entry x low l is_low b.low_read is b.core
Follows-transfer whole (op.Alu how from) next sp s low high entry x l h bytes is is_low going b = Follows-apply_alu whole how from s entry x low l is_low b.low_read is b.core
Follows-transfer whole (op.AluImmediate how v) next sp s low high entry x l h bytes is is_low going b = Follows-immediate whole how s entry x v bytes is b.core
Follows-transfer whole (op.ReturnIf c) next sp s low high entry x l h bytes is is_low going b =
    Follows-only_if (is_met c x.processor.flags) (quiet s) entry x _ b.taken (Follows-return s entry x l h b.core)
Follows-transfer whole op.Return next sp s low high entry x l h bytes is is_low going b = Follows-return s entry x l h b.core
Follows-transfer whole op.ReturnFromInterrupt next sp s low high entry x l h bytes is is_low going b =
    let m = MeansCore-ime s entry x only_on ime.On refl b.core in
    let f = Follows-return (with_ime only_on s) entry (record x { processor = record x.processor { ime = ime.On } }) l h m in
    record { core = f.core; write = f.write }
Follows-transfer whole (op.Pop to) next sp s low high entry x l h bytes is is_low going b =
    let m = MeansCore-with_stack_pair to s entry x (record { high = high; low = low }) l h b.low_read b.high_read b.core in
    record { core = MeansCore-at (with_stack_pair to (record { high = high; low = low }) s) entry (record x { processor = machine.with_stack_pair x.processor to l h }) ((x.processor.sp + 2) % 65536) _ m; write = tt }
Follows-transfer whole (op.Push from) next sp s low high entry x l h bytes is is_low going b =
    Follows-pushed s entry x (stack_pair_halves from s) (machine.stack_pair_value x.processor from) x.processor.pc (HoldsWord-stack_pair from s entry x is b.core) b.core
Follows-transfer whole (op.JumpIf c w) next sp s low high entry x l h bytes is is_low going b =
    Follows-only_if (is_met c x.processor.flags) (quiet s) entry x _ b.taken (Follows-jump s entry x w b.core)
Follows-transfer whole (op.Jump w) next sp s low high entry x l h bytes is is_low going b = Follows-jump s entry x w b.core
Follows-transfer whole (op.CallIf c w) next sp s low high entry x l h bytes is is_low going b =
    Follows-only_if (is_met c x.processor.flags) (pushes s (known_word next)) entry x _ b.taken (Follows-call s entry x next w b.pc b.core)
Follows-transfer whole (op.Call w) next sp s low high entry x l h bytes is is_low going b = Follows-call s entry x next w b.pc b.core
Follows-transfer whole (op.Restart w) next sp s low high entry x l h bytes is is_low going b = Follows-call s entry x next w b.pc b.core
Follows-transfer whole (op.StoreHigh n) next sp s low high entry x l h bytes is is_low going b =
    record { core = b.core; write = (IsIn-alone (0xFF00 + n), b.core.registers A, a-byte s entry x is b.core) }
Follows-transfer whole (op.LoadHigh n) next sp s low high entry x l h bytes is is_low going b = Follows-loaded s entry x low l b.low_read b.core
Follows-transfer whole op.StoreHighC next sp s low high entry x l h bytes is is_low going b =
    record { core = b.core; write = (IsIn-high s entry x b.core, b.core.registers A, a-byte s entry x is b.core) }
Follows-transfer whole op.LoadHighC next sp s low high entry x l h bytes is is_low going b = Follows-loaded s entry x low l b.low_read b.core
Follows-transfer whole (op.StoreAbsolute w) next sp s low high entry x l h bytes is is_low going b =
    record { core = b.core; write = (IsIn-alone w, b.core.registers A, a-byte s entry x is b.core) }
Follows-transfer whole (op.LoadAbsolute w) next sp s low high entry x l h bytes is is_low going b = Follows-loaded s entry x low l b.low_read b.core
Follows-transfer whole (op.AddSp e8) next sp s low high entry x l h bytes is is_low going b = Follows-add_sp e8 sp s entry x (record { high = b.sp_high; low = b.sp_low }) b.core
Follows-transfer whole (op.LoadHlSp e8) next sp s low high entry x l h bytes is is_low going b = Follows-load_hl e8 sp s entry x (record { high = b.sp_high; low = b.sp_low }) b.core
Follows-transfer whole op.LoadSpHl next sp s low high entry x l h bytes is is_low going b = Follows-moved s entry x (Effects.hl x.processor) x.processor.pc b.core
Follows-transfer whole op.JumpHl next sp s low high entry x l h bytes is is_low going b = Follows-jump s entry x (Effects.hl x.processor) b.core
Follows-transfer whole op.DisableInterrupts next sp s low high entry x l h bytes is is_low going b =
    record { core = MeansCore-ime s entry x only_off ime.Off refl b.core; write = tt }
Follows-transfer whole op.EnableInterrupts next sp s low high entry x l h bytes is is_low going b =
    record { core = MeansCore-ime s entry x (enabled s.ime) (Effects.enabled x.processor.ime) (enabled-holds s.ime x.processor.ime b.core.ime) b.core; write = tt }
Follows-transfer whole (op.Shift how which) next sp s low high entry x l h bytes is is_low going b = Follows-shift whole how which s entry x low l is_low b.low_read is b.core
Follows-transfer whole (op.Bit n which) next sp s low high entry x l h bytes is is_low going b =
    let v = operand_val which s low in
    Follows-test_operand (arithmetic.bit_tested n) which s entry x low l (test_bit n v s.flags) (test_bit_sound n v s.flags _ refl) (test_bit_written n v s.flags _ refl) b.low_read b.core
Follows-transfer whole (op.Reset n which) next sp s low high entry x l h bytes is is_low going b = Follows-reset whole n which s entry x low l is_low b.low_read is b.core
Follows-transfer whole (op.Set n which) next sp s low high entry x l h bytes is is_low going b = Follows-set whole n which s entry x low l is_low b.low_read is b.core

pub transfer_sound :
    (whole : Bool) (o : Op) (next : ℕ) (sp : Halves) (s : Core) (low high : Val) (t : AbsEffect)
    → t ≡ transfer whole o next sp s low high → HasBytes o → IsCore s → IsVal low → IsSoundTransfer o next sp s low high t
transfer_sound whole o next sp s low high t e bytes is is_low =
    subst (λ k. IsSoundTransfer o next sp s low high k) (sym e) (record {
      gives = λ entry x l h going b. Follows-transfer whole o next sp s low high entry x l h bytes is is_low going b;
      sp = λ entry x l h b. sp-small o s entry x l h bytes is b.core b.sp;
    })

-- ---- not taken

-- an effect that doesn't take place
abbrev left_alone : Processor → Effect
left_alone p = record { processor = p; write = write.Nothing; is_taken = false }

only_if-alone : (b : Bool) (e : Effect) (p : Processor) → e.is_taken ≡ true → (Effects.only_if b e p).is_taken ≡ false → Effects.only_if b e p ≡ left_alone p
unfolding Effects.only_if
only_if-alone true e p taken h = cc
only_if-alone false e p taken h = refl

untaken-is : (o : Op) (p : Processor) (l h : ℕ) → (Effects.effect_of o p l h).is_taken ≡ false → Effects.effect_of o p l h ≡ left_alone p
unfolding Effects.effect_of Effects.jump Effects.call Effects.return_to
untaken-is (op.JumpRelativeIf c e8) p l h e = only_if-alone (is_met c p.flags) _ p refl e
untaken-is (op.ReturnIf c) p l h e = only_if-alone (is_met c p.flags) _ p refl e
untaken-is (op.JumpIf c w) p l h e = only_if-alone (is_met c p.flags) _ p refl e
untaken-is (op.CallIf c w) p l h e = only_if-alone (is_met c p.flags) _ p refl e
untaken-is o p l h e = absurd (true≢false (sym (is_taken-without o p l h refl) ∙ e))

-- an instruction that isn't taken leaves the processor
pub untaken-stays : (o : Op) (p : Processor) (l h : ℕ) → (Effects.effect_of o p l h).is_taken ≡ false → (Effects.effect_of o p l h).processor ≡ p
untaken-stays o p l h e = ap (λ (f : Effect). f.processor) (untaken-is o p l h e)

Follows-untaken : (s : Core) (entry : Activation) (x : MState) → MeansCore s entry x → Follows (untaken s) entry x (left_alone x.processor)
unfolding untaken
Follows-untaken s entry x m = record { core = m; write = tt }

pub untaken_sound : (s : Core) (t : AbsEffect) → t ≡ untaken s → IsSoundUntaken s t
untaken_sound s t e =
    subst (λ k. IsSoundUntaken s k) (sym e) (record {
      gives = λ o entry x l h m not_taken. subst (λ f. Follows (untaken s) entry x f) (sym (untaken-is o x.processor l h not_taken)) (Follows-untaken s entry x m);
      reads = λ o p l h not_taken. untaken-reads o p l h not_taken;
      stays = λ o p l h not_taken. untaken-stays o p l h not_taken;
    })
