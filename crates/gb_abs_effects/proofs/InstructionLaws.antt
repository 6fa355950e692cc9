-- The lines of the opcode table: what each does to the machine is followed.
use Rattle.std.proofs.Common.{◌≡◌, ℕ, ◌+◌, ◌%◌, ◌≤◌, ◌<◌, Bool, true, false, ◌||◌, refl, ap}
use Rattle.gb_ops.specs.declared.op.Register.TheVariants.{A}
use Rattle.gb_ops.specs.declared.op.Pair.{Pair}
use Rattle.gb_ops.specs.declared.op.Pair.TheVariants as pair
use Rattle.gb_ops.specs.declared.op.Indirect.{Indirect}
use Rattle.gb_ops.specs.declared.op.Indirect.TheVariants as indirect
use Rattle.gb_ops.specs.declared.op.Operand.{Operand}
use Rattle.gb_ops.specs.declared.op.Shift.{Shift}
use Rattle.gb_ops.specs.declared.op.Op.TheVariants as op
use Rattle.gb_ops.specs.declared.registers.Flags.{Flags}
use Rattle.gb_ops.specs.declared.registers.Ime.{Ime}
use Rattle.gb_ops.specs.declared.registers.Ime.TheVariants.{Off, Pending, On}
use Rattle.gb_ops.specs.declared.machine.Effect.{Effect}
use Rattle.gb_ops.specs.declared.machine.Write.TheVariants as write
use Rattle.gb_ops.specs.Arithmetic as arithmetic
use Rattle.gb_ops.specs.Pairs as machine
use Rattle.gb_ops.specs.Effects as Effects
use Rattle.gb_ops.specs.Play.{MState}
use Rattle.gb_domain.specs.declared.types.Val.{Val}
use Rattle.gb_domain.specs.declared.types.Flg.{Flg}
use Rattle.gb_domain.specs.declared.types.ImeSet.{ImeSet}
use Rattle.gb_domain.specs.declared.types.Core.{Core}
use Rattle.gb_domain.specs.Rules.{IsVal, IsCore}
use Rattle.gb_abs.specs.Below.gb_vals.Meaning.{FlagsIn}
use Rattle.gb_abs.specs.Below.gb_vals.Shifts.{shift_result}
use Rattle.gb_abs.specs.Meaning.{Activation, Holds, MeansCore, ime_may_be}
use Rattle.gb_abs.specs.Operations.{core_set_register}
use Rattle.gb_abs.proofs.OperationLaws.{MeansCore-set_register}
use Rattle.gb_domain.specs.declared.types.Halves.{Halves}
use Rattle.gb_abs_effects.specs.declared.writes.AbsEffect.{AbsEffect}
use Rattle.gb_abs_effects.specs.ByRules.{increment_by, decrement_by, shift_by, reset_bit_by, set_bit_by}
use Rattle.gb_abs_effects.specs.Pairs.{next_word_by, previous_word_by, word_sum_by, word_sum_flags, displaced_word, displaced_flags, pair_halves, pair_or_sp, with_pair, with_indirect}
use Rattle.gb_abs_effects.specs.Transfer.{quiet, pushes, with_flags, operand_val, store_operand, update_operand, add_hl, enabled}
use Rattle.gb_abs_effects.specs.Sound.{Follows}
use Rattle.gb_abs_effects.proofs.CoreLaws.{FlagsIn-from, HoldsFlags-written, byte-of, MeansCore-at, MeansCore-flags}
use Rattle.gb_abs_effects.proofs.ByRulesLaws.{increment_by-sound, increment_by-inhabited, increment_by-computed, decrement_by-sound, decrement_by-inhabited, decrement_by-computed, shift_by-sound, shift_by-inhabited, shift_by-computed, reset_bit_by-sound, reset_bit_by-inhabited, reset_bit_by-computed, set_bit_by-sound, set_bit_by-inhabited, set_bit_by-computed}
use Rattle.gb_abs_effects.proofs.StridedWordLaws.{HoldsWord-next_by, HoldsWord-previous_by, HoldsWord-sum_by}
use Rattle.gb_abs_effects.proofs.PairLaws.{HoldsWord, FlagsIn-word_sum_flags, word_sum_flags-written, HoldsWord-displaced, FlagsIn-displaced, displaced_flags-written, HoldsWord-pair, HoldsWord-pair_or_sp, pair-small, MeansCore-with_pair}
use Rattle.gb_abs_effects.proofs.OperandLaws.{Holds-operand, operand-byte, Follows-store_operand, Follows-update_operand, Follows-change_operand}

-- ---- parts

-- the core stays, wherever the machine goes on
pub Follows-moved :
    (s : Core) (entry : Activation) (x : MState) (sp pc : ℕ)
    → MeansCore s entry x → Follows (quiet s) entry x (Effects.quiet (record x.processor { sp = sp; pc = pc }))
Follows-moved s entry x sp pc m = record { core = MeansCore-at s entry x sp pc m; write = tt }

pub a-byte : (s : Core) (entry : Activation) (x : MState) → IsCore s → MeansCore s entry x → x.processor.registers.a ≤ 255
a-byte s entry x is m = byte-of s.registers.a entry x.processor.registers.a (is.registers A) (m.registers A)

-- a word goes on the stack, and the machine goes on at pc
pub Follows-pushed :
    (s : Core) (entry : Activation) (x : MState) (w : Halves) (n pc : ℕ)
    → HoldsWord w entry n → MeansCore s entry x
    → Follows (pushes s w) entry x (Effects.writes (record x.processor { sp = (x.processor.sp + 65534) % 65536; pc = pc }) (write.Push x.processor.sp n))
Follows-pushed s entry x w n pc h m =
    record { core = MeansCore-at s entry x ((x.processor.sp + 65534) % 65536) pc m; write = (refl, h.high, h.low) }

-- A gets what was read
pub Follows-loaded :
    (s : Core) (entry : Activation) (x : MState) (v : Val) (n : ℕ)
    → Holds v entry n → MeansCore s entry x → Follows (quiet (core_set_register A v s)) entry x (Effects.quiet (Effects.with_a x.processor n))
Follows-loaded s entry x v n h m = record { core = MeansCore-set_register s entry x A v n h m; write = tt }

-- ---- pairs

pub MeansCore-with_indirect :
    (whole : Bool) (which : Indirect) (s : Core) (entry : Activation) (x : MState)
    → x.processor.sp < 65536 → IsCore s → MeansCore s entry x
    → MeansCore (with_indirect whole which s) entry (record x { processor = Effects.with_indirect x.processor which })
unfolding with_indirect Effects.with_indirect
MeansCore-with_indirect whole indirect.Bc s entry x sp is m = m
MeansCore-with_indirect whole indirect.De s entry x sp is m = m
MeansCore-with_indirect whole indirect.HlIncrement s entry x sp is m =
    MeansCore-with_pair pair.Hl s entry x (next_word_by whole (pair_halves pair.Hl s)) ((Effects.hl x.processor + 1) % 65536) (HoldsWord-next_by whole (pair_halves pair.Hl s) entry (Effects.hl x.processor) (pair-small pair.Hl s entry x sp is m) (HoldsWord-pair pair.Hl s entry x sp is m)) m
MeansCore-with_indirect whole indirect.HlDecrement s entry x sp is m =
    MeansCore-with_pair pair.Hl s entry x (previous_word_by whole (pair_halves pair.Hl s)) ((Effects.hl x.processor + 65535) % 65536) (HoldsWord-previous_by whole (pair_halves pair.Hl s) entry (Effects.hl x.processor) (pair-small pair.Hl s entry x sp is m) (HoldsWord-pair pair.Hl s entry x sp is m)) m

pub Follows-next :
    (whole : Bool) (which : Pair) (s : Core) (entry : Activation) (x : MState)
    → x.processor.sp < 65536 → IsCore s → MeansCore s entry x
    → Follows (quiet (with_pair which (next_word_by whole (pair_halves which s)) s)) entry x (Effects.quiet (machine.with_pair x.processor which ((machine.pair_value x.processor which + 1) % 65536)))
Follows-next whole which s entry x sp is m =
    let n = machine.pair_value x.processor which in
    record { core = MeansCore-with_pair which s entry x (next_word_by whole (pair_halves which s)) ((n + 1) % 65536) (HoldsWord-next_by whole (pair_halves which s) entry n (pair-small which s entry x sp is m) (HoldsWord-pair which s entry x sp is m)) m; write = tt }

pub Follows-previous :
    (whole : Bool) (which : Pair) (s : Core) (entry : Activation) (x : MState)
    → x.processor.sp < 65536 → IsCore s → MeansCore s entry x
    → Follows (quiet (with_pair which (previous_word_by whole (pair_halves which s)) s)) entry x (Effects.quiet (machine.with_pair x.processor which ((machine.pair_value x.processor which + 65535) % 65536)))
Follows-previous whole which s entry x sp is m =
    let n = machine.pair_value x.processor which in
    record { core = MeansCore-with_pair which s entry x (previous_word_by whole (pair_halves which s)) ((n + 65535) % 65536) (HoldsWord-previous_by whole (pair_halves which s) entry n (pair-small which s entry x sp is m) (HoldsWord-pair which s entry x sp is m)) m; write = tt }

-- flags and HL change together
MeansCore-summed :
    (s : Core) (entry : Activation) (x : MState) (w : Halves) (n : ℕ) (f : Flg) (g : Flags)
    → HoldsWord w entry n → FlagsIn f g → f.is_own ≡ false → MeansCore s entry x
    → MeansCore (with_flags f (with_pair pair.Hl w s)) entry (record x { processor = Effects.with_flags (machine.with_pair x.processor pair.Hl n) g })
MeansCore-summed s entry x w n f g h flags written m =
    MeansCore-flags (with_pair pair.Hl w s) entry (record x { processor = machine.with_pair x.processor pair.Hl n }) f g (HoldsFlags-written f entry g flags written) (MeansCore-with_pair pair.Hl s entry x w n h m)

pub Follows-add_hl :
    (whole : Bool) (which : Pair) (halves : Halves) (s : Core) (entry : Activation) (x : MState)
    → x.processor.sp < 65536 → HoldsWord halves entry x.processor.sp → IsCore s → MeansCore s entry x
    → Follows (add_hl whole which halves s) entry x (Effects.effect_of (op.AddHl which) x.processor 0 0)
unfolding Effects.effect_of
Follows-add_hl whole which halves s entry x sp is_sp is m =
    let hl = Effects.hl x.processor in
    let n = machine.pair_value x.processor which in
    let v = pair_halves pair.Hl s in
    let w = pair_or_sp which halves s in
    let h : HoldsWord v entry hl = HoldsWord-pair pair.Hl s entry x sp is m in
    let k : HoldsWord w entry n = HoldsWord-pair_or_sp which halves s entry x sp is_sp is m in
    let flags = FlagsIn-word_sum_flags v w entry hl n s.flags x.processor.flags h k (FlagsIn-from s.flags entry x.processor.flags m.flags) in
    record {
      core = MeansCore-summed s entry x (word_sum_by whole which v w) ((hl + n) % 65536) (word_sum_flags v w s.flags) (arithmetic.word_sum_flags hl n x.processor.flags) (HoldsWord-sum_by whole which v w entry hl n (λ e. ap (λ q. machine.pair_value x.processor q) e) h k) flags (word_sum_flags-written v w s.flags) m;
      write = tt;
    }

-- ---- sums with SP

pub Follows-add_sp :
    (e8 : ℕ) (halves : Halves) (s : Core) (entry : Activation) (x : MState) → HoldsWord halves entry x.processor.sp → MeansCore s entry x
    → Follows (quiet (with_flags (displaced_flags halves e8) s)) entry x (Effects.effect_of (op.AddSp e8) x.processor 0 0)
unfolding Effects.effect_of
Follows-add_sp e8 halves s entry x is_sp m =
    let to = arithmetic.displaced x.processor.sp e8 in
    let f = displaced_flags halves e8 in
    let g = arithmetic.sp_sum_flags x.processor.sp e8 in
    let held = HoldsFlags-written f entry g (FlagsIn-displaced halves entry x.processor.sp e8 is_sp) (displaced_flags-written halves e8) in
    record {
      core = MeansCore-flags s entry (record x { processor = record x.processor { sp = to; pc = x.processor.pc } }) f g held (MeansCore-at s entry x to x.processor.pc m);
      write = tt;
    }

pub Follows-load_hl :
    (e8 : ℕ) (halves : Halves) (s : Core) (entry : Activation) (x : MState) → HoldsWord halves entry x.processor.sp → MeansCore s entry x
    → Follows (quiet (with_flags (displaced_flags halves e8) (with_pair pair.Hl (displaced_word halves e8) s))) entry x (Effects.effect_of (op.LoadHlSp e8) x.processor 0 0)
unfolding Effects.effect_of
Follows-load_hl e8 halves s entry x is_sp m =
    let to = arithmetic.displaced x.processor.sp e8 in
    let summed = HoldsWord-displaced halves entry x.processor.sp e8 is_sp in
    let flags = FlagsIn-displaced halves entry x.processor.sp e8 is_sp in
    record {
      core = MeansCore-summed s entry x (displaced_word halves e8) to (displaced_flags halves e8) (arithmetic.sp_sum_flags x.processor.sp e8) summed flags (displaced_flags-written halves e8) m;
      write = tt;
    }

-- ---- interrupts

pub enabled-holds : (i : ImeSet) (ime : Ime) → ime_may_be i ime ≡ true → ime_may_be (enabled i) (Effects.enabled ime) ≡ true
unfolding Effects.enabled
enabled-holds i Off h = h
enabled-holds i Pending h = or-left i.pending i.on h
  where
    or-left : (b c : Bool) → b ≡ true → (b || c) ≡ true
    or-left true c e = refl
    or-left false c e = cc
enabled-holds i On h = or-right i.pending i.on h
  where
    or-right : (b c : Bool) → c ≡ true → (b || c) ≡ true
    or-right true c e = refl
    or-right false c e = e

-- ---- instructions on a byte

pub Follows-increment :
    (whole : Bool) (which : Operand) (s : Core) (entry : Activation) (x : MState) (low : Val) (l : ℕ)
    → IsVal low → Holds low entry l → IsCore s → MeansCore s entry x
    → Follows (update_operand which (increment_by whole (operand_val which s low) s.flags) s) entry x (Effects.update_operand x.processor which (arithmetic.incremented (Effects.operand_value x.processor which l) x.processor.flags))
Follows-increment whole which s entry x low l is_low h is m =
    let v = operand_val which s low in
    let is_v : IsVal v = operand-byte which s low is_low is in
    Follows-update_operand arithmetic.incremented which s entry x low l (increment_by whole v s.flags) (increment_by-sound whole v s.flags is_v.hi) (increment_by-computed whole v s.flags) (increment_by-inhabited whole v s.flags is_v is.flags) h m

pub Follows-decrement :
    (whole : Bool) (which : Operand) (s : Core) (entry : Activation) (x : MState) (low : Val) (l : ℕ)
    → IsVal low → Holds low entry l → IsCore s → MeansCore s entry x
    → Follows (update_operand which (decrement_by whole (operand_val which s low) s.flags) s) entry x (Effects.update_operand x.processor which (arithmetic.decremented (Effects.operand_value x.processor which l) x.processor.flags))
Follows-decrement whole which s entry x low l is_low h is m =
    let v = operand_val which s low in
    let is_v : IsVal v = operand-byte which s low is_low is in
    Follows-update_operand arithmetic.decremented which s entry x low l (decrement_by whole v s.flags) (decrement_by-sound whole v s.flags is_v.hi) (decrement_by-computed whole v s.flags) (decrement_by-inhabited whole v s.flags is_v is.flags) h m

pub Follows-shift :
    (whole : Bool) (how : Shift) (which : Operand) (s : Core) (entry : Activation) (x : MState) (low : Val) (l : ℕ)
    → IsVal low → Holds low entry l → IsCore s → MeansCore s entry x
    → Follows (update_operand which (shift_by whole how (operand_val which s low) s.flags) s) entry x (Effects.update_operand x.processor which (arithmetic.shifted how (Effects.operand_value x.processor which l) x.processor.flags.carry))
Follows-shift whole how which s entry x low l is_low h is m =
    let v = operand_val which s low in
    let is_v : IsVal v = operand-byte which s low is_low is in
    Follows-update_operand (shift_result how) which s entry x low l (shift_by whole how v s.flags) (shift_by-sound whole how v s.flags is_v.hi) (shift_by-computed whole how v s.flags) (shift_by-inhabited whole how v s.flags is_v is.flags) h m

pub Follows-reset :
    (whole : Bool) (n : ℕ) (which : Operand) (s : Core) (entry : Activation) (x : MState) (low : Val) (l : ℕ)
    → IsVal low → Holds low entry l → IsCore s → MeansCore s entry x
    → Follows (store_operand which (reset_bit_by whole n (operand_val which s low)) s) entry x (Effects.store_operand x.processor which (arithmetic.bit_reset n (Effects.operand_value x.processor which l)))
Follows-reset whole n which s entry x low l is_low h is m =
    let v = operand_val which s low in
    let is_v : IsVal v = operand-byte which s low is_low is in
    Follows-change_operand (arithmetic.bit_reset n) which s entry x low l (reset_bit_by whole n v) (reset_bit_by-sound whole n v is_v.hi) (reset_bit_by-computed whole n v) (reset_bit_by-inhabited whole n v is_v) h m

pub Follows-set :
    (whole : Bool) (n : ℕ) (which : Operand) (s : Core) (entry : Activation) (x : MState) (low : Val) (l : ℕ)
    → IsVal low → Holds low entry l → IsCore s → MeansCore s entry x
    → Follows (store_operand which (set_bit_by whole n (operand_val which s low)) s) entry x (Effects.store_operand x.processor which (arithmetic.bit_set n (Effects.operand_value x.processor which l)))
Follows-set whole n which s entry x low l is_low h is m =
    let v = operand_val which s low in
    let is_v : IsVal v = operand-byte which s low is_low is in
    Follows-change_operand (arithmetic.bit_set n) which s entry x low l (set_bit_by whole n v) (set_bit_by-sound whole n v is_v.hi) (set_bit_by-computed whole n v) (set_bit_by-inhabited whole n v is_v) h m

pub Follows-load :
    (to from : Operand) (s : Core) (entry : Activation) (x : MState) (low : Val) (l : ℕ)
    → IsVal low → Holds low entry l → IsCore s → MeansCore s entry x
    → Follows (store_operand to (operand_val from s low) s) entry x (Effects.store_operand x.processor to (Effects.operand_value x.processor from l))
Follows-load to from s entry x low l is_low h is m =
    let n = Effects.operand_value x.processor from l in
    let held : Holds (operand_val from s low) entry n = Holds-operand from s entry x low l h m in
    Follows-store_operand to s entry x (operand_val from s low) n held (byte-of (operand_val from s low) entry n (operand-byte from s low is_low is) held) m

-- ---- taken

pub Follows-only_if :
    (b : Bool) (t : AbsEffect) (entry : Activation) (x : MState) (e : Effect)
    → (Effects.only_if b e x.processor).is_taken ≡ true → Follows t entry x e → Follows t entry x (Effects.only_if b e x.processor)
unfolding Effects.only_if
Follows-only_if true t entry x e taken f = f
Follows-only_if false t entry x e taken f = cc
