-- What instructions leave and write lies in its range.
use Rattle.std.proofs.Common.{◌≡◌, ℕ, ◌+◌, ◌-◌, ◌/◌, ◌%◌, ◌≤◌, ◌<◌, Bool, true, false, ◌||◌, cond, nat_lt, refl, sym, subst, arith}
use Rattle.std.proofs.lemmas.Bool.Decides.{nat_tests}
use Rattle.gb_ops.specs.declared.op.Register.{Register}
use Rattle.gb_ops.specs.declared.op.Register.TheVariants.{A, B, C, D, E, H, L}
use Rattle.gb_ops.specs.declared.op.Pair.{Pair}
use Rattle.gb_ops.specs.declared.op.Pair.TheVariants as pair
use Rattle.gb_ops.specs.declared.op.StackPair.{StackPair}
use Rattle.gb_ops.specs.declared.op.StackPair.TheVariants as stack
use Rattle.gb_ops.specs.declared.op.Indirect.{Indirect}
use Rattle.gb_ops.specs.declared.op.Indirect.TheVariants as indirect
use Rattle.gb_ops.specs.declared.op.Op.{Op}
use Rattle.gb_ops.specs.declared.op.Op.TheVariants as op
use Rattle.gb_domain.specs.declared.types.Val.{Val}
use Rattle.gb_domain.specs.declared.types.Flg.{Flg}
use Rattle.gb_domain.specs.declared.types.ImeSet.{ImeSet}
use Rattle.gb_domain.specs.declared.types.Core.{Core}
use Rattle.gb_domain.specs.Rules.{IsVal, IsFlg, IsCore, IsWord, may_be_any}
use Rattle.gb_abs.specs.Below.gb_vals.Vals.{single, between, any_val}
use Rattle.gb_ops.specs.Arithmetic as arithmetic
use Rattle.gb_abs.specs.Below.gb_vals.Flags.{known_flags, greatest_flags, flags_val, flags_of_val}
use Rattle.gb_abs.proofs.Below.gb_vals_laws.MeaningLaws.{FlagsIn-known, IsFlg-from}
use Rattle.gb_abs.proofs.Below.gb_vals_laws.FlagLaws.{flags_val_inhabited, flags_of_val_inhabited}
use Rattle.gb_abs.proofs.Below.gb_vals_laws.ShiftLaws.{rotate_a_inhabited}
use Rattle.gb_abs.proofs.Below.gb_vals_laws.BitLaws.{test_bit_inhabited}
use Rattle.gb_abs.proofs.Below.gb_vals_laws.DaaLaws.{adjust_inhabited}
use Rattle.gb_abs.proofs.Below.gb_vals_laws.CarryLaws.{set_carry_inhabited, complement_carry_inhabited}
use Rattle.gb_abs.specs.Operations.{core_set_register}
use Rattle.gb_domain.specs.declared.types.Halves.{Halves}
use Rattle.gb_abs_effects.specs.declared.writes.AbsEffect.{AbsEffect}
use Rattle.gb_abs_effects.specs.Pairs.{known_word, any_word, is_word_known, least_word, raised, lowered, next_word, previous_word, are_words_known, word_sum, cut_word, next_word_by, previous_word_by, word_sum_by, word_sum_flags, sum_flags_any, sum_flags_known, displaced_word, displaced_flags_any, displaced_flags, pair_halves, pair_or_sp, with_pair, with_indirect, stack_pair_halves, with_stack_pair}
use Rattle.gb_abs_effects.specs.Transfer.{quiet, pushes, add_hl, only_off, only_on, enabled, operand_val, transfer, untaken}
use Rattle.gb_abs_effects.specs.Sound.{HasBytes, IsAbsEffect}
use Rattle.gb_abs.proofs.OperationLaws.{IsCore-set_register}
use Rattle.gb_abs.proofs.Below.gb_vals_laws.CuttingLaws.{IsVal-cut_to}
use Rattle.gb_domain.specs.declared.low_bits.LowBits.{LowBits}
use Rattle.gb_abs_effects.proofs.ByRulesLaws.{complement_by-inhabited, increment_by-inhabited, decrement_by-inhabited, shift_by-inhabited, reset_bit_by-inhabited, set_bit_by-inhabited}
use Rattle.gb_abs_effects.proofs.CoreLaws.{IsCore-ime, IsCore-a}
use Rattle.gb_abs_effects.proofs.PairLaws.{moved_up, moved_down, carried, borrowed}
use Rattle.gb_abs_effects.proofs.ReadLaws.{indirect_span-last, high_span-last, high-last}
use Rattle.gb_abs_effects.proofs.OperandLaws.{operand-byte, IsAbsEffect-store_operand, IsAbsEffect-update_operand, IsAbsEffect-update_a, IsAbsEffect-flags}
use Rattle.gb_abs_effects.proofs.AluLaws.{IsAbsEffect-immediate, IsAbsEffect-apply_alu}

-- ---- words

any-byte : IsVal any_val
any-byte = record { order = omega arith; hi = omega arith; strided = refl }

single-byte : (n : ℕ) → n < 256 → IsVal (single n)
single-byte n h = record { order = omega arith; hi = h; strided = refl }

IsWord-any : IsWord any_word
IsWord-any = record { high = any-byte; low = any-byte }

IsWord-known : (n : ℕ) → n < 65536 → IsWord (known_word n)
IsWord-known n h =
    record { high = single-byte (n / 256) (omega arith); low = single-byte (n % 256) (omega arith) }

raised-byte : (v : Val) → IsVal v → IsVal (raised v)
raised-byte v h = choose (nat_lt v.hi 255) refl
  where
    choose : (b : Bool) → nat_lt v.hi 255 ≡ b → IsVal (cond b (between v.lo (v.hi + 1)) any_val)
    choose true e =
        let below : v.hi < 255 = grind (arith, nat_tests) in
        let p : v.lo ≤ v.hi = h.order in
        record { order = omega arith; hi = omega arith; strided = refl }
    choose false e = any-byte

lowered-byte : (v : Val) → IsVal v → IsVal (lowered v)
lowered-byte v h = choose (nat_lt 0 v.lo)
  where
    choose : (b : Bool) → IsVal (cond b (between (v.lo - 1) v.hi) any_val)
    choose true = let p : v.lo ≤ v.hi = h.order in record { order = omega arith; hi = h.hi; strided = refl }
    choose false = any-byte

IsWord-next : (w : Halves) → IsWord w → IsWord (next_word w)
unfolding next_word
IsWord-next w h = choose (is_word_known w) (nat_lt w.low.hi 255) refl
  where
    choose : (b c : Bool) → nat_lt w.low.hi 255 ≡ c → IsWord (cond b (known_word ((least_word w + 1) % 65536)) (cond c (moved_up w) (carried w)))
    choose true c f = IsWord-known ((least_word w + 1) % 65536) (omega arith)
    choose false true f =
        let below : w.low.hi < 255 = grind (arith, nat_tests) in
        let p : w.low.lo ≤ w.low.hi = h.low.order in
        record { high = record { order = h.high.order; hi = h.high.hi; strided = refl }; low = record { order = omega arith; hi = omega arith; strided = refl } }
    choose false false f = record { high = raised-byte w.high h.high; low = any-byte }

IsWord-previous : (w : Halves) → IsWord w → IsWord (previous_word w)
unfolding previous_word
IsWord-previous w h = choose (is_word_known w) (nat_lt 0 w.low.lo)
  where
    choose : (b c : Bool) → IsWord (cond b (known_word ((least_word w + 65535) % 65536)) (cond c (moved_down w) (borrowed w)))
    choose true c = IsWord-known ((least_word w + 65535) % 65536) (omega arith)
    choose false true =
        let p : w.low.lo ≤ w.low.hi = h.low.order in
        let q : w.low.hi < 256 = h.low.hi in
        record { high = record { order = h.high.order; hi = h.high.hi; strided = refl }; low = record { order = omega arith; hi = omega arith; strided = refl } }
    choose false false = record { high = lowered-byte w.high h.high; low = any-byte }

IsWord-sum : (v w : Halves) → IsWord (word_sum v w)
unfolding word_sum
IsWord-sum v w = choose (are_words_known v w)
  where
    choose : (b : Bool) → IsWord (cond b (known_word ((least_word v + least_word w) % 65536)) any_word)
    choose true = IsWord-known ((least_word v + least_word w) % 65536) (omega arith)
    choose false = IsWord-any

IsFlg-word_sum_flags : (v w : Halves) (f : Flg) → IsFlg f → IsFlg (word_sum_flags v w f)
unfolding word_sum_flags
IsFlg-word_sum_flags v w f h = choose (are_words_known v w)
  where
    choose : (b : Bool) → IsFlg (cond b (sum_flags_known (least_word v) (least_word w) f) (sum_flags_any f))
    choose true =
        let g = arithmetic.word_sum_flags (least_word v) (least_word w) (greatest_flags f) in
        let k : IsFlg (known_flags g) = IsFlg-from (known_flags g) g (FlagsIn-known g) in
        record { zero = h.zero; subtract = k.subtract; half_carry = k.half_carry; carry = k.carry }
    choose false = record { zero = h.zero; subtract = refl; half_carry = refl; carry = refl }

IsWord-cut : (high low : LowBits) (w : Halves) → IsWord w → IsWord (cut_word high low w)
IsWord-cut high low w h = record { high = IsVal-cut_to high w.high h.high; low = IsVal-cut_to low w.low h.low }

IsWord-next_by : (whole : Bool) (w : Halves) → IsWord w → IsWord (next_word_by whole w)
unfolding next_word_by
IsWord-next_by true w h = IsWord-cut _ _ (next_word w) (IsWord-next w h)
IsWord-next_by false w h = IsWord-next w h

IsWord-previous_by : (whole : Bool) (w : Halves) → IsWord w → IsWord (previous_word_by whole w)
unfolding previous_word_by
IsWord-previous_by true w h = IsWord-cut _ _ (previous_word w) (IsWord-previous w h)
IsWord-previous_by false w h = IsWord-previous w h

IsWord-sum_by : (whole : Bool) (which : Pair) (v w : Halves) → IsWord (word_sum_by whole which v w)
unfolding word_sum_by
IsWord-sum_by true which v w = IsWord-cut _ _ (word_sum v w) (IsWord-sum v w)
IsWord-sum_by false which v w = IsWord-sum v w

-- ---- the pairs of a core

IsWord-pair : (which : Pair) (s : Core) → IsCore s → IsWord (pair_halves which s)
unfolding pair_halves
IsWord-pair pair.Bc s is = record { high = is.registers B; low = is.registers C }
IsWord-pair pair.De s is = record { high = is.registers D; low = is.registers E }
IsWord-pair pair.Hl s is = record { high = is.registers H; low = is.registers L }
IsWord-pair pair.Sp s is = IsWord-any

IsCore-set_two : (q r : Register) (s : Core) (w : Halves) → IsWord w → IsCore s → IsCore (core_set_register r w.low (core_set_register q w.high s))
IsCore-set_two q r s w h is =
    IsCore-set_register (core_set_register q w.high s) r w.low h.low (IsCore-set_register s q w.high h.high is)

IsCore-with_pair : (which : Pair) (s : Core) (w : Halves) → IsWord w → IsCore s → IsCore (with_pair which w s)
unfolding with_pair core_set_register
IsCore-with_pair pair.Bc s w h is = IsCore-set_two B C s w h is
IsCore-with_pair pair.De s w h is = IsCore-set_two D E s w h is
IsCore-with_pair pair.Hl s w h is = IsCore-set_two H L s w h is
IsCore-with_pair pair.Sp s w h is = is

IsCore-with_indirect : (whole : Bool) (which : Indirect) (s : Core) → IsCore s → IsCore (with_indirect whole which s)
unfolding with_indirect
IsCore-with_indirect whole indirect.Bc s is = is
IsCore-with_indirect whole indirect.De s is = is
IsCore-with_indirect whole indirect.HlIncrement s is = IsCore-with_pair pair.Hl s _ (IsWord-next_by whole _ (IsWord-pair pair.Hl s is)) is
IsCore-with_indirect whole indirect.HlDecrement s is = IsCore-with_pair pair.Hl s _ (IsWord-previous_by whole _ (IsWord-pair pair.Hl s is)) is

IsWord-stack_pair : (which : StackPair) (s : Core) → IsCore s → IsWord (stack_pair_halves which s)
unfolding stack_pair_halves
IsWord-stack_pair stack.Bc s is = record { high = is.registers B; low = is.registers C }
IsWord-stack_pair stack.De s is = record { high = is.registers D; low = is.registers E }
IsWord-stack_pair stack.Hl s is = record { high = is.registers H; low = is.registers L }
IsWord-stack_pair stack.Af s is =
    record { high = is.registers A; low = flags_val_inhabited s.flags (flags_val s.flags) refl is.flags }

IsCore-with_stack_pair : (which : StackPair) (s : Core) (w : Halves) → IsWord w → IsCore s → IsCore (with_stack_pair which w s)
unfolding with_stack_pair
IsCore-with_stack_pair stack.Bc s w h is = IsCore-with_pair pair.Bc s w h is
IsCore-with_stack_pair stack.De s w h is = IsCore-with_pair pair.De s w h is
IsCore-with_stack_pair stack.Hl s w h is = IsCore-with_pair pair.Hl s w h is
IsCore-with_stack_pair stack.Af s w h is =
    IsCore-a s w.high (flags_of_val w.low) h.high (flags_of_val_inhabited w.low (flags_of_val w.low) refl h.low) is

-- ---- interrupts

enabled-any : (i : ImeSet) → may_be_any i ≡ true → may_be_any (enabled i) ≡ true
enabled-any i h = any i.off i.pending i.on h
  where
    any : (a b c : Bool) → (a || b || c) ≡ true → (false || a || (b || c)) ≡ true
    any true b c e = refl
    any false b c e = e

-- ---- instructions

-- nothing but the core changes
IsAbsEffect-quiet : (s : Core) → IsCore s → IsAbsEffect (quiet s)
IsAbsEffect-quiet s is = record { core = is; write = tt; at = tt }

IsAbsEffect-pushes : (s : Core) (w : Halves) → IsWord w → IsCore s → IsAbsEffect (pushes s w)
IsAbsEffect-pushes s w h is = record { core = is; write = (h.high, h.low); at = tt }

IsAbsEffect-loaded : (s : Core) (v : Val) → IsVal v → IsCore s → IsAbsEffect (quiet (core_set_register A v s))
IsAbsEffect-loaded s v h is = IsAbsEffect-quiet (core_set_register A v s) (IsCore-set_register s A v h is)

IsAbsEffect-add_hl : (whole : Bool) (which : Pair) (sp : Halves) (s : Core) → IsCore s → IsAbsEffect (add_hl whole which sp s)
IsAbsEffect-add_hl whole which sp s is =
    let hl = pair_halves pair.Hl s in
    let w = pair_or_sp which sp s in
    IsAbsEffect-flags (with_pair pair.Hl (word_sum_by whole which hl w) s) (word_sum_flags hl w s.flags) (IsFlg-word_sum_flags hl w s.flags is.flags) (IsCore-with_pair pair.Hl s (word_sum_by whole which hl w) (IsWord-sum_by whole which hl w) is)

IsWord-displaced : (w : Halves) (e8 : ℕ) → IsWord (displaced_word w e8)
unfolding displaced_word arithmetic.displaced
IsWord-displaced w e8 = choose (is_word_known w)
  where
    choose : (b : Bool) → IsWord (cond b (known_word (arithmetic.displaced (least_word w) e8)) any_word)
    choose true = IsWord-known _ (omega arith)
    choose false = IsWord-any

IsFlg-displaced : (w : Halves) (e8 : ℕ) → IsFlg (displaced_flags w e8)
unfolding displaced_flags
IsFlg-displaced w e8 = choose (is_word_known w)
  where
    choose : (b : Bool) → IsFlg (cond b (known_flags (arithmetic.sp_sum_flags (least_word w) e8)) displaced_flags_any)
    choose true = let g = arithmetic.sp_sum_flags (least_word w) e8 in IsFlg-from (known_flags g) g (FlagsIn-known g)
    choose false = record { zero = refl; subtract = refl; half_carry = refl; carry = refl }

IsAbsEffect-transfer :
    (whole : Bool) (o : Op) (next : ℕ) (sp : Halves) (s : Core) (low high : Val)
    → HasBytes o → next < 65536 → IsCore s → IsVal low → IsVal high → IsWord sp → IsAbsEffect (transfer whole o next sp s low high)
unfolding transfer
IsAbsEffect-transfer whole (op.LoadPair to w) next sp s low high bytes small is l h is_sp = IsAbsEffect-quiet _ (IsCore-with_pair to s (known_word w) (IsWord-known w bytes) is)
IsAbsEffect-transfer whole (op.StoreA to) next sp s low high bytes small is l h is_sp = record { core = IsCore-with_indirect whole to s is; write = is.registers A; at = indirect_span-last to s is }
IsAbsEffect-transfer whole (op.LoadA from) next sp s low high bytes small is l h is_sp = IsAbsEffect-loaded (with_indirect whole from s) low l (IsCore-with_indirect whole from s is)
IsAbsEffect-transfer whole (op.IncrementPair which) next sp s low high bytes small is l h is_sp = IsAbsEffect-quiet _ (IsCore-with_pair which s _ (IsWord-next_by whole _ (IsWord-pair which s is)) is)
IsAbsEffect-transfer whole (op.DecrementPair which) next sp s low high bytes small is l h is_sp = IsAbsEffect-quiet _ (IsCore-with_pair which s _ (IsWord-previous_by whole _ (IsWord-pair which s is)) is)
IsAbsEffect-transfer whole (op.Increment which) next sp s low high bytes small is l h is_sp =
    IsAbsEffect-update_operand which s _ (increment_by-inhabited whole (operand_val which s low) s.flags (operand-byte which s low l is) is.flags) is
IsAbsEffect-transfer whole (op.Decrement which) next sp s low high bytes small is l h is_sp =
    IsAbsEffect-update_operand which s _ (decrement_by-inhabited whole (operand_val which s low) s.flags (operand-byte which s low l is) is.flags) is
IsAbsEffect-transfer whole (op.LoadImmediate to v) next sp s low high bytes small is l h is_sp = IsAbsEffect-store_operand to s (single v) (single-byte v bytes) is
IsAbsEffect-transfer whole (op.RotateA how) next sp s low high bytes small is l h is_sp =
    IsAbsEffect-update_a s _ (rotate_a_inhabited how s.registers.a s.flags _ refl (is.registers A) is.flags) is
IsAbsEffect-transfer whole (op.StoreSp w) next sp s low high bytes small is l h is_sp = record { core = is; write = (is_sp.low, is_sp.high); at = bytes }
IsAbsEffect-transfer whole (op.AddHl which) next sp s low high bytes small is l h is_sp = IsAbsEffect-add_hl whole which sp s is
IsAbsEffect-transfer whole op.DecimalAdjust next sp s low high bytes small is l h is_sp =
    IsAbsEffect-update_a s _ (adjust_inhabited s.registers.a s.flags _ refl (is.registers A) is.flags) is
IsAbsEffect-transfer whole op.Complement next sp s low high bytes small is l h is_sp =
    IsAbsEffect-update_a s _ (complement_by-inhabited whole s.registers.a s.flags (is.registers A) is.flags) is
IsAbsEffect-transfer whole op.SetCarry next sp s low high bytes small is l h is_sp = IsAbsEffect-flags s _ (set_carry_inhabited s.flags _ refl is.flags) is
IsAbsEffect-transfer whole op.ComplementCarry next sp s low high bytes small is l h is_sp = IsAbsEffect-flags s _ (complement_carry_inhabited s.flags _ refl is.flags) is
IsAbsEffect-transfer whole (op.Load to from) next sp s low high bytes small is l h is_sp = IsAbsEffect-store_operand to s _ (operand-byte from s low l is) is
IsAbsEffect-transfer whole (op.Alu how from) next sp s low high bytes small is l h is_sp = IsAbsEffect-apply_alu whole how from s low l is
IsAbsEffect-transfer whole (op.AluImmediate how v) next sp s low high bytes small is l h is_sp = IsAbsEffect-immediate whole how s v bytes is
IsAbsEffect-transfer whole op.ReturnFromInterrupt next sp s low high bytes small is l h is_sp = IsAbsEffect-quiet _ (IsCore-ime s only_on refl is)
IsAbsEffect-transfer whole (op.Pop to) next sp s low high bytes small is l h is_sp =
    IsAbsEffect-quiet _ (IsCore-with_stack_pair to s (record { high = high; low = low }) (record { high = h; low = l }) is)
IsAbsEffect-transfer whole (op.Push from) next sp s low high bytes small is l h is_sp = IsAbsEffect-pushes s _ (IsWord-stack_pair from s is) is
IsAbsEffect-transfer whole (op.CallIf c w) next sp s low high bytes small is l h is_sp = IsAbsEffect-pushes s _ (IsWord-known next small) is
IsAbsEffect-transfer whole (op.Call w) next sp s low high bytes small is l h is_sp = IsAbsEffect-pushes s _ (IsWord-known next small) is
IsAbsEffect-transfer whole (op.Restart w) next sp s low high bytes small is l h is_sp = IsAbsEffect-pushes s _ (IsWord-known next small) is
IsAbsEffect-transfer whole (op.StoreHigh n) next sp s low high bytes small is l h is_sp = record { core = is; write = is.registers A; at = high-last n bytes }
IsAbsEffect-transfer whole (op.LoadHigh n) next sp s low high bytes small is l h is_sp = IsAbsEffect-loaded s low l is
IsAbsEffect-transfer whole op.StoreHighC next sp s low high bytes small is l h is_sp = record { core = is; write = is.registers A; at = high_span-last s is }
IsAbsEffect-transfer whole op.LoadHighC next sp s low high bytes small is l h is_sp = IsAbsEffect-loaded s low l is
IsAbsEffect-transfer whole (op.StoreAbsolute w) next sp s low high bytes small is l h is_sp = record { core = is; write = is.registers A; at = bytes }
IsAbsEffect-transfer whole (op.LoadAbsolute w) next sp s low high bytes small is l h is_sp = IsAbsEffect-loaded s low l is
IsAbsEffect-transfer whole (op.AddSp e8) next sp s low high bytes small is l h is_sp = IsAbsEffect-flags s (displaced_flags sp e8) (IsFlg-displaced sp e8) is
IsAbsEffect-transfer whole (op.LoadHlSp e8) next sp s low high bytes small is l h is_sp =
    IsAbsEffect-flags (with_pair pair.Hl (displaced_word sp e8) s) (displaced_flags sp e8) (IsFlg-displaced sp e8) (IsCore-with_pair pair.Hl s (displaced_word sp e8) (IsWord-displaced sp e8) is)
IsAbsEffect-transfer whole op.DisableInterrupts next sp s low high bytes small is l h is_sp = IsAbsEffect-quiet _ (IsCore-ime s only_off refl is)
IsAbsEffect-transfer whole op.EnableInterrupts next sp s low high bytes small is l h is_sp = IsAbsEffect-quiet _ (IsCore-ime s (enabled s.ime) (enabled-any s.ime is.ime) is)
IsAbsEffect-transfer whole (op.Shift how which) next sp s low high bytes small is l h is_sp =
    IsAbsEffect-update_operand which s _ (shift_by-inhabited whole how (operand_val which s low) s.flags (operand-byte which s low l is) is.flags) is
IsAbsEffect-transfer whole (op.Bit n which) next sp s low high bytes small is l h is_sp =
    IsAbsEffect-flags s _ (test_bit_inhabited n (operand_val which s low) s.flags _ refl (operand-byte which s low l is) is.flags) is
IsAbsEffect-transfer whole (op.Reset n which) next sp s low high bytes small is l h is_sp =
    IsAbsEffect-store_operand which s _ (reset_bit_by-inhabited whole n (operand_val which s low) (operand-byte which s low l is)) is
IsAbsEffect-transfer whole (op.Set n which) next sp s low high bytes small is l h is_sp =
    IsAbsEffect-store_operand which s _ (set_bit_by-inhabited whole n (operand_val which s low) (operand-byte which s low l is)) is
IsAbsEffect-transfer whole o next sp s low high bytes small is l h is_sp = IsAbsEffect-quiet s is

pub transfer_inhabited :
    (whole : Bool) (o : Op) (next : ℕ) (sp : Halves) (s : Core) (low high : Val) (t : AbsEffect)
    → t ≡ transfer whole o next sp s low high → HasBytes o → next < 65536 → IsCore s → IsVal low → IsVal high → IsWord sp → IsAbsEffect t
transfer_inhabited whole o next sp s low high t e bytes small is l h is_sp =
    subst (λ k. IsAbsEffect k) (sym e) (IsAbsEffect-transfer whole o next sp s low high bytes small is l h is_sp)

pub untaken_inhabited : (s : Core) (t : AbsEffect) → t ≡ untaken s → IsCore s → IsAbsEffect t
unfolding untaken
untaken_inhabited s t e is = subst (λ k. IsAbsEffect k) (sym e) (IsAbsEffect-quiet s is)
