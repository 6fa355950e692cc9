-- What instructions do to a core: the machine's effect over intervals and sets of flags
-- (abstract interpretation: transfer functions; CPU instruction set).
use Rattle.std.specs.Prelude.{ℕ, ◌+◌, Bool, false, true, ◌||◌}
use Rattle.gb_ops.specs.declared.op.Register.TheVariants.{A}
use Rattle.gb_ops.specs.declared.op.AluOp.{AluOp}
use Rattle.gb_ops.specs.declared.op.Operand.{Operand}
use Rattle.gb_ops.specs.declared.op.Operand.TheVariants as operand
use Rattle.gb_ops.specs.declared.op.Pair.{Pair}
use Rattle.gb_ops.specs.declared.op.Pair.TheVariants as pair
use Rattle.gb_ops.specs.declared.op.Op.{Op}
use Rattle.gb_ops.specs.declared.op.Op.TheVariants as op
use Rattle.gb_ops.specs.Registers.{get}
use Rattle.gb_domain.specs.declared.types.Val.{Val}
use Rattle.gb_domain.specs.declared.types.Flg.{Flg}
use Rattle.gb_domain.specs.declared.types.ImeSet.{ImeSet}
use Rattle.gb_domain.specs.declared.types.Core.{Core}
use Rattle.gb_abs.specs.Below.gb_vals.declared.outcome.AbsComputed.{AbsComputed}
use Rattle.gb_abs.specs.Below.gb_vals.Vals.{single}
use Rattle.gb_abs.specs.Below.gb_vals.Shifts.{rotation_of_a}
use Rattle.gb_abs.specs.Below.gb_vals.Bits.{test_bit}
use Rattle.gb_abs.specs.Below.gb_vals.Daa.{adjustment_of}
use Rattle.gb_abs.specs.Below.gb_vals.Carry.{set_carry, complement_carry}
use Rattle.gb_abs.specs.Span.{one}
use Rattle.gb_abs.specs.Operations.{core_set_register}
use Rattle.gb_domain.specs.declared.types.Halves.{Halves}
use Rattle.gb_abs_effects.specs.declared.writes.AbsWrite.{AbsWrite}
use Rattle.gb_abs_effects.specs.declared.writes.AbsWrite.TheVariants as write
use Rattle.gb_abs_effects.specs.declared.writes.AbsEffect.{AbsEffect}
use Rattle.gb_abs_effects.specs.ByRules.{alu_by, itself_by, complement_by, increment_by, decrement_by, shift_by, reset_bit_by, set_bit_by}
use Rattle.gb_abs_effects.specs.Pairs.{known_word, next_word_by, previous_word_by, word_sum_by, word_sum_flags, displaced_word, displaced_flags, pair_halves, pair_or_sp, with_pair, with_indirect, stack_pair_halves, with_stack_pair}
use Rattle.gb_abs_effects.specs.Accesses.{hl_span, indirect_span, high_span}

-- ---- parts

-- the core changes, and nothing is written
abbrev pub quiet : Core → AbsEffect
quiet s = record { core = s; write = write.Nothing }

abbrev pub writes : Core → AbsWrite → AbsEffect
writes s w = record { core = s; write = w }

-- a word goes on the stack
abbrev pub pushes : Core → Halves → AbsEffect
pushes s w = writes s (write.Push w.high w.low)

abbrev pub with_flags : Flg → Core → Core
with_flags f s = record s { flags = f }

abbrev pub with_ime : ImeSet → Core → Core
with_ime i s = record s { ime = i }

-- an operand, where its byte in memory was read
unfoldable pub operand_val : Operand → Core → Val → Val
operand_val (operand.Register which) s low = get which s.registers
operand_val operand.AtHl s low = low

unfoldable pub store_operand : Operand → Val → Core → AbsEffect
store_operand (operand.Register which) v s = quiet (core_set_register which v s)
store_operand operand.AtHl v s = writes s (write.Byte (hl_span s) v)

-- the operand and the flags become what was computed
unfoldable pub update_operand : Operand → AbsComputed → Core → AbsEffect
update_operand which o s = store_operand which o.val (with_flags o.flags s)

-- A and the flags become what was computed
unfoldable pub update_a : AbsComputed → Core → AbsEffect
update_a o s = quiet (record s { registers = record s.registers { a = o.val }; flags = o.flags })

-- an operation of A; where the operand is A too, more is known
unfoldable pub apply_alu : Bool → AluOp → Operand → Core → Val → AbsEffect
apply_alu whole how (operand.Register A) s low = update_a (itself_by whole how s.registers.a s.flags) s
apply_alu whole how from s low = update_a (alu_by whole how s.registers.a (operand_val from s low) s.flags) s

-- ADD HL; sp has the halves of SP
abbrev pub add_hl : Bool → Pair → Halves → Core → AbsEffect
add_hl whole which sp s =
    let hl = pair_halves pair.Hl s in
    let added = pair_or_sp which sp s in
    quiet (with_flags (word_sum_flags hl added s.flags) (with_pair pair.Hl (word_sum_by whole which hl added) s))

abbrev pub enabled : ImeSet → ImeSet
enabled i = record { off = false; pending = i.off; on = i.pending || i.on }

abbrev pub only_off : ImeSet
only_off = record { off = true; pending = false; on = false }

abbrev pub only_on : ImeSet
only_on = record { off = false; pending = false; on = true }

-- ---- instructions

-- What a taken instruction makes of a core that is settled (pending interrupts became on), by the rules of version 4 (whole) or by
-- those of versions 1 to 3: next is the address behind it, sp the halves of SP, and its reads gave low and high. Jumps and returns,
-- HALT and STOP leave the core.
unfoldable pub transfer : Bool → Op → ℕ → Halves → Core → Val → Val → AbsEffect
transfer whole (op.LoadPair to w) next sp s low high = quiet (with_pair to (known_word w) s)
transfer whole (op.StoreA to) next sp s low high =
    writes (with_indirect whole to s) (write.Byte (indirect_span to s) s.registers.a)
transfer whole (op.LoadA from) next sp s low high = quiet (core_set_register A low (with_indirect whole from s))
transfer whole (op.IncrementPair which) next sp s low high = quiet (with_pair which (next_word_by whole (pair_halves which s)) s)
transfer whole (op.DecrementPair which) next sp s low high = quiet (with_pair which (previous_word_by whole (pair_halves which s)) s)
transfer whole (op.Increment which) next sp s low high = update_operand which (increment_by whole (operand_val which s low) s.flags) s
transfer whole (op.Decrement which) next sp s low high = update_operand which (decrement_by whole (operand_val which s low) s.flags) s
transfer whole (op.LoadImmediate to v) next sp s low high = store_operand to (single v) s
transfer whole (op.RotateA how) next sp s low high = update_a (rotation_of_a how s.registers.a s.flags) s
transfer whole (op.StoreSp w) next sp s low high = writes s (write.Word w sp.low sp.high)
transfer whole (op.AddHl which) next sp s low high = add_hl whole which sp s
transfer whole op.DecimalAdjust next sp s low high = update_a (adjustment_of s.registers.a s.flags) s
transfer whole op.Complement next sp s low high = update_a (complement_by whole s.registers.a s.flags) s
transfer whole op.SetCarry next sp s low high = quiet (with_flags (set_carry s.flags) s)
transfer whole op.ComplementCarry next sp s low high = quiet (with_flags (complement_carry s.flags) s)
transfer whole (op.Load to from) next sp s low high = store_operand to (operand_val from s low) s
transfer whole (op.Alu how from) next sp s low high = apply_alu whole how from s low
transfer whole (op.AluImmediate how v) next sp s low high =
    update_a (alu_by whole how s.registers.a (single v) s.flags) s
transfer whole op.ReturnFromInterrupt next sp s low high = quiet (with_ime only_on s)
transfer whole (op.Pop to) next sp s low high = quiet (with_stack_pair to (record { high = high; low = low }) s)
transfer whole (op.Push from) next sp s low high = pushes s (stack_pair_halves from s)
transfer whole (op.CallIf condition w) next sp s low high = pushes s (known_word next)
transfer whole (op.Call w) next sp s low high = pushes s (known_word next)
transfer whole (op.Restart w) next sp s low high = pushes s (known_word next)
transfer whole (op.StoreHigh b) next sp s low high = writes s (write.Byte (one (0xFF00 + b)) s.registers.a)
transfer whole (op.LoadHigh b) next sp s low high = quiet (core_set_register A low s)
transfer whole op.StoreHighC next sp s low high = writes s (write.Byte (high_span s) s.registers.a)
transfer whole op.LoadHighC next sp s low high = quiet (core_set_register A low s)
transfer whole (op.StoreAbsolute w) next sp s low high = writes s (write.Byte (one w) s.registers.a)
transfer whole (op.LoadAbsolute w) next sp s low high = quiet (core_set_register A low s)
transfer whole (op.AddSp e8) next sp s low high = quiet (with_flags (displaced_flags sp e8) s)
transfer whole (op.LoadHlSp e8) next sp s low high = quiet (with_flags (displaced_flags sp e8) (with_pair pair.Hl (displaced_word sp e8) s))
transfer whole op.DisableInterrupts next sp s low high = quiet (with_ime only_off s)
transfer whole op.EnableInterrupts next sp s low high = quiet (with_ime (enabled s.ime) s)
transfer whole (op.Shift how which) next sp s low high = update_operand which (shift_by whole how (operand_val which s low) s.flags) s
transfer whole (op.Bit n which) next sp s low high = quiet (with_flags (test_bit n (operand_val which s low) s.flags) s)
transfer whole (op.Reset n which) next sp s low high = store_operand which (reset_bit_by whole n (operand_val which s low)) s
transfer whole (op.Set n which) next sp s low high = store_operand which (set_bit_by whole n (operand_val which s low)) s
transfer whole _ next sp s low high = quiet s

-- where the condition isn't met, nothing changes
unfoldable pub untaken : Core → AbsEffect
untaken s = quiet s
