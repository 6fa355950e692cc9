-- What instructions do: what they read, and what they make of it (CPU instruction set).
use Rattle.std.specs.Prelude.{ℕ, ◌+◌, ◌-◌, ◌%◌, Bool, true, false, not}
use Rattle.gb_ops.specs.declared.registers.Flags.{Flags}
use Rattle.gb_ops.specs.declared.registers.Processor.{Processor}
use Rattle.gb_ops.specs.declared.registers.Ime.{Ime}
use Rattle.gb_ops.specs.declared.registers.Ime.TheVariants as ime
use Rattle.gb_ops.specs.declared.machine.Computed.{Computed}
use Rattle.gb_ops.specs.declared.machine.Read.{Read}
use Rattle.gb_ops.specs.declared.machine.Read.TheVariants as read
use Rattle.gb_ops.specs.declared.machine.Write.{Write}
use Rattle.gb_ops.specs.declared.machine.Write.TheVariants as write
use Rattle.gb_ops.specs.declared.machine.Effect.{Effect}
use Rattle.gb_ops.specs.declared.op.Operand.{Operand}
use Rattle.gb_ops.specs.declared.op.Operand.TheVariants as operand
use Rattle.gb_ops.specs.declared.op.Pair.TheVariants as pair
use Rattle.gb_ops.specs.declared.op.Indirect.{Indirect}
use Rattle.gb_ops.specs.declared.op.Indirect.TheVariants as indirect
use Rattle.gb_ops.specs.declared.op.Op.{Op}
use Rattle.gb_ops.specs.declared.op.Op.TheVariants as op
use Rattle.gb_ops.specs.Registers.{get, set}
use Rattle.gb_ops.specs.Flags.{is_met}
use Rattle.gb_ops.specs.Pairs.{word, with_registers, pair_value, with_pair, stack_pair_value, with_stack_pair}
use Rattle.gb_ops.specs.Arithmetic.{alu_result, incremented, decremented, shifted, displaced, bit_tested, bit_reset, bit_set, adjusted, word_sum_flags, sp_sum_flags}

abbrev pub hl : Processor → ℕ
hl p = pair_value p pair.Hl

unfoldable pub indirect_address : Processor → Indirect → ℕ
indirect_address p indirect.Bc = pair_value p pair.Bc
indirect_address p indirect.De = pair_value p pair.De
indirect_address p indirect.HlIncrement = hl p
indirect_address p indirect.HlDecrement = hl p

-- HL counts up or down where the operand says so
unfoldable pub with_indirect : Processor → Indirect → Processor
with_indirect p indirect.Bc = p
with_indirect p indirect.De = p
with_indirect p indirect.HlIncrement = with_pair p pair.Hl ((hl p + 1) % 65536)
with_indirect p indirect.HlDecrement = with_pair p pair.Hl ((hl p + 65535) % 65536)

unfoldable pub operand_read : Processor → Operand → Read
operand_read p (operand.Register which) = read.Nothing
operand_read p operand.AtHl = read.Byte (hl p)

unfoldable pub read_if : Bool → Read → Read
read_if true what = what
read_if false what = read.Nothing

-- what an instruction reads besides its own bytes
unfoldable pub read_of : Op → Processor → Read
read_of (op.LoadA from) p = read.Byte (indirect_address p from)
read_of (op.Increment which) p = operand_read p which
read_of (op.Decrement which) p = operand_read p which
read_of (op.Load to from) p = operand_read p from
read_of (op.Alu how which) p = operand_read p which
read_of (op.ReturnIf condition) p = read_if (is_met condition p.flags) (read.Word p.sp)
read_of op.Return p = read.Word p.sp
read_of op.ReturnFromInterrupt p = read.Word p.sp
read_of (op.Pop pair) p = read.Word p.sp
read_of (op.LoadHigh b) p = read.Byte (0xFF00 + b)
read_of op.LoadHighC p = read.Byte (0xFF00 + p.registers.c)
read_of (op.LoadAbsolute w) p = read.Byte w
read_of (op.Shift how which) p = operand_read p which
read_of (op.Bit n which) p = operand_read p which
read_of (op.Reset n which) p = operand_read p which
read_of (op.Set n which) p = operand_read p which
read_of _ p = read.Nothing

-- ---- parts of effects

-- the processor changes, and nothing is written
abbrev pub quiet : Processor → Effect
quiet p = record { processor = p; write = write.Nothing; is_taken = true }

abbrev pub writes : Processor → Write → Effect
writes p w = record { processor = p; write = w; is_taken = true }

-- the value of an operand, where its byte in memory was read
unfoldable pub operand_value : Processor → Operand → ℕ → ℕ
operand_value p (operand.Register which) low = get which p.registers
operand_value p operand.AtHl low = low

unfoldable pub store_operand : Processor → Operand → ℕ → Effect
store_operand p (operand.Register which) v = quiet (with_registers p (set which v p.registers))
store_operand p operand.AtHl v = writes p (write.Byte (hl p) v)

abbrev pub with_flags : Processor → Flags → Processor
with_flags p f = record p { flags = f }

abbrev pub with_a : Processor → ℕ → Processor
with_a p v = with_registers p (record p.registers { a = v })

abbrev pub with_sp : Processor → ℕ → Processor
with_sp p sp = record p { sp = sp }

abbrev pub with_pc : Processor → ℕ → Processor
with_pc p pc = record p { pc = pc }

-- RLCA and its kin leave Z clear
abbrev pub without_zero : Computed → Computed
without_zero computed = record computed { flags = record computed.flags { zero = false } }

-- the operand and the flags become what was computed
unfoldable pub update_operand : Processor → Operand → Computed → Effect
update_operand p which computed = store_operand (with_flags p computed.flags) which computed.value

unfoldable pub update_a : Processor → Computed → Effect
update_a p computed = quiet (with_a (with_flags p computed.flags) computed.value)

unfoldable pub jump : Processor → ℕ → Effect
jump p to = quiet (with_pc p to)

-- the word goes on the stack
unfoldable pub push : Processor → ℕ → Effect
push p w = writes (with_sp p ((p.sp + 65534) % 65536)) (write.Push p.sp w)

-- the address of the next instruction goes on the stack
unfoldable pub call : Processor → ℕ → Effect
call p to = writes (with_pc (with_sp p ((p.sp + 65534) % 65536)) to) (write.Push p.sp p.pc)

unfoldable pub return_to : Processor → ℕ → ℕ → Effect
return_to p low high = quiet (with_pc (with_sp p ((p.sp + 2) % 65536)) (word high low))

unfoldable pub only_if : Bool → Effect → Processor → Effect
only_if true effect p = effect
only_if false effect p = record { processor = p; write = write.Nothing; is_taken = false }

-- EI takes effect after one more instruction, where interrupts were off
unfoldable pub enabled : Ime → Ime
enabled ime.Off = ime.Pending
enabled ime.Pending = ime.On
enabled ime.On = ime.On

-- What an instruction does, once its bytes are fetched (PC is behind them, but for STOP) and its reads
-- gave low and high.
unfoldable pub effect_of : Op → Processor → ℕ → ℕ → Effect
effect_of op.Nop p low high = quiet p
effect_of op.Stop p low high = quiet (record p { stopped = true })
effect_of op.Halt p low high = quiet p
effect_of (op.LoadPair to w) p low high = quiet (with_pair p to w)
effect_of (op.StoreA to) p low high = writes (with_indirect p to) (write.Byte (indirect_address p to) p.registers.a)
effect_of (op.LoadA from) p low high = quiet (with_a (with_indirect p from) low)
effect_of (op.IncrementPair which) p low high = quiet (with_pair p which ((pair_value p which + 1) % 65536))
effect_of (op.DecrementPair which) p low high = quiet (with_pair p which ((pair_value p which + 65535) % 65536))
effect_of (op.Increment which) p low high = update_operand p which (incremented (operand_value p which low) p.flags)
effect_of (op.Decrement which) p low high = update_operand p which (decremented (operand_value p which low) p.flags)
effect_of (op.LoadImmediate to v) p low high = store_operand p to v
effect_of (op.RotateA how) p low high = update_a p (without_zero (shifted how p.registers.a p.flags.carry))
effect_of (op.StoreSp w) p low high = writes p (write.Word w p.sp)
effect_of (op.AddHl which) p low high =
    quiet
    (with_flags
    (with_pair p pair.Hl ((hl p + pair_value p which) % 65536))
    (word_sum_flags (hl p) (pair_value p which) p.flags))
effect_of (op.JumpRelative e8) p low high = jump p (displaced p.pc e8)
effect_of (op.JumpRelativeIf condition e8) p low high = only_if (is_met condition p.flags) (jump p (displaced p.pc e8)) p
effect_of op.DecimalAdjust p low high = update_a p (adjusted p.registers.a p.flags)
effect_of op.Complement p low high =
    quiet (with_a (with_flags p (record p.flags { subtract = true; half_carry = true })) (255 - p.registers.a))
effect_of op.SetCarry p low high =
    quiet (with_flags p (record p.flags { subtract = false; half_carry = false; carry = true }))
effect_of op.ComplementCarry p low high =
    quiet (with_flags p (record p.flags { subtract = false; half_carry = false; carry = not p.flags.carry }))
effect_of (op.Load to from) p low high = store_operand p to (operand_value p from low)
effect_of (op.Alu how from) p low high = update_a p (alu_result how p.registers.a (operand_value p from low) p.flags)
effect_of (op.AluImmediate how v) p low high = update_a p (alu_result how p.registers.a v p.flags)
effect_of (op.ReturnIf condition) p low high = only_if (is_met condition p.flags) (return_to p low high) p
effect_of op.Return p low high = return_to p low high
effect_of op.ReturnFromInterrupt p low high = return_to (record p { ime = ime.On }) low high
effect_of (op.Pop to) p low high = quiet (with_sp (with_stack_pair p to low high) ((p.sp + 2) % 65536))
effect_of (op.Push from) p low high = push p (stack_pair_value p from)
effect_of (op.JumpIf condition w) p low high = only_if (is_met condition p.flags) (jump p w) p
effect_of (op.Jump w) p low high = jump p w
effect_of (op.CallIf condition w) p low high = only_if (is_met condition p.flags) (call p w) p
effect_of (op.Call w) p low high = call p w
effect_of (op.Restart w) p low high = call p w
effect_of (op.StoreHigh b) p low high = writes p (write.Byte (0xFF00 + b) p.registers.a)
effect_of (op.LoadHigh b) p low high = quiet (with_a p low)
effect_of op.StoreHighC p low high = writes p (write.Byte (0xFF00 + p.registers.c) p.registers.a)
effect_of op.LoadHighC p low high = quiet (with_a p low)
effect_of (op.StoreAbsolute w) p low high = writes p (write.Byte w p.registers.a)
effect_of (op.LoadAbsolute w) p low high = quiet (with_a p low)
effect_of (op.AddSp e8) p low high = quiet (with_flags (with_sp p (displaced p.sp e8)) (sp_sum_flags p.sp e8))
effect_of (op.LoadHlSp e8) p low high =
    quiet (with_flags (with_pair p pair.Hl (displaced p.sp e8)) (sp_sum_flags p.sp e8))
effect_of op.LoadSpHl p low high = quiet (with_sp p (hl p))
effect_of op.JumpHl p low high = jump p (hl p)
effect_of op.DisableInterrupts p low high = quiet (record p { ime = ime.Off })
effect_of op.EnableInterrupts p low high = quiet (record p { ime = enabled p.ime })
effect_of (op.Shift how which) p low high =
    update_operand p which (shifted how (operand_value p which low) p.flags.carry)
effect_of (op.Bit n which) p low high = quiet (with_flags p (bit_tested n (operand_value p which low) p.flags))
effect_of (op.Reset n which) p low high = store_operand p which (bit_reset n (operand_value p which low))
effect_of (op.Set n which) p low high = store_operand p which (bit_set n (operand_value p which low))
