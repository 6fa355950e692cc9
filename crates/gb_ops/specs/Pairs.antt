-- The register pairs of a processor (CPU registers and flags).
use Rattle.std.specs.Prelude.{ℕ, ◌+◌, ◌*◌, ◌/◌, ◌%◌}
use Rattle.gb_ops.specs.declared.registers.Registers.{Registers}
use Rattle.gb_ops.specs.declared.registers.Processor.{Processor}
use Rattle.gb_ops.specs.declared.op.Pair.{Pair}
use Rattle.gb_ops.specs.declared.op.Pair.TheVariants as pair
use Rattle.gb_ops.specs.declared.op.StackPair.{StackPair}
use Rattle.gb_ops.specs.declared.op.StackPair.TheVariants as stack
use Rattle.gb_ops.specs.Flags.{flags_byte, flags_of}

abbrev pub word : ℕ → ℕ → ℕ
word high low = 256 * high + low

abbrev pub with_registers : Processor → Registers ℕ → Processor
with_registers p r = record p { registers = r }

unfoldable pub pair_value : Processor → Pair → ℕ
pair_value p pair.Bc = word p.registers.b p.registers.c
pair_value p pair.De = word p.registers.d p.registers.e
pair_value p pair.Hl = word p.registers.h p.registers.l
pair_value p pair.Sp = p.sp

unfoldable pub with_pair : Processor → Pair → ℕ → Processor
with_pair p pair.Bc w = with_registers p (record p.registers { b = w / 256; c = w % 256 })
with_pair p pair.De w = with_registers p (record p.registers { d = w / 256; e = w % 256 })
with_pair p pair.Hl w = with_registers p (record p.registers { h = w / 256; l = w % 256 })
with_pair p pair.Sp w = record p { sp = w }

unfoldable pub stack_pair_value : Processor → StackPair → ℕ
stack_pair_value p stack.Bc = word p.registers.b p.registers.c
stack_pair_value p stack.De = word p.registers.d p.registers.e
stack_pair_value p stack.Hl = word p.registers.h p.registers.l
stack_pair_value p stack.Af = word p.registers.a (flags_byte p.flags)

-- a pair that is popped; of F the low four bits are dropped
unfoldable pub with_stack_pair : Processor → StackPair → ℕ → ℕ → Processor
with_stack_pair p stack.Bc low high = with_registers p (record p.registers { b = high; c = low })
with_stack_pair p stack.De low high = with_registers p (record p.registers { d = high; e = low })
with_stack_pair p stack.Hl low high = with_registers p (record p.registers { h = high; l = low })
with_stack_pair p stack.Af low high = record p { registers = record p.registers { a = high }; flags = flags_of low }
