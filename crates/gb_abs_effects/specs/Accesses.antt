-- The addresses that the data of an instruction may meet (own; CPU instruction set: load instructions).
use Rattle.std.specs.Prelude.{◌+◌}
use Rattle.gb_ops.specs.declared.op.Indirect.{Indirect}
use Rattle.gb_ops.specs.declared.op.Indirect.TheVariants as indirect
use Rattle.gb_ops.specs.declared.op.Operand.{Operand}
use Rattle.gb_ops.specs.declared.op.Operand.TheVariants as operand
use Rattle.gb_ops.specs.declared.op.Op.{Op}
use Rattle.gb_ops.specs.declared.op.Op.TheVariants as op
use Rattle.gb_domain.specs.declared.types.Core.{Core}
use Rattle.gb_abs.specs.Below.gb_vals.Vals.{single}
use Rattle.gb_abs.specs.declared.span.Span.{Span}
use Rattle.gb_abs.specs.Span.{one, pair_span}
use Rattle.gb_abs_effects.specs.declared.reads.AbsRead.{AbsRead}
use Rattle.gb_abs_effects.specs.declared.reads.AbsRead.TheVariants as read

unfoldable pub hl_span : Core → Span
hl_span s = pair_span s.registers.h s.registers.l

unfoldable pub indirect_span : Indirect → Core → Span
indirect_span indirect.Bc s = pair_span s.registers.b s.registers.c
indirect_span indirect.De s = pair_span s.registers.d s.registers.e
indirect_span indirect.HlIncrement s = hl_span s
indirect_span indirect.HlDecrement s = hl_span s

-- FF00 and what C may hold
unfoldable pub high_span : Core → Span
high_span s = pair_span (single 0xFF) s.registers.c

unfoldable pub operand_read : Operand → Core → AbsRead
operand_read (operand.Register which) s = read.Nothing
operand_read operand.AtHl s = read.Byte (hl_span s)

-- what a taken instruction reads besides its own bytes
unfoldable pub read_of : Op → Core → AbsRead
read_of (op.LoadA from) s = read.Byte (indirect_span from s)
read_of (op.Increment which) s = operand_read which s
read_of (op.Decrement which) s = operand_read which s
read_of (op.Load to from) s = operand_read from s
read_of (op.Alu how which) s = operand_read which s
read_of (op.ReturnIf condition) s = read.Top
read_of op.Return s = read.Top
read_of op.ReturnFromInterrupt s = read.Top
read_of (op.Pop pair) s = read.Top
read_of (op.LoadHigh b) s = read.Byte (one (0xFF00 + b))
read_of op.LoadHighC s = read.Byte (high_span s)
read_of (op.LoadAbsolute w) s = read.Byte (one w)
read_of (op.Shift how which) s = operand_read which s
read_of (op.Bit n which) s = operand_read which s
read_of (op.Reset n which) s = operand_read which s
read_of (op.Set n which) s = operand_read which s
read_of _ s = read.Nothing
