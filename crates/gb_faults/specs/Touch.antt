-- Where instructions read and write besides their own bytes (own: what each opcode of the table does).
use Rattle.std.specs.Prelude.{ℕ, ◌==◌, if◌then◌else◌, Option, Some, None}
use Rattle.gb_ops.specs.declared.op.Op.{Op}
use Rattle.gb_ops.specs.declared.op.Op.TheVariants as op
use Rattle.gb_ops.specs.declared.op.Operand.{Operand}
use Rattle.gb_ops.specs.declared.op.Operand.TheVariants as operand
use Rattle.gb_ops.specs.declared.op.Indirect.{Indirect}
use Rattle.gb_ops.specs.declared.op.Indirect.TheVariants as indirect
use Rattle.gb_ops.specs.declared.op.Row.{Row}
use Rattle.gb_ops.specs.Table.{row_in, table}
use Rattle.gb_faults.specs.declared.touch.Touch.{Touch}
use Rattle.gb_faults.specs.declared.touch.Touch.TheVariants as touch

abbrev pub touch_operand : Operand → Touch
touch_operand (operand.Register which) = touch.Nothing
touch_operand operand.AtHl = touch.Hl

abbrev pub touch_either : Operand → Operand → Touch
touch_either (operand.Register which) from = touch_operand from
touch_either operand.AtHl from = touch.Hl

abbrev pub touch_indirect : Indirect → Touch
touch_indirect indirect.Bc = touch.Bc
touch_indirect indirect.De = touch.De
touch_indirect indirect.HlIncrement = touch.Hl
touch_indirect indirect.HlDecrement = touch.Hl

-- where an instruction reads or writes, its condition met or not; LD (n16),SP writes twice
abbrev pub touch_of : Op → Touch
touch_of (op.StoreA to) = touch_indirect to
touch_of (op.LoadA from) = touch_indirect from
touch_of (op.Increment which) = touch_operand which
touch_of (op.Decrement which) = touch_operand which
touch_of (op.LoadImmediate to v) = touch_operand to
touch_of (op.StoreSp w) = touch.Other
touch_of (op.Load to from) = touch_either to from
touch_of (op.Alu how from) = touch_operand from
touch_of (op.ReturnIf condition) = touch.Pop
touch_of op.Return = touch.Pop
touch_of op.ReturnFromInterrupt = touch.Pop
touch_of (op.Pop to) = touch.Pop
touch_of (op.Push from) = touch.Push
touch_of (op.CallIf condition w) = touch.Push
touch_of (op.Call w) = touch.Push
touch_of (op.Restart w) = touch.Push
touch_of (op.StoreHigh b) = touch.HighStore
touch_of op.StoreHighC = touch.HighStore
touch_of (op.StoreAbsolute w) = touch.Word
touch_of (op.LoadAbsolute w) = touch.Word
touch_of (op.Shift how which) = touch_operand which
touch_of (op.Bit n which) = touch_operand which
touch_of (op.Reset n which) = touch_operand which
touch_of (op.Set n which) = touch_operand which
touch_of _ = touch.Nothing

abbrev pub row_touch : Option Row → Touch
row_touch None = touch.Other
row_touch (Some row) = touch_of row.op

-- the same by the opcode; after the prefix CB the next byte says more
unfoldable pub opcode_touch : ℕ → Touch
opcode_touch opcode = if opcode == 0xCB then touch.Prefixed else row_touch (row_in table opcode 0 0)
