-- The opcode table (CPU instruction set): one line a pattern of opcodes.
use Rattle.std.specs.Prelude.{ℕ, ◌+◌, ◌-◌, ◌*◌, ◌/◌, ◌%◌, Bool, true, false, ◌==◌, nat_lt, nat_le, ◌&&◌, if◌then◌else◌, List, [], ◌∷◌, slice_index, slice_index_or, Option, Some, None}
use Rattle.std.specs.List.{list_any}
use Rattle.gb_ops.specs.declared.op.Register.TheVariants as reg
use Rattle.gb_ops.specs.declared.op.Operand.{Operand}
use Rattle.gb_ops.specs.declared.op.Operand.TheVariants as operand
use Rattle.gb_ops.specs.declared.op.Pair.{Pair}
use Rattle.gb_ops.specs.declared.op.Pair.TheVariants as pair
use Rattle.gb_ops.specs.declared.op.StackPair.{StackPair}
use Rattle.gb_ops.specs.declared.op.StackPair.TheVariants as stack
use Rattle.gb_ops.specs.declared.op.Indirect.{Indirect}
use Rattle.gb_ops.specs.declared.op.Indirect.TheVariants as indirect
use Rattle.gb_ops.specs.declared.op.Condition.{Condition}
use Rattle.gb_ops.specs.declared.op.Condition.TheVariants as condition
use Rattle.gb_ops.specs.declared.op.AluOp.{AluOp}
use Rattle.gb_ops.specs.declared.op.AluOp.TheVariants as alu
use Rattle.gb_ops.specs.declared.op.Shift.{Shift}
use Rattle.gb_ops.specs.declared.op.Shift.TheVariants as shift
use Rattle.gb_ops.specs.declared.op.Op.{Op}
use Rattle.gb_ops.specs.declared.op.Op.TheVariants as op
use Rattle.gb_ops.specs.declared.op.Row.{Row}

-- the field r: B C D E H L (HL) A
unfoldable pub operand_of : ℕ → Operand
operand_of field =
    slice_index_or
    (operand.Register reg.B ∷ operand.Register reg.C ∷ operand.Register reg.D ∷ operand.Register reg.E
    ∷ operand.Register reg.H ∷ operand.Register reg.L ∷ operand.AtHl ∷ operand.Register reg.A ∷ [])
    field operand.AtHl

-- the field rr: BC DE HL SP
unfoldable pub pair_of : ℕ → Pair
pair_of field = slice_index_or (pair.Bc ∷ pair.De ∷ pair.Hl ∷ pair.Sp ∷ []) field pair.Sp

-- rr of PUSH and POP: BC DE HL AF
unfoldable pub stack_pair_of : ℕ → StackPair
stack_pair_of field = slice_index_or (stack.Bc ∷ stack.De ∷ stack.Hl ∷ stack.Af ∷ []) field stack.Af

unfoldable pub indirect_of : ℕ → Indirect
indirect_of field =
    slice_index_or (indirect.Bc ∷ indirect.De ∷ indirect.HlIncrement ∷ indirect.HlDecrement ∷ []) field indirect.Bc

-- the field cc: NZ Z NC C
unfoldable pub condition_of : ℕ → Condition
condition_of field =
    slice_index_or (condition.NotZero ∷ condition.Zero ∷ condition.NotCarry ∷ condition.Carry ∷ []) field condition.Zero

unfoldable pub alu_of : ℕ → AluOp
alu_of field =
    slice_index_or
    (alu.Add ∷ alu.Adc ∷ alu.Sub ∷ alu.Sbc ∷ alu.And ∷ alu.Xor ∷ alu.Or ∷ alu.Cp ∷ [])
    field alu.Cp

unfoldable pub shift_of : ℕ → Shift
shift_of field =
    slice_index_or
    (shift.Rlc ∷ shift.Rrc ∷ shift.Rl ∷ shift.Rr ∷ shift.Sla ∷ shift.Sra ∷ shift.Swap ∷ shift.Srl ∷ [])
    field shift.Srl

abbrev pub either : Op → ℕ → ℕ → ℕ → Row
either what length taken not_taken = record { op = what; length = length; cycles = taken; cycles_not_taken = not_taken }

abbrev pub row : Op → ℕ → ℕ → Row
row what length cycles = either what length cycles cycles

-- A line of the opcode table: how many opcodes it has, the first of them, how far they lie apart,
-- and the row of the one with a number (from 0), under the byte and the word that follow the opcode.
pub record Line : Type 0 where
  pub count : ℕ
  pub first : ℕ
  pub apart : ℕ
  pub row_at : ℕ → ℕ → ℕ → Row

abbrev pub one : ℕ → (ℕ → ℕ → Row) → Line
one opcode what = record { count = 1; first = opcode; apart = 1; row_at = λ k b w. what b w }

abbrev pub each : ℕ → ℕ → ℕ → (ℕ → ℕ → ℕ → Row) → Line
each count first apart what = record { count = count; first = first; apart = apart; row_at = what }

-- the cycles of an instruction on r: other ones at (HL)
abbrev pub at_hl : ℕ → ℕ → ℕ → ℕ
at_hl field memory cycles = if field == 6 then memory else cycles

unfoldable pub table : List Line
table =
    one 0x00 (λ b w. row op.Nop 1 1)
    ∷ one 0x10 (λ b w. row op.Stop 2 1)
    ∷ each 4 0x01 0x10 (λ k b w. row (op.LoadPair (pair_of k) w) 3 3)
    ∷ each 4 0x02 0x10 (λ k b w. row (op.StoreA (indirect_of k)) 1 2)
    ∷ each 4 0x0A 0x10 (λ k b w. row (op.LoadA (indirect_of k)) 1 2)
    ∷ each 4 0x03 0x10 (λ k b w. row (op.IncrementPair (pair_of k)) 1 2)
    ∷ each 4 0x0B 0x10 (λ k b w. row (op.DecrementPair (pair_of k)) 1 2)
    ∷ each 8 0x04 8 (λ r b w. row (op.Increment (operand_of r)) 1 (at_hl r 3 1))
    ∷ each 8 0x05 8 (λ r b w. row (op.Decrement (operand_of r)) 1 (at_hl r 3 1))
    ∷ each 8 0x06 8 (λ r b w. row (op.LoadImmediate (operand_of r) b) 2 (at_hl r 3 2))
    ∷ each 4 0x07 8 (λ k b w. row (op.RotateA (shift_of k)) 1 1)
    ∷ one 0x08 (λ b w. row (op.StoreSp w) 3 5)
    ∷ each 4 0x09 0x10 (λ k b w. row (op.AddHl (pair_of k)) 1 2)
    ∷ one 0x18 (λ b w. row (op.JumpRelative b) 2 3)
    ∷ each 4 0x20 8 (λ k b w. either (op.JumpRelativeIf (condition_of k) b) 2 3 2)
    ∷ one 0x27 (λ b w. row op.DecimalAdjust 1 1)
    ∷ one 0x2F (λ b w. row op.Complement 1 1)
    ∷ one 0x37 (λ b w. row op.SetCarry 1 1)
    ∷ one 0x3F (λ b w. row op.ComplementCarry 1 1)
    ∷ one 0x76 (λ b w. row op.Halt 1 1)
    ∷ each 64 0x40 1 (λ k b w. row (op.Load (operand_of (k / 8)) (operand_of (k % 8))) 1 (at_hl (k / 8) 2 (at_hl (k % 8) 2 1)))
    ∷ each 64 0x80 1 (λ k b w. row (op.Alu (alu_of (k / 8)) (operand_of (k % 8))) 1 (at_hl (k % 8) 2 1))
    ∷ each 8 0xC6 8 (λ k b w. row (op.AluImmediate (alu_of k) b) 2 2)
    ∷ each 4 0xC0 8 (λ k b w. either (op.ReturnIf (condition_of k)) 1 5 2)
    ∷ one 0xC9 (λ b w. row op.Return 1 4)
    ∷ one 0xD9 (λ b w. row op.ReturnFromInterrupt 1 4)
    ∷ each 4 0xC1 0x10 (λ k b w. row (op.Pop (stack_pair_of k)) 1 3)
    ∷ each 4 0xC5 0x10 (λ k b w. row (op.Push (stack_pair_of k)) 1 4)
    ∷ each 4 0xC2 8 (λ k b w. either (op.JumpIf (condition_of k) w) 3 4 3)
    ∷ one 0xC3 (λ b w. row (op.Jump w) 3 4)
    ∷ each 4 0xC4 8 (λ k b w. either (op.CallIf (condition_of k) w) 3 6 3)
    ∷ one 0xCD (λ b w. row (op.Call w) 3 6)
    ∷ each 8 0xC7 8 (λ k b w. row (op.Restart (8 * k)) 1 4)
    ∷ one 0xE0 (λ b w. row (op.StoreHigh b) 2 3)
    ∷ one 0xF0 (λ b w. row (op.LoadHigh b) 2 3)
    ∷ one 0xE2 (λ b w. row op.StoreHighC 1 2)
    ∷ one 0xF2 (λ b w. row op.LoadHighC 1 2)
    ∷ one 0xEA (λ b w. row (op.StoreAbsolute w) 3 4)
    ∷ one 0xFA (λ b w. row (op.LoadAbsolute w) 3 4)
    ∷ one 0xE8 (λ b w. row (op.AddSp b) 2 4)
    ∷ one 0xF8 (λ b w. row (op.LoadHlSp b) 2 3)
    ∷ one 0xF9 (λ b w. row op.LoadSpHl 1 2)
    ∷ one 0xE9 (λ b w. row op.JumpHl 1 1)
    ∷ one 0xF3 (λ b w. row op.DisableInterrupts 1 1)
    ∷ one 0xFB (λ b w. row op.EnableInterrupts 1 1)
    ∷ []

-- the same behind the prefix CB
unfoldable pub prefixed_table : List Line
prefixed_table =
    each 64 0x00 1 (λ k b w. row (op.Shift (shift_of (k / 8)) (operand_of (k % 8))) 2 (at_hl (k % 8) 4 2))
    ∷ each 64 0x40 1 (λ k b w. row (op.Bit (k / 8) (operand_of (k % 8))) 2 (at_hl (k % 8) 3 2))
    ∷ each 64 0x80 1 (λ k b w. row (op.Reset (k / 8) (operand_of (k % 8))) 2 (at_hl (k % 8) 4 2))
    ∷ each 64 0xC0 1 (λ k b w. row (op.Set (k / 8) (operand_of (k % 8))) 2 (at_hl (k % 8) 4 2))
    ∷ []

-- whether a line has an opcode
abbrev pub has : Line → ℕ → Bool
has line opcode =
    nat_le line.first opcode
    && (((opcode - line.first) % line.apart) == 0
    && nat_lt ((opcode - line.first) / line.apart) line.count)

-- the row of the first line that has the opcode
unfoldable pub row_in : List Line → ℕ → ℕ → ℕ → Option Row
row_in [] opcode b w = None
row_in (line ∷ lines) opcode b w =
    elim (has line opcode) [
      | true ↦ Some (line.row_at ((opcode - line.first) / line.apart) b w)
      | false ↦ row_in lines opcode b w
    ]

-- the row of an opcode and the two bytes behind it
unfoldable pub row_of : ℕ → ℕ → ℕ → Option Row
row_of opcode low high =
    elim (opcode == 0xCB) [
      | true ↦ row_in prefixed_table low 0 0
      | false ↦ row_in table opcode low (low + 256 * high)
    ]

abbrev pub decoded : List ℕ → Option Row
decoded bytes = row_of (slice_index bytes 0) (slice_index bytes 1) (slice_index bytes 2)

-- the opcodes that no row has
abbrev pub undefined : List ℕ
undefined = 0xD3 ∷ 0xDB ∷ 0xDD ∷ 0xE3 ∷ 0xE4 ∷ 0xEB ∷ 0xEC ∷ 0xED ∷ 0xF4 ∷ 0xFC ∷ 0xFD ∷ []

unfoldable pub is_undefined : ℕ → Bool
is_undefined opcode = list_any (λ u. u == opcode) undefined
