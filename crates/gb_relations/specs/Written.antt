-- Which registers an instruction writes, and whether it writes the flags (CPU instruction set).
use Rattle.std.specs.Prelude.{Bool, true, false, List, [], ◌∷◌, if◌then◌else◌}
use Rattle.gb_ops.specs.declared.op.Register.{Register}
use Rattle.gb_ops.specs.declared.op.Register.TheVariants.{A, B, C, D, E, H, L}
use Rattle.gb_ops.specs.declared.op.AluOp.{AluOp}
use Rattle.gb_ops.specs.declared.op.AluOp.TheVariants as alu
use Rattle.gb_ops.specs.declared.op.Operand.{Operand}
use Rattle.gb_ops.specs.declared.op.Operand.TheVariants as operand
use Rattle.gb_ops.specs.declared.op.Indirect.{Indirect}
use Rattle.gb_ops.specs.declared.op.Indirect.TheVariants as indirect
use Rattle.gb_ops.specs.declared.op.Pair.{Pair}
use Rattle.gb_ops.specs.declared.op.Pair.TheVariants as pair
use Rattle.gb_ops.specs.declared.op.StackPair.{StackPair}
use Rattle.gb_ops.specs.declared.op.StackPair.TheVariants as stack
use Rattle.gb_ops.specs.declared.op.Op.{Op}
use Rattle.gb_ops.specs.declared.op.Op.TheVariants as op
use Rattle.gb_domain.specs.Places.{is_same_register}
use Rattle.gb_relations.specs.declared.written.Written.{Written}
use Rattle.gb_relations.specs.declared.written.Written.TheVariants as some

-- at most three registers
abbrev pub list_of : Written → List Register
list_of some.Nothing = []
list_of (some.One q) = q ∷ []
list_of (some.Two q r) = q ∷ r ∷ []
list_of (some.Three q r s) = q ∷ r ∷ s ∷ []

abbrev pub halves : Pair → List Register
halves pair.Bc = B ∷ C ∷ []
halves pair.De = D ∷ E ∷ []
halves pair.Hl = H ∷ L ∷ []
halves pair.Sp = []

abbrev pub stack_halves : StackPair → List Register
stack_halves stack.Bc = B ∷ C ∷ []
stack_halves stack.De = D ∷ E ∷ []
stack_halves stack.Hl = H ∷ L ∷ []
stack_halves stack.Af = A ∷ []

-- HL counts
abbrev pub counted : Indirect → List Register
counted indirect.HlIncrement = H ∷ L ∷ []
counted indirect.HlDecrement = H ∷ L ∷ []
counted _ = []

abbrev pub operand_register : Operand → List Register
operand_register (operand.Register r) = r ∷ []
operand_register operand.AtHl = []

-- LD r,r of one register writes nothing
abbrev pub moved_register : Operand → Operand → List Register
moved_register (operand.Register to) (operand.Register from) = if is_same_register to from then [] else to ∷ []
moved_register to from = operand_register to

-- CP leaves A
abbrev pub alu_register : AluOp → List Register
alu_register alu.Cp = []
alu_register _ = A ∷ []

-- the registers that an instruction writes
unfoldable pub written : Op → List Register
written (op.LoadPair to w) = halves to
written (op.StoreA to) = counted to
written (op.LoadA from) = A ∷ counted from
written (op.IncrementPair which) = halves which
written (op.DecrementPair which) = halves which
written (op.Increment which) = operand_register which
written (op.Decrement which) = operand_register which
written (op.LoadImmediate to v) = operand_register to
written (op.RotateA how) = A ∷ []
written (op.AddHl which) = H ∷ L ∷ []
written op.DecimalAdjust = A ∷ []
written op.Complement = A ∷ []
written (op.Load to from) = moved_register to from
written (op.Alu how from) = alu_register how
written (op.AluImmediate how v) = alu_register how
written (op.Pop to) = stack_halves to
written (op.LoadHigh b) = A ∷ []
written op.LoadHighC = A ∷ []
written (op.LoadAbsolute w) = A ∷ []
written (op.Shift how which) = operand_register which
written (op.Reset n which) = operand_register which
written (op.Set n which) = operand_register which
written (op.LoadHlSp e8) = H ∷ L ∷ []
written _ = []

abbrev pub is_af : StackPair → Bool
is_af stack.Af = true
is_af _ = false

-- it writes the flags
unfoldable pub writes_flags : Op → Bool
writes_flags (op.Increment which) = true
writes_flags (op.Decrement which) = true
writes_flags (op.RotateA how) = true
writes_flags (op.AddHl which) = true
writes_flags op.DecimalAdjust = true
writes_flags op.Complement = true
writes_flags op.SetCarry = true
writes_flags op.ComplementCarry = true
writes_flags (op.Alu how from) = true
writes_flags (op.AluImmediate how v) = true
writes_flags (op.Pop to) = is_af to
writes_flags (op.Shift how which) = true
writes_flags (op.Bit n which) = true
writes_flags (op.AddSp e8) = true
writes_flags (op.LoadHlSp e8) = true
writes_flags _ = false
