-- Which registers hold the address of the byte that an instruction loads or stores, and which register it stores (CPU
-- instruction set).
use Rattle.std.specs.Prelude.{◌≡◌, ℕ, Option, Some, None, IfSome}
use Rattle.gb_ops.specs.declared.registers.Processor.{Processor}
use Rattle.gb_ops.specs.declared.machine.Read.{Read}
use Rattle.gb_ops.specs.declared.machine.Read.TheVariants as read
use Rattle.gb_ops.specs.declared.machine.Write.{Write}
use Rattle.gb_ops.specs.declared.machine.Write.TheVariants as write
use Rattle.gb_ops.specs.declared.op.Register.{Register}
use Rattle.gb_ops.specs.declared.op.Register.TheVariants.{A, B, C, D, E, H, L}
use Rattle.gb_ops.specs.declared.op.Operand.{Operand}
use Rattle.gb_ops.specs.declared.op.Operand.TheVariants as operand
use Rattle.gb_ops.specs.declared.op.Indirect.{Indirect}
use Rattle.gb_ops.specs.declared.op.Indirect.TheVariants as indirect
use Rattle.gb_ops.specs.declared.op.Pointer.{Pointer}
use Rattle.gb_ops.specs.declared.op.Pointer.TheVariants.{Bc, De, Hl, HighC}
use Rattle.gb_ops.specs.declared.op.Op.{Op}
use Rattle.gb_ops.specs.declared.op.Op.TheVariants as op
use Rattle.gb_ops.specs.Registers.{get}
use Rattle.gb_ops.specs.Pairs.{word}
use Rattle.gb_ops.specs.Effects.{read_of, effect_of}

-- the register of an address's high byte, which is FF where there is none
unfoldable pub high_register : Pointer → Option Register
high_register Bc = Some B
high_register De = Some D
high_register Hl = Some H
high_register HighC = None

unfoldable pub low_register : Pointer → Register
low_register Bc = C
low_register De = E
low_register Hl = L
low_register HighC = C

unfoldable pub byte_or_page : Processor → Option Register → ℕ
byte_or_page p (Some which) = get which p.registers
byte_or_page p None = 0xFF

-- the address that a pointer holds
unfoldable pub pointed : Processor → Pointer → ℕ
pointed p pointer = word (byte_or_page p (high_register pointer)) (get (low_register pointer) p.registers)

-- ---- of an instruction

unfoldable pub indirect_pointer : Indirect → Pointer
indirect_pointer indirect.Bc = Bc
indirect_pointer indirect.De = De
indirect_pointer indirect.HlIncrement = Hl
indirect_pointer indirect.HlDecrement = Hl

unfoldable pub operand_pointer : Operand → Option Pointer
operand_pointer (operand.Register which) = None
operand_pointer operand.AtHl = Some Hl

-- the pointer to a byte that is one of two operands
unfoldable pub either_pointer : Operand → Operand → Option Pointer
either_pointer operand.AtHl from = Some Hl
either_pointer (operand.Register which) from = operand_pointer from

-- by what an instruction finds the byte in memory that it loads or stores: none where it names the address, goes by SP, or
-- has no such byte
unfoldable pub pointer_of : Op → Option Pointer
pointer_of (op.StoreA to) = Some (indirect_pointer to)
pointer_of (op.LoadA from) = Some (indirect_pointer from)
pointer_of (op.Increment which) = operand_pointer which
pointer_of (op.Decrement which) = operand_pointer which
pointer_of (op.LoadImmediate to v) = operand_pointer to
pointer_of (op.Load to from) = either_pointer to from
pointer_of (op.Alu how from) = operand_pointer from
pointer_of op.StoreHighC = Some HighC
pointer_of op.LoadHighC = Some HighC
pointer_of (op.Shift how which) = operand_pointer which
pointer_of (op.Bit n which) = operand_pointer which
pointer_of (op.Reset n which) = operand_pointer which
pointer_of (op.Set n which) = operand_pointer which
pointer_of _ = None

-- the register of an operand that is stored at another one
unfoldable pub register_stored : Operand → Operand → Option Register
register_stored operand.AtHl (operand.Register from) = Some from
register_stored _ _ = None

-- the register whose byte an instruction stores as it is; a push stores a word
unfoldable pub stored_of : Op → Option Register
stored_of (op.StoreA to) = Some A
stored_of (op.Load to from) = register_stored to from
stored_of (op.StoreHigh b) = Some A
stored_of op.StoreHighC = Some A
stored_of (op.StoreAbsolute w) = Some A
stored_of _ = None

-- ---- what the machine makes of them

-- what is read is nothing, or the byte at the address
unfoldable pub ReadsAt : ℕ → Read → Type 0
ReadsAt address read.Nothing = Unit {0}
ReadsAt address (read.Byte a) = a ≡ address
ReadsAt address (read.Word a) = ⊥

-- what is written is nothing, or a byte at the address
unfoldable pub WritesAt : ℕ → Write → Type 0
WritesAt address write.Nothing = Unit {0}
WritesAt address (write.Byte a v) = a ≡ address
WritesAt address (write.Word a w) = ⊥
WritesAt address (write.Push sp w) = ⊥

-- what is written is this byte
unfoldable pub WritesByte : ℕ → Write → Type 0
WritesByte byte (write.Byte a v) = v ≡ byte
WritesByte byte _ = ⊥

-- An instruction's byte is where its pointer points.
abbrev pub GoesByPointers : Type 0
GoesByPointers =
    (o : Op) (p : Processor) (low high : ℕ)
    → IfSome (pointer_of o) (λ pointer. ReadsAt (pointed p pointer) (read_of o p) × WritesAt (pointed p pointer) (effect_of o p low high).write)

-- What an instruction stores is its register's byte.
abbrev pub StoresRegisters : Type 0
StoresRegisters =
    (o : Op) (p : Processor) (low high : ℕ)
    → IfSome (stored_of o) (λ which. WritesByte (get which p.registers) (effect_of o p low high).write)
