-- What the transfer of relations promises of the machine (abstract interpretation: soundness; own).
use Rattle.std.specs.Prelude.{◌≡◌, ℕ, ◌+◌, ◌%◌, ◌≤◌, ◌<◌, true, Option, Some, None}
use Rattle.gb_ops.specs.declared.op.Register.{Register}
use Rattle.gb_ops.specs.declared.op.Op.{Op}
use Rattle.gb_ops.specs.declared.op.Op.TheVariants as op
use Rattle.gb_ops.specs.declared.machine.Region.{Region}
use Rattle.gb_domain.specs.declared.places.StackBytes.{StackBytes}
use Rattle.gb_domain.specs.Areas.{is_place_at, is_free_byte}
use Rattle.gb_domain.specs.Pairs.{ArePairs}
use Rattle.gb_ops.specs.declared.machine.Read.{Read}
use Rattle.gb_ops.specs.declared.machine.Read.TheVariants as read
use Rattle.gb_ops.specs.declared.machine.Write.{Write}
use Rattle.gb_ops.specs.declared.machine.Write.TheVariants as write
use Rattle.gb_ops.specs.declared.registers.Registers.{Registers}
use Rattle.gb_ops.specs.declared.registers.Processor.{Processor}
use Rattle.gb_ops.specs.Registers.{get}
use Rattle.gb_ops.specs.Effects as Effects
use Rattle.gb_domain.specs.declared.types.Val.{Val}
use Rattle.gb_domain.specs.declared.pairs.Bounds.{Bounds}
use Rattle.gb_domain.specs.declared.relations.Relations.{Relations}
use Rattle.gb_pairs.specs.Below.gb_vals.Meaning.{In}
use Rattle.gb_pairs.specs.Meaning.{AreBytes}
use Rattle.gb_relations.specs.Meaning.{HoldRelations}
use Rattle.gb_relations.specs.Places.{is_ram, is_free, behind_echo}

-- the numbers that an instruction puts into registers or computes with are words and bytes
abbrev pub HasBytes : Op → Type 0
HasBytes (op.LoadPair to w) = w < 65536
HasBytes (op.LoadImmediate to v) = v < 256
HasBytes (op.AluImmediate how v) = v < 256
HasBytes _ = Unit {0}

-- memory by address, but for one address
abbrev pub IsKeptBut : ℕ → (ℕ → ℕ) → (ℕ → ℕ) → Type 0
IsKeptBut a memory after = (b : ℕ) → (b ≡ a → ⊥) → after b ≡ memory b

-- a write changes memory where it says: a byte of RAM becomes what is written, and all others stay; a push leaves RAM outside the
-- stack region, and the items
abbrev pub Writes : StackBytes → Write → (ℕ → ℕ) → (ℕ → ℕ) → Type 0
Writes stack write.Nothing memory after = (b : ℕ) → after b ≡ memory b
Writes stack (write.Byte a n) memory after = (is_ram a ≡ true → after a ≡ n) × IsKeptBut a memory after
Writes stack (write.Word a w) memory after =
    (b : ℕ) → (b ≡ a → ⊥) → (b ≡ (a + 1) % 65536 → ⊥) → after b ≡ memory b
Writes stack (write.Push sp w) memory after = (b : ℕ) → is_place_at stack b ≡ true → after b ≡ memory b

-- a byte that is read from RAM is the one in memory, through the echo too
abbrev pub Reads : Read → (ℕ → ℕ) → ℕ → Type 0
Reads (read.Byte a) memory low = is_ram (behind_echo a) ≡ true → memory (behind_echo a) ≡ low
Reads _ memory low = Unit {0}

-- the address among the places, if there is one, is one of RAM outside the stack region
abbrev pub IsByteFree : Region → Option ℕ → Type 0
IsByteFree region None = Unit {0}
IsByteFree region (Some a) = is_free region a ≡ true

-- the address among the places, if there is one, is one at which a byte may be a place
abbrev pub IsBytePlaced : StackBytes → Option ℕ → Type 0
IsBytePlaced stack None = Unit {0}
IsBytePlaced stack (Some a) = is_place_at stack a ≡ true

-- the machine as an instruction, taken or not, begins its work, in a procedure that was entered with these registers: its bytes are
-- fetched, and its reads gave l and h
pub record Begins (stack : StackBytes) (o : Op) (sp : Bounds) (vals : Registers Val) (low : Val) (r : Relations) (was : Registers ℕ) (p : Processor) (memory : ℕ → ℕ) (l h : ℕ) : Type 0 where
  pub registers : (q : Register) → In (get q vals) (get q p.registers)
  pub bytes : AreBytes p.registers
  pub sp_first : sp.first ≤ p.sp
  pub sp_last : p.sp ≤ sp.last
  pub low_read : In low l
  pub low_small : l < 256
  pub high_small : h < 256
  pub placed : IsBytePlaced stack r.byte.address
  pub cells : ArePairs (is_free_byte stack.region) r.pairs
  pub relations : HoldRelations r was p.registers memory p.flags
  pub reads : Reads (Effects.read_of o p) memory l

-- what is known together holds behind each effect of the instruction, whatever it makes of the rest of memory
pub record IsSoundTransfer (stack : StackBytes) (o : Op) (sp : Bounds) (vals : Registers Val) (low : Val) (r after : Relations) : Type 0 where
  pub gives :
      (was : Registers ℕ) (p : Processor) (memory written : ℕ → ℕ) (l h : ℕ)
      → Begins stack o sp vals low r was p memory l h
      → Writes stack (Effects.effect_of o p l h).write memory written
      → HoldRelations after was (Effects.effect_of o p l h).processor.registers written (Effects.effect_of o p l h).processor.flags
  pub placed : IsBytePlaced stack r.byte.address → IsBytePlaced stack after.byte.address
