-- What an instruction leaves of what is said of the whole program (abstract interpretation: transfer functions; memory map; own).
use Rattle.std.specs.Prelude.{◌≡◌, ℕ, ◌+◌, ◌/◌, ◌%◌, ◌<◌, ◌≤◌, true, nat_lt, if◌then◌else◌, List}
use Rattle.gb_ops.specs.declared.machine.Banks.{Banks}
use Rattle.gb_ops.specs.declared.machine.Kind.{Kind}
use Rattle.gb_ops.specs.declared.machine.Region.{Region}
use Rattle.gb_ops.specs.declared.machine.Write.{Write}
use Rattle.gb_ops.specs.declared.machine.Write.TheVariants as write
use Rattle.gb_ops.specs.declared.op.Op.{Op}
use Rattle.gb_ops.specs.declared.registers.Processor.{Processor}
use Rattle.gb_ops.specs.Cartridge.{kind_after}
use Rattle.gb_ops.specs.Effects as Effects
use Rattle.gb_ops.specs.Pointers.{pointer_of, stored_of}
use Rattle.gb_domain.specs.declared.interval.StridedInterval.{StridedInterval}
use Rattle.gb_domain.specs.declared.pairs.Bounds.{Bounds}
use Rattle.gb_domain.specs.declared.places.OneByte.{OneByte}
use Rattle.gb_domain.specs.declared.types.Cell.{Cell}
use Rattle.gb_domain.specs.LowBits.{no_low_bits}
use Rattle.gb_domain.specs.Meaning.{In}
use Rattle.gb_domain.specs.Places.{no_byte}
use Rattle.gb_domain.specs.Summaries.{SummaryParts, Program}
use Rattle.gb_relations.specs.Below.gb_pairs.declared.values.Values.{Values}
use Rattle.gb_relations.specs.Below.gb_pairs.Meaning.{Beside, AreBytes, Holds}
use Rattle.gb_relations.specs.Below.gb_copies.Meaning.{HoldOneByte}
use Rattle.gb_relations.specs.Places.{is_ram}
use Rattle.gb_relations.specs.Sound.{IsByteFree, IsKeptBut, Reads}
use Rattle.gb_ram_bounds.specs.declared.addresses.AddressSet.{AddressSet}
use Rattle.gb_ram_bounds.specs.Addresses.{is_in}
use Rattle.gb_ram_bounds.specs.Meaning.{HasCellsOf}
use Rattle.gb_summaries.specs.declared.instruction.InstructionStore.{InstructionStore}
use Rattle.gb_summaries.specs.declared.instruction.InstructionStore.TheVariants.{Nothing, Byte, Word}
use Rattle.gb_summaries.specs.Elsewhere.{AreFreeFacts, IsFree, IsLeft}
use Rattle.gb_summaries.specs.Meaning.{HoldSummary, IsAside}
use Rattle.gb_summaries.specs.Stores.{ShareWindows, stored_in_ram, switched}
use Rattle.gb_summaries.specs.Transfer.{after_registers}

-- a byte was stored among addresses of one area: into the controller, in RAM, or elsewhere; the cells are those after it
unfoldable pub byte_stored : Program → Region → List Cell → Op → OneByte → AddressSet → StridedInterval → SummaryParts → SummaryParts
byte_stored program region cells o b x v s =
    if nat_lt x.first 0x8000 then switched program.kind x.first (stored_of o) b s
    else if is_ram x.first
    then stored_in_ram region program.facts cells (record { addresses = x; through = pointer_of o; from = stored_of o; value = v }) s
    else s

-- an address alone
abbrev pub one : ℕ → AddressSet
one a = record { first = a; last = a; low = no_low_bits }

-- of a word first its low byte is; both are no register's
abbrev pub after_write : Program → Region → List Cell → Op → OneByte → InstructionStore → SummaryParts → SummaryParts
after_write program region cells o b Nothing s = s
after_write program region cells o b (Byte x v) s = byte_stored program region cells o b x v s
after_write program region cells o b (Word a low high) s =
    byte_stored program region cells o no_byte (one ((a + 1) % 65536)) high (byte_stored program region cells o no_byte (one a) low s)

-- what is said behind a taken instruction: first it stores, then its work on registers; values and places are those before it
unfoldable pub summary_after : Program → Region → List Cell → Op → Bounds → Values → OneByte → InstructionStore → SummaryParts → SummaryParts
summary_after program region cells o sp v b w s = after_registers region o sp v (after_write program region cells o b w s)

-- ---- what that promises

-- the controller's registers after a byte was stored at an address
abbrev pub banks_after : Kind → ℕ → ℕ → Banks → Banks
banks_after k a n banks = if nat_lt a 0x8000 then kind_after k banks a n else banks

-- memory and the controller's registers after a byte was stored at an address, in the area of the first one
pub record StoresByte (k : Kind) (x : AddressSet) (v : StridedInterval) (a n : ℕ) (memory after : ℕ → ℕ) (banks r : Banks) : Type 0 where
  pub among : is_in x a ≡ true
  pub value : In v n
  pub small : n < 256
  pub in_controller : nat_lt a 0x8000 ≡ nat_lt x.first 0x8000
  pub in_ram : is_ram a ≡ is_ram x.first
  pub windows : ShareWindows k x.first a
  pub stored : is_ram a ≡ true → after a ≡ n
  pub others : IsKeptBut a memory after
  pub switches : r ≡ banks_after k a n banks

-- the same after a word was stored, first its low byte
pub record StoresWord (k : Kind) (a : ℕ) (low high : StridedInterval) (c n : ℕ) (memory after : ℕ → ℕ) (banks r : Banks) : Type 0 where
  pub middle : ℕ → ℕ
  pub between : Banks
  pub first : StoresByte k (one a) low c (n % 256) memory middle banks between
  pub second : StoresByte k (one ((a + 1) % 65536)) high ((c + 1) % 65536) (n / 256) middle after between r

-- the same after a write of the machine; a push stays in the stack region
abbrev pub Stores : Kind → Region → InstructionStore → Write → (ℕ → ℕ) → (ℕ → ℕ) → Banks → Banks → Type 0
Stores k region Nothing write.Nothing memory after banks r = ((a : ℕ) → after a ≡ memory a) × (r ≡ banks)
Stores k region Nothing (write.Push sp w) memory after banks r = IsLeft region memory after × (r ≡ banks)
Stores k region (Byte x v) (write.Byte a n) memory after banks r = StoresByte k x v a n memory after banks r
Stores k region (Word a low high) (write.Word c n) memory after banks r = StoresWord k a low high c n memory after banks r
Stores k region stored w memory after banks r = ⊥

-- the machine as an instruction, taken or not, begins its work: its reads gave l and h
pub record Begins (program : Program) (region : Region) (o : Op) (sp : Bounds) (v : Values) (b : OneByte) (s : SummaryParts) (p : Processor) (memory : ℕ → ℕ) (l h : ℕ) : Type 0 where
  pub was : Beside
  pub values : Holds v was p.registers
  pub bytes : AreBytes p.registers
  pub sp_first : sp.first ≤ p.sp
  pub sp_last : p.sp ≤ sp.last
  pub sp_small : p.sp < 65536
  pub byte : HoldOneByte b p.registers memory p.flags
  pub byte_free : IsByteFree region b.address
  pub facts : AreFreeFacts region program.facts
  pub free : IsFree region s
  pub reads : Reads (Effects.read_of o p) memory l

-- the summary holds behind each effect of the instruction, where SP still stands where it says
pub record IsSoundInstruction (program : Program) (region : Region) (cells : List Cell) (o : Op) (sp : Bounds) (v : Values) (b : OneByte) (w : InstructionStore) (s after : SummaryParts) : Type 0 where
  pub gives :
      (before : List Cell) (p : Processor) (memory stored : ℕ → ℕ) (banks r : Banks) (l h : ℕ)
      → HasCellsOf before cells → Begins program region o sp v b s p memory l h
      → Stores program.kind region w (Effects.effect_of o p l h).write memory stored banks r
      → IsAside s.aside (Effects.effect_of o p l h).processor
      → HoldSummary program before s p memory banks → HoldSummary program cells after (Effects.effect_of o p l h).processor stored r
  pub free : IsByteFree region b.address → IsFree region s → IsFree region after
