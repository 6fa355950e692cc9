-- What a routine that returns leaves of what is said of the whole program (abstract interpretation: procedure summaries; own).
use Rattle.std.specs.Prelude.{◌≡◌, ℕ, Bool, true, false, not, ◌&&◌, ◌||◌, ◌==◌, List, [], ◌++◌, take, Option, Some, None}
use Rattle.std.specs.List.{filter, filter_map, list_any}
use Rattle.gb_ops.specs.declared.machine.Banks.{Banks}
use Rattle.gb_ops.specs.declared.machine.Kind.{Kind}
use Rattle.gb_ops.specs.declared.machine.Kind.TheVariants as kind
use Rattle.gb_ops.specs.declared.machine.Region.{Region}
use Rattle.gb_ops.specs.declared.op.Register.{Register}
use Rattle.gb_ops.specs.declared.registers.Processor.{Processor}
use Rattle.gb_ops.specs.declared.registers.Registers.{Registers}
use Rattle.gb_ops.specs.Registers.{get}
use Rattle.gb_domain.specs.declared.pairs.Bounds.{Bounds}
use Rattle.gb_domain.specs.declared.summary.Fill.{Fill}
use Rattle.gb_domain.specs.declared.summary.Shadows.{Shadows}
use Rattle.gb_domain.specs.declared.types.Cell.{Cell}
use Rattle.gb_domain.specs.declared.types.KeptBanks.{KeptBanks}
use Rattle.gb_domain.specs.declared.types.Range.{Range}
use Rattle.gb_domain.specs.Summaries.{SummaryParts, Program}
use Rattle.gb_relations.specs.Places.{is_free}
use Rattle.gb_relations.specs.Below.gb_pairs.declared.values.Values.{Values}
use Rattle.gb_relations.specs.Below.gb_pairs.Meaning.{Beside, Holds}
use Rattle.gb_relations.specs.Below.gb_copies.declared.bank_returned.Preserved.{Preserved}
use Rattle.gb_relations.specs.Below.gb_copies.declared.windows.BankWindow.{BankWindow}
use Rattle.gb_relations.specs.Below.gb_copies.declared.windows.BankWindow.TheVariants.{First, Second}
use Rattle.gb_relations.specs.Below.gb_copies.BankReturned.{returned}
use Rattle.gb_relations.specs.Below.gb_copies.Windows.{register_of}
use Rattle.gb_ram_bounds.specs.declared.pointers.Pointers.{Pointers}
use Rattle.gb_ram_bounds.specs.Cells.{has_cell}
use Rattle.gb_ram_bounds.specs.Returned.{is_in_ranges, lies_in_one, left_of_caller, staying}
use Rattle.gb_summaries.specs.Elsewhere.{AreFreeFacts, IsFree}
use Rattle.gb_summaries.specs.Known.{pointer_bounds}
use Rattle.gb_summaries.specs.Meaning.{HoldSummary}
use Rattle.gb_summaries.specs.declared.returning.GivenBack.{GivenBack}

-- ---- what the routine gives back as it was

-- a window's register: MBC5 has its bank's low eight bits in one, and bit 8 in the other
unfoldable pub is_window_kept : Kind → BankWindow → KeptBanks → Bool
is_window_kept kind.Mbc5 Second k = k.high_bank
is_window_kept _ Second k = k.second
is_window_kept kind.Rom First k = k.bank && k.high_bank
is_window_kept _ First k = k.bank

-- an address of the caller's: the routine writes elsewhere, or gives the byte back
abbrev pub is_given : List ℕ → ℕ → Bool
is_given addresses a = list_any (λ b. b == a) addresses

abbrev pub is_byte_kept : List Range → List ℕ → Option ℕ → Bool
is_byte_kept ranges addresses None = true
is_byte_kept ranges addresses (Some a) = not (is_in_ranges ranges a) || is_given addresses a

abbrev pub preserved : Kind → BankWindow → List Range → GivenBack → List ℕ → Shadows → Preserved
preserved k which ranges g addresses caller = record {
  window = is_window_kept k which g.banks;
  registers = g.registers;
  address = is_byte_kept ranges addresses caller.address;
}

-- pointers of which all bytes are given back
abbrev pub kept_pointers : Registers Bool → Pointers Bool
kept_pointers r = record { bc = r.b && r.c; de = r.d && r.e; hl = r.h && r.l; high_c = r.c }

-- ---- what holds where it returns

unfoldable pub shadows_returned : Kind → BankWindow → List Range → GivenBack → List ℕ → Shadows → Shadows → Shadows
shadows_returned k which ranges g addresses caller exit = returned (preserved k which ranges g addresses caller) exit caller

-- the exit's fills that lie in its ranges, and what is left of the caller's: the first eight
unfoldable pub fills_returned : List Range → GivenBack → Pointers Bounds → List Fill → List Fill → List Fill
fills_returned ranges g p caller exit =
    take 8 (filter (lies_in_one ranges) exit ++ filter_map (left_of_caller ranges (kept_pointers g.registers) p) caller)

-- where there was no room for all cells no fact holds for sure, and no fill
abbrev pub if_room : {X : Type 0} → Bool → X → X → X
if_room true x none = x
if_room false x none = none

-- of what the caller's state says, with its values and cells, and what the exit says with its cells; the cells are those where the
-- routine returns. A stack that is put aside is no state's that calls, and no exit's.
unfoldable pub summary_returned : Program → List Range → GivenBack → List ℕ → Values → List Cell → SummaryParts → List Cell → SummaryParts → Bool → List Cell → SummaryParts
summary_returned program ranges g addresses v before caller last exit has_room cells = record {
  level = if_room has_room (staying ranges last cells program.facts exit.level caller.level) 0;
  fills = if_room has_room (fills_returned ranges g (pointer_bounds v) caller.fills exit.fills) [];
  shadows = record {
    first = shadows_returned program.kind First ranges g addresses caller.shadows.first exit.shadows.first;
    second = shadows_returned program.kind Second ranges g addresses caller.shadows.second exit.shadows.second;
  };
  aside = None;
}

-- ---- what that promises

-- the routine was called on x and memory, and returns on y and stored: of RAM outside the stack region it wrote in its ranges alone,
-- and gives back what it says
pub record GivesBack (k : Kind) (region : Region) (ranges : List Range) (g : GivenBack) (addresses : List ℕ) (x y : Processor) (memory stored : ℕ → ℕ) (r s : Banks) : Type 0 where
  pub registers : (q : Register) → get q g.registers ≡ true → get q y.registers ≡ get q x.registers
  pub windows : (which : BankWindow) → is_window_kept k which g.banks ≡ true → register_of k which s ≡ register_of k which r
  pub outside : (a : ℕ) → is_free region a ≡ true → is_in_ranges ranges a ≡ false → stored a ≡ memory a
  pub given : (a : ℕ) → is_given addresses a ≡ true → stored a ≡ memory a

-- no cell is lost of those that count: the exit's inside the ranges, the caller's outside
pub record AreCellsBack (ranges : List Range) (exit caller cells : List Cell) : Type 0 where
  pub inside : (a : ℕ) → is_in_ranges ranges a ≡ true → has_cell cells a ≡ false → has_cell exit a ≡ false
  pub outside : (a : ℕ) → is_in_ranges ranges a ≡ false → has_cell cells a ≡ false → has_cell caller a ≡ false

-- what the caller's state said, and what the exit says, gives what is said where it returns
pub record IsSoundReturn (program : Program) (ranges : List Range) (g : GivenBack) (addresses : List ℕ) (v : Values) (before : List Cell) (caller : SummaryParts) (last : List Cell) (exit : SummaryParts) (has_room : Bool) (cells : List Cell) (after : SummaryParts) : Type 0 where
  pub gives :
      (region : Region) (was : Beside) (x y : Processor) (memory stored : ℕ → ℕ) (r s : Banks)
      → AreFreeFacts region program.facts → IsFree region caller → IsFree region exit
      → Holds v was x.registers → GivesBack program.kind region ranges g addresses x y memory stored r s
      → (has_room ≡ true → AreCellsBack ranges last before cells)
      → HoldSummary program before caller x memory r → HoldSummary program last exit y stored s
      → HoldSummary program cells after y stored s
  pub free : (region : Region) → IsFree region caller → IsFree region exit → IsFree region after
