-- What a state knows of its pointers, and of the controller's windows (abstract interpretation: the interval domain; MBCs; own).
use Rattle.std.specs.Prelude.{◌≡◌, ℕ, ◌+◌, ◌/◌, ◌%◌, ◌≤◌, ◌<◌, List}
use Rattle.gb_ops.specs.declared.machine.Banks.{Banks}
use Rattle.gb_ops.specs.declared.machine.Kind.{Kind}
use Rattle.gb_ops.specs.declared.machine.Kind.TheVariants as kind
use Rattle.gb_ops.specs.declared.registers.Processor.{Processor}
use Rattle.gb_domain.specs.declared.pairs.Bounds.{Bounds}
use Rattle.gb_domain.specs.declared.pairs.WordPair.TheVariants.{Bc, De, Hl}
use Rattle.gb_domain.specs.declared.types.Cell.{Cell}
use Rattle.gb_domain.specs.declared.types.Ctl.{Ctl}
use Rattle.gb_domain.specs.Summaries.{SummaryParts, Program}
use Rattle.gb_relations.specs.Below.gb_pairs.declared.values.Values.{Values}
use Rattle.gb_relations.specs.Below.gb_pairs.Bounds.{bounds_of}
use Rattle.gb_relations.specs.Below.gb_pairs.Meaning.{Beside, Holds}
use Rattle.gb_relations.specs.Below.gb_copies.declared.windows.BankWindow.{BankWindow}
use Rattle.gb_relations.specs.Below.gb_copies.declared.windows.BankWindow.TheVariants.{First, Second}
use Rattle.gb_relations.specs.Below.gb_copies.Windows.{register_of}
use Rattle.gb_ram_bounds.specs.declared.pointers.Pointers.{Pointers}
use Rattle.gb_ram_bounds.specs.Meaning.{HoldCells}
use Rattle.gb_summaries.specs.Meaning.{HoldSummary}

-- the bounds of pairs, and of FF00+C
unfoldable pub pointer_bounds : Values → Pointers Bounds
pointer_bounds v =
    record {
      bc = bounds_of Bc v;
      de = bounds_of De v;
      hl = bounds_of Hl v;
      high_c = record { first = 0xFF00 + v.registers.c.lo; last = 0xFF00 + v.registers.c.hi };
    }

-- the bounds of a window's register: MBC5 has its bank's low eight bits in one, and bit 8 in the other
unfoldable pub window_bounds : Kind → BankWindow → Ctl → Bounds
window_bounds kind.Mbc5 First c = record { first = c.bank_lo % 256; last = c.bank_hi % 256 }
window_bounds kind.Mbc5 Second c = record { first = c.bank_lo / 256; last = c.bank_hi / 256 }
window_bounds _ First c = record { first = c.bank_lo; last = c.bank_hi }
window_bounds _ Second c = record { first = c.second_lo; last = c.second_hi }

-- ---- what holds of the machine

-- the windows' registers are within bounds
pub record HoldWindows (k : Kind) (c : Ctl) (r : Banks) : Type 0 where
  pub least : (which : BankWindow) → (window_bounds k which c).first ≤ register_of k which r
  pub most : (which : BankWindow) → register_of k which r ≤ (window_bounds k which c).last

-- the controller's registers are within the bounds that a state gives them; the low eight bits of MBC5's bank have their own
pub record AreWithin (k : Kind) (c : Ctl) (r : Banks) : Type 0 where
  pub bank_least : c.bank_lo ≤ r.bank
  pub bank_most : r.bank ≤ c.bank_hi
  pub second_least : c.second_lo ≤ r.second
  pub second_most : r.second ≤ c.second_hi
  pub low_least : k ≡ kind.Mbc5 → c.bank_lo % 256 ≤ r.bank % 256
  pub low_most : k ≡ kind.Mbc5 → r.bank % 256 ≤ c.bank_hi % 256

-- so are the windows' registers then, whatever the controller
abbrev pub WindowsAreWithin : Type 0
WindowsAreWithin = (k : Kind) (c : Ctl) (r : Banks) → AreWithin k c r → HoldWindows k c r

-- registers, the controller's, cells and a summary hold, and memory has bytes
pub record HoldsKnown (program : Program) (v : Values) (c : Ctl) (cells : List Cell) (s : SummaryParts) (p : Processor) (memory : ℕ → ℕ) (banks : Banks) : Type 0 where
  pub was : Beside
  pub values : Holds v was p.registers
  pub windows : HoldWindows program.kind c banks
  pub bytes : (a : ℕ) → memory a < 256
  pub cells_hold : HoldCells cells memory
  pub summary : HoldSummary program cells s p memory banks

-- where a state's holds, t holds with the cells that are kept
pub record IsPartOf (program : Program) (v : Values) (c : Ctl) (cells : List Cell) (s : SummaryParts) (kept : List Cell) (t : SummaryParts) : Type 0 where
  pub gives :
      (p : Processor) (memory : ℕ → ℕ) (banks : Banks)
      → HoldsKnown program v c cells s p memory banks → HoldSummary program kept t p memory banks
