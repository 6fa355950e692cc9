-- Which machines what a state says of the whole program is true of (abstract interpretation: concretization; own).
use Rattle.std.specs.Prelude.{◌≡◌, ℕ, ◌≤◌, List, take, Option, Some, None}
use Rattle.gb_ops.specs.declared.machine.Banks.{Banks}
use Rattle.gb_ops.specs.declared.op.Pointer.TheVariants.{Bc, De, Hl, HighC}
use Rattle.gb_ops.specs.declared.registers.Ime.TheVariants.{Off}
use Rattle.gb_ops.specs.declared.registers.Processor.{Processor}
use Rattle.gb_ops.specs.Pointers.{pointed}
use Rattle.gb_domain.specs.declared.pairs.Bounds.{Bounds}
use Rattle.gb_domain.specs.declared.types.Cell.{Cell}
use Rattle.gb_domain.specs.Summaries.{SummaryParts, Program, no_summary}
use Rattle.gb_relations.specs.Below.gb_copies.declared.windows.BankWindow.TheVariants.{First, Second}
use Rattle.gb_relations.specs.Below.gb_copies.ShadowMeaning.{AreShadows}
use Rattle.gb_ram_bounds.specs.declared.pointers.Pointers.{Pointers}
use Rattle.gb_ram_bounds.specs.Meaning.{HoldFacts, HoldFills}

-- the addresses that the pointers hold
abbrev pub pointers_of : Processor → Pointers ℕ
pointers_of p = record { bc = pointed p Bc; de = pointed p De; hl = pointed p Hl; high_c = pointed p HighC }

-- SP is within these bounds, and nothing pushes
pub record StandsAside (b : Bounds) (p : Processor) : Type 0 where
  pub first : b.first ≤ p.sp
  pub last : p.sp ≤ b.last
  pub off : p.ime ≡ Off

-- of a stack that isn't put aside nothing is said here
abbrev pub IsAside : Option Bounds → Processor → Type 0
IsAside None p = Unit {0}
IsAside (Some b) p = StandsAside b p

-- a summary holds, with these cells; memory is by address
pub record HoldSummary (program : Program) (cells : List Cell) (s : SummaryParts) (p : Processor) (memory : ℕ → ℕ) (banks : Banks) : Type 0 where
  pub facts : HoldFacts (take s.level program.facts) cells memory
  pub fills : HoldFills s.fills cells memory (pointers_of p)
  pub first : AreShadows program.kind First s.shadows.first p.registers memory banks
  pub second : AreShadows program.kind Second s.shadows.second p.registers memory banks
  pub aside : IsAside s.aside p

-- ---- what that promises

-- of what says nothing nothing has to hold
abbrev pub NothingHolds : Type 0
NothingHolds =
    (program : Program) (cells : List Cell) (p : Processor) (memory : ℕ → ℕ) (banks : Banks)
    → HoldSummary program cells no_summary p memory banks
