-- What is said of the whole program lies in RAM outside the stack region, so what is stored elsewhere leaves it (own).
use Rattle.std.specs.Prelude.{◌≡◌, ℕ, true, List}
use Rattle.std.specs.List.{AllByRecursion}
use Rattle.gb_ops.specs.declared.machine.Banks.{Banks}
use Rattle.gb_ops.specs.declared.machine.Region.{Region}
use Rattle.gb_ops.specs.declared.registers.Processor.{Processor}
use Rattle.gb_domain.specs.declared.summary.Fact.{Fact}
use Rattle.gb_domain.specs.declared.summary.Fill.{Fill}
use Rattle.gb_domain.specs.declared.types.Cell.{Cell}
use Rattle.gb_domain.specs.Summaries.{SummaryParts, Program}
use Rattle.gb_relations.specs.Places.{is_free}
use Rattle.gb_relations.specs.Sound.{IsByteFree}
use Rattle.gb_ram_bounds.specs.Facts.{has_address}
use Rattle.gb_ram_bounds.specs.Fills.{is_between}
use Rattle.gb_summaries.specs.Meaning.{HoldSummary}

-- a fact is about RAM outside the stack region alone, and so is a fill
pub record IsFreeFact (region : Region) (f : Fact) : Type 0 where
  pub gives : (a : ℕ) → has_address f a ≡ true → is_free region a ≡ true

pub record IsFreeFill (region : Region) (f : Fill) : Type 0 where
  pub gives : (a : ℕ) → is_between f a ≡ true → is_free region a ≡ true

abbrev pub AreFreeFacts : Region → List Fact → Type 0
AreFreeFacts region facts = AllByRecursion (IsFreeFact region) facts

-- so are fills and shadows
pub record IsFree (region : Region) (s : SummaryParts) : Type 0 where
  pub fills : AllByRecursion (IsFreeFill region) s.fills
  pub first : IsByteFree region s.shadows.first.address
  pub second : IsByteFree region s.shadows.second.address

-- RAM outside the stack region is what it was
abbrev pub IsLeft : Region → (ℕ → ℕ) → (ℕ → ℕ) → Type 0
IsLeft region memory after = (a : ℕ) → is_free region a ≡ true → after a ≡ memory a

-- ---- what that promises

-- then a summary holds as before
abbrev pub StaysElsewhere : Type 0
StaysElsewhere =
    (program : Program) (region : Region) (cells : List Cell) (s : SummaryParts) (p : Processor) (memory after : ℕ → ℕ) (banks : Banks)
    → AreFreeFacts region program.facts → IsFree region s → IsLeft region memory after
    → HoldSummary program cells s p memory banks → HoldSummary program cells s p after banks

-- what is said after an operation lies there too
pub record StaysFree (region : Region) (s after : SummaryParts) : Type 0 where
  pub gives : IsFree region s → IsFree region after
