-- Bounds of a window's register, cut to what its shadows leave (abstract interpretation: reduction; own).
use Rattle.std.specs.Prelude.{ℕ, Bool, true, false, ◌&&◌, ◌||◌, if◌then◌else◌, List, [], ◌∷◌, Option, Some, is_some}
use Rattle.gb_ops.specs.declared.machine.Banks.{Banks}
use Rattle.gb_ops.specs.declared.machine.Kind.{Kind}
use Rattle.gb_ops.specs.declared.registers.Processor.{Processor}
use Rattle.gb_domain.specs.declared.interval.StridedInterval.{StridedInterval}
use Rattle.gb_domain.specs.declared.pairs.Bounds.{Bounds}
use Rattle.gb_domain.specs.declared.summary.Shadows.{Shadows}
use Rattle.gb_domain.specs.declared.types.Cell.{Cell}
use Rattle.gb_domain.specs.declared.types.Ctl.{Ctl}
use Rattle.gb_domain.specs.Interval.{any_byte}
use Rattle.gb_domain.specs.RelationRules.{is_some_register}
use Rattle.gb_domain.specs.Summaries.{SummaryParts, Program}
use Rattle.gb_relations.specs.Below.gb_pairs.declared.values.Values.{Values}
use Rattle.gb_relations.specs.Below.gb_pairs.Meaning.{AreBytes}
use Rattle.gb_relations.specs.Below.gb_copies.declared.bank_covering.Known.{Known}
use Rattle.gb_relations.specs.Below.gb_copies.declared.windows.BankWindow.{BankWindow}
use Rattle.gb_relations.specs.Below.gb_copies.declared.windows.BankWindow.TheVariants.{First, Second}
use Rattle.gb_relations.specs.Below.gb_copies.Fitting.{fitting, WithinSome}
use Rattle.gb_relations.specs.Below.gb_copies.Windows.{has_windows, register_of}
use Rattle.gb_summaries.specs.Covering.{known_of}
use Rattle.gb_summaries.specs.Known.{HoldsKnown}

-- of a window
abbrev pub shadows_of : BankWindow → SummaryParts → Shadows
shadows_of First s = s.shadows.first
shadows_of Second s = s.shadows.second

abbrev pub has_shadow : Shadows → Bool
has_shadow t = is_some_register t.registers || is_some t.address

-- of a place its values; of what is none any byte, which leaves whatever some byte does
abbrev pub values_if : Bool → StridedInterval → StridedInterval
values_if true v = v
values_if false v = any_byte

abbrev pub values_of_places : Known → Shadows → List StridedInterval
values_of_places known t =
    values_if t.registers.a known.registers.a
    ∷ values_if t.registers.b known.registers.b
    ∷ values_if t.registers.c known.registers.c
    ∷ values_if t.registers.d known.registers.d
    ∷ values_if t.registers.e known.registers.e
    ∷ values_if t.registers.h known.registers.h
    ∷ values_if t.registers.l known.registers.l
    ∷ values_if (is_some t.address) known.memory
    ∷ []

-- where there are shadows, the least and the greatest number that fits
abbrev pub cut_by_shadows : Kind → BankWindow → Known → Shadows → Option Bounds
cut_by_shadows k which known t =
    if has_windows k && has_shadow t
    then fitting k which (values_of_places known t) known.bounds.first known.bounds.last
    else Some known.bounds

-- the bounds of a window's register; none where no number fits
unfoldable pub reduced_window : Program → BankWindow → Values → Ctl → List Cell → SummaryParts → Option Bounds
reduced_window program which v c cells s =
    cut_by_shadows program.kind which (known_of program which v c cells s (shadows_of which s)) (shadows_of which s)

-- ---- what that promises

-- the window's register is within them
pub record IsSoundReducing (program : Program) (which : BankWindow) (v : Values) (c : Ctl) (cells : List Cell) (s : SummaryParts) (o : Option Bounds) : Type 0 where
  pub gives :
      (p : Processor) (memory : ℕ → ℕ) (banks : Banks)
      → AreBytes p.registers → HoldsKnown program v c cells s p memory banks → WithinSome o (register_of program.kind which banks)
