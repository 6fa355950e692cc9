-- What is said of the whole program where a callee returns holds; where nothing is said on either side, nothing is.
use Rattle.std.proofs.Common.{◌≡◌, ℕ, ◌/◌, ◌%◌, Bool, true, List, refl, sym, ◌∙◌, ap, subst, arith}
use Rattle.std.proofs.lemmas.Bool.{and_parts}
use Rattle.gb_ops.specs.declared.machine.Banks.{Banks}
use Rattle.gb_ops.specs.declared.machine.Kind.{Kind}
use Rattle.gb_ops.specs.declared.machine.Kind.TheVariants as kind
use Rattle.gb_ops.specs.declared.machine.Region.{Region}
use Rattle.gb_ops.specs.Play.{MState}
use Rattle.gb_domain.specs.declared.types.KeptBanks.{KeptBanks}
use Rattle.gb_domain.specs.declared.types.Range.{Range}
use Rattle.gb_domain.specs.declared.rules.Rules.TheVariants.{Extended}
use Rattle.gb_domain.specs.Limits.{cell_room}
use Rattle.gb_domain.specs.Silent.{is_silent}
use Rattle.gb_domain.specs.Summaries.{SummaryParts, Program, no_summary}
use Rattle.gb_domain.specs.Types.{AbsState}
use Rattle.gb_product.specs.Below.gb_abs.Meaning.{Activation, KeepsBanks}
use Rattle.gb_product.specs.Below.gb_abs.Storage.{peek}
use Rattle.gb_product.specs.Below.gb_copies.declared.windows.BankWindow.{BankWindow}
use Rattle.gb_product.specs.Below.gb_copies.declared.windows.BankWindow.TheVariants.{First, Second}
use Rattle.gb_product.specs.Below.gb_copies.Windows.{register_of}
use Rattle.gb_product.specs.Below.gb_pairs.Meaning.{Beside, Holds}
use Rattle.gb_product.specs.Below.gb_relations.Transfer.{values_of}
use Rattle.gb_product.specs.Below.gb_summaries.Elsewhere.{AreFreeFacts, IsFree}
use Rattle.gb_product.specs.Below.gb_summaries.Meaning.{HoldSummary}
use Rattle.gb_product.specs.Below.gb_summaries.Returning.{is_window_kept, summary_returned, GivesBack}
use Rattle.gb_product.proofs.Below.gb_summaries_laws.ReturningLaws.{quiet_returned, summary_returned_sound}
use Rattle.gb_product.specs.Meaning.{IsSummarized}
use Rattle.gb_calls.specs.Resuming.{given_by, given_addresses, has_room, cells_back, summary_back}
use Rattle.gb_calls.specs.Told.{cell_back}
use Rattle.gb_calls.proofs.Below.gb_states_laws.SummaryLaws.{silent-is}
use Rattle.gb_calls.proofs.CellsBackLaws.{cells_are_back}

-- ---- nothing is said

-- of these summaries
returned_of : Program → Bool → List Range → List ℕ → AbsState → AbsState → SummaryParts → SummaryParts → SummaryParts
returned_of program whole ranges kept s x caller exit =
    summary_returned program ranges (given_by x.core) (given_addresses kept x.cells) (values_of s.core.registers s.relations.pairs) s.cells caller x.cells exit
    (has_room ranges s.cells x.cells) (cells_back (cell_room Extended) (cell_back program whole kept s) ranges s.cells x.cells)

pub silent_back :
    (program : Program) (whole : Bool) (ranges : List Range) (kept : List ℕ) (s x : AbsState)
    → is_silent s.summary ≡ true → is_silent x.summary ≡ true → summary_back program whole ranges kept s x ≡ no_summary
unfolding summary_back returned_of
silent_back program whole ranges kept s x h k =
    ap (λ t. returned_of program whole ranges kept s x t x.summary) (silent-is s.summary h)
    ∙ (ap (λ t. returned_of program whole ranges kept s x no_summary t) (silent-is x.summary k)
    ∙ quiet_returned program ranges (given_by x.core) (given_addresses kept x.cells) (values_of s.core.registers s.relations.pairs) s.cells x.cells (has_room ranges s.cells x.cells) (cells_back (cell_room Extended) (cell_back program whole kept s) ranges s.cells x.cells))

-- ---- the windows' registers

same_bank : (a b : ℕ) → a % 256 ≡ b % 256 → a / 256 ≡ b / 256 → a ≡ b
same_bank a b low high = omega arith

pub same_window :
    (k : Kind) (which : BankWindow) (kept : KeptBanks) (before after : Banks)
    → KeepsBanks k kept before after → is_window_kept k which kept ≡ true → register_of k which after ≡ register_of k which before
unfolding is_window_kept register_of
same_window kind.Mbc5 First kept before after m e = m.bank e
same_window kind.Mbc5 Second kept before after m e = m.high_bank e
same_window kind.Rom First kept before after m e = let p = and_parts kept.bank kept.high_bank e in same_bank _ _ (m.bank p.0) (m.high_bank p.1)
same_window kind.Rom Second kept before after m e = m.second e
same_window kind.Mbc1 First kept before after m e = m.bank e
same_window kind.Mbc1 Second kept before after m e = m.second e
same_window kind.Mbc3 First kept before after m e = m.bank e
same_window kind.Mbc3 Second kept before after m e = m.second e

-- ---- what is said

in_program : (program : Program) (s : AbsState) (entry : Activation) (x : MState) → entry.program ≡ program → IsSummarized s entry x
    → HoldSummary program s.cells s.summary x.processor (peek x.storage) x.storage.banks
in_program program s entry x e h = subst (λ p. HoldSummary p s.cells s.summary x.processor (peek x.storage) x.storage.banks) e h

pub HoldSummary-back :
    (program : Program) (whole : Bool) (region : Region) (ranges : List Range) (kept : List ℕ) (s exit : AbsState) (entry called : Activation) (was : Beside) (x : MState)
    → entry.program ≡ program → called.program ≡ program → AreFreeFacts region program.facts → IsFree region s.summary → IsFree region exit.summary
    → Holds (values_of s.core.registers s.relations.pairs) was called.entered.processor.registers
    → GivesBack program.kind region ranges (given_by exit.core) (given_addresses kept exit.cells) called.entered.processor x.processor (peek called.entered.storage) (peek x.storage) called.entered.storage.banks x.storage.banks
    → IsSummarized s entry called.entered → IsSummarized exit called x
    → HoldSummary entry.program (cells_back (cell_room Extended) (cell_back program whole kept s) ranges s.cells exit.cells) (summary_back program whole ranges kept s exit) x.processor (peek x.storage) x.storage.banks
unfolding summary_back
HoldSummary-back program whole region ranges kept s exit entry called was x e f facts free exit_free holds gives caller leaves =
    let cells = cells_back (cell_room Extended) (cell_back program whole kept s) ranges s.cells exit.cells in
    subst (λ p. HoldSummary p cells (summary_back program whole ranges kept s exit) x.processor (peek x.storage) x.storage.banks) (sym e)
    ((summary_returned_sound program ranges (given_by exit.core) (given_addresses kept exit.cells) (values_of s.core.registers s.relations.pairs) s.cells s.summary exit.cells exit.summary
    (has_room ranges s.cells exit.cells) cells _ refl).gives region was called.entered.processor x.processor
    (peek called.entered.storage) (peek x.storage) called.entered.storage.banks x.storage.banks facts free exit_free holds gives
    (cells_are_back (cell_back program whole kept s) (λ c. refl) ranges s.cells exit.cells)
    (in_program program s entry called.entered e caller) (in_program program exit called x f leaves))
