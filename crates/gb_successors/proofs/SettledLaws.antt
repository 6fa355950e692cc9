-- What is said of the whole program holds as an instruction begins its work: IME may become another one, unless it is off.
use Rattle.std.proofs.Common.{◌≡◌, ℕ, ◌≤◌, List, Option, Some, None, refl, sym, ap, subst}
use Rattle.gb_ops.specs.declared.machine.Banks.{Banks}
use Rattle.gb_ops.specs.declared.op.Row.{Row}
use Rattle.gb_ops.specs.declared.registers.Ime.{Ime}
use Rattle.gb_ops.specs.declared.registers.Ime.TheVariants as ime
use Rattle.gb_ops.specs.declared.registers.Processor.{Processor}
use Rattle.gb_ops.specs.Machine.{advanced, ime_after}
use Rattle.gb_ops.specs.Play.{MState}
use Rattle.gb_ops.specs.Pointers.{pointed, byte_or_page, high_register, low_register}
use Rattle.gb_domain.specs.declared.pairs.Bounds.{Bounds}
use Rattle.gb_domain.specs.declared.types.Cell.{Cell}
use Rattle.gb_domain.specs.Summaries.{SummaryParts, Program}
use Rattle.gb_product.specs.Below.gb_abs.Storage.{peek}
use Rattle.gb_product.specs.Below.gb_summaries.Meaning.{HoldSummary, IsAside}
use Rattle.gb_product.proofs.SummaryLaws.{HoldSummary-same}

-- its IME may become another one, unless it is off
aside_settled : (o : Option Bounds) (p q : Processor) → q.sp ≡ p.sp → (p.ime ≡ ime.Off → q.ime ≡ ime.Off) → IsAside o p → IsAside o q
aside_settled None p q sp off h = tt
aside_settled (Some b) p q sp off h =
    record { first = subst (λ n. b.first ≤ n) (sym sp) h.first; last = subst (λ n. n ≤ b.last) (sym sp) h.last; off = off h.off }

pub HoldSummary-settled :
    (program : Program) (cells : List Cell) (s : SummaryParts) (p q : Processor) (memory : ℕ → ℕ) (banks : Banks)
    → q.registers ≡ p.registers → q.sp ≡ p.sp → (p.ime ≡ ime.Off → q.ime ≡ ime.Off)
    → HoldSummary program cells s p memory banks → HoldSummary program cells s q memory banks
unfolding pointed byte_or_page high_register low_register
HoldSummary-settled program cells s p q memory banks registers sp off h =
    let same = HoldSummary-same program cells s p (record q { ime = p.ime }) memory memory banks banks registers sp refl refl (λ a. refl) h in
    record { facts = same.facts; fills = same.fills; first = same.first; second = same.second; aside = aside_settled s.aside p q sp off h.aside }

off_after : (i : Ime) → i ≡ ime.Off → ime_after i ≡ ime.Off
unfolding ime_after
off_after i e = ap ime_after e

pub off_begun : (row : Row) (p : Processor) → p.ime ≡ ime.Off → (advanced p row).ime ≡ ime.Off
unfolding advanced
off_begun row p e = off_after p.ime e

-- as an instruction begins its work
pub HoldSummary-begun :
    (program : Program) (cells : List Cell) (s : SummaryParts) (row : Row) (x : MState)
    → HoldSummary program cells s x.processor (peek x.storage) x.storage.banks → HoldSummary program cells s (advanced x.processor row) (peek x.storage) x.storage.banks
unfolding advanced
HoldSummary-begun program cells s row x h =
    HoldSummary-settled program cells s x.processor _ (peek x.storage) x.storage.banks refl refl (off_after x.processor.ime) h
