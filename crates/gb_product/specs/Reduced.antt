-- Reducing of whole states: registers and pairs are cut to what they leave of each other, where the rules are of version 3
-- (abstract interpretation: a reduced product; own).
use Rattle.std.specs.Prelude.{◌+◌, ◌*◌, ◌/◌, ◌%◌, Bool, true, false, nat_le, if◌then◌else◌, List, Option, Some, None, option_map, option_and_then}
use Rattle.gb_ops.specs.declared.machine.Kind.{Kind}
use Rattle.gb_ops.specs.declared.machine.Kind.TheVariants as kind
use Rattle.gb_domain.specs.declared.pairs.Bounds.{Bounds}
use Rattle.gb_domain.specs.declared.pairs.PairBounds.{PairBounds}
use Rattle.gb_domain.specs.declared.relations.Relations.{Relations}
use Rattle.gb_domain.specs.declared.rules.Rules.{Rules}
use Rattle.gb_domain.specs.declared.rules.Rules.TheVariants.{Simple, Extended}
use Rattle.gb_domain.specs.declared.types.Cell.{Cell}
use Rattle.gb_domain.specs.declared.types.Core.{Core}
use Rattle.gb_domain.specs.declared.types.Ctl.{Ctl}
use Rattle.gb_domain.specs.Summaries.{Program, SummaryParts}
use Rattle.gb_summaries.specs.Below.gb_pairs.declared.values.Values.{Values}
use Rattle.gb_summaries.specs.Below.gb_pairs.Reduced as Pairs
use Rattle.gb_summaries.specs.Below.gb_relations.Transfer.{values_of}
use Rattle.gb_summaries.specs.Below.gb_copies.declared.windows.BankWindow.{BankWindow}
use Rattle.gb_summaries.specs.Below.gb_copies.declared.windows.BankWindow.TheVariants.{First, Second}
use Rattle.gb_summaries.specs.Known.{window_bounds}
use Rattle.gb_summaries.specs.Reducing.{shadows_of, has_shadow, reduced_window}
use Rattle.gb_product.specs.declared.parts.Product.{Product}
use Rattle.gb_product.specs.Covering.{read_by}

abbrev pub product_of : Core → Relations → Product
product_of core r = record { core = core; relations = r }

-- both, where something is meant
abbrev pub product_if : Bool → Core → Relations → Option Product
product_if false core r = None
product_if true core r = Some (product_of core r)

abbrev pub with_values_if : Core → Relations → Option Values → Option Product
with_values_if core r None = None
with_values_if core r (Some v) = Some (product_of (record core { registers = v.registers }) (record r { pairs = v.pairs }))

-- by the rules of version 3, where the pairs lay in these bounds as the procedure was entered, and links read memory within others
abbrev pub reduced_together : PairBounds → PairBounds → Core → Relations → Option Product
reduced_together entered read core r = with_values_if core r (Pairs.reduced entered read (values_of core.registers r.pairs))

-- the same, cut: none where nothing is meant; versions 1 and 2 leave it as it stands
unfoldable pub reduced : Rules → PairBounds → PairBounds → Core → Relations → Option Product
reduced Simple entered read core r = Some (product_of core r)
reduced Extended entered read core r = reduced_together entered read core r

-- ---- the controller's registers

-- bounds that are in others too
abbrev pub cut_bounds : Bounds → Bounds → Bounds
cut_bounds b d = record {
  first = if nat_le d.first b.first then b.first else d.first;
  last = if nat_le b.last d.last then b.last else d.last;
}

-- these bounds of a window's register; MBC5 has its bank's low eight bits in one, and bit 8 in the other
unfoldable pub with_window : Kind → BankWindow → Bounds → Ctl → Ctl
with_window kind.Mbc5 First b c = record c { bank_lo = 256 * (c.bank_lo / 256) + b.first; bank_hi = 256 * (c.bank_hi / 256) + b.last }
with_window kind.Mbc5 Second b c = record c { bank_lo = 256 * b.first + c.bank_lo % 256; bank_hi = 256 * b.last + c.bank_hi % 256 }
with_window _ First b c = record c { bank_lo = b.first; bank_hi = b.last }
with_window _ Second b c = record c { second_lo = b.first; second_hi = b.last }

-- the bank's bounds stay where they would be out of order, as MBC5's may
abbrev pub ordered_or : Ctl → Ctl → Ctl
ordered_or c d = if nat_le d.bank_lo d.bank_hi then d else c

abbrev pub with_bounds : Kind → BankWindow → Ctl → Bounds → Ctl
with_bounds k which c b = if nat_le b.first b.last then ordered_or c (with_window k which b c) else c

-- bounds of a window's register, cut to what its places leave, if it has some
unfoldable pub cut_window : Program → BankWindow → Values → List Cell → SummaryParts → Ctl → Option Ctl
cut_window program which v cells s c =
    if has_shadow (shadows_of which s)
    then option_map (λ b. with_bounds program.kind which c (cut_bounds (window_bounds program.kind which c) b)) (reduced_window program which v c cells s)
    else Some c

-- so of the first window's register, then of the second's; none where nothing is meant
unfoldable pub reduced_controller : Program → Values → List Cell → SummaryParts → Ctl → Option Ctl
reduced_controller program v cells s c = option_and_then (cut_window program Second v cells s) (cut_window program First v cells s c)

-- ---- all of it

abbrev pub with_banks_cut : Program → List Cell → SummaryParts → Product → Option Product
with_banks_cut program cells s p =
    option_map (λ c. product_of (record p.core { ctl = c }) p.relations)
    (reduced_controller program (values_of p.core.registers p.relations.pairs) cells s p.core.ctl)

-- registers and pairs are cut, and then the controller's registers; none where nothing is meant. Versions 1 and 2 leave all as it stands.
unfoldable pub reduced_wholly : Program → Rules → PairBounds → Core → Relations → List Cell → SummaryParts → Option Product
reduced_wholly program Simple entered core r cells s = Some (product_of core r)
reduced_wholly program Extended entered core r cells s =
    option_and_then (with_banks_cut program cells s)
    (reduced Extended entered (read_by program (values_of core.registers r.pairs) cells s r.pairs) core r)
