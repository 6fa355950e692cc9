-- The bytes that links read in memory lie within the bounds that are known of them.
use Rattle.std.proofs.Common.{◌≡◌, ℕ, Bool, true, false, ◌==◌, cond, List, [], ◌∷◌, take, Option, Some, None, refl, sym, ◌∙◌, ap, subst}
use Rattle.std.proofs.lemmas.Option.{same_Some}
use Rattle.std.proofs.lemmas.Bool.{or_parts}
use Rattle.gb_domain.specs.declared.interval.StridedInterval.{StridedInterval}
use Rattle.gb_domain.specs.declared.pairs.Link.{Link}
use Rattle.gb_domain.specs.declared.pairs.Other.{Other}
use Rattle.gb_domain.specs.declared.pairs.Other.TheVariants as other
use Rattle.gb_domain.specs.declared.pairs.Pairs.{Pairs}
use Rattle.gb_domain.specs.declared.pairs.WordPair.{WordPair}
use Rattle.gb_domain.specs.declared.pairs.WordPair.TheVariants as pair
use Rattle.gb_domain.specs.declared.types.Cell.{Cell}
use Rattle.gb_domain.specs.Meaning.{In as InStrided}
use Rattle.gb_domain.specs.Pairs.{facts_of, bounds_in, any_bounds, any_pairs}
use Rattle.gb_domain.specs.Summaries.{SummaryParts, Program}
use Rattle.gb_domain.specs.Values.{interval_of}
use Rattle.gb_abs_effects.specs.Below.gb_abs.Covering.{cell_at}
use Rattle.gb_summaries.proofs.Below.gb_ram_bounds_laws.CoveringLaws.{byte_at_sound}
use Rattle.gb_summaries.specs.Below.gb_pairs.declared.values.Values.{Values}
use Rattle.gb_summaries.specs.Below.gb_pairs.Meaning.{IsOtherIn, IsReadIn, AreReadIn}
use Rattle.gb_summaries.specs.Below.gb_ram_bounds.declared.pointers.Pointers.{Pointers}
use Rattle.gb_summaries.specs.Below.gb_ram_bounds.Cells.{cell_at as strided_at, is_there, has_cell}
use Rattle.gb_summaries.specs.Below.gb_ram_bounds.Covering.{byte_at}
use Rattle.gb_summaries.specs.Below.gb_ram_bounds.Meaning.{HoldsState}
use Rattle.gb_summaries.specs.Known.{pointer_bounds}
use Rattle.gb_product.specs.Covering.{uncopied, byte_in, other_read, link_read, read_by, is_cell, reads_cell, read_cells}

-- what a cell says, as an interval
cell_is : (a : ℕ) (cells : List Cell) (u : StridedInterval) → strided_at cells a ≡ Some u → interval_of (cell_at a cells) ≡ u
cell_is a [] u e = cc
cell_is a (c ∷ cells) u e = choose (c.address == a) e (cell_is a cells u)
  where
    choose :
        (b : Bool) → cond b (Some (interval_of c.val)) (strided_at cells a) ≡ Some u
        → (strided_at cells a ≡ Some u → interval_of (cell_at a cells) ≡ u) → interval_of (cond b c.val (cell_at a cells)) ≡ u
    choose true f rest = same_Some _ _ f
    choose false f rest = rest f

-- the byte at an address is among those that are known of it, its origin apart
pub In-byte_in :
    (program : Program) (v : Values) (cells : List Cell) (s : SummaryParts) (a : ℕ) (memory : ℕ → ℕ) (x : Pointers ℕ)
    → HoldsState (take s.level program.facts) cells s.fills (pointer_bounds v) memory x
    → InStrided (interval_of (byte_in program v cells s a)) (memory a)
unfolding byte_in has_cell
In-byte_in program v cells s a memory x h = by (strided_at cells a) refl
  where
    by :
        (o : Option StridedInterval) → strided_at cells a ≡ o
        → InStrided
        (interval_of (cond (is_there o) (cell_at a cells) (uncopied (byte_at (take s.level program.facts) cells s.fills (pointer_bounds v) a))))
        (memory a)
    by (Some u) e = subst (λ i. InStrided i (memory a)) (sym (cell_is a cells u e)) (h.cells_hold.gives a u e)
    by None e = (byte_at_sound (take s.level program.facts) cells s.fills (pointer_bounds v) a _ refl).gives memory x h

IsReadIn-link_read :
    (program : Program) (v : Values) (cells : List Cell) (s : SummaryParts) (l : Option Link) (memory : ℕ → ℕ) (x : Pointers ℕ)
    → HoldsState (take s.level program.facts) cells s.fills (pointer_bounds v) memory x → IsReadIn l (link_read program v cells s l) memory
IsReadIn-link_read program v cells s None memory x h = tt
IsReadIn-link_read program v cells s (Some l) memory x h = by l.other
  where
    by : (o : Other) → IsOtherIn o (other_read program v cells s o) memory
    by (other.Register r) = tt
    by (other.Pair p) = tt
    by (other.Cell a) =
        let is = In-byte_in program v cells s a memory x h in
        record { within = record { least = is.least; most = is.most }; small = h.bytes a }
    by other.Nothing = tt

-- where what is known of memory holds
pub AreReadIn-read_by :
    (program : Program) (v : Values) (cells : List Cell) (s : SummaryParts) (p : Pairs) (memory : ℕ → ℕ) (x : Pointers ℕ)
    → HoldsState (take s.level program.facts) cells s.fills (pointer_bounds v) memory x → AreReadIn p (read_by program v cells s p) memory
unfolding read_by
AreReadIn-read_by program v cells s p memory x h = record { each = each }
  where
    each : (q : WordPair) → IsReadIn (facts_of q p).link (bounds_in q (read_by program v cells s p)) memory
    each pair.Bc = IsReadIn-link_read program v cells s p.bc.link memory x h
    each pair.De = IsReadIn-link_read program v cells s p.de.link memory x h
    each pair.Hl = IsReadIn-link_read program v cells s p.hl.link memory x h

-- ---- where no link reads memory

link_unread :
    (program : Program) (v : Values) (cells : List Cell) (s : SummaryParts) (l : Option Link)
    → reads_cell l ≡ false → link_read program v cells s l ≡ any_bounds
link_unread program v cells s None h = refl
link_unread program v cells s (Some l) h = by l.other h
  where
    by : (o : Other) → is_cell o ≡ false → other_read program v cells s o ≡ any_bounds
    by (other.Register r) e = refl
    by (other.Pair p) e = refl
    by (other.Cell a) e = cc
    by other.Nothing e = refl

pub nothing_read :
    (program : Program) (v : Values) (cells : List Cell) (s : SummaryParts) (p : Pairs)
    → read_cells p ≡ false → any_pairs ≡ read_by program v cells s p
unfolding read_by
nothing_read program v cells s p h =
    let hl = or_parts _ _ h in
    let both = or_parts _ _ hl.0 in
    sym
    (ap
    (λ b. record {
      bc = b;
      de = link_read program v cells s p.de.link;
      hl = link_read program v cells s p.hl.link;
    })
    (link_unread program v cells s p.bc.link both.0)
    ∙ ap (λ d. record { bc = any_bounds; de = d; hl = link_read program v cells s p.hl.link }) (link_unread program v cells s p.de.link both.1)
    ∙ ap (λ l. record { bc = any_bounds; de = any_bounds; hl = l }) (link_unread program v cells s p.hl.link hl.1))
