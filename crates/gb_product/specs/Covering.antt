-- Covering of whole states: part by part, by what is known together, and by what is said of the whole program (abstract
-- interpretation: inclusion; own).
use Rattle.std.specs.Prelude.{ℕ, ◌==◌, Bool, true, false, not, ◌&&◌, ◌||◌, nat_le, if◌then◌else◌, List, length, take, Option, Some, None, is_none}
use Rattle.std.specs.List.{list_all}
use Rattle.gb_ops.specs.declared.registers.Registers.{Registers}
use Rattle.gb_domain.specs.declared.interval.StridedInterval.{StridedInterval}
use Rattle.gb_domain.specs.declared.pairs.WordPair.{WordPair}
use Rattle.gb_domain.specs.declared.pairs.Bounds.{Bounds}
use Rattle.gb_domain.specs.declared.pairs.Link.{Link}
use Rattle.gb_domain.specs.declared.pairs.Other.{Other}
use Rattle.gb_domain.specs.declared.pairs.Other.TheVariants as other
use Rattle.gb_domain.specs.declared.pairs.PairBounds.{PairBounds}
use Rattle.gb_domain.specs.declared.pairs.Pairs.{Pairs}
use Rattle.gb_domain.specs.declared.places.OneByte.{OneByte}
use Rattle.gb_domain.specs.declared.relations.Relations.{Relations}
use Rattle.gb_domain.specs.declared.types.Cell.{Cell}
use Rattle.gb_domain.specs.declared.types.Val.{Val}
use Rattle.gb_domain.specs.Pairs.{any_bounds}
use Rattle.gb_domain.specs.RelationRules.{has_place, are_unknown}
use Rattle.gb_domain.specs.Silent.{is_level_alone}
use Rattle.gb_domain.specs.Summaries.{SummaryParts, Program}
use Rattle.gb_domain.specs.Types.{AbsState}
use Rattle.gb_abs_effects.specs.Below.gb_abs.Covering.{cell_at, covers_val, covers_core, covers_items}
use Rattle.gb_summaries.specs.Below.gb_pairs.declared.values.Values.{Values}
use Rattle.gb_summaries.specs.Below.gb_pairs.Bounds.{bounds_of_val}
use Rattle.gb_summaries.specs.Below.gb_pairs.Covering.{covers_pairs}
use Rattle.gb_summaries.specs.Below.gb_pairs.Written.{is_same_pair}
use Rattle.gb_summaries.specs.Below.gb_copies.Covering.{covers_byte}
use Rattle.gb_summaries.specs.Below.gb_ram_bounds.Cells.{has_cell}
use Rattle.gb_summaries.specs.Below.gb_ram_bounds.Covering.{byte_at}
use Rattle.gb_summaries.specs.Below.gb_relations.Transfer.{values_of}
use Rattle.gb_summaries.specs.Covering.{covers_summary}
use Rattle.gb_summaries.specs.Known.{pointer_bounds}

-- ---- bytes in RAM

-- a value that is no copy
abbrev pub uncopied : StridedInterval → Val
uncopied v = record { lo = v.lo; hi = v.hi; low_bits = v.count; origin = None }

-- the byte at an address: what its cell says; else, no copy, what the facts that hold and the fills leave of any byte
unfoldable pub byte_in : Program → Values → List Cell → SummaryParts → ℕ → Val
byte_in program v cells s a =
    if has_cell cells a
    then cell_at a cells
    else uncopied (byte_at (take s.level program.facts) cells s.fills (pointer_bounds v) a)

-- of bytes nothing is said but by cells
abbrev pub has_cells_alone : SummaryParts → Bool
has_cells_alone s = s.level == 0 && length s.fills == 0

-- each of the kept cells holds the byte at its address
unfoldable pub covers_cells : Program → Values → List Cell → SummaryParts → List Cell → Bool
covers_cells program v cells s kept = list_all (λ c. covers_val (byte_in program v cells s c.address) c.val) kept

-- each cell is kept
abbrev pub are_kept : List Cell → List Cell → Bool
are_kept cells kept = list_all (λ c. has_cell kept c.address) cells

-- t says nothing but that facts hold which hold by s too, by which the stack isn't put aside
abbrev pub says_less : SummaryParts → SummaryParts → Bool
says_less s t = is_none s.aside && (nat_le t.level s.level && is_level_alone t)

-- ---- what links read in memory

-- any word, where it is none of memory
abbrev pub other_read : Program → Values → List Cell → SummaryParts → Other → Bounds
other_read program v cells s (other.Cell a) = bounds_of_val (byte_in program v cells s a)
other_read program v cells s _ = any_bounds

abbrev pub link_read : Program → Values → List Cell → SummaryParts → Option Link → Bounds
link_read program v cells s None = any_bounds
link_read program v cells s (Some l) = other_read program v cells s l.other

-- within which bounds the bytes lie that the links of pairs read
unfoldable pub read_by : Program → Values → List Cell → SummaryParts → Pairs → PairBounds
read_by program v cells s p =
    record {
      bc = link_read program v cells s p.bc.link;
      de = link_read program v cells s p.de.link;
      hl = link_read program v cells s p.hl.link;
    }

abbrev pub is_cell : Other → Bool
is_cell (other.Cell a) = true
is_cell _ = false

-- a link reads memory
abbrev pub reads_cell : Option Link → Bool
reads_cell None = false
reads_cell (Some l) = is_cell l.other

abbrev pub read_cells : Pairs → Bool
read_cells p = reads_cell p.bc.link || reads_cell p.de.link || reads_cell p.hl.link

-- ---- what is known together

-- that Z says whether a pair is 0 is asked for only where t says it
abbrev pub covers_zero : Option WordPair → Option WordPair → Bool
covers_zero s None = true
covers_zero None (Some t) = false
covers_zero (Some s) (Some t) = is_same_pair s t

-- nothing is known together
abbrev pub is_nothing : Relations → Bool
is_nothing t = not (has_place t.byte) && is_none t.byte.test && is_none t.zero && are_unknown t.pairs

-- by the rules of version 4 covering asks which places hold one byte
abbrev pub places_by : Bool → Relations → Option OneByte
places_by false s = None
places_by true s = Some s.byte

-- all that is known together of t is known of s, whose registers and cells these are, and which says m of the whole program
unfoldable pub covers_relations : Program → Registers Val → List Cell → SummaryParts → Relations → Relations → Bool
covers_relations program registers cells m s t =
    let v = values_of registers s.pairs in
    covers_byte s.byte t.byte && covers_zero s.zero t.zero
    && covers_pairs (places_by program.is_whole s) v (read_by program v cells m s.pairs) (read_by program v cells m t.pairs) t.pairs

-- ---- all of it

-- what a state knows of registers and pairs
abbrev pub values_in : AbsState → Values
values_in s = values_of s.core.registers s.relations.pairs

-- within which bounds the bytes lie that the links of a state read
abbrev pub read_in : Program → AbsState → PairBounds
read_in program s = read_by program (values_in s) s.cells s.summary s.relations.pairs

-- in this program t stands for each state that s stands for
unfoldable pub covers : Program → AbsState → AbsState → Bool
covers program s t =
    covers_core program.kind s.core t.core && covers_items s.items t.items
    && covers_cells program (values_in s) s.cells s.summary t.cells
    && covers_relations program s.core.registers s.cells s.summary s.relations t.relations
    && covers_summary program (values_in s) s.core.ctl s.cells s.summary t.cells t.summary
