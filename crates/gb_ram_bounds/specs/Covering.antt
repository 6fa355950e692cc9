-- What a state knows of a byte, and covering (abstract interpretation: inclusion; own).
use Rattle.std.specs.Prelude.{ℕ, Bool, false, not, ◌&&◌, ◌||◌, nat_le, List, Option, Some, None}
use Rattle.std.specs.List.{list_all, list_any}
use Rattle.gb_domain.specs.declared.pairs.Bounds.{Bounds}
use Rattle.gb_domain.specs.declared.interval.StridedInterval.{StridedInterval}
use Rattle.gb_domain.specs.Interval.{any_byte, lies_in}
use Rattle.gb_domain.specs.declared.types.Cell.{Cell}
use Rattle.gb_domain.specs.declared.summary.Fact.{Fact}
use Rattle.gb_ram_bounds.specs.declared.pointers.Pointers.{Pointers}
use Rattle.gb_domain.specs.declared.summary.Reach.{Reach}
use Rattle.gb_domain.specs.declared.summary.Reach.TheVariants.{Below, Above}
use Rattle.gb_domain.specs.declared.summary.FillEnd.{FillEnd}
use Rattle.gb_domain.specs.declared.summary.Fill.{Fill}
use Rattle.gb_ram_bounds.specs.Cells.{cell_at, has_cell}
use Rattle.gb_ram_bounds.specs.Addresses.{each_between}
use Rattle.gb_ram_bounds.specs.Facts.{has_address, cut_by_facts}
use Rattle.gb_ram_bounds.specs.Fills.{is_same_pointer, is_between, bytes_of, may_reach, cut_by_fills}

abbrev pub cell_or : Option StridedInterval → StridedInterval → StridedInterval
cell_or None v = v
cell_or (Some w) v = w

-- the cell's value; else any byte, cut in turn to the facts that hold, and to the fills
unfoldable pub byte_at : List Fact → List Cell → List Fill → Pointers Bounds → ℕ → StridedInterval
byte_at facts cells fills p a = cell_or (cell_at cells a) (cut_by_fills p fills a (cut_by_facts facts a any_byte))

-- ---- facts that don't hold yet

-- the fact has another address, or there a cell is kept, or the byte's value lies in the fact's
unfoldable pub is_given_at : List Fact → List Cell → List Fill → Pointers Bounds → List Cell → Fact → ℕ → Bool
is_given_at facts cells fills p kept f a =
    not (has_address f a) || has_cell kept a || lies_in (byte_at facts cells fills p a) f.value

unfoldable pub gives_fact : List Fact → List Cell → List Fill → Pointers Bounds → List Cell → Fact → Bool
gives_fact facts cells fills p kept f = each_between f.first f.last (is_given_at facts cells fills p kept f)

-- with the cells that are kept all these facts hold too
unfoldable pub gives_facts : List Fact → List Cell → List Fill → Pointers Bounds → List Cell → List Fact → Bool
gives_facts facts cells fills p kept wanted = list_all (gives_fact facts cells fills p kept) wanted

-- ---- fills

-- an end on this side with one distance reaches what one with the other does
abbrev pub reaches_as_far : Reach → Reach → ℕ → ℕ → Bool
reaches_as_far Below Below m n = nat_le n m
reaches_as_far Above Above m n = nat_le m n
reaches_as_far _ _ m n = false

-- the same pointer, as far at least
abbrev pub ends_as_far : Option FillEnd → Option FillEnd → Bool
ends_as_far (Some e) (Some d) = is_same_pointer e.pointer d.pointer && reaches_as_far e.reach d.reach e.offset d.offset
ends_as_far _ _ = false

-- a fill of the state says of the address what f does
unfoldable pub says_at : Fill → ℕ → Fill → Bool
says_at f a g = ends_as_far g.end f.end && is_between g a && nat_le f.lo g.lo && nat_le g.hi f.hi

abbrev pub is_said_at : Fill → ℕ → List Fill → Bool
is_said_at f a fills = list_any (says_at f a) fills

-- the fill isn't about the address, or a cell is kept there, or a fill of the state says it, or the byte's value lies in the fill's
unfoldable pub is_filled_at : List Fact → List Cell → List Fill → Pointers Bounds → List Cell → Fill → ℕ → Bool
is_filled_at facts cells fills p kept f a =
    not (may_reach f.end p a)
    || has_cell kept a
    || not (has_cell cells a) && is_said_at f a fills
    || lies_in (byte_at facts cells fills p a) (bytes_of f)

-- with the cells that are kept the fill holds
unfoldable pub gives_fill : List Fact → List Cell → List Fill → Pointers Bounds → List Cell → Fill → Bool
gives_fill facts cells fills p kept f = each_between f.first f.last (is_filled_at facts cells fills p kept f)

-- with them all these fills hold
unfoldable pub gives_fills : List Fact → List Cell → List Fill → Pointers Bounds → List Cell → List Fill → Bool
gives_fills facts cells fills p kept wanted = list_all (gives_fill facts cells fills p kept) wanted
