-- Fills and facts that hold throughout their stretch: a test that is quicker than one at each address (own).
use Rattle.std.specs.Prelude.{ℕ, Bool, true, false, not, ◌&&◌, ◌||◌, ◌==◌, nat_le, nat_lt, List, Option, Some, None}
use Rattle.std.specs.List.{list_all, list_any}
use Rattle.gb_domain.specs.declared.interval.StridedInterval.{StridedInterval}
use Rattle.gb_domain.specs.declared.types.Cell.{Cell}
use Rattle.gb_domain.specs.LowBits.{are_congruent}
use Rattle.gb_domain.specs.Interval.{lies_in}
use Rattle.gb_domain.specs.Values.{interval_of}
use Rattle.gb_domain.specs.declared.summary.Fact.{Fact}
use Rattle.gb_domain.specs.declared.summary.FillEnd.{FillEnd}
use Rattle.gb_domain.specs.declared.summary.Fill.{Fill}
use Rattle.gb_ram_bounds.specs.Cells.{has_cell}
use Rattle.gb_ram_bounds.specs.Fills.{is_between, bytes_of}
use Rattle.gb_ram_bounds.specs.Covering.{ends_as_far}

-- g's stretch has all of f's
abbrev pub has_stretch : Fill → Fill → Bool
has_stretch g f = nat_le g.first f.first && nat_le f.last g.last

-- at each of f's addresses g says what f does
unfoldable pub says_all : Fill → Fill → Bool
says_all f g = ends_as_far g.end f.end && has_stretch g f && nat_le f.lo g.lo && nat_le g.hi f.hi

-- g has no end, and at each of f's addresses its values lie in f's
abbrev pub is_endless : Option FillEnd → Bool
is_endless None = true
is_endless (Some e) = false

unfoldable pub holds_all : Fill → Fill → Bool
holds_all f g = is_endless g.end && has_stretch g f && nat_le f.lo g.lo && nat_le g.hi f.hi

-- none of f's addresses lies from first to last
abbrev pub misses : Fill → ℕ → ℕ → Bool
misses f first last = nat_lt last f.first || nat_lt f.last first

-- the byte is one of v's values
unfoldable pub has_byte : StridedInterval → ℕ → Bool
has_byte v x = nat_le v.lo x && nat_le x v.hi && are_congruent v.count x v.lo

-- where a fact meets f's stretch it allows f's least byte
unfoldable pub fact_has_least : Fill → Fact → Bool
fact_has_least f h = misses f h.first h.last || has_byte h.value f.lo

-- and so does a fill
unfoldable pub fill_has_least : Fill → Fill → Bool
fill_has_least f g = misses f g.first g.last || nat_le g.lo f.lo && nat_le f.lo g.hi

abbrev pub is_held_by_one : List Fill → Fill → Bool
is_held_by_one fills f = list_any (holds_all f) fills

abbrev pub facts_have_least : List Fact → Fill → Bool
facts_have_least facts f = list_all (fact_has_least f) facts

abbrev pub fills_have_least : List Fill → Fill → Bool
fills_have_least fills f = list_all (fill_has_least f) fills

-- one fill of the state holds all that f does, and no cut on the way leaves nothing
unfoldable pub is_held_throughout : List Fact → List Fill → Fill → Bool
is_held_throughout facts fills f = is_held_by_one fills f && facts_have_least facts f && fills_have_least fills f

-- the cell is at another address, or it is kept, or its value lies in f's
unfoldable pub fits : List Cell → Fill → Cell → Bool
fits kept f c = not (is_between f c.address) || has_cell kept c.address || lies_in (interval_of c.val) (bytes_of f)

abbrev pub is_said_by_one : List Fill → Fill → Bool
is_said_by_one fills f = list_any (says_all f) fills

abbrev pub all_fit : List Cell → List Cell → Fill → Bool
all_fit cells kept f = list_all (fits kept f) cells

-- one fill of the state says or holds all that f does, and each cell fits
unfoldable pub is_filled_throughout : List Fact → List Cell → List Fill → List Cell → Fill → Bool
is_filled_throughout facts cells fills kept f =
    (is_said_by_one fills f || is_held_throughout facts fills f) && all_fit cells kept f

-- ---- facts

-- all bytes within a fact's bounds, throughout its stretch
abbrev pub stretch_of : Fact → Fill
stretch_of f = record { first = f.first; last = f.last; lo = f.value.lo; hi = f.value.hi; end = None }

-- the fact allows all of them, and one fill of the state holds them, and each cell fits
unfoldable pub is_given_throughout : List Fact → List Cell → List Fill → List Cell → Fact → Bool
is_given_throughout facts cells fills kept f =
    f.value.count == 0 && is_held_throughout facts fills (stretch_of f) && all_fit cells kept (stretch_of f)
