-- The memory cells of an abstract state, in order of address: entering one, and dropping those of an area (own).
use Rattle.std.specs.Prelude.{◌≡◌, ℕ, Bool, true, false, not, ◌||◌, ◌==◌, nat_lt, if◌then◌else◌, List, ◌∷◌, ◌++◌, length, map, Option, None}
use Rattle.std.specs.List.{AllByRecursion, filter, list_any}
use Rattle.gb_ops.specs.declared.machine.Region.{Region}
use Rattle.gb_ops.specs.Cartridge.{is_within}
use Rattle.gb_domain.specs.declared.interval.StridedInterval.{StridedInterval}
use Rattle.gb_domain.specs.declared.types.Cell.{Cell}
use Rattle.gb_domain.specs.declared.types.Origin.{Origin}
use Rattle.gb_domain.specs.declared.types.Val.{Val}
use Rattle.gb_domain.specs.Areas.{is_area, meets}
use Rattle.gb_domain.specs.Interval.{join}
use Rattle.gb_domain.specs.Rules.{IsVal, IsChain, IsCell, after_cell}
use Rattle.gb_domain.specs.Values.{interval_of}
use Rattle.gb_abs.specs.declared.span.Span.{Span}
use Rattle.gb_abs.specs.Covering.{covers_origin}
use Rattle.gb_abs.specs.Span.{counts}

abbrev pub is_below : ℕ → Cell → Bool
is_below a c = nat_lt c.address a

abbrev pub is_above : ℕ → Cell → Bool
is_above a c = nat_lt a c.address

abbrev pub is_at : ℕ → Cell → Bool
is_at a c = c.address == a

-- the cells with this one in its place by address, in place of another of its address
unfoldable pub entered : Cell → List Cell → List Cell
entered c cells = filter (is_below c.address) cells ++ c ∷ filter (is_above c.address) cells

-- a cell gets a value; where as many are held already as there is room for, no other one is entered: then nothing is known
-- of its byte
unfoldable pub with_cell : ℕ → Cell → List Cell → List Cell
with_cell room c cells = if list_any (is_at c.address) cells || nat_lt (length cells) room then entered c cells else cells

abbrev pub is_outside : ℕ → ℕ → Cell → Bool
is_outside first last c = not (is_within first last c.address)

-- the cells but for those from first to last
unfoldable pub without_cells : ℕ → ℕ → List Cell → List Cell
without_cells first last cells = filter (is_outside first last) cells

-- what both are copies of
abbrev pub common_origin : Option Origin → Option Origin → Option Origin
common_origin from to = if covers_origin from to then to else None

-- a value with the bounds and low bits of an interval
abbrev pub of_interval : StridedInterval → Option Origin → Val
of_interval i origin = record { lo = i.lo; hi = i.hi; low_bits = i.count; origin = origin }

-- the least interval that holds both, by the rules of version 4 with the low bits that all their values have; a copy of what both
-- are copies of
abbrev pub widened : Bool → Val → Val → Val
widened true v w = of_interval (join (interval_of v) (interval_of w)) (common_origin v.origin w.origin)
widened false v w =
    record {
      lo = if nat_lt w.lo v.lo then w.lo else v.lo;
      hi = if nat_lt v.hi w.hi then w.hi else v.hi;
      low_bits = 0;
      origin = common_origin v.origin w.origin;
    }

abbrev pub widened_at : Bool → Span → Val → Cell → Cell
widened_at whole span v c = if counts span c.address then record { address = c.address; val = widened whole c.val v } else c

-- the cells at addresses of a span that count may hold another value too
unfoldable pub widened_cells : Bool → Span → Val → List Cell → List Cell
widened_cells whole span v cells = map (widened_at whole span v) cells

-- a cell's byte stands in RAM, outside the declared stack region
pub record IsPlaced (region : Region) (c : Cell) : Type 0 where
  pub area : is_area c.address c.address ≡ true
  pub apart : meets region c.address c.address ≡ false

abbrev pub ArePlaced : Region → List Cell → Type 0
ArePlaced region cells = AllByRecursion (IsPlaced region) cells

-- the cells are in order of address, from the least address on
abbrev pub AreInOrder : Region → ℕ → List Cell → Type 0
AreInOrder region least cells = IsChain (IsCell region) after_cell least cells

-- where a cell may stand, cells that were in order are in order with it
pub record IsEntryInOrder (c : Cell) (cells after : List Cell) : Type 0 where
  pub gives : (region : Region) (least : ℕ) → IsCell region least c → AreInOrder region least cells → AreInOrder region least after

-- cells that were in order still are
pub record IsDropInOrder (cells after : List Cell) : Type 0 where
  pub gives : (region : Region) (least : ℕ) → AreInOrder region least cells → AreInOrder region least after

-- where a value is widened by an interval, cells that were in order still are
pub record IsWideningInOrder (v : Val) (cells after : List Cell) : Type 0 where
  pub gives : (region : Region) (least : ℕ) → IsVal v → AreInOrder region least cells → AreInOrder region least after
