-- Fills: what one state says of a stretch of RAM, where no cell says it (own).
use Rattle.std.specs.Prelude.{ℕ, ◌+◌, ◌-◌, Bool, true, false, not, ◌&&◌, ◌==◌, nat_le, nat_lt, min, max, if◌then◌else◌, List, [], ◌∷◌, Option, Some, None}
use Rattle.gb_domain.specs.declared.pairs.Bounds.{Bounds}
use Rattle.gb_domain.specs.declared.interval.StridedInterval.{StridedInterval}
use Rattle.gb_domain.specs.Interval.{bounds}
use Rattle.gb_domain.specs.declared.types.Cell.{Cell}
use Rattle.gb_ram_bounds.specs.declared.addresses.AddressSet.{AddressSet}
use Rattle.gb_ops.specs.declared.op.Pointer.{Pointer}
use Rattle.gb_ops.specs.declared.op.Pointer.TheVariants as pointer
use Rattle.gb_ram_bounds.specs.declared.pointers.Pointers.{Pointers}
use Rattle.gb_domain.specs.declared.summary.Reach.{Reach}
use Rattle.gb_domain.specs.declared.summary.Reach.TheVariants.{Below, Above}
use Rattle.gb_domain.specs.declared.summary.FillEnd.{FillEnd}
use Rattle.gb_domain.specs.declared.summary.Fill.{Fill}
use Rattle.gb_ram_bounds.specs.Addresses.{is_in, some_between}
use Rattle.gb_ram_bounds.specs.Facts.{cut_or_same, is_to_cell}

abbrev pub at_pointer : {X : Type 0} → Pointer → Pointers X → X
at_pointer pointer.Bc s = s.bc
at_pointer pointer.De s = s.de
at_pointer pointer.Hl s = s.hl
at_pointer pointer.HighC s = s.high_c

abbrev pub pointer_number : Pointer → ℕ
pointer_number pointer.Bc = 0
pointer_number pointer.De = 1
pointer_number pointer.Hl = 2
pointer_number pointer.HighC = 3

abbrev pub is_same_pointer : Pointer → Pointer → Bool
is_same_pointer p q = pointer_number p == pointer_number q

-- a distance of 0, in offset binary
abbrev pub no_distance : ℕ
no_distance = 32768

-- the address lies on this side of a pointer plus a distance
abbrev pub is_on : Reach → ℕ → ℕ → ℕ → Bool
is_on Below p offset a = nat_lt (a + no_distance) (p + offset)
is_on Above p offset a = nat_lt (p + offset) (a + no_distance)

-- with a pointer of this value the fill is about the address
unfoldable pub is_reached : FillEnd → ℕ → ℕ → Bool
is_reached e p a = is_on e.reach p e.offset a

-- the bound with which the fewest addresses are reached, and the one with which the most are
abbrev pub nearest : Reach → Bounds → ℕ
nearest Below b = b.first
nearest Above b = b.last

abbrev pub farthest : Reach → Bounds → ℕ
farthest Below b = b.last
farthest Above b = b.first

-- whatever value the pointer has, the fill is about the address
unfoldable pub is_surely_reached : FillEnd → Pointers Bounds → ℕ → Bool
is_surely_reached e p a = is_reached e (nearest e.reach (at_pointer e.pointer p)) a

-- with some value that the pointer may have it is
unfoldable pub may_be_reached : FillEnd → Pointers Bounds → ℕ → Bool
may_be_reached e p a = is_reached e (farthest e.reach (at_pointer e.pointer p)) a

abbrev pub surely_reaches : Option FillEnd → Pointers Bounds → ℕ → Bool
surely_reaches None p a = true
surely_reaches (Some e) p a = is_surely_reached e p a

abbrev pub may_reach : Option FillEnd → Pointers Bounds → ℕ → Bool
may_reach None p a = true
may_reach (Some e) p a = may_be_reached e p a

abbrev pub reaches : Option FillEnd → Pointers ℕ → ℕ → Bool
reaches None x a = true
reaches (Some e) x a = is_reached e (at_pointer e.pointer x) a

-- from first to last
abbrev pub is_between : Fill → ℕ → Bool
is_between f a = nat_le f.first a && nat_le a f.last

abbrev pub bytes_of : Fill → StridedInterval
bytes_of f = bounds f.lo f.hi

-- ---- the byte at an address

-- the fill's extent has the address
unfoldable pub is_in_extent : Pointers Bounds → Fill → ℕ → Bool
is_in_extent p f a = is_between f a && surely_reaches f.end p a

unfoldable pub cut_by_fill : Pointers Bounds → Fill → ℕ → StridedInterval → StridedInterval
cut_by_fill p f a v = if is_in_extent p f a then cut_or_same v (bytes_of f) else v

-- cut in turn to each fill whose extent has the address
abbrev pub cut_by_fills : Pointers Bounds → List Fill → ℕ → StridedInterval → StridedInterval
cut_by_fills p [] a v = v
cut_by_fills p (f ∷ fills) a v = cut_by_fills p fills a (cut_by_fill p f a v)

-- ---- a store

-- the least bounds that hold the fill's and the value's
abbrev pub grown : StridedInterval → Fill → Fill
grown v f = record f { lo = min f.lo v.lo; hi = max f.hi v.hi }

-- one address more
abbrev pub one_more : Reach → ℕ
one_more Below = 32769
one_more Above = 32767

-- the store goes through the pointer at which the fill ends
abbrev pub ends_at : Option Pointer → FillEnd → Bool
ends_at None e = false
ends_at (Some q) e = is_same_pointer q e.pointer && e.offset == no_distance

-- an address of the store lies from first to last
unfoldable pub is_touched : AddressSet → Fill → Bool
is_touched s f = some_between (max f.first s.first) (min f.last s.last) (is_in s)

-- the store leaves the stretch as it is, or grows the fill
unfoldable pub grown_if_touched : List Cell → AddressSet → StridedInterval → Fill → Fill
grown_if_touched cells s v f = if not (is_to_cell cells s) && is_touched s f then grown v f else f

abbrev pub extended_if : Bool → FillEnd → StridedInterval → Fill → Fill → Fill
extended_if true e v f other = record (grown v f) { end = Some (record e { offset = one_more e.reach }) }
extended_if false e v f other = other

abbrev pub filled_by : Option FillEnd → Option Pointer → StridedInterval → Fill → Fill → Fill
filled_by None through v f other = other
filled_by (Some e) through v f other = extended_if (ends_at through e) e v f other

-- the fill after a store; the cells are those after it
unfoldable pub filled : List Cell → AddressSet → Option Pointer → StridedInterval → Fill → Fill
filled cells s through v f = filled_by f.end through v f (grown_if_touched cells s v f)

-- ---- a pointer that is written

-- the address of the stretch that is reached if one is
abbrev pub near_end : Reach → Fill → ℕ
near_end Below f = f.first
near_end Above f = f.last

-- the extent alone, with an end that stays
abbrev pub cut_to_extent : Reach → ℕ → Fill → Fill
cut_to_extent Below edge f = record f { last = min f.last (edge - 32769); end = None }
cut_to_extent Above edge f = record f { first = max f.first (edge + 1 - 32768); end = None }

unfoldable pub fixed_at : FillEnd → Pointers Bounds → Fill → Option Fill
fixed_at e p f =
    if is_surely_reached e p (near_end e.reach f)
    then Some (cut_to_extent e.reach (nearest e.reach (at_pointer e.pointer p) + e.offset) f)
    else None

-- q gets another value
abbrev pub after_write : Option FillEnd → Pointer → Pointers Bounds → Fill → Option Fill
after_write None q p f = Some f
after_write (Some e) q p f = if is_same_pointer q e.pointer then fixed_at e p f else Some f

unfoldable pub written : Pointer → Pointers Bounds → Fill → Option Fill
written q p f = after_write f.end q p f

abbrev pub with_offset : FillEnd → ℕ → Fill → Fill
with_offset e offset f = record f { end = Some (record e { offset = offset }) }

-- q gets n more, or n less: so much less, or more, is the distance
abbrev pub after_rise : Option FillEnd → Pointer → ℕ → Pointers Bounds → Fill → Option Fill
after_rise None q n p f = Some f
after_rise (Some e) q n p f =
    if is_same_pointer q e.pointer
    then (if nat_le n e.offset then Some (with_offset e (e.offset - n) f) else fixed_at e p f)
    else Some f

abbrev pub after_fall : Option FillEnd → Pointer → ℕ → Pointers Bounds → Fill → Option Fill
after_fall None q n p f = Some f
after_fall (Some e) q n p f =
    if is_same_pointer q e.pointer
    then (if nat_lt (e.offset + n) 65536 then Some (with_offset e (e.offset + n) f) else fixed_at e p f)
    else Some f

unfoldable pub raised : Pointer → ℕ → Pointers Bounds → Fill → Option Fill
raised q n p f = after_rise f.end q n p f

unfoldable pub lowered : Pointer → ℕ → Pointers Bounds → Fill → Option Fill
lowered q n p f = after_fall f.end q n p f
