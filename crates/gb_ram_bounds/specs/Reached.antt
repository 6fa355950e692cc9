-- The part of a fill's stretch that its pointer may reach: the addresses that have to be asked (own).
use Rattle.std.specs.Prelude.{ℕ, ◌+◌, ◌-◌, Bool, nat_le, if◌then◌else◌, List, Option, Some, None}
use Rattle.gb_domain.specs.declared.pairs.Bounds.{Bounds}
use Rattle.gb_domain.specs.declared.types.Cell.{Cell}
use Rattle.gb_domain.specs.declared.summary.Fact.{Fact}
use Rattle.gb_domain.specs.declared.summary.Reach.{Reach}
use Rattle.gb_domain.specs.declared.summary.Reach.TheVariants.{Below, Above}
use Rattle.gb_domain.specs.declared.summary.FillEnd.{FillEnd}
use Rattle.gb_domain.specs.declared.summary.Fill.{Fill}
use Rattle.gb_ram_bounds.specs.declared.pointers.Pointers.{Pointers}
use Rattle.gb_ram_bounds.specs.Addresses.{each_between}
use Rattle.gb_ram_bounds.specs.Fills.{at_pointer, no_distance, farthest}
use Rattle.gb_ram_bounds.specs.Covering.{is_filled_at}

abbrev pub whole_stretch : Fill → Bounds
whole_stretch f = record { first = f.first; last = f.last }

-- what of the stretch is on this side of an edge; none where nothing is
unfoldable pub stretch_at : Reach → ℕ → Fill → Option Bounds
stretch_at Below edge f =
    if nat_le edge (f.first + no_distance) then None
    else if nat_le edge (f.last + no_distance) then Some (record { first = f.first; last = edge - 1 - no_distance })
    else Some (whole_stretch f)
stretch_at Above edge f =
    if nat_le (f.last + no_distance) edge then None
    else if nat_le (f.first + no_distance) edge then Some (record { first = edge + 1 - no_distance; last = f.last })
    else Some (whole_stretch f)

abbrev pub stretch_by : Option FillEnd → Pointers Bounds → Fill → Option Bounds
stretch_by None p f = Some (whole_stretch f)
stretch_by (Some e) p f = stretch_at e.reach (farthest e.reach (at_pointer e.pointer p) + e.offset) f

-- with some value that the pointer may have
unfoldable pub reached_stretch : Pointers Bounds → Fill → Option Bounds
reached_stretch p f = stretch_by f.end p f

-- the fill is as it is said at each address of a stretch
unfoldable pub are_filled : List Fact → List Cell → List Fill → Pointers Bounds → List Cell → Fill → Bounds → Bool
are_filled facts cells fills p kept f b = each_between b.first b.last (is_filled_at facts cells fills p kept f)
