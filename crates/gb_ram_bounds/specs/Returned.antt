-- Facts and fills where a routine returns (abstract interpretation: procedure summaries; own).
use Rattle.std.specs.Prelude.{◌≡◌, ℕ, suc, ◌-◌, Bool, true, false, not, ◌&&◌, ◌||◌, nat_le, nat_lt, if◌then◌else◌, List, [], ◌∷◌, take, Option, Some, None}
use Rattle.std.specs.List.{list_any, list_all}
use Rattle.gb_domain.specs.declared.types.Range.{Range}
use Rattle.gb_domain.specs.declared.pairs.Bounds.{Bounds}
use Rattle.gb_domain.specs.declared.types.Cell.{Cell}
use Rattle.gb_domain.specs.declared.summary.Fact.{Fact}
use Rattle.gb_ops.specs.declared.op.Pointer.{Pointer}
use Rattle.gb_ram_bounds.specs.declared.pointers.Pointers.{Pointers}
use Rattle.gb_domain.specs.declared.summary.FillEnd.{FillEnd}
use Rattle.gb_domain.specs.declared.summary.Fill.{Fill}
use Rattle.gb_ram_bounds.specs.Addresses.{each_between}
use Rattle.gb_ram_bounds.specs.Cells.{has_cell}
use Rattle.gb_ram_bounds.specs.Facts.{has_address}
use Rattle.gb_ram_bounds.specs.Fills.{at_pointer, fixed_at}
use Rattle.gb_ram_bounds.specs.Meaning.{HoldFacts, HoldsFill, HoldsSome, PointersIn}

-- ---- where the routine writes

abbrev pub is_in_range : ℕ → Range → Bool
is_in_range a r = nat_le r.first a && nat_le a r.last

-- the address lies in one of the ranges
unfoldable pub is_in_ranges : List Range → ℕ → Bool
is_in_ranges ranges a = list_any (is_in_range a) ranges

-- all of the fill does in one of them
abbrev pub lies_in_range : Fill → Range → Bool
lies_in_range f r = nat_le r.first f.first && nat_le f.last r.last

unfoldable pub lies_in_one : List Range → Fill → Bool
lies_in_one ranges f = list_any (lies_in_range f) ranges

-- none of the fill does in any
abbrev pub misses_range : Fill → Range → Bool
misses_range f r = nat_lt f.last r.first || nat_lt r.last f.first

unfoldable pub misses_all : List Range → Fill → Bool
misses_all ranges f = list_all (misses_range f) ranges

-- ---- facts

-- inside the ranges what the exit says counts; outside what the caller says, or the exit where it has no cell
abbrev pub claims : Bool → Bool → Bool → Bool → Bool
claims true in_exit in_caller exit_has = in_exit
claims false in_exit in_caller exit_has = in_caller || in_exit && not exit_has

-- the fact has another address, or there is a cell, or the exit or the caller says it there
unfoldable pub stays_at : List Range → List Cell → List Cell → Bool → Bool → Fact → ℕ → Bool
stays_at ranges exit cells in_exit in_caller f a =
    not (has_address f a) || has_cell cells a || claims (is_in_ranges ranges a) in_exit in_caller (has_cell exit a)

unfoldable pub stays : List Range → List Cell → List Cell → Bool → Bool → Fact → Bool
stays ranges exit cells in_exit in_caller f =
    (in_exit || in_caller) && each_between f.first f.last (stays_at ranges exit cells in_exit in_caller f)

-- how many facts there are before the first that doesn't stay: n of them hold at the exit, m in the caller
abbrev pub staying : List Range → List Cell → List Cell → List Fact → ℕ → ℕ → ℕ
staying ranges exit cells [] n m = 0
staying ranges exit cells (f ∷ facts) n m =
    if stays ranges exit cells (nat_lt 0 n) (nat_lt 0 m) f then suc (staying ranges exit cells facts (n - 1) (m - 1)) else 0

-- ---- fills

-- the caller's fill as it is, where the routine kept its pointer; else its extent alone
abbrev pub kept_or_fixed : Option FillEnd → Pointers Bool → Pointers Bounds → Fill → Option Fill
kept_or_fixed None kept p f = Some f
kept_or_fixed (Some e) kept p f = if at_pointer e.pointer kept then Some f else fixed_at e p f

-- what is left of a caller's fill
unfoldable pub left_of_caller : List Range → Pointers Bool → Pointers Bounds → Fill → Option Fill
left_of_caller ranges kept p f = if misses_all ranges f then kept_or_fixed f.end kept p f else None

-- ---- what that promises

-- cells and memory where a routine returns: it wrote inside its ranges alone, and no cell of what counts there is lost
pub record IsReturn (ranges : List Range) (exit caller cells : List Cell) (before after : ℕ → ℕ) : Type 0 where
  pub inside : (a : ℕ) → is_in_ranges ranges a ≡ true → has_cell cells a ≡ false → has_cell exit a ≡ false
  pub outside : (a : ℕ) → is_in_ranges ranges a ≡ false → has_cell cells a ≡ false → has_cell caller a ≡ false
  pub memory : (a : ℕ) → is_in_ranges ranges a ≡ false → after a ≡ before a

-- n facts held at the exit, m in the caller: so many hold
pub record IsSoundReturnedLevel (ranges : List Range) (exit cells : List Cell) (facts : List Fact) (n m level : ℕ) : Type 0 where
  pub gives :
      (caller : List Cell) (before after : ℕ → ℕ)
      → IsReturn ranges exit caller cells before after
      → HoldFacts (take n facts) exit after → HoldFacts (take m facts) caller before → HoldFacts (take level facts) cells after

-- a fill of the exit holds
pub record IsSoundExitFill (ranges : List Range) (f : Fill) : Type 0 where
  pub gives :
      (exit caller cells : List Cell) (before after : ℕ → ℕ) (y : Pointers ℕ)
      → IsReturn ranges exit caller cells before after → HoldsFill exit after y f → HoldsFill cells after y f

-- pointers that the routine kept are what they were
pub record KeepsPointers (kept : Pointers Bool) (x y : Pointers ℕ) : Type 0 where
  pub same : (q : Pointer) → at_pointer q kept ≡ true → at_pointer q y ≡ at_pointer q x

-- what is left of a fill of the caller holds
pub record IsSoundCallerFill (ranges : List Range) (kept : Pointers Bool) (p : Pointers Bounds) (f : Fill) (o : Option Fill) : Type 0 where
  pub gives :
      (exit caller cells : List Cell) (before after : ℕ → ℕ) (x y : Pointers ℕ)
      → IsReturn ranges exit caller cells before after → PointersIn p x → KeepsPointers kept x y
      → HoldsFill caller before x f → HoldsSome o cells after y
