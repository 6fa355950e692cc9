-- What the values of a callee's exit are to the caller: of copies, its own state says what they are copies of (own rules: calls).
use Rattle.std.specs.Prelude.{ℕ, Bool, true, false, is_some, if◌then◌else◌, List, slice_get, Option, Some, None}
use Rattle.gb_domain.specs.declared.types.Origin.{Origin}
use Rattle.gb_domain.specs.declared.types.Origin.TheVariants as origin
use Rattle.gb_domain.specs.declared.types.Cell.{Cell}
use Rattle.gb_domain.specs.declared.types.Val.{Val}
use Rattle.gb_domain.specs.Interval.{cut}
use Rattle.gb_domain.specs.Summaries.{Program}
use Rattle.gb_domain.specs.Types.{AbsState}
use Rattle.gb_domain.specs.Values.{interval_of}
use Rattle.gb_product.specs.Below.gb_vals.Flags.{flags_val}
use Rattle.gb_product.specs.Below.gb_vals.Strided.{left_of}
use Rattle.gb_product.specs.Below.gb_vals.Vals.{any_val}
use Rattle.gb_product.specs.Below.gb_abs.Origins.{without_origin, is_own}
use Rattle.gb_product.specs.Below.gb_abs.Stack.{youngest}
use Rattle.gb_product.specs.Below.gb_abs_effects.Pairs.{word_or_any}
use Rattle.gb_calls.specs.Parts.{byte_there}

-- ---- what an origin of the callee's names

-- the byte at an address; any where there is none
abbrev pub byte_or_any : Program → AbsState → Option ℕ → Val
byte_or_any program s None = any_val
byte_or_any program s (Some a) = byte_there program s a

-- what the caller's state, in which it called, says of what the origin names in a callee with these kept addresses. Of the address
-- at which the callee puts its stack aside it says nothing.
abbrev pub named : Program → List ℕ → AbsState → Origin → Val
named program kept s origin.A = s.core.registers.a
named program kept s origin.F = flags_val s.core.flags
named program kept s origin.B = s.core.registers.b
named program kept s origin.C = s.core.registers.c
named program kept s origin.D = s.core.registers.d
named program kept s origin.E = s.core.registers.e
named program kept s origin.H = s.core.registers.h
named program kept s origin.L = s.core.registers.l
named program kept s origin.Ie = s.core.ie
named program kept s origin.ReturnHigh = (word_or_any (youngest s)).high
named program kept s origin.ReturnLow = (word_or_any (youngest s)).low
named program kept s (origin.Kept i) = byte_or_any program s (slice_get kept i)
named program kept s origin.MarkHigh = any_val
named program kept s origin.MarkLow = any_val

-- ---- by the rules of version 4

-- v's values that are w's too; where there are none, all of v's
abbrev pub shared : Val → Val → Val
shared v w = left_of v (cut (interval_of v) (interval_of w))

-- there are some
abbrev pub have_some : Val → Val → Bool
have_some v w = is_some (cut (interval_of v) (interval_of w))

abbrev pub told_of : Program → List ℕ → AbsState → Option Origin → Val → Val
told_of program kept s None exit = exit
told_of program kept s (Some o) exit = shared (named program kept s o) exit

-- a copy is what the caller's state says of what it is a copy of, as far as the exit leaves it; another value is the exit's
unfoldable pub told : Program → List ℕ → AbsState → Val → Val
told program kept s exit = told_of program kept s exit.origin exit

abbrev pub is_left_of : Program → List ℕ → AbsState → Option Origin → Val → Bool
is_left_of program kept s None exit = true
is_left_of program kept s (Some o) exit = have_some (named program kept s o) exit

-- something is left of it; else nothing is meant
unfoldable pub is_left : Program → List ℕ → AbsState → Val → Bool
is_left program kept s exit = is_left_of program kept s exit.origin exit

-- ---- by all rules; those of version 4 know the whole program

-- what the callee gives back as it was is the caller's; else its exit says what it is, and that is no copy
abbrev pub given_back : Origin → Val → Val → Val
given_back o caller exit = if is_own o exit then caller else without_origin exit

-- what a register or IE is to the caller, by its own origin: in versions 1 to 3 its own copy alone is the caller's
abbrev pub place_back : Program → Bool → List ℕ → AbsState → Origin → Val → Val
place_back program false kept s o exit = given_back o (named program kept s o) exit
place_back program true kept s o exit = told program kept s exit

-- what an item or the value of a cell is to the caller: in versions 1 to 3 it is no copy
abbrev pub val_back : Program → Bool → List ℕ → AbsState → Val → Val
val_back program false kept s exit = without_origin exit
val_back program true kept s exit = told program kept s exit

abbrev pub cell_back : Program → Bool → List ℕ → AbsState → Cell → Cell
cell_back program whole kept s c = record c { val = val_back program whole kept s c.val }
