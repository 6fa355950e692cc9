-- The bytes that a procedure pushed, and where they stand (own; CPU instruction set: PUSH and POP).
use Rattle.std.specs.Prelude.{ℕ, ◌+◌, ◌-◌, ◌≤◌, if◌then◌else◌, nat_lt, List, [], ◌∷◌, ◌++◌, length, take, slice_get, Option, Some, None}
use Rattle.gb_ops.specs.declared.machine.Region.{Region}
use Rattle.gb_domain.specs.declared.types.Val.{Val}
use Rattle.gb_domain.specs.declared.types.Halves.{Halves}
use Rattle.gb_domain.specs.Types.{AbsState}

-- a number of bytes below the base lies in the declared region
pub record AreInRegion (region : Region) (base bytes : ℕ) : Type 0 where
  pub first : region.first + bytes ≤ base
  pub last : base ≤ region.last + 1

-- a word is pushed, its high byte first
unfoldable pub pushed : Halves → AbsState → AbsState
pushed w s = record s { items = s.items ++ w.high ∷ w.low ∷ [] }

abbrev pub word_of : Option Val → Option Val → Option Halves
word_of None low = None
word_of (Some high) None = None
word_of (Some high) (Some low) = Some (record { high = high; low = low })

-- the last two bytes, as the word that they are
abbrev pub last_word : List Val → Option Halves
last_word vs = if nat_lt (length vs) 2 then None else word_of (slice_get vs (length vs - 2)) (slice_get vs (length vs - 1))

-- the word that was pushed last, if there is one
unfoldable pub youngest : AbsState → Option Halves
youngest s = last_word s.items

-- the state without the word that was pushed last
unfoldable pub popped : AbsState → AbsState
popped s = record s { items = take (length s.items - 2) s.items }
