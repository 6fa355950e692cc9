-- Items that change hands: what a callee takes over of its caller's, and what is given back, in bytes (own rules: calls, version 3).
use Rattle.std.specs.Prelude.{ℕ, ◌-◌, List, [], ◌∷◌, ◌++◌, length, take, drop}
use Rattle.gb_domain.specs.declared.types.Origin.TheVariants.{ReturnHigh, ReturnLow}
use Rattle.gb_domain.specs.declared.types.Val.{Val}
use Rattle.gb_product.specs.Below.gb_abs.Origins.{own, without_origin}

-- a caller's newest k items
abbrev pub newest : ℕ → List Val → List Val
newest k items = drop (length items - k) items

-- its others, which wait
abbrev pub waiting : ℕ → List Val → List Val
waiting k items = take (length items - k) items

-- items that are no copies, but for the last two, which are the return word's bytes
abbrev pub returning : List Val → List Val
returning [] = []
returning (low ∷ []) = own ReturnLow low ∷ []
returning (high ∷ low ∷ []) = own ReturnHigh high ∷ own ReturnLow low ∷ []
returning (v ∷ w ∷ u ∷ rest) = without_origin v ∷ returning (w ∷ u ∷ rest)

-- what a callee with k items begins with
unfoldable pub taken_over : ℕ → List Val → List Val
taken_over k items = returning (newest k items)

-- the address above them, where base is the one above the caller's
abbrev pub base_below : ℕ → List Val → ℕ → ℕ
base_below k items base = base - (length items - k)

-- what a caller goes on with whose callee left with items of its own, which are given back
unfoldable pub given_back_items : ℕ → List Val → List Val → List Val
given_back_items k items given = waiting k items ++ given
