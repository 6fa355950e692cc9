-- A state without items and cells stands for all that hold no items.
use Rattle.std.proofs.Common.{◌≡◌, ℕ, suc, length, ◌==◌, Bool, true, false, ◌&&◌, List, [], ◌∷◌, refl, ◌∙◌, arith}
use Rattle.std.proofs.lemmas.Bool.Decides.{nat_tests}
use Rattle.gb_domain.specs.declared.types.Val.{Val}
use Rattle.gb_domain.specs.declared.types.Cell.{Cell}
use Rattle.gb_abs.specs.Covering.{covers_items, covers_cells}

not_zero : (n : ℕ) → (suc n == 0) ≡ false
not_zero n = grind (arith, nat_tests)

covers-no_items : (xs : List Val) → (length xs == 0) ≡ covers_items xs []
covers-no_items [] = refl
covers-no_items (x ∷ xs) = not_zero (length xs)

both_true : (b : Bool) → b ≡ (b && true)
both_true true = refl
both_true false = refl

-- where the other state has no items and no cells
pub covers-no_lists : (xs items : List Val) (held cells : List Cell) → items ≡ [] → cells ≡ [] → (length xs == 0) ≡ (covers_items xs items && covers_cells held cells)
unfolding covers_cells
covers-no_lists xs items held cells h k = rw (h, k) (covers-no_items xs ∙ both_true (covers_items xs []))
