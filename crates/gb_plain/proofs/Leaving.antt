-- The bytes that are left behind some.
use Rattle.std.proofs.Common.{◌≡◌, ℕ, ◌+◌, ◌≤◌, List, [], drop, length, slice_index, ap, ◌∙◌, arith}
use Rattle.std.proofs.lemmas.List.{drop-drop, drop_all, get_or-drop}

pub first_is : (xs : List ℕ) (t : ℕ) → slice_index (drop t xs) 0 ≡ slice_index xs t
first_is xs t = let same : t + 0 ≡ t = omega arith in get_or-drop t xs 0 0 ∙ ap (λ n. slice_index xs n) same

pub rest_is : (xs : List ℕ) (t : ℕ) → drop 1 (drop t xs) ≡ drop (t + 1) xs
rest_is xs t = drop-drop 1 t xs

pub none_is : (xs : List ℕ) (t : ℕ) → length xs ≤ t → drop t xs ≡ []
none_is xs t h = drop_all t xs h
