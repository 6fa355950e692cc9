-- A transfer's copy, byte by byte.
use Rattle.std.proofs.Common.{◌≡◌, ℕ, ◌<◌, List, length, get_or, ◌+◌, slice_set, map, sym, ◌∙◌, arith}
use Rattle.std.specs.List.{range_with_len}
use Rattle.std.proofs.lemmas.List.FromFn.{length-map-range_with_len, get_or-map-range_with_len}
use Rattle.std.proofs.lemmas.Grind.{same_number_lists, elements}

-- so many bytes in a row
pub in_a_row : (f : ℕ → ℕ) (bytes : List ℕ) (n : ℕ) → length bytes ≡ n → ((k : ℕ) → k < n → get_or bytes k 0 ≡ f k) → bytes ≡ map f (range_with_len 0 n)
in_a_row f bytes n len each =
    same_number_lists bytes (map f (range_with_len 0 n)) (len ∙ sym (length-map-range_with_len f 0 n))
    (λ k within. let below : k < n = rw len at within in each k below ∙ sym (get_or-map-range_with_len f 0 n k k 0 below (omega arith)))

-- one byte more
pub one_more :
    (f : ℕ → ℕ) (bytes : List ℕ) (i x : ℕ) → i < length bytes → x ≡ f i → ((k : ℕ) → k < i → get_or bytes k 0 ≡ f k)
    → (k : ℕ) → k < i + 1 → get_or (slice_set bytes i x) k 0 ≡ f k
one_more f bytes i x within is each k below = grind (arith, elements)
