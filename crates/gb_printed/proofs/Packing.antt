-- Shades in bytes, four by four.
use Rattle.std.proofs.Common.{◌≡◌, ℕ, zero, suc, ◌*◌, ◌/◌, ◌<◌, List, [], ◌∷◌, length, map, get_or, slice_index, refl, sym, ◌∙◌, ap, arith}
use Rattle.std.specs.Simd.{first_chunks}
use Rattle.std.proofs.lemmas.List.{ext_get_or, length-map}
use Rattle.gb_printed.specs.Screen.{byte_of, packed}

abbrev pub byte_of_four : List ℕ → ℕ
byte_of_four four = byte_of (slice_index four 0) (slice_index four 1) (slice_index four 2) (slice_index four 3)

-- a line's bytes are those of its fours
pub packed_fours : (n : ℕ) (xs : List ℕ) → length xs ≡ 4 * n → packed xs ≡ map byte_of_four (first_chunks 4 n xs)
unfolding packed
packed_fours zero [] h = refl
packed_fours zero (x ∷ xs) h = absurd (omega arith)
packed_fours (suc n) [] h = absurd (omega arith)
packed_fours (suc n) (a ∷ []) h = absurd (omega arith)
packed_fours (suc n) (a ∷ b ∷ []) h = absurd (omega arith)
packed_fours (suc n) (a ∷ b ∷ c ∷ []) h = absurd (omega arith)
packed_fours (suc n) (a ∷ b ∷ c ∷ d ∷ rest) h =
    let left : length rest ≡ 4 * n = omega arith in
    ap (λ t. byte_of a b c d ∷ t) (packed_fours n rest left)

map_at : (f : List ℕ → ℕ) (xss : List (List ℕ)) (k : ℕ) → k < length xss → get_or (map f xss) k 0 ≡ f (get_or xss k [])
map_at f [] k h = absurd (omega arith)
map_at f (xs ∷ xss) zero h = refl
map_at f (xs ∷ xss) (suc k) h = map_at f xss k (omega arith)

pub all_packed : (bytes : List ℕ) (fours : List (List ℕ)) → length bytes ≡ length fours
    → ((k : ℕ) → k < length fours → get_or bytes k 0 ≡ byte_of_four (get_or fours k [])) → bytes ≡ map byte_of_four fours
all_packed bytes fours same each =
    ext_get_or 0 bytes (map byte_of_four fours) (same ∙ sym (length-map fours byte_of_four))
    (λ k h. let lt : k < length fours = omega arith in each k lt ∙ sym (map_at byte_of_four fours k lt))

pub fours_packed : (xs : List ℕ) (fours : List (List ℕ)) → length xs ≡ 160 → fours ≡ first_chunks 4 (length xs / 4) xs → map byte_of_four fours ≡ packed xs
fours_packed xs fours h is =
    let count : length xs / 4 ≡ 40 = omega (arith, h) in
    ap (map byte_of_four) (is ∙ ap (λ n. first_chunks 4 n xs) count) ∙ sym (packed_fours 40 xs h)
