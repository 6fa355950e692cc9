-- Masks of sixteen lanes of which none is set.
use Rattle.std.proofs.Common.{◌≡◌, ℕ, zero, suc, ◌%◌, ◌^◌, ◌<◌, ◌≤◌, Bool, true, false, not, cond, eqb, ltb, List, [], ◌∷◌, map, length, get_or, replicate, refl, sym, ◌∙◌, arith, w8, eqb-true, ltb-false}
use Rattle.std.proofs.lemmas.Simd.{bitmask_splat}
use Rattle.std.specs.Simd.Lanes.{zip2, mask_l, top}
use Rattle.gb_ppu.specs.Lanes.{HasLanes}

none_passes : (p : ℕ → Bool) (xs : List ℕ) → mask_l (map p xs) ≡ 0 → (i : ℕ) → i < length xs → p (get_or xs i 0) ≡ false
none_passes p [] e i less = absurd (omega arith)
none_passes p (x ∷ xs) e zero less = go (p x) refl (omega arith)
  where
    go : (t : Bool) → p x ≡ t → ◌≡◌ {A = ℕ} (cond t 1 0) 0 → p x ≡ false
    go true is h = absurd (omega arith)
    go false is h = is
none_passes p (x ∷ xs) e (suc i) less = none_passes p xs (omega arith) i (omega arith)

-- no lane passes where the mask of a comparison with a splat is empty
empty_mask : (t : ℕ → ℕ → Bool) (xs : List ℕ) (y : ℕ) → length xs ≡ 16
    → eqb (mask_l (map (top 7) (zip2 (λ a b. cond (t a b) 255 0) xs (replicate 16 y))) % 2 ^ 64) 0 ≡ true → (i : ℕ) → i < 16 → t (get_or xs i 0) y ≡ false
empty_mask t xs y long e i less =
    none_passes (λ x. t x y) xs (sym (bitmask_splat w8 t xs 16 y long (omega arith)) ∙ eqb-true _ _ e) i (omega (arith, long))

not_false : (b : Bool) → not b ≡ false → b ≡ true
not_false true h = refl
not_false false h = absurd (cc)

pub zero_lanes : (xs : List ℕ) → length xs ≡ 16
    → eqb (mask_l (map (top 7) (zip2 (λ a b. cond (not (eqb a b)) 255 0) xs (replicate 16 0))) % 2 ^ 64) 0 ≡ true → HasLanes 16 xs (λ _. 0)
zero_lanes xs long e =
    record { len = long; lanes = λ i less. eqb-true _ _ (not_false _ (empty_mask (λ a b. not (eqb a b)) xs 0 long e i less)) }

pub none_below : (xs : List ℕ) (limit : ℕ) → length xs ≡ 16
    → not (eqb (mask_l (map (top 7) (zip2 (λ a b. cond (ltb a b) 255 0) xs (replicate 16 limit))) % 2 ^ 64) 0) ≡ false → (i : ℕ) → i < 16 → limit ≤ get_or xs i 0
none_below xs limit long e i less = ltb-false _ _ (empty_mask ltb xs limit long (not_false _ e) i less)
