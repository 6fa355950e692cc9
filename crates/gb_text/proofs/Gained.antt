-- Bytes that a sink took, piece by piece.
use Rattle.std.proofs.Common.{◌≡◌, ℕ, zero, suc, ◌+◌, ◌-◌, ◌≤◌, List, [], ◌∷◌, ◌++◌, take, drop, length, Option, Some, None, refl, sym, ◌∙◌, ap, subst, arith, length-drop}
use Rattle.std.proofs.lemmas.List.{append_assoc, append-nil, take_all, take-append-le, length-append}
use Rattle.gb_text.specs.Sink.{Gains}
use Rattle.gb_text.specs.Text.{GainsBeginning}

take_nil : (n : ℕ) → take {A = ℕ} n [] ≡ []
take_nil zero = refl
take_nil (suc n) = refl

drop_nil : (n : ℕ) → drop {A = ℕ} n [] ≡ []
drop_nil zero = refl
drop_nil (suc n) = refl

-- a beginning, and then a beginning of what is left
take_more : (xs : List ℕ) (k n : ℕ) → take k xs ++ take n (drop k xs) ≡ take (k + n) xs
take_more [] k n = rw (take_nil k, drop_nil k, take_nil n, take_nil (k + n)) refl
take_more (x ∷ xs) zero n = let e : 0 + n ≡ n = omega arith in rw e refl
take_more (x ∷ xs) (suc k) n = let e : suc k + n ≡ suc (k + n) = omega arith in rw e (ap (λ t. x ∷ t) (take_more xs k n))

take_none : (xs : List ℕ) → take 0 xs ≡ []
take_none [] = refl
take_none (x ∷ xs) = refl

pub gains_nothing : (old : Option (List ℕ)) (bytes : List ℕ) → Gains old (take 0 bytes) old
gains_nothing None bytes = refl
gains_nothing (Some old) bytes = rw (take_none bytes) (ap Some (sym (append-nil old)))

pub gains_more : (old mid new : Option (List ℕ)) (bytes : List ℕ) (k n : ℕ) → Gains old (take k bytes) mid → Gains mid (take n (drop k bytes)) new → Gains old (take (k + n) bytes) new
gains_more None mid new bytes k n h i = subst (λ m. Gains m (take n (drop k bytes)) new) h i
gains_more (Some old) mid new bytes k n h i =
    let joined = subst (λ m. Gains m (take n (drop k bytes)) new) h i in
    joined ∙ ap Some (append_assoc old (take k bytes) (take n (drop k bytes)) ∙ ap (λ t. old ++ t) (take_more bytes k n))

pub gains_whole : (old new : Option (List ℕ)) (bytes : List ℕ) (k : ℕ) → length bytes ≤ k → Gains old (take k bytes) new → Gains old bytes new
gains_whole old new bytes k h i = subst (λ t. Gains old t new) (take_all k bytes h) i

pub gains_part : (old new : Option (List ℕ)) (bytes : List ℕ) (k : ℕ) → k ≤ length bytes → Gains old (take k bytes) new → GainsBeginning old bytes new
gains_part None new bytes k h i = i
gains_part (Some old) new bytes k h i = (k, h, i)

-- the rest of a slice
pub rest_is : (xs : List ℕ) (k : ℕ) → take (length xs - k) (drop k xs) ≡ drop k xs
rest_is xs k = take_all (length xs - k) (drop k xs) (omega (arith, length-drop k xs))

-- ---- one text after another

pub gains_both : (old mid new : Option (List ℕ)) (first second : List ℕ) → Gains old first mid → Gains mid second new → Gains old (first ++ second) new
gains_both None mid new first second h i = subst (λ m. Gains m second new) h i
gains_both (Some old) mid new first second h i =
    subst (λ m. Gains m second new) h i ∙ ap Some (append_assoc old first second)

-- a beginning of the first text
pub begins_first : (old new : Option (List ℕ)) (first second : List ℕ) → GainsBeginning old first new → GainsBeginning old (first ++ second) new
begins_first None new first second h = h
begins_first (Some old) new first second (n, h, i) =
    (n, omega (arith, length-append first second), i ∙ ap (λ t. Some (old ++ t)) (sym (take-append-le n first second h)))

take_past : (first second : List ℕ) (n : ℕ) → take (length first + n) (first ++ second) ≡ first ++ take n second
take_past [] second n = let e : 0 + n ≡ n = omega arith in rw e refl
take_past (x ∷ xs) second n = let e : suc (length xs) + n ≡ suc (length xs + n) = omega arith in rw e (ap (λ t. x ∷ t) (take_past xs second n))

-- all of the first text, and a beginning of the second
pub begins_second : (old mid new : Option (List ℕ)) (first second : List ℕ) → Gains old first mid → GainsBeginning mid second new → GainsBeginning old (first ++ second) new
begins_second None mid new first second h i = subst (λ m. GainsBeginning m second new) h i
begins_second (Some old) mid new first second h i = joined (subst (λ m. GainsBeginning m second new) h i)
  where
    joined : GainsBeginning (Some (old ++ first)) second new → GainsBeginning (Some old) (first ++ second) new
    joined (n, most, is) = (
      length first + n,
      omega (arith, length-append first second),
      is ∙ ap Some (append_assoc old first (take n second) ∙ ap (λ t. old ++ t) (sym (take_past first second n))),
    )
