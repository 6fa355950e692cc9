-- Halving rows in order, down to the place where a test turns.
use Rattle.std.proofs.Common.{◌≡◌, ℕ, zero, suc, ◌+◌, ◌*◌, ◌^◌, ◌≤◌, ◌<◌, Bool, true, false, List, [], ◌∷◌, length, ◌⊎◌, inl, inr, Some, refl, ap, ◌∙◌, subst, arith}
use Rattle.std.specs.Prelude.{slice_get, not}
use Rattle.std.proofs.lemmas.Bool.Decides.{nat_tests}
use native.Mathlib.Numerals.{unary_clauses}
use Rattle.gb_rows.specs.Rows.{is_before, AreInOrder, is_counted, IsBetween, IsFound, AskedAtMost}

earlier : (a b t : ℕ × ℕ) → is_before b a ≡ false → is_before b t ≡ true → is_before a t ≡ true
earlier a b t o h = grind (arith, nat_tests)

not_later : (a b t : ℕ × ℕ) → is_before b a ≡ false → is_before t b ≡ false → is_before t a ≡ false
not_later a b t o h = grind (arith, nat_tests)

not_true : (b : Bool) → not b ≡ true → b ≡ false
not_true true h = cc
not_true false h = refl

not_false : (b : Bool) → not b ≡ false → b ≡ true
not_false true h = refl
not_false false h = cc

counted-before : (w : Bool) (t a b : ℕ × ℕ) → is_before b a ≡ false → is_counted w t b ≡ true → is_counted w t a ≡ true
counted-before true t a b o h = rw (not_later a b t o (not_true (is_before t b) h)) refl
counted-before false t a b o h = earlier a b t o h

others-after : (w : Bool) (t a b : ℕ × ℕ) → is_before b a ≡ false → is_counted w t a ≡ false → is_counted w t b ≡ false
others-after w t a b o h = by (is_counted w t b) refl
  where
    by : (c : Bool) → is_counted w t b ≡ c → c ≡ false
    by false e = refl
    by true e = let f = counted-before w t a b o e in cc

none_above : (keys : List (ℕ × ℕ)) (i : ℕ) (k : ℕ × ℕ) → length keys ≤ i → slice_get keys i ≡ Some k → ⊥
none_above keys i k le e = omega (arith, below keys i k e)
  where
    below : (keys : List (ℕ × ℕ)) (i : ℕ) (k : ℕ × ℕ) → slice_get keys i ≡ Some k → i < length keys
    below [] i k e = cc
    below (x ∷ xs) zero k e = omega arith
    below (x ∷ xs) (suc i) k e = omega (arith, below xs i k e)

pub between-all : (keys : List (ℕ × ℕ)) (w : Bool) (t : ℕ × ℕ) (high : ℕ) → high ≡ length keys → IsBetween keys w t 0 high
between-all keys w t high e = record {
  order = omega arith;
  within = omega arith;
  counted = λ i k lt f. absurd (omega arith);
  others = λ i k le f. absurd (none_above keys i k (omega arith) f);
}

pub between-up : (keys : List (ℕ × ℕ)) (w : Bool) (t : ℕ × ℕ) (low high middle : ℕ) (key : ℕ × ℕ) → AreInOrder keys → middle < high → slice_get keys middle ≡ Some key → is_counted w t key ≡ true
    → IsBetween keys w t low high → IsBetween keys w t (middle + 1) high
between-up keys w t low high middle key sorted lt at is h = record {
  order = omega arith;
  within = h.within;
  counted = λ i k below e. counted-before w t k key (sorted i middle k key (omega arith) e at) is;
  others = h.others;
}

pub between-down : (keys : List (ℕ × ℕ)) (w : Bool) (t : ℕ × ℕ) (low high middle : ℕ) (key : ℕ × ℕ) → AreInOrder keys → low ≤ middle → middle < high → slice_get keys middle ≡ Some key → is_counted w t key ≡ false
    → IsBetween keys w t low high → IsBetween keys w t low middle
between-down keys w t low high middle key sorted le lt at isnt h = record {
  order = le;
  within = omega (arith, h.within);
  counted = h.counted;
  others = λ i k above e. others-after w t key k (sorted middle i key k (omega arith) at e) isnt;
}

-- ---- how many keys are asked for

-- what halving knows of them: of so many rows it has asked for some, and the rest are few
pub record Halving (size : ℕ) (before now : ℕ → Type 0) (left : ℕ) : Type 0 where
  pub asked : (bits : ℕ) → size < 2 ^ bits → (n : ℕ) → before n → (m : ℕ) × (k : ℕ) × (m + k ≤ bits) × (left < 2 ^ k) × now (n + m)

pub halving-begins : (size : ℕ) (before : ℕ → Type 0) → Halving size before before size
halving-begins size before = record { asked = λ bits few n a. (0, bits, omega arith, few, subst before (zero-more n) a) }
  where
    zero-more : (n : ℕ) → n ≡ n + 0
    zero-more n = omega arith

-- half of fewer than 2 ^ k is fewer than 2 ^ (k - 1)
halved : (size k half : ℕ) → 0 < size → size < 2 ^ k → 2 * half ≤ size → (j : ℕ) × (k ≡ suc j) × (half < 2 ^ j)
halved size zero half some few le = absurd (omega arith)
halved size (suc k) half some few le = (k, refl, by (2 ^ k) (simp unary_clauses at few))
  where
    by : (p : ℕ) → size < p * 2 → half < p
    by p h = omega arith

one-more : (P : ℕ → Type 0) (n m : ℕ) → P (n + m + 1) → P (n + (m + 1))
one-more P n m h = subst P (assoc n m) h
  where
    assoc : (n m : ℕ) → n + m + 1 ≡ n + (m + 1)
    assoc n m = omega arith

asked-on : (before now next : ℕ → Type 0) (left bits left2 : ℕ) → 0 < left → 2 * left2 ≤ left → ((n : ℕ) → now n → next (n + 1)) → (n : ℕ)
    → ((m : ℕ) × (k : ℕ) × (m + k ≤ bits) × (left < 2 ^ k) × now (n + m)) → (m : ℕ) × (k : ℕ) × (m + k ≤ bits) × (left2 < 2 ^ k) × next (n + m)
asked-on before now next left bits left2 some half step n a =
    let h = halved left a.1 left2 some a.3 half in
    (a.0 + 1, h.0, omega (arith, a.2, h.1), h.2, one-more next n a.0 (step (n + a.0) a.4))

pub halving-on : (size : ℕ) (before now next : ℕ → Type 0) (left left2 : ℕ) → 0 < left → 2 * left2 ≤ left → ((n : ℕ) → now n → next (n + 1)) → Halving size before now left → Halving size before next left2
halving-on size before now next left left2 some half step h = record { asked = λ bits few n a. asked-on before now next left bits left2 some half step n (h.asked bits few n a) }

pub halving-done : (size : ℕ) (before now : ℕ → Type 0) (left bits : ℕ) → Halving size before now left → size < 2 ^ bits → AskedAtMost before now bits
halving-done size before now left bits h few n a =
    let p = h.asked bits few n a in
    (p.0, omega (arith, p.2), p.4)

-- ---- both ends

neither : (k t : ℕ × ℕ) → is_before k t ≡ false → is_before t k ≡ false → k ≡ t
neither k t g h = pair k.0 k.1 t.0 t.1 (grind (arith, nat_tests)) (grind (arith, nat_tests))
  where
    pair : (a b c d : ℕ) → a ≡ c → b ≡ d → (let q : ℕ × ℕ = (a, b) in q) ≡ (c, d)
    pair a b c d e f = cc

asymmetric : (k t : ℕ × ℕ) → is_before k t ≡ true → is_before t k ≡ true → ⊥
asymmetric k t g h = grind (arith, nat_tests)

irreflexive : (t : ℕ × ℕ) → is_before t t ≡ true → ⊥
irreflexive t h = grind (arith, nat_tests)

some-at : (keys : List (ℕ × ℕ)) (i : ℕ) → i < length keys → (k : ℕ × ℕ) × (slice_get keys i ≡ Some k)
some-at [] i h = absurd (omega arith)
some-at (x ∷ xs) zero h = (x, refl)
some-at (x ∷ xs) (suc i) h = some-at xs i (omega arith)

pub counts-found : (keys : List (ℕ × ℕ)) (t : ℕ × ℕ) (first after : ℕ) → IsBetween keys false t first first → IsBetween keys true t after after → IsFound keys t first after
counts-found keys t first after f a = record {
  order = order;
  within = a.within;
  each = λ i le lt.
      let s = some-at keys i (omega (arith, a.within)) in
      let e = neither s.0 t (f.others i s.0 le s.1) (not_true (is_before t s.0) (a.counted i s.0 lt s.1)) in
      s.1 ∙ ap (λ (k : ℕ × ℕ). Some k) e;
  all = λ i e. (not_below i e, below i e);
  before = f.counted;
}
  where
    split : (m n : ℕ) → (m ≤ n) ⊎ (n < m)
    split m n = grind arith

    order : first ≤ after
    order = elim (split first after) [
      | inl le ↦ le
      | inr lt ↦
          (let s = some-at keys after (omega (arith, f.within)) in absurd (asymmetric s.0 t (f.counted after s.0 lt s.1) (not_false (is_before t s.0) (a.others after s.0 (omega arith) s.1))))
    ]

    not_below : (i : ℕ) → slice_get keys i ≡ Some t → first ≤ i
    not_below i e = elim (split first i) [ inl le ↦ le | inr lt ↦ absurd (irreflexive t (f.counted i t lt e)) ]

    below : (i : ℕ) → slice_get keys i ≡ Some t → i < after
    below i e = elim (split after i) [ inl le ↦ absurd (irreflexive t (not_false (is_before t t) (a.others i t le e))) | inr lt ↦ lt ]

pub asked-twice : (before between after : ℕ → Type 0) (bits : ℕ) → AskedAtMost before between bits → AskedAtMost between after bits → AskedAtMost before after (2 * bits)
asked-twice before between after bits f g n a =
    let p = f n a in
    let q = g (n + p.0) p.2 in
    (p.0 + q.0, omega (arith, p.1, q.1), subst after (assoc n p.0 q.0) q.2)
  where
    assoc : (a b c : ℕ) → a + b + c ≡ a + (b + c)
    assoc a b c = omega arith
