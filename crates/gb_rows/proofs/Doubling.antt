-- Probing rows in order by steps that double: how many keys are asked for.
use Rattle.std.proofs.Common.{◌≡◌, ℕ, ◌+◌, ◌-◌, ◌*◌, List, length, ◌^◌, min, ◌≤◌, ◌<◌, ◌⊎◌, inl, inr, subst, refl, arith}
use Rattle.std.proofs.Math.Pow.{pow_mono}
use native.Mathlib.Numerals.{unary_clauses}
use Rattle.gb_rows.specs.Rows.{AskedAtMost}
use Rattle.gb_rows.proofs.Halving.{asked-twice}

-- What is known of a probe behind m keys: it lies 2 ^ m - 1 rows up at least, and so does the next step reach.
pub record IsFar (m probe step : ℕ) : Type 0 where
  pub probed : 2 ^ m ≤ probe + 1
  pub stepped : step < 4294967295 → 2 ^ m ≤ step + 1

-- What probing knows of the keys that it has asked for: they are few, and a probe below high is far.
pub record Doubling (size : ℕ) (before now : ℕ → Type 0) (probe step high : ℕ) : Type 0 where
  pub asked : (bits : ℕ) → size < 2 ^ bits → (n : ℕ) → before n → (m : ℕ) × (m ≤ bits) × (probe < high → IsFar m probe step) × now (n + m)

pub doubling-begins : (size : ℕ) (before : ℕ → Type 0) (probe high : ℕ) → Doubling size before before probe 0 high
doubling-begins size before probe high = record { asked = λ bits few n a. (0, omega arith, (λ _. record { probed = omega arith; stepped = λ _. omega arith }), subst before (zero-more n) a) }
  where
    zero-more : (n : ℕ) → n ≡ n + 0
    zero-more n = omega arith

one-more : (P : ℕ → Type 0) (n m : ℕ) → P (n + m + 1) → P (n + (m + 1))
one-more P n m h = subst P (assoc n m) h
  where
    assoc : (n m : ℕ) → n + m + 1 ≡ n + (m + 1)
    assoc n m = omega arith

-- one more key is asked for while 2 ^ m is at most the number of rows
one-left : (m bits size : ℕ) → 2 ^ m ≤ size → size < 2 ^ bits → m + 1 ≤ bits
one-left m bits size le few = by (split bits m)
  where
    split : (a b : ℕ) → (a ≤ b) ⊎ (b < a)
    split a b = grind arith

    by : (bits ≤ m) ⊎ (m < bits) → m + 1 ≤ bits
    by (inl below) = let more : 2 ^ bits ≤ 2 ^ m = pow_mono below in absurd (omega (arith, more, le, few))
    by (inr above) = omega (arith, above)

doubled : (m low step : ℕ) → 2 ^ m ≤ low → 2 ^ m ≤ step + 1 → 2 ^ (m + 1) ≤ low + step + 1
doubled m low step f g = by (2 ^ m) (2 ^ (m + 1)) (twice m) f g
  where
    twice : (m : ℕ) → 2 ^ (m + 1) ≡ 2 ^ m * 2
    twice m = simp unary_clauses refl

    by : (p q : ℕ) → q ≡ p * 2 → p ≤ low → p ≤ step + 1 → q ≤ low + step + 1
    by p q e f g = omega (arith, e, f, g)

far-on : (m probe step probe2 step2 : ℕ) → IsFar m probe step → step < 4294967295 → probe2 ≡ probe + 1 + step → (step2 < 4294967295 → step2 ≡ step * 2 + 1) → IsFar (m + 1) probe2 step2
far-on m probe step probe2 step2 far short e f = record {
  probed = by probe2 (doubled m (probe + 1) step far.probed (far.stepped short)) e;
  stepped = λ lt. stepped_by step2 (doubled m (step + 1) step (far.stepped short) (far.stepped short)) (f lt);
}
  where
    by : (q : ℕ) → 2 ^ (m + 1) ≤ probe + 1 + step + 1 → q ≡ probe + 1 + step → 2 ^ (m + 1) ≤ q + 1
    by q h e = omega (arith, h, e)

    stepped_by : (q : ℕ) → 2 ^ (m + 1) ≤ step + 1 + step + 1 → q ≡ step * 2 + 1 → 2 ^ (m + 1) ≤ q + 1
    stepped_by q h e = omega (arith, h, e)

pub doubling-up : (size : ℕ) (before now next : ℕ → Type 0) (probe step high probe2 step2 : ℕ) → probe < high → high ≤ size → ((n : ℕ) → now n → next (n + 1)) → (probe2 < high → (step < 4294967295) × (probe2 ≡ probe + 1 + step)) → (step2 < 4294967295 → step2 ≡ step * 2 + 1)
    → Doubling size before now probe step high → Doubling size before next probe2 step2 high
doubling-up size before now next probe step high probe2 step2 lt within one e f h = record { asked = λ bits few n a. by bits few n (h.asked bits few n a) }
  where
    by : (bits : ℕ) → size < 2 ^ bits → (n : ℕ) → ((m : ℕ) × (m ≤ bits) × (probe < high → IsFar m probe step) × now (n + m)) → (m : ℕ) × (m ≤ bits) × (probe2 < high → IsFar m probe2 step2) × next (n + m)
    by bits few n a =
        let far = a.2 lt in
        let reached : 2 ^ a.0 ≤ size = omega (arith, far.probed, lt, within) in
        (a.0 + 1, one-left a.0 bits size reached few, (λ lt2. far-on a.0 probe step probe2 step2 far (e lt2).0 (e lt2).1 f), one-more next n a.0 (one (n + a.0) a.3))

pub doubling-down : (size : ℕ) (before now next : ℕ → Type 0) (probe step high : ℕ) → probe < high → high ≤ size → ((n : ℕ) → now n → next (n + 1)) → Doubling size before now probe step high → Doubling size before next probe step probe
doubling-down size before now next probe step high lt within one h = record { asked = λ bits few n a. by bits few n (h.asked bits few n a) }
  where
    by : (bits : ℕ) → size < 2 ^ bits → (n : ℕ) → ((m : ℕ) × (m ≤ bits) × (probe < high → IsFar m probe step) × now (n + m)) → (m : ℕ) × (m ≤ bits) × (probe < probe → IsFar m probe step) × next (n + m)
    by bits few n a =
        let far = a.2 lt in
        let reached : 2 ^ a.0 ≤ size = omega (arith, far.probed, lt, within) in
        (a.0 + 1, one-left a.0 bits size reached few, (λ below. absurd (omega (arith, below))), one-more next n a.0 (one (n + a.0) a.3))

pub doubling-done : (size : ℕ) (before now : ℕ → Type 0) (probe step high bits : ℕ) → Doubling size before now probe step high → size < 2 ^ bits → AskedAtMost before now bits
doubling-done size before now probe step high bits h few n a =
    let p = h.asked bits few n a in
    (p.0, p.1, p.3)

-- Rows are bracketed by few keys, and then halved by few, since no more than all lie between.
pub near-asked : (keys : List (ℕ × ℕ)) (low high : ℕ) (before mid after : ℕ → Type 0) (bits : ℕ) → high ≤ length keys → AskedAtMost before mid bits → (high - low < 2 ^ bits → AskedAtMost mid after bits) → length keys < 2 ^ bits → AskedAtMost before after (2 * bits)
near-asked keys low high before mid after bits within f h few = asked-twice before mid after bits f (h (omega (arith, within, few)))

-- A sum that stays below the greatest number is not cut.
pub not-cut : (sum cut : ℕ) → cut ≡ min sum 4294967295 → cut < 4294967295 → cut ≡ sum
not-cut sum cut e lt = grind (arith, e, lt)

-- What comes of a step when it's doubled.
pub step-on : (step twice next : ℕ) → twice ≡ min (step * 2) 4294967295 → next ≡ min (twice + 1) 4294967295 → next < 4294967295 → next ≡ step * 2 + 1
step-on step twice next e f lt =
    let g = not-cut (twice + 1) next f lt in
    let below : twice < 4294967295 = omega (arith, g, lt) in
    let h = not-cut (step * 2) twice e below in
    omega (arith, g, h)

-- Where the next probe lies, if it is one.
pub probe-on : (probe step high next : ℕ) → next ≡ min (probe + 1 + step) 4294967295 → high < 4294967296 → next < high → (step < 4294967295) × (next ≡ probe + 1 + step)
probe-on probe step high next e fits lt =
    let g = not-cut (probe + 1 + step) next e (omega (arith, fits, lt)) in
    (omega (arith, g, lt, fits), g)
