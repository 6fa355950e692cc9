-- How many bits pass, from bit 0 on.
use Rattle.std.proofs.Common.{◌≡◌, ℕ, zero, suc, ◌+◌, ◌<◌, ◌≤◌, Bool, true, false, ◌==◌, cond, refl, ◌∙◌, ap, subst, arith}
use Rattle.std.proofs.lemmas.Bool.{eqb-true}
use Rattle.std.proofs.lemmas.Bool.Decides.{nat_tests}
use Rattle.gb_domain.specs.LowBits.{passing, count_passing}

pub passing_none : (passes : ℕ → Bool) (n i : ℕ) → n ≡ 0 → passing passes n i ≡ i
passing_none passes n i e = rw e refl

pub passing_found : (passes : ℕ → Bool) (n i : ℕ) → passes i ≡ false → passing passes n i ≡ i
passing_found passes zero i h = refl
passing_found passes (suc n) i h = ap (λ b. cond b (passing passes n (i + 1)) i) h

pub passing_next : (passes : ℕ → Bool) (n m i : ℕ) → n ≡ m + 1 → passes i ≡ true → passing passes n i ≡ passing passes m (i + 1)
passing_next passes zero m i e h = absurd (omega arith)
passing_next passes (suc n) m i e h =
    let same : n ≡ m = omega arith in
    ap (λ b. cond b (passing passes n (i + 1)) i) h ∙ ap (λ k. passing passes k (i + 1)) same

next_or_same : (i j : ℕ) → i ≤ j → (i == j) ≡ false → i + 1 ≤ j
next_or_same i j low other = grind (arith, nat_tests)

-- each bit below the count passes
passing-passes : (passes : ℕ → Bool) (n i j : ℕ) → i ≤ j → j < passing passes n i → passes j ≡ true
passing-passes passes zero i j low high = absurd (omega arith)
passing-passes passes (suc n) i j low high = choose (passes i) refl (i == j) refl (passing-passes passes n (i + 1) j) high
  where
    choose :
        (b : Bool) → passes i ≡ b → (c : Bool) → (i == j) ≡ c → (i + 1 ≤ j → j < passing passes n (i + 1) → passes j ≡ true)
        → j < cond b (passing passes n (i + 1)) i → passes j ≡ true
    choose true e true same next high = subst (λ k. passes k ≡ true) (eqb-true i j same) e
    choose true e false other next high = next (next_or_same i j low other) high
    choose false e c same next high = absurd (omega arith)

pub count_passing-passes : (passes : ℕ → Bool) (j : ℕ) → j < count_passing passes → passes j ≡ true
count_passing-passes passes j h = passing-passes passes 8 0 j (omega arith) h

passing-most : (passes : ℕ → Bool) (n i : ℕ) → passing passes n i ≤ i + n
passing-most passes zero i = omega arith
passing-most passes (suc n) i = choose (passes i) (passing-most passes n (i + 1))
  where
    choose : (b : Bool) → passing passes n (i + 1) ≤ i + 1 + n → cond b (passing passes n (i + 1)) i ≤ i + suc n
    choose true next = omega arith
    choose false next = omega arith

pub count_passing-most : (passes : ℕ → Bool) → count_passing passes ≤ 8
count_passing-most passes = passing-most passes 8 0
