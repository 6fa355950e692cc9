-- Addresses in a row, of which some pass, or each.
use Rattle.std.proofs.Common.{◌≡◌, ℕ, zero, suc, ◌+◌, ◌<◌, ◌≤◌, Bool, true, false, ◌&&◌, ◌||◌, ◌==◌, refl, ◌∙◌, ap, subst, arith}
use Rattle.std.proofs.lemmas.Bool.{and_parts, eqb-true}
use Rattle.std.proofs.lemmas.Bool.Decides.{nat_tests}
use Rattle.gb_ram_bounds.specs.Addresses.{some_of, each_of}

-- ---- the next one

pub some_of_none : (passes : ℕ → Bool) (n a : ℕ) → n ≡ 0 → some_of passes n a ≡ false
some_of_none passes n a e = rw e refl

pub some_of_found : (passes : ℕ → Bool) (n a : ℕ) → 1 ≤ n → passes a ≡ true → some_of passes n a ≡ true
some_of_found passes zero a some h = absurd (omega arith)
some_of_found passes (suc n) a some h = ap (λ b. b || some_of passes n (a + 1)) h

pub some_of_next : (passes : ℕ → Bool) (n m a : ℕ) → n ≡ m + 1 → passes a ≡ false → some_of passes n a ≡ some_of passes m (a + 1)
some_of_next passes zero m a e h = absurd (omega arith)
some_of_next passes (suc n) m a e h =
    let same : n ≡ m = omega arith in
    ap (λ b. b || some_of passes n (a + 1)) h ∙ ap (λ k. some_of passes k (a + 1)) same

pub each_of_none : (passes : ℕ → Bool) (n a : ℕ) → n ≡ 0 → each_of passes n a ≡ true
each_of_none passes n a e = rw e refl

pub each_of_failed : (passes : ℕ → Bool) (n a : ℕ) → 1 ≤ n → passes a ≡ false → each_of passes n a ≡ false
each_of_failed passes zero a some h = absurd (omega arith)
each_of_failed passes (suc n) a some h = ap (λ b. b && each_of passes n (a + 1)) h

pub each_of_next : (passes : ℕ → Bool) (n m a : ℕ) → n ≡ m + 1 → passes a ≡ true → each_of passes n a ≡ each_of passes m (a + 1)
each_of_next passes zero m a e h = absurd (omega arith)
each_of_next passes (suc n) m a e h =
    let same : n ≡ m = omega arith in
    ap (λ b. b && each_of passes n (a + 1)) h ∙ ap (λ k. each_of passes k (a + 1)) same

-- ---- all of them

pub some_of-no : (passes : ℕ → Bool) (n a : ℕ) → ((x : ℕ) → passes x ≡ false) → some_of passes n a ≡ false
some_of-no passes zero a h = refl
some_of-no passes (suc n) a h = neither (passes a) (some_of passes n (a + 1)) (h a) (some_of-no passes n (a + 1) h)
  where
    neither : (b c : Bool) → b ≡ false → c ≡ false → (b || c) ≡ false
    neither b c p q = rw p q

pub each_of-all : (passes : ℕ → Bool) (n a : ℕ) → ((x : ℕ) → a ≤ x → x < a + n → passes x ≡ true) → each_of passes n a ≡ true
each_of-all passes zero a h = refl
each_of-all passes (suc n) a h =
    both (passes a) (each_of passes n (a + 1)) (h a (omega arith) (omega arith))
    (each_of-all passes n (a + 1) (λ x low high. h x (omega arith) (omega arith)))
  where
    both : (b c : Bool) → b ≡ true → c ≡ true → (b && c) ≡ true
    both b c p q = rw p q

-- ---- any one of them

next_one : (a x : ℕ) → a ≤ x → (a == x) ≡ false → a + 1 ≤ x
next_one a x low other = grind (arith, nat_tests)

pub some_of-at : (passes : ℕ → Bool) (n a x : ℕ) → a ≤ x → x < a + n → passes x ≡ true → some_of passes n a ≡ true
some_of-at passes zero a x low high h = absurd (omega arith)
some_of-at passes (suc n) a x low high h =
    choose (passes a) refl (a == x) refl (λ next. some_of-at passes n (a + 1) x next (omega arith) h)
  where
    choose :
        (b : Bool) → passes a ≡ b → (c : Bool) → (a == x) ≡ c → (a + 1 ≤ x → some_of passes n (a + 1) ≡ true)
        → (b || some_of passes n (a + 1)) ≡ true
    choose true e c same rest = refl
    choose false e true same rest = absurd (differ (subst (λ z. passes z ≡ false) (eqb-true a x same) e) h)
      where
        differ : passes x ≡ false → passes x ≡ true → ⊥
        differ p q = cc
    choose false e false other rest = rest (next_one a x low other)

pub each_of-at : (passes : ℕ → Bool) (n a x : ℕ) → a ≤ x → x < a + n → each_of passes n a ≡ true → passes x ≡ true
each_of-at passes zero a x low high h = absurd (omega arith)
each_of-at passes (suc n) a x low high h =
    let both = and_parts _ _ h in
    choose (a == x) refl both.0 (λ next. each_of-at passes n (a + 1) x next (omega arith) both.1)
  where
    choose : (c : Bool) → (a == x) ≡ c → passes a ≡ true → (a + 1 ≤ x → passes x ≡ true) → passes x ≡ true
    choose true same first rest = subst (λ z. passes z ≡ true) (eqb-true a x same) first
    choose false other first rest = rest (next_one a x low other)
