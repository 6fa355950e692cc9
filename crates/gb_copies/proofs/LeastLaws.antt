-- The least and the greatest of some values that pass.
use Rattle.std.proofs.Common.{◌≡◌, ℕ, zero, suc, ◌+◌, ◌-◌, ◌<◌, ◌≤◌, Bool, true, false, ◌==◌, cond, Option, Some, None, refl, sym, ◌∙◌, ap, arith}
use Rattle.std.proofs.lemmas.Bool.{eqb-true, true≢false}
use Rattle.std.proofs.lemmas.Bool.Decides.{nat_tests}
use Rattle.gb_copies.specs.Sides.{least_from, greatest_from}

-- ---- the next one

pub least_from_none : (passes : ℕ → Bool) (n v : ℕ) → n ≡ 0 → least_from passes n v ≡ None
least_from_none passes n v e = rw e refl

pub least_from_found : (passes : ℕ → Bool) (n v : ℕ) → 1 ≤ n → passes v ≡ true → least_from passes n v ≡ Some v
least_from_found passes zero v some h = absurd (omega arith)
least_from_found passes (suc n) v some h = ap (λ b. cond b (Some v) (least_from passes n (v + 1))) h

pub least_from_next :
    (passes : ℕ → Bool) (n m v : ℕ) → n ≡ m + 1 → passes v ≡ false → least_from passes n v ≡ least_from passes m (v + 1)
least_from_next passes zero m v e h = absurd (omega arith)
least_from_next passes (suc n) m v e h =
    let same : n ≡ m = omega arith in
    ap (λ b. cond b (Some v) (least_from passes n (v + 1))) h ∙ ap (λ k. least_from passes k (v + 1)) same

pub greatest_from_none : (passes : ℕ → Bool) (n v : ℕ) → n ≡ 0 → greatest_from passes n v ≡ None
greatest_from_none passes n v e = rw e refl

pub greatest_from_found : (passes : ℕ → Bool) (n v : ℕ) → 1 ≤ n → passes v ≡ true → greatest_from passes n v ≡ Some v
greatest_from_found passes zero v some h = absurd (omega arith)
greatest_from_found passes (suc n) v some h = ap (λ b. cond b (Some v) (greatest_from passes n (v - 1))) h

pub greatest_from_next :
    (passes : ℕ → Bool) (n m v : ℕ) → n ≡ m + 1 → passes v ≡ false → greatest_from passes n v ≡ greatest_from passes m (v - 1)
greatest_from_next passes zero m v e h = absurd (omega arith)
greatest_from_next passes (suc n) m v e h =
    let same : n ≡ m = omega arith in
    ap (λ b. cond b (Some v) (greatest_from passes n (v - 1))) h ∙ ap (λ k. greatest_from passes k (v - 1)) same

-- ---- the least one

differs : (passes : ℕ → Bool) (x v : ℕ) → passes v ≡ false → passes x ≡ true → (x == v) ≡ false
differs passes x v e h = choose (x == v) refl
  where
    choose : (b : Bool) → (x == v) ≡ b → b ≡ false
    choose true is = absurd (true≢false (sym h ∙ ap passes (eqb-true x v is) ∙ e))
    choose false is = refl

above : (x v : ℕ) → v ≤ x → (x == v) ≡ false → v + 1 ≤ x
above x v low d = grind (arith, nat_tests)

under : (x v : ℕ) → x ≤ v → (x == v) ≡ false → x + 1 ≤ v
under x v low d = grind (arith, nat_tests)

abbrev pub IsAtMost : Option ℕ → ℕ → Type 0
IsAtMost None x = ⊥
IsAtMost (Some k) x = k ≤ x

pub least_from-at_most :
    (passes : ℕ → Bool) (n v x : ℕ) → v ≤ x → x < v + n → passes x ≡ true → IsAtMost (least_from passes n v) x
least_from-at_most passes zero v x low high h = absurd (omega arith)
least_from-at_most passes (suc n) v x low high h =
    choose (passes v) refl
    (λ e. least_from-at_most passes n (v + 1) x (above x v low (differs passes x v e h)) (omega arith) h)
  where
    choose :
        (b : Bool) → passes v ≡ b → (passes v ≡ false → IsAtMost (least_from passes n (v + 1)) x)
        → IsAtMost (cond b (Some v) (least_from passes n (v + 1))) x
    choose true e next = low
    choose false e next = next e

-- ---- the greatest one

-- there is one, and x isn't above it
abbrev pub IsReached : Option ℕ → ℕ → Type 0
IsReached None x = ⊥
IsReached (Some k) x = x ≤ k

pub greatest_from-reached :
    (passes : ℕ → Bool) (n v x : ℕ) → x ≤ v → v < x + n → passes x ≡ true → IsReached (greatest_from passes n v) x
greatest_from-reached passes zero v x low high h = absurd (omega arith)
greatest_from-reached passes (suc n) v x low high h =
    choose (passes v) refl
    (λ e.
    let lower : x + 1 ≤ v = under x v low (differs passes x v e h) in
    greatest_from-reached passes n (v - 1) x (omega arith) (omega arith) h)
  where
    choose :
        (b : Bool) → passes v ≡ b → (passes v ≡ false → IsReached (greatest_from passes n (v - 1)) x)
        → IsReached (cond b (Some v) (greatest_from passes n (v - 1))) x
    choose true e next = low
    choose false e next = next e

-- one of the n values from v down, and it passes
pub record IsFound (passes : ℕ → Bool) (n v k : ℕ) : Type 0 where
  pub most : k ≤ v
  pub least : v + 1 ≤ k + n
  pub passes_it : passes k ≡ true

abbrev pub IsFoundIn : (ℕ → Bool) → ℕ → ℕ → Option ℕ → Type 0
IsFoundIn passes n v None = Unit {0}
IsFoundIn passes n v (Some k) = IsFound passes n v k

IsFoundIn-next : (passes : ℕ → Bool) (n v : ℕ) (o : Option ℕ) → IsFoundIn passes n (v - 1) o → IsFoundIn passes (suc n) v o
IsFoundIn-next passes n v None h = tt
IsFoundIn-next passes n v (Some k) h =
    let most : k ≤ v - 1 = h.most in
    let least : v - 1 + 1 ≤ k + n = h.least in
    record { most = omega arith; least = omega arith; passes_it = h.passes_it }

pub greatest_from-found : (passes : ℕ → Bool) (n v : ℕ) → IsFoundIn passes n v (greatest_from passes n v)
greatest_from-found passes zero v = tt
greatest_from-found passes (suc n) v =
    choose (passes v) refl (IsFoundIn-next passes n v (greatest_from passes n (v - 1)) (greatest_from-found passes n (v - 1)))
  where
    choose :
        (b : Bool) → passes v ≡ b → IsFoundIn passes (suc n) v (greatest_from passes n (v - 1))
        → IsFoundIn passes (suc n) v (cond b (Some v) (greatest_from passes n (v - 1)))
    choose true e next = record { most = omega arith; least = omega arith; passes_it = e }
    choose false e next = next
