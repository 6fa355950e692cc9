-- Numbers of an interval, each cut to n values: the bounds hold them, and are reached.
use Rattle.std.proofs.Common.{◌≡◌, ℕ, suc, ◌+◌, ◌-◌, ◌*◌, ◌/◌, ◌%◌, ◌<◌, ◌≤◌, Bool, true, false, cond, refl, sym, subst, arith}
use Rattle.std.proofs.lemmas.Bool.{eqb-false, eqb-true}
use Rattle.std.proofs.lemmas.Nat.{le-div, mod_below, mod-mul-add, mul-le}
use Rattle.std.proofs.Math.Nat.{div-add-mod', div-mul-le_self, suc-mul}
use Rattle.gb_abs_memory.specs.Windows.{cut_least, cut_most, is_in_one_block}

-- a number of an interval, cut to n values, lies from least to most
pub record IsCut (least most n x : ℕ) : Type 0 where
  pub least_le : least ≤ x % n
  pub le_most : x % n ≤ most

div_mono : (n a b : ℕ) → 0 < n → a ≤ b → a / n ≤ b / n
div_mono n a b pos le = let part = div-mul-le_self a n in le-div (a / n) b n pos (omega arith)

same_block : (n lo hi x : ℕ) → 0 < n → lo ≤ x → x ≤ hi → lo / n ≡ hi / n → IsCut (lo % n) (hi % n) n x
same_block n lo hi x pos low high e =
    let below = div_mono n lo x pos low in
    let above = div_mono n x hi pos high in
    let p : x / n ≡ lo / n = omega arith in
    let first : lo / n * n + lo % n ≡ lo = div-add-mod' lo n in
    let last : lo / n * n + hi % n ≡ hi = subst (λ q. q * n + hi % n ≡ hi) (sym e) (div-add-mod' hi n) in
    let middle : lo / n * n + x % n ≡ x = subst (λ q. q * n + x % n ≡ x) p (div-add-mod' x n) in
    record { least_le = omega arith; le_most = omega arith }

pub cut_holds : (n lo hi x : ℕ) → 0 < n → lo ≤ x → x ≤ hi → IsCut (cut_least n lo hi) (cut_most n lo hi) n x
unfolding cut_least cut_most
cut_holds n lo hi x pos low high = choose (is_in_one_block n lo hi) refl
  where
    choose : (b : Bool) → is_in_one_block n lo hi ≡ b → IsCut (cond b (lo % n) 0) (cond b (hi % n) (n - 1)) n x
    choose true e = same_block n lo hi x pos low high (eqb-true (lo / n) (hi / n) e)
    choose false e = let small = mod_below x n pos in record { least_le = omega arith; le_most = omega arith }

-- a number of an interval that is so, cut to n values
pub record Reaches (n lo hi r : ℕ) : Type 0 where
  pub number : ℕ
  pub least : lo ≤ number
  pub most : number ≤ hi
  pub is : number % n ≡ r

-- a multiple of n lies between numbers of different blocks, and the number before it
next_block : (n lo hi : ℕ) → 0 < n → lo ≤ hi → (lo / n ≡ hi / n → ⊥) → Reaches n lo hi 0 × Reaches n lo hi (n - 1)
next_block n lo hi pos le other =
    let up = div_mono n lo hi pos le in
    let here : lo / n * n + lo % n ≡ lo = div-add-mod' lo n in
    let there = div-mul-le_self hi n in
    let small = mod_below lo n pos in
    let rows : (lo / n + 1) * n ≤ hi / n * n = mul-le (lo / n + 1) n (hi / n) n (omega arith) (omega arith) in
    let next = next_multiple (lo / n) n in
    let first : (lo / n * n + n) % n ≡ 0 = subst (λ m. m % n ≡ 0) next (multiple (lo / n + 1) n pos) in
    let last : (lo / n * n + (n - 1)) % n ≡ n - 1 = mod-mul-add (lo / n) n (n - 1) (omega arith) in (
      record { number = lo / n * n + n; least = omega arith; most = omega arith; is = first },
      record { number = lo / n * n + (n - 1); least = omega arith; most = omega arith; is = last },
    )
  where
    next_multiple : (q n : ℕ) → (q + 1) * n ≡ q * n + n
    next_multiple q n = let next : suc q ≡ q + 1 = omega arith in subst (λ s. s * n ≡ q * n + n) next (suc-mul q n)

    multiple : (q n : ℕ) → 0 < n → q * n % n ≡ 0
    multiple q n pos = subst (λ m. m % n ≡ 0) (omega arith) (mod-mul-add q n 0 pos)

pub cut_least-reached : (n lo hi : ℕ) → 0 < n → lo ≤ hi → Reaches n lo hi (cut_least n lo hi)
unfolding cut_least
cut_least-reached n lo hi pos le = choose (is_in_one_block n lo hi) refl
  where
    choose : (b : Bool) → is_in_one_block n lo hi ≡ b → Reaches n lo hi (cond b (lo % n) 0)
    choose true e = record { number = lo; least = omega arith; most = le; is = refl }
    choose false e = (next_block n lo hi pos le (eqb-false _ _ e)).0

pub cut_most-reached : (n lo hi : ℕ) → 0 < n → lo ≤ hi → Reaches n lo hi (cut_most n lo hi)
unfolding cut_most
cut_most-reached n lo hi pos le = choose (is_in_one_block n lo hi) refl
  where
    choose : (b : Bool) → is_in_one_block n lo hi ≡ b → Reaches n lo hi (cond b (hi % n) (n - 1))
    choose true e = record { number = hi; least = le; most = omega arith; is = refl }
    choose false e = (next_block n lo hi pos le (eqb-false _ _ e)).1

pub cut_most-below : (n lo hi : ℕ) → 0 < n → cut_most n lo hi < n
unfolding cut_most
cut_most-below n lo hi pos = choose (is_in_one_block n lo hi)
  where
    choose : (b : Bool) → cond b (hi % n) (n - 1) < n
    choose true = mod_below hi n pos
    choose false = omega arith

pub cut_order : (n lo hi : ℕ) → 0 < n → lo ≤ hi → cut_least n lo hi ≤ cut_most n lo hi
cut_order n lo hi pos le =
    let c = cut_holds n lo hi lo pos (omega arith) le in
    let least = c.least_le in
    let most = c.le_most in
    omega arith
