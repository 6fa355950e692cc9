-- Advancing by n M-cycles is n single M-cycles.
use Rattle.std.proofs.Common.{◌≡◌, ℕ, zero, suc, ◌+◌, ◌-◌, ◌*◌, ◌/◌, ◌%◌, ◌<◌, ◌≤◌, Bool, true, false, ◌&&◌, ◌==◌, if◌then◌else◌, inl, inr, refl, ◌∙◌, ap, arith}
use Rattle.std.proofs.Math.Nat.{mod-add-div', add-mul}
use Rattle.std.proofs.lemmas.Nat.{mod-mul-add, div-mul-add}
use Rattle.std.proofs.lemmas.Bool.{cases_lt}
use Rattle.std.proofs.lemmas.Bool.Decides.{nat_tests}
use Rattle.gb_timer.specs.Timer.{Counters, IsInRange, is_counting, period, counts, tima_after, overflows, advanced, is_counted_next, overflows_next, counted, ticked, ticks, overflows_in}

-- the quotient goes up exactly where a multiple is reached
next_multiple_256 : (c n : ℕ) → c < 16384 → (c + suc n) / 256 - c / 256 ≡ ((c + n) / 256 - c / 256) + (if ((c + n) % 16384 + 1) % 16384 % 256 == 0 then 1 else 0)
next_multiple_256 c n h = grind (arith, nat_tests)

next_multiple_4 : (c n : ℕ) → c < 16384 → (c + suc n) / 4 - c / 4 ≡ ((c + n) / 4 - c / 4) + (if ((c + n) % 16384 + 1) % 16384 % 4 == 0 then 1 else 0)
next_multiple_4 c n h = grind (arith, nat_tests)

next_multiple_16 : (c n : ℕ) → c < 16384 → (c + suc n) / 16 - c / 16 ≡ ((c + n) / 16 - c / 16) + (if ((c + n) % 16384 + 1) % 16384 % 16 == 0 then 1 else 0)
next_multiple_16 c n h = grind (arith, nat_tests)

next_multiple_64 : (c n : ℕ) → c < 16384 → (c + suc n) / 64 - c / 64 ≡ ((c + n) / 64 - c / 64) + (if ((c + n) % 16384 + 1) % 16384 % 64 == 0 then 1 else 0)
next_multiple_64 c n h = grind (arith, nat_tests)

-- a remainder and its quotient
division : (j r q m : ℕ) → j ≡ q * r + m → m < r → (j % r ≡ m) × (j / r ≡ q)
division j r q m e h = (ap (λ i. i % r) e ∙ mod-mul-add q r m h, ap (λ i. i / r) e ∙ div-mul-add q r m h)

-- the remainder goes up by one
within_row : (i j r : ℕ) → i ≡ j + 1 → j % r + 1 < r → (i % r ≡ j % r + 1) × (i / r ≡ j / r)
within_row i j r e h = division i r (j / r) (j % r + 1) (omega (arith, mod-add-div' j r)) h

-- behind the last one it starts again, and the quotient goes up
next_row : (i j r : ℕ) → i ≡ j + 1 → j % r + 1 ≡ r → (i % r ≡ 0) × (i / r ≡ j / r + 1)
next_row i j r e h = division i r (j / r + 1) 0 (omega (arith, mod-add-div' j r, add-mul (j / r) 1 r)) (omega arith)

-- what one count more makes of TIMA and of the overflows
abbrev Counts : Counters → ℕ → Type 0
Counts t k =
    (tima_after t (suc k) ≡ counted (tima_after t k) t.tma)
    × (overflows t (suc k) ≡ overflows t k + (if tima_after t k == 0xFF then 1 else 0))

counts_below : (t : Counters) (k : ℕ) → suc k < 256 - t.tima → Counts t k
unfolding tima_after overflows counted
counts_below t k h = (grind (arith, nat_tests), grind (arith, nat_tests))

counts_first : (t : Counters) (k : ℕ) → suc k ≡ 256 - t.tima → t.tma < 256 → Counts t k
unfolding tima_after overflows counted
counts_first t k h m = (grind (arith, nat_tests), grind (arith, nat_tests))

counts_within : (t : Counters) (k i j r : ℕ) → i ≡ suc k - (256 - t.tima) → j ≡ k - (256 - t.tima) → r ≡ 256 - t.tma → 256 - t.tima ≤ k
    → i % r ≡ j % r + 1 → i / r ≡ j / r → j % r + 1 < r → Counts t k
unfolding tima_after overflows counted
counts_within t k i j r ei ej er l m d b = (grind (arith, nat_tests), grind (arith, nat_tests))

counts_again : (t : Counters) (k i j r : ℕ) → i ≡ suc k - (256 - t.tima) → j ≡ k - (256 - t.tima) → r ≡ 256 - t.tma → 256 - t.tima ≤ k
    → i % r ≡ 0 → i / r ≡ j / r + 1 → j % r + 1 ≡ r → Counts t k
unfolding tima_after overflows counted
counts_again t k i j r ei ej er l m d b = (grind (arith, nat_tests), grind (arith, nat_tests))

counts_behind : (t : Counters) (k : ℕ) → 256 - t.tima ≤ k → t.tma < 256 → Counts t k
counts_behind t k l m =
    let i : ℕ = suc k - (256 - t.tima) in
    let j : ℕ = k - (256 - t.tima) in
    let r : ℕ = 256 - t.tma in
    let more : i ≡ j + 1 = omega arith in
    elim (cases_lt (j % r + 1) r) [
      | inl below ↦ let p = within_row i j r more below in counts_within t k i j r refl refl refl l p.0 p.1 below
      | inr above ↦ let e : j % r + 1 ≡ r = omega arith in let p = next_row i j r more e in counts_again t k i j r refl refl refl l p.0 p.1 e
    ]

-- one count more
counts_more : (t : Counters) (k : ℕ) → t.tma < 256 → Counts t k
counts_more t k m = elim (cases_lt (suc k) (256 - t.tima)) [
  | inl below ↦ counts_below t k below
  | inr above ↦ elim (cases_lt k (256 - t.tima)) [
    | inl below ↦ counts_first t k (omega arith) m
    | inr behind ↦ counts_behind t k behind m
  ]
]

-- the multiples of a period after c and up to it plus n + 1
abbrev Next : ℕ → ℕ → ℕ → Type 0
Next p c n =
    (c + suc n) / p - c / p ≡ ((c + n) / p - c / p) + (if ((c + n) % 16384 + 1) % 16384 % p == 0 then 1 else 0)

next_by : (is_0 is_1 is_2 : Bool) (c n : ℕ) → c < 16384 → Next (if is_0 then 256 else if is_1 then 4 else if is_2 then 16 else 64) c n
next_by true _ _ c n h = next_multiple_256 c n h
next_by false true _ c n h = next_multiple_4 c n h
next_by false false true c n h = next_multiple_16 c n h
next_by false false false c n h = next_multiple_64 c n h

next_multiple : (tac c n : ℕ) → c < 16384 → Next (period tac) c n
unfolding period
next_multiple tac c n h = next_by (tac % 4 == 0) (tac % 4 == 1) (tac % 4 == 2) c n h

counts_by : (b : Bool) (p c n : ℕ) → Next p c n
    → (if b then (c + suc n) / p - c / p else 0)
    ≡ (if b then (c + n) / p - c / p else 0) + (if b && (((c + n) % 16384 + 1) % 16384 % p == 0) then 1 else 0)
counts_by false p c n h = refl
counts_by true p c n h = h

-- one M-cycle more
counts_next : (t : Counters) (n : ℕ) → t.counter < 16384 → counts t (suc n) ≡ counts t n + (if is_counted_next (advanced t n) then 1 else 0)
unfolding counts is_counted_next advanced
counts_next t n h = counts_by (is_counting t.tac) (period t.tac) t.counter n (next_multiple t.tac t.counter n h)

tima_by : (b : Bool) (t : Counters) (k i : ℕ) → i ≡ k + (if b then 1 else 0) → t.tma < 256
    → tima_after t i ≡ (if b then counted (tima_after t k) t.tma else tima_after t k)
tima_by false t k i e m = ap (λ j. tima_after t j) (let same : i ≡ k = omega arith in same)
tima_by true t k i e m = ap (λ j. tima_after t j) (let more : i ≡ suc k = omega arith in more) ∙ (counts_more t k m).0

overflows_by : (b : Bool) (t : Counters) (k i : ℕ) → i ≡ k + (if b then 1 else 0) → t.tma < 256
    → overflows t i ≡ overflows t k + (if b && (tima_after t k == 0xFF) then 1 else 0)
overflows_by false t k i e m =
    ap (λ j. overflows t j) (let same : i ≡ k = omega arith in same) ∙ (let zero : overflows t k ≡ overflows t k + 0 = omega arith in zero)
overflows_by true t k i e m = ap (λ j. overflows t j) (let more : i ≡ suc k = omega arith in more) ∙ (counts_more t k m).1

with_counters : (t : Counters) (c d x y : ℕ) → c ≡ d → x ≡ y
    → (let s : Counters = record t { counter = c; tima = x } in s) ≡ record t { counter = d; tima = y }
with_counters t c d x y e f = cc

-- advancing by n + 1 M-cycles is advancing by n, and by one M-cycle
advanced_next : (t : Counters) (n : ℕ) → t.counter < 16384 → t.tma < 256 → advanced t (suc n) ≡ ticked (advanced t n)
unfolding advanced ticked
advanced_next t n h m =
    with_counters t ((t.counter + suc n) % 16384) (((t.counter + n) % 16384 + 1) % 16384) _ _ (omega arith)
    (tima_by (is_counted_next (advanced t n)) t (counts t n) (counts t (suc n)) (counts_next t n h) m)

overflows_next_is : (t : Counters) (n : ℕ) → t.counter < 16384 → t.tma < 256
    → overflows t (counts t (suc n)) ≡ overflows t (counts t n) + overflows_next (advanced t n)
unfolding advanced overflows_next
overflows_next_is t n h m =
    overflows_by (is_counted_next (advanced t n)) t (counts t n) (counts t (suc n)) (counts_next t n h) m

counts_none : (t : Counters) → counts t 0 ≡ 0
unfolding counts
counts_none t = grind (arith, nat_tests)

advanced_none : (t : Counters) → t.counter < 16384 → t.tima < 256 → advanced t 0 ≡ t
unfolding advanced tima_after
advanced_none t h a =
    with_counters t ((t.counter + 0) % 16384) t.counter _ t.tima (omega arith) (grind (arith, nat_tests, counts_none t))

overflows_none : (t : Counters) → t.tima < 256 → overflows t (counts t 0) ≡ 0
unfolding overflows
overflows_none t a = grind (arith, nat_tests, counts_none t)

-- advancing by n M-cycles is n M-cycles, one by one
pub advanced_is : (t : Counters) (n : ℕ) → IsInRange t → advanced t n ≡ ticks t n
unfolding ticks
advanced_is t zero h = advanced_none t h.counter h.tima
advanced_is t (suc n) h = advanced_next t n h.counter h.tma ∙ ap ticked (advanced_is t n h)

pub overflows_is : (t : Counters) (n : ℕ) → IsInRange t → overflows t (counts t n) ≡ overflows_in t n
unfolding overflows_in
overflows_is t zero h = overflows_none t h.tima
overflows_is t (suc n) h =
    overflows_next_is t n h.counter h.tma
    ∙ ap (λ k. k + overflows_next (advanced t n)) (overflows_is t n h)
    ∙ ap (λ s. overflows_in t n + overflows_next s) (advanced_is t n h)
