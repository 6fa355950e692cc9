-- Low bits of shifts are those of the machine's.
use Rattle.std.proofs.Common.{◌≡◌, ℕ, ◌+◌, ◌-◌, ◌*◌, ◌/◌, ◌%◌, ◌≤◌, sym, ◌∙◌, subst, arith}
use Rattle.std.specs.Prelude.{min}
use Rattle.gb_domain.specs.declared.low_bits.LowBits.{LowBits}
use Rattle.gb_domain.specs.LowBits.{modulus}
use Rattle.gb_vals.specs.LowShifts.{doubled, halved, swapped}
use Rattle.gb_domain.specs.Meaning.{Has}
use Rattle.gb_vals.specs.Congruence.{IsSound, IsSoundOfDigit, shifted_left, shifted_right, with_digits_swapped}
use Rattle.gb_domain.proofs.ModulusLaws.{each_count, Has-low_bits, congruent-byte, modulus-eight}

-- ---- SLA

abbrev KeepsDoubles : ℕ → Type 0
KeepsDoubles n = (x p : ℕ) → x % modulus n ≡ p % modulus n → x * 2 % modulus (n + 1) ≡ p * 2 % modulus (n + 1)

congruent-double : (n : ℕ) → n ≤ 8 → KeepsDoubles n
unfolding modulus
congruent-double =
    each_count KeepsDoubles (λ x p e. omega arith) (λ x p e. omega arith) (λ x p e. omega arith)
    (λ x p e. omega arith) (λ x p e. omega arith) (λ x p e. omega arith)
    (λ x p e. omega arith) (λ x p e. omega arith) (λ x p e. omega arith)

Has-eight : (k : LowBits) (x : ℕ) → Has k x → x % modulus (min k.count 8) ≡ k.bits % modulus (min k.count 8)
Has-eight k x h = subst (λ m. x % m ≡ k.bits % m) (sym (modulus-eight k.count)) h.same

Has-doubled : (k : LowBits) (x : ℕ) → Has k x → Has (doubled k) (shifted_left x)
unfolding doubled
Has-doubled k x h =
    let n = min k.count 8 in
    Has-low_bits (n + 1) (shifted_left x) (k.bits * 2)
    (congruent-byte (n + 1) (x * 2) ∙ congruent-double n (omega arith) x k.bits (Has-eight k x h))

pub doubled_sound : (k o : LowBits) → o ≡ doubled k → IsSound shifted_left k o
doubled_sound k o e = subst (λ r. IsSound shifted_left k r) (sym e) (record { gives = λ x b. Has-doubled k x })

-- ---- SRL

abbrev KeepsHalves : ℕ → Type 0
KeepsHalves n = (x p : ℕ) → x % modulus n ≡ p % modulus n → x / 2 % modulus (n - 1) ≡ p / 2 % modulus (n - 1)

congruent-half : (n : ℕ) → n ≤ 8 → KeepsHalves n
unfolding modulus
congruent-half =
    each_count KeepsHalves (λ x p e. omega arith) (λ x p e. omega arith) (λ x p e. omega arith)
    (λ x p e. omega arith) (λ x p e. omega arith) (λ x p e. omega arith)
    (λ x p e. omega arith) (λ x p e. omega arith) (λ x p e. omega arith)

Has-halved : (k : LowBits) (x : ℕ) → Has k x → Has (halved k) (shifted_right x)
unfolding halved
Has-halved k x h =
    let n = min k.count 8 in
    Has-low_bits (n - 1) (shifted_right x) (k.bits / 2) (congruent-half n (omega arith) x k.bits (Has-eight k x h))

pub halved_sound : (k o : LowBits) → o ≡ halved k → IsSound shifted_right k o
halved_sound k o e = subst (λ r. IsSound shifted_right k r) (sym e) (record { gives = λ x b. Has-halved k x })

-- ---- SWAP

abbrev KeepsDigits : ℕ → Type 0
KeepsDigits n =
    (x p high : ℕ)
    → x / 16 ≡ high % 16 → x % modulus n ≡ p % modulus n
    → (x % 16 * 16 + x / 16) % modulus (min n 4 + 4) ≡ (p % 16 * 16 + high % 16) % modulus (min n 4 + 4)

congruent-digits : (n : ℕ) → n ≤ 8 → KeepsDigits n
unfolding modulus
congruent-digits =
    each_count KeepsDigits (λ x p h d e. omega arith) (λ x p h d e. omega arith) (λ x p h d e. omega arith)
    (λ x p h d e. omega arith) (λ x p h d e. omega arith) (λ x p h d e. omega arith)
    (λ x p h d e. omega arith) (λ x p h d e. omega arith) (λ x p h d e. omega arith)

Has-swapped : (high : ℕ) (k : LowBits) (x : ℕ) → x / 16 ≡ high % 16 → Has k x → Has (swapped high k) (with_digits_swapped x)
unfolding swapped
Has-swapped high k x digit h =
    let e : min (min k.count 8) 4 ≡ min k.count 4 = omega arith in
    Has-low_bits (min k.count 4 + 4) (with_digits_swapped x) (k.bits % 16 * 16 + high % 16)
    (subst
    (λ n. (x % 16 * 16 + x / 16) % modulus (n + 4) ≡ (k.bits % 16 * 16 + high % 16) % modulus (n + 4)) e
    (congruent-digits (min k.count 8) (omega arith) x k.bits high digit (Has-eight k x h)))

pub swapped_sound : (high : ℕ) (k o : LowBits) → o ≡ swapped high k → IsSoundOfDigit with_digits_swapped high k o
swapped_sound high k o e =
    subst (λ r. IsSoundOfDigit with_digits_swapped high k r) (sym e) (record { gives = λ x b digit. Has-swapped high k x digit })
