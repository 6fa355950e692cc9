-- Powers of two up to 256, and congruence by them.
use Rattle.std.proofs.Common.{◌≡◌, ℕ, zero, suc, ◌+◌, ◌-◌, ◌*◌, ◌/◌, ◌%◌, ◌^◌, ◌<◌, ◌≤◌, sym, ◌∙◌, ap, subst, arith}
use Rattle.std.proofs.lemmas.Nat.{mod-pow-add, mod_low, field_of, mod_below, pow_pos}
use Rattle.std.proofs.Math.Pow.{pow_mono}
use Rattle.std.specs.Prelude.{min}
use Rattle.std.specs.Int.{bit_at}
use Rattle.gb_domain.specs.declared.low_bits.LowBits.{LowBits}
use Rattle.gb_domain.specs.LowBits.{modulus, low_bits}
use Rattle.gb_domain.specs.Meaning.{Has}

-- a fact about each count of low bits
pub each_count : (P : ℕ → Type 0) → P 0 → P 1 → P 2 → P 3 → P 4 → P 5 → P 6 → P 7 → P 8 → (n : ℕ) → n ≤ 8 → P n
each_count P a b c d e f g h i zero le = a
each_count P a b c d e f g h i (suc zero) le = b
each_count P a b c d e f g h i (suc (suc zero)) le = c
each_count P a b c d e f g h i (suc (suc (suc zero))) le = d
each_count P a b c d e f g h i (suc (suc (suc (suc zero)))) le = e
each_count P a b c d e f g h i (suc (suc (suc (suc (suc zero))))) le = f
each_count P a b c d e f g h i (suc (suc (suc (suc (suc (suc zero)))))) le = g
each_count P a b c d e f g h i (suc (suc (suc (suc (suc (suc (suc zero))))))) le = h
each_count P a b c d e f g h i (suc (suc (suc (suc (suc (suc (suc (suc zero)))))))) le = i
each_count P a b c d e f g h i (suc (suc (suc (suc (suc (suc (suc (suc (suc n))))))))) le = absurd (omega arith)

-- a fact about each modulus
pub each_modulus :
    (P : ℕ → Type 0) → P 1 → P 2 → P 4 → P 8 → P 16 → P 32 → P 64 → P 128 → P 256 → (n : ℕ) → P (modulus n)
unfolding modulus
each_modulus P a b c d e f g h i n = each_count (λ k. P (2 ^ k)) a b c d e f g h i (min n 8) (omega arith)

pub modulus_positive : (n : ℕ) → 0 < modulus n
unfolding modulus
modulus_positive n = pow_pos (min n 8)

pub modulus_bound : (n : ℕ) → modulus n ≤ 256
unfolding modulus
modulus_bound n = let le : min n 8 ≤ 8 = omega arith in pow_mono le

-- ---- congruence by fewer bits

-- a number leaves the same after a greater power was taken off
mod-mod : (n j x : ℕ) → x % 2 ^ (j + n) % 2 ^ n ≡ x % 2 ^ n
mod-mod n j x =
    ap (λ y. y % 2 ^ n) (mod-pow-add x j n) ∙ mod_low (x / 2 ^ n % 2 ^ j) n (x % 2 ^ n) (mod_below x (2 ^ n) (pow_pos n))

mod-of_mod : (n k x : ℕ) → n ≤ k → x % 2 ^ k % 2 ^ n ≡ x % 2 ^ n
mod-of_mod n k x le =
    let e : k - n + n ≡ k = omega arith in
    subst (λ m. x % 2 ^ m % 2 ^ n ≡ x % 2 ^ n) e (mod-mod n (k - n) x)

congruent_by_fewer : (n k x y : ℕ) → n ≤ k → x % 2 ^ k ≡ y % 2 ^ k → x % 2 ^ n ≡ y % 2 ^ n
congruent_by_fewer n k x y le h = sym (mod-of_mod n k x le) ∙ ap (λ z. z % 2 ^ n) h ∙ mod-of_mod n k y le

pub congruent-fewer : (n k x y : ℕ) → n ≤ k → x % modulus k ≡ y % modulus k → x % modulus n ≡ y % modulus n
unfolding modulus
congruent-fewer n k x y le h = congruent_by_fewer (min n 8) (min k 8) x y (omega arith) h

pub congruent-once : (n x : ℕ) → x % modulus n % modulus n ≡ x % modulus n
unfolding modulus
congruent-once n x = mod-of_mod (min n 8) (min n 8) x (omega arith)

-- a byte's wrap keeps its low bits
pub congruent-byte : (n x : ℕ) → x % 256 % modulus n ≡ x % modulus n
unfolding modulus
congruent-byte n x = mod-of_mod (min n 8) 8 x (omega arith)

-- ---- what has low bits

-- of eight low bits at most the count is the same
pub modulus-eight : (n : ℕ) → modulus (min n 8) ≡ modulus n
unfolding modulus
modulus-eight n = let e : min (min n 8) 8 ≡ min n 8 = omega arith in ap (λ k. 2 ^ k) e

pub Has-low_bits : (n x y : ℕ) → x % modulus n ≡ y % modulus n → Has (low_bits n y) x
unfolding low_bits
Has-low_bits n x y h =
    let e : modulus (min n 8) ≡ modulus n = modulus-eight n in
    record { same = ap (λ m. x % m) e ∙ h ∙ sym (congruent-once n y) ∙ sym (ap (λ m. y % modulus n % m) e) }

pub low_bits-Has : (n x y : ℕ) → Has (low_bits n y) x → x % modulus n ≡ y % modulus n
unfolding low_bits
low_bits-Has n x y h =
    let e : modulus (min n 8) ≡ modulus n = modulus-eight n in
    sym (ap (λ m. x % m) e) ∙ h.same ∙ ap (λ m. y % modulus n % m) e ∙ congruent-once n y

-- its first n low bits
pub Has-fewer : (n : ℕ) (k : LowBits) (x : ℕ) → n ≤ k.count → Has k x → x % modulus n ≡ k.bits % modulus n
Has-fewer n k x le h = congruent-fewer n k.count x k.bits le h.same

-- ---- single bits

bits_congruent : (n x y : ℕ) → ((i : ℕ) → i < n → bit_at x i ≡ bit_at y i) → x % 2 ^ n ≡ y % 2 ^ n
bits_congruent zero x y h = omega arith
bits_congruent (suc n) x y h =
    let low : x % 2 ^ n ≡ y % 2 ^ n = bits_congruent n x y (λ i lt. h i (omega arith)) in
    let top : bit_at x n ≡ bit_at y n = h n (omega arith) in
    let e : 1 + n ≡ suc n = omega arith in
    subst (λ m. x % 2 ^ m ≡ y % 2 ^ m) e
    (mod-pow-add x 1 n ∙ ap (λ b. b * 2 ^ n + x % 2 ^ n) top ∙ ap (λ r. bit_at y n * 2 ^ n + r) low ∙ sym (mod-pow-add y 1 n))

pub congruent-bits : (n x y : ℕ) → ((i : ℕ) → i < n → i < 8 → bit_at x i ≡ bit_at y i) → x % modulus n ≡ y % modulus n
unfolding modulus
congruent-bits n x y h = bits_congruent (min n 8) x y (λ i lt. h i (omega arith) (omega arith))

bit-congruent : (n i x y : ℕ) → i < n → x % 2 ^ n ≡ y % 2 ^ n → bit_at x i ≡ bit_at y i
bit-congruent n i x y lt h =
    let same : x % 2 ^ (1 + i) ≡ y % 2 ^ (1 + i) = congruent_by_fewer (1 + i) n x y (omega arith) h in
    sym (field_of x 1 i) ∙ ap (λ r. r / 2 ^ i) same ∙ field_of y 1 i

pub Has-bit : (k : LowBits) (i x : ℕ) → i < k.count → i < 8 → Has k x → bit_at x i ≡ bit_at k.bits i
unfolding modulus
Has-bit k i x lt byte h = bit-congruent (min k.count 8) i x k.bits (omega arith) h.same
