-- Low bits of bitwise operations are those of the machine's.
use Rattle.std.proofs.Common.{◌≡◌, ℕ, ◌+◌, ◌-◌, ◌%◌, ◌<◌, Bool, true, false, Option, Some, None, bit_and, bit_or, inl, inr, sym, ◌∙◌, ap, subst, arith}
use Rattle.std.proofs.lemmas.Bool.{and_parts, or_cases, eqb-true}
use Rattle.std.proofs.lemmas.Nat.Bits.{bit_at_and, bit_at_or, bit_at_xor, bit_at-lt}
use Rattle.std.specs.Prelude.{bit_xor, min, max}
use Rattle.std.specs.Int.{bit_at}
use Rattle.gb_domain.specs.declared.low_bits.LowBits.{LowBits}
use Rattle.gb_domain.specs.LowBits.{modulus, low_bits, all_of, count_passing}
use Rattle.gb_vals.specs.LowSums.{one_if}
use Rattle.gb_vals.specs.LowLogic.{is_bit, decides, is_known, known_bits, conjunction, disjunction, exclusion, complement, mask_of, reset_bit, set_bit, complemented, with_bit_reset, with_bit_set}
use Rattle.gb_domain.specs.Meaning.{Has}
use Rattle.gb_vals.specs.Congruence.{IsSound, IsSoundOfTwo}
use Rattle.gb_domain.proofs.ModulusLaws.{each_modulus, Has-low_bits, Has-bit, congruent-bits}
use Rattle.gb_domain.proofs.PassingLaws.{count_passing-passes}
use Rattle.gb_domain.proofs.LowBitsLaws.{below, Has-all_of}

-- ---- single bits

-- f is what the operation makes of two bits, and one bit decides alone
abbrev DecidesAlone : (ℕ → ℕ → ℕ) → Option Bool → Type 0
DecidesAlone f None = Unit {0}
DecidesAlone f (Some b) = (v : ℕ) → v < 2 → (f (one_if b) v ≡ one_if b) × (f v (one_if b) ≡ one_if b)

record IsBit (b : Bool) (k : LowBits) (i : ℕ) : Type 0 where
  has : i < k.count
  bit : bit_at k.bits i ≡ one_if b

IsBit-from : (b : Bool) (k : LowBits) (i : ℕ) → is_bit b k i ≡ true → IsBit b k i
IsBit-from b k i h =
    let p = and_parts _ _ h in
    record { has = below i k.count p.0; bit = eqb-true (bit_at k.bits i) (one_if b) p.1 }

-- a bit of the first operand decides
first-decides :
    (f : ℕ → ℕ → ℕ) (deciding : Option Bool) (j : LowBits) (i u v q : ℕ)
    → DecidesAlone f deciding → decides deciding j i ≡ true
    → (i < j.count → u ≡ bit_at j.bits i) → v < 2 → q < 2 → f u v ≡ f (bit_at j.bits i) q
first-decides f None j i u v q alone d h s t = cc
first-decides f (Some b) j i u v q alone d h s t =
    let bit = IsBit-from b j i d in
    let e : u ≡ one_if b = h bit.has ∙ bit.bit in
    ap (λ z. f z v) e ∙ (alone v s).0 ∙ sym (alone q t).0 ∙ ap (λ z. f z q) (sym bit.bit)

second-decides :
    (f : ℕ → ℕ → ℕ) (deciding : Option Bool) (k : LowBits) (i u v p : ℕ)
    → DecidesAlone f deciding → decides deciding k i ≡ true
    → (i < k.count → v ≡ bit_at k.bits i) → u < 2 → p < 2 → f u v ≡ f p (bit_at k.bits i)
second-decides f None k i u v p alone d h s t = cc
second-decides f (Some b) k i u v p alone d h s t =
    let bit = IsBit-from b k i d in
    let e : v ≡ one_if b = h bit.has ∙ bit.bit in
    ap (λ z. f u z) e ∙ (alone u s).1 ∙ sym (alone p t).1 ∙ ap (λ z. f p z) (sym bit.bit)

-- where the result's bit is known, any two bytes with the low bits give it
bit-known :
    (f : ℕ → ℕ → ℕ) (deciding : Option Bool) (j k : LowBits) (i x y : ℕ)
    → DecidesAlone f deciding → is_known deciding j k i ≡ true → i < 8 → Has j x → Has k y
    → f (bit_at x i) (bit_at y i) ≡ f (bit_at j.bits i) (bit_at k.bits i)
unfolding is_known
bit-known f deciding j k i x y alone known byte h g = elim (or_cases _ _ known) [
  | inl left ↦ elim (or_cases _ _ left) [
    | inl both ↦
        (let p = and_parts _ _ both in
        let e : bit_at x i ≡ bit_at j.bits i = Has-bit j i x (below i j.count p.0) byte h in
        let d : bit_at y i ≡ bit_at k.bits i = Has-bit k i y (below i k.count p.1) byte g in
        ap (λ z. f z (bit_at y i)) e ∙ ap (λ z. f (bit_at j.bits i) z) d)
    | inr first ↦
        first-decides f deciding j i (bit_at x i) (bit_at y i) (bit_at k.bits i) alone first
        (λ has. Has-bit j i x has byte h) (bit_at-lt y i) (bit_at-lt k.bits i)
  ]
  | inr second ↦
      second-decides f deciding k i (bit_at x i) (bit_at y i) (bit_at j.bits i) alone second
      (λ has. Has-bit k i y has byte g) (bit_at-lt x i) (bit_at-lt j.bits i)
]

-- an operation bit by bit
abbrev IsBitwise : (ℕ → ℕ → ℕ) → (ℕ → ℕ → ℕ) → Type 0
IsBitwise machine f = (x y i : ℕ) → bit_at (machine x y) i ≡ f (bit_at x i) (bit_at y i)

Has-bitwise :
    (machine f : ℕ → ℕ → ℕ) (deciding : Option Bool) (j k : LowBits) (x y : ℕ)
    → IsBitwise machine f → DecidesAlone f deciding → Has j x → Has k y
    → Has (low_bits (known_bits deciding j k) (machine j.bits k.bits)) (machine x y)
unfolding known_bits
Has-bitwise machine f deciding j k x y bitwise alone h g =
    Has-low_bits (count_passing (is_known deciding j k)) (machine x y) (machine j.bits k.bits)
    (congruent-bits (count_passing (is_known deciding j k)) (machine x y) (machine j.bits k.bits)
    (λ i lt byte.
    let known : is_known deciding j k i ≡ true = count_passing-passes (is_known deciding j k) i lt in
    bitwise x y i ∙ bit-known f deciding j k i x y alone known byte h g ∙ sym (bitwise j.bits k.bits i)))

-- ---- AND, OR and XOR

zero-decides : DecidesAlone min (Some false)
zero-decides v h = (omega arith, omega arith)

one-decides : DecidesAlone max (Some true)
one-decides v h = (omega arith, omega arith)

pub Has-conjunction : (j k : LowBits) (x y : ℕ) → Has j x → Has k y → Has (conjunction j k) (bit_and x y)
unfolding conjunction
Has-conjunction j k x y = Has-bitwise bit_and min (Some false) j k x y bit_at_and zero-decides

pub Has-disjunction : (j k : LowBits) (x y : ℕ) → Has j x → Has k y → Has (disjunction j k) (bit_or x y)
unfolding disjunction
Has-disjunction j k x y = Has-bitwise bit_or max (Some true) j k x y bit_at_or one-decides

pub Has-exclusion : (j k : LowBits) (x y : ℕ) → Has j x → Has k y → Has (exclusion j k) (bit_xor x y)
unfolding exclusion
Has-exclusion j k x y = Has-bitwise bit_xor (λ u v. (u + v) % 2) None j k x y bit_at_xor tt

pub conjunction_sound : (j k o : LowBits) → o ≡ conjunction j k → IsSoundOfTwo bit_and j k o
conjunction_sound j k o e = subst (λ r. IsSoundOfTwo bit_and j k r) (sym e) (record { gives = λ x y s t. Has-conjunction j k x y })

pub disjunction_sound : (j k o : LowBits) → o ≡ disjunction j k → IsSoundOfTwo bit_or j k o
disjunction_sound j k o e = subst (λ r. IsSoundOfTwo bit_or j k r) (sym e) (record { gives = λ x y s t. Has-disjunction j k x y })

pub exclusion_sound : (j k o : LowBits) → o ≡ exclusion j k → IsSoundOfTwo bit_xor j k o
exclusion_sound j k o e = subst (λ r. IsSoundOfTwo bit_xor j k r) (sym e) (record { gives = λ x y s t. Has-exclusion j k x y })

-- ---- RES and SET

pub reset_bit_sound : (n : ℕ) (k o : LowBits) → o ≡ reset_bit n k → IsSound (with_bit_reset n) k o
unfolding reset_bit
reset_bit_sound n k o e =
    subst (λ r. IsSound (with_bit_reset n) k r) (sym e)
    (record { gives = λ x b h. Has-conjunction k (all_of (255 - mask_of n)) x (255 - mask_of n) h (Has-all_of (255 - mask_of n)) })

pub set_bit_sound : (n : ℕ) (k o : LowBits) → o ≡ set_bit n k → IsSound (with_bit_set n) k o
unfolding set_bit
set_bit_sound n k o e =
    subst (λ r. IsSound (with_bit_set n) k r) (sym e)
    (record { gives = λ x b h. Has-disjunction k (all_of (mask_of n)) x (mask_of n) h (Has-all_of (mask_of n)) })

-- ---- CPL

abbrev KeepsComplements : ℕ → Type 0
KeepsComplements m = (x p : ℕ) → x < 256 → p < 256 → x % m ≡ p % m → (255 - x) % m ≡ (255 - p) % m

congruent-complement : (n : ℕ) → KeepsComplements (modulus n)
congruent-complement =
    each_modulus KeepsComplements (λ x p s t e. omega arith) (λ x p s t e. omega arith) (λ x p s t e. omega arith)
    (λ x p s t e. omega arith) (λ x p s t e. omega arith) (λ x p s t e. omega arith)
    (λ x p s t e. omega arith) (λ x p s t e. omega arith) (λ x p s t e. omega arith)

pub complement_sound : (k o : LowBits) → o ≡ complement k → k.bits < 256 → IsSound complemented k o
unfolding complement
complement_sound k o e byte =
    subst (λ r. IsSound complemented k r) (sym e)
    (record { gives = λ x small h. Has-low_bits k.count (255 - x) (255 - k.bits) (congruent-complement k.count x k.bits small byte h.same) })
