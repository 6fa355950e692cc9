-- Low bits of sums and differences are those of the machine's.
use Rattle.std.proofs.Common.{◌≡◌, ℕ, ◌+◌, ◌-◌, ◌*◌, ◌/◌, ◌%◌, ◌<◌, ◌≤◌, Bool, true, false, Option, Some, None, nat_lt, cond, refl, sym, ◌∙◌, ap, subst, arith}
use Rattle.std.proofs.lemmas.Bool.Decides.{nat_tests}
use Rattle.std.specs.Prelude.{min}
use Rattle.gb_domain.specs.declared.low_bits.LowBits.{LowBits}
use Rattle.gb_domain.specs.LowBits.{modulus, no_low_bits}
use Rattle.gb_vals.specs.LowSums.{one_if, sum, difference, incremented, decremented, high_incremented, high_decremented}
use Rattle.gb_domain.specs.Meaning.{Has}
use Rattle.gb_vals.specs.Congruence.{MayBe, IsSound, IsSoundOfSum, IsSoundOfHigh, added, subtracted, next_byte, previous_byte, next_word, previous_word}
use Rattle.gb_domain.proofs.ModulusLaws.{each_modulus, Has-low_bits, Has-fewer, congruent-byte}

-- ---- congruence of sums

abbrev KeepsSums : ℕ → Type 0
KeepsSums m = (x y p q c : ℕ) → x % m ≡ p % m → y % m ≡ q % m → (x + y + c) % m ≡ (p + q + c) % m

congruent-sum : (n : ℕ) → KeepsSums (modulus n)
congruent-sum =
    each_modulus KeepsSums (λ x y p q c e f. omega arith) (λ x y p q c e f. omega arith) (λ x y p q c e f. omega arith)
    (λ x y p q c e f. omega arith) (λ x y p q c e f. omega arith) (λ x y p q c e f. omega arith)
    (λ x y p q c e f. omega arith) (λ x y p q c e f. omega arith) (λ x y p q c e f. omega arith)

abbrev KeepsSteps : ℕ → Type 0
KeepsSteps m = (x p c : ℕ) → x % m ≡ p % m → (x + c) % m ≡ (p + c) % m

congruent-step : (n : ℕ) → KeepsSteps (modulus n)
congruent-step =
    each_modulus KeepsSteps (λ x p c e. omega arith) (λ x p c e. omega arith) (λ x p c e. omega arith)
    (λ x p c e. omega arith) (λ x p c e. omega arith) (λ x p c e. omega arith)
    (λ x p c e. omega arith) (λ x p c e. omega arith) (λ x p c e. omega arith)

abbrev KeepsDifferences : ℕ → Type 0
KeepsDifferences m =
    (x y p q c : ℕ)
    → y < 256 → q < 256 → c < 2 → x % m ≡ p % m → y % m ≡ q % m → (x + 512 - (y + c)) % m ≡ (p + 256 - (q + c)) % m

congruent-difference : (n : ℕ) → KeepsDifferences (modulus n)
congruent-difference =
    each_modulus KeepsDifferences (λ x y p q c s t u e f. omega arith) (λ x y p q c s t u e f. omega arith)
    (λ x y p q c s t u e f. omega arith) (λ x y p q c s t u e f. omega arith) (λ x y p q c s t u e f. omega arith)
    (λ x y p q c s t u e f. omega arith) (λ x y p q c s t u e f. omega arith) (λ x y p q c s t u e f. omega arith)
    (λ x y p q c s t u e f. omega arith)

carry-small : (c : Bool) → one_if c < 2
carry-small true = omega arith
carry-small false = omega arith

pub Has-nothing : (x : ℕ) → Has no_low_bits x
unfolding modulus
Has-nothing x = record { same = one x }
  where
    one : (x : ℕ) → x % 1 ≡ 0
    one x = omega arith

Has-sum : (j k : LowBits) (carry : Option Bool) (x y : ℕ) (c : Bool) → MayBe carry c → Has j x → Has k y → Has (sum j k carry) (added x y (one_if c))
unfolding sum
Has-sum j k None x y c m h i = Has-nothing _
Has-sum j k (Some d) x y c m h i =
    let n = min j.count k.count in
    let first : x % modulus n ≡ j.bits % modulus n = Has-fewer n j x (omega arith) h in
    let second : y % modulus n ≡ k.bits % modulus n = Has-fewer n k y (omega arith) i in
    Has-low_bits n (added x y (one_if c)) (j.bits + k.bits + one_if d)
    (congruent-byte n (x + y + one_if c)
    ∙ congruent-sum n x y j.bits k.bits (one_if c) first second
    ∙ ap (λ b. (j.bits + k.bits + one_if b) % modulus n) m)

pub sum_sound : (j k : LowBits) (carry : Option Bool) (o : LowBits) → o ≡ sum j k carry → IsSoundOfSum added j k carry o
sum_sound j k carry o e =
    subst (λ r. IsSoundOfSum added j k carry r) (sym e) (record { gives = λ x y c s t. Has-sum j k carry x y c })

Has-difference :
    (j k : LowBits) (borrow : Option Bool) (x y : ℕ) (c : Bool)
    → k.bits < 256 → y < 256 → MayBe borrow c → Has j x → Has k y → Has (difference j k borrow) (subtracted x y (one_if c))
unfolding difference
Has-difference j k None x y c s t m h i = Has-nothing _
Has-difference j k (Some d) x y c s t m h i =
    let n = min j.count k.count in
    let first : x % modulus n ≡ j.bits % modulus n = Has-fewer n j x (omega arith) h in
    let second : y % modulus n ≡ k.bits % modulus n = Has-fewer n k y (omega arith) i in
    Has-low_bits n (subtracted x y (one_if c)) (j.bits + 256 - (k.bits + one_if d))
    (congruent-byte n (x + 512 - (y + one_if c))
    ∙ congruent-difference n x y j.bits k.bits (one_if c) t s (carry-small c) first second
    ∙ ap (λ b. (j.bits + 256 - (k.bits + one_if b)) % modulus n) m)

pub difference_sound :
    (j k : LowBits) (borrow : Option Bool) (o : LowBits) → o ≡ difference j k borrow → k.bits < 256 → IsSoundOfSum subtracted j k borrow o
difference_sound j k borrow o e byte =
    subst (λ r. IsSoundOfSum subtracted j k borrow r) (sym e) (record { gives = λ x y c s t. Has-difference j k borrow x y c byte t })

-- ---- INC and DEC

Has-incremented : (k : LowBits) (x : ℕ) → Has k x → Has (incremented k) (next_byte x)
unfolding incremented
Has-incremented k x h =
    Has-low_bits k.count (next_byte x) (k.bits + 1)
    (congruent-byte k.count (x + 1) ∙ congruent-step k.count x k.bits 1 h.same)

pub incremented_sound : (k o : LowBits) → o ≡ incremented k → IsSound next_byte k o
incremented_sound k o e = subst (λ r. IsSound next_byte k r) (sym e) (record { gives = λ x b. Has-incremented k x })

Has-decremented : (k : LowBits) (x : ℕ) → Has k x → Has (decremented k) (previous_byte x)
unfolding decremented
Has-decremented k x h =
    Has-low_bits k.count (previous_byte x) (k.bits + 255)
    (congruent-byte k.count (x + 255) ∙ congruent-step k.count x k.bits 255 h.same)

pub decremented_sound : (k o : LowBits) → o ≡ decremented k → IsSound previous_byte k o
decremented_sound k o e = subst (λ r. IsSound previous_byte k r) (sym e) (record { gives = λ x b. Has-decremented k x })

-- ---- the high byte of a pair

next-high : (high low : ℕ) → high < 256 → low < 255 → next_word (high * 256 + low) / 256 ≡ high
next-high high low h l = omega arith

previous-high : (high low : ℕ) → high < 256 → 0 < low → low < 256 → previous_word (high * 256 + low) / 256 ≡ high
previous-high high low h z l = omega arith

below : (i n : ℕ) → nat_lt i n ≡ true → i < n
below i n h = grind (arith, nat_tests)

Has-high_incremented :
    (k : LowBits) (most high low : ℕ)
    → high < 256 → low ≤ most → Has k high → Has (high_incremented k most) (next_word (high * 256 + low) / 256)
unfolding high_incremented
Has-high_incremented k most high low byte le h = choose (nat_lt most 255) refl
  where
    choose : (b : Bool) → nat_lt most 255 ≡ b → Has (cond b k no_low_bits) (next_word (high * 256 + low) / 256)
    choose true e =
        let small : most < 255 = below most 255 e in
        subst (λ z. Has k z) (sym (next-high high low byte (omega arith))) h
    choose false e = Has-nothing _

pub high_incremented_sound : (k : LowBits) (most : ℕ) (o : LowBits) → o ≡ high_incremented k most → IsSoundOfHigh next_word 0 most k o
high_incremented_sound k most o e =
    subst (λ r. IsSoundOfHigh next_word 0 most k r) (sym e) (record { gives = λ high low byte least. Has-high_incremented k most high low byte })

Has-high_decremented :
    (k : LowBits) (least high low : ℕ)
    → high < 256 → least ≤ low → low ≤ 255 → Has k high → Has (high_decremented k least) (previous_word (high * 256 + low) / 256)
unfolding high_decremented
Has-high_decremented k least high low byte ge le h = choose (nat_lt 0 least) refl
  where
    choose : (b : Bool) → nat_lt 0 least ≡ b → Has (cond b k no_low_bits) (previous_word (high * 256 + low) / 256)
    choose true e =
        let some : 0 < least = below 0 least e in
        subst (λ z. Has k z) (sym (previous-high high low byte (omega arith) (omega arith))) h
    choose false e = Has-nothing _

pub high_decremented_sound : (k : LowBits) (least : ℕ) (o : LowBits) → o ≡ high_decremented k least → IsSoundOfHigh previous_word least 255 k o
high_decremented_sound k least o e =
    subst (λ r. IsSoundOfHigh previous_word least 255 k r) (sym e) (record { gives = Has-high_decremented k least })
