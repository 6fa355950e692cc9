-- Words of version 4, cut to their low bits.
use Rattle.std.proofs.Common.{◌≡◌, ℕ, ◌+◌, ◌*◌, ◌/◌, ◌%◌, ◌<◌, Bool, true, false, cond, Some, refl, sym, ◌∙◌, subst, arith}
use Rattle.gb_ops.specs.declared.op.Pair.{Pair}
use Rattle.gb_ops.specs.declared.op.Pair.TheVariants as pair
use Rattle.gb_domain.specs.declared.types.Val.{Val}
use Rattle.gb_domain.specs.declared.types.Halves.{Halves}
use Rattle.gb_domain.specs.declared.low_bits.LowBits.{LowBits}
use Rattle.gb_domain.specs.LowBits.{no_low_bits}
use Rattle.gb_domain.specs.Meaning.{Has}
use Rattle.gb_abs.specs.Below.gb_vals.LowShifts.{doubled}
use Rattle.gb_abs.specs.Below.gb_vals.LowSums.{sum, incremented, decremented, high_incremented, high_decremented}
use Rattle.gb_abs.specs.Below.gb_vals.Strided.{low_of, cut_to}
use Rattle.gb_abs.proofs.Below.gb_vals_laws.CuttingLaws.{Has-low_of, In-cut_to, cut_to-origin}
use Rattle.gb_abs.proofs.Below.gb_vals_laws.LowShiftLaws.{doubled_sound}
use Rattle.gb_abs.proofs.Below.gb_vals_laws.LowSumLaws.{sum_sound, incremented_sound, decremented_sound, high_incremented_sound, high_decremented_sound, Has-nothing}
use Rattle.gb_abs.specs.Meaning.{Activation, Holds}
use Rattle.gb_abs_effects.specs.Pairs.{is_word_known, next_word, previous_word, word_sum, cut_word, next_word_by, previous_word_by, summed_low_bits, word_sum_by}
use Rattle.gb_abs_effects.proofs.CoreLaws.{In-from}
use Rattle.gb_abs_effects.proofs.PairLaws.{HoldsWord, HoldsWord-next, HoldsWord-previous, HoldsWord-sum}

-- ---- cutting

Holds-cut : (k : LowBits) (v : Val) (entry : Activation) (n : ℕ) → Holds v entry n → Has k n → Holds (cut_to k v) entry n
Holds-cut k v entry n h has =
    let m = In-cut_to k v n (In-from v entry n h) has in
    record { least = m.least; most = m.most; low = m.low; origin = λ o e. h.origin o (sym (cut_to-origin k v) ∙ e) }

HoldsWord-cut :
    (high low : LowBits) (w : Halves) (entry : Activation) (n : ℕ)
    → HoldsWord w entry n → Has high (n / 256) → Has low (n % 256) → HoldsWord (cut_word high low w) entry n
HoldsWord-cut high low w entry n h p q =
    record { high = Holds-cut high w.high entry (n / 256) h.high p; low = Holds-cut low w.low entry (n % 256) h.low q }

-- the bytes of a word have the low bits of what it is held by
Has-high : (w : Halves) (entry : Activation) (n : ℕ) → HoldsWord w entry n → Has (low_of w.high) (n / 256)
Has-high w entry n h = Has-low_of w.high (n / 256) (In-from w.high entry (n / 256) h.high)

Has-low : (w : Halves) (entry : Activation) (n : ℕ) → HoldsWord w entry n → Has (low_of w.low) (n % 256)
Has-low w entry n h = Has-low_of w.low (n % 256) (In-from w.low entry (n % 256) h.low)

byte : (n : ℕ) → n % 256 < 256
byte n = omega arith

high-byte : (n : ℕ) → n < 65536 → n / 256 < 256
high-byte n h = omega arith

whole-word : (n : ℕ) → n / 256 * 256 + n % 256 ≡ n
whole-word n = omega arith

-- ---- INC and DEC of a pair

next-low : (n : ℕ) → (n % 256 + 1) % 256 ≡ (n + 1) % 65536 % 256
next-low n = omega arith

previous-low : (n : ℕ) → (n % 256 + 255) % 256 ≡ (n + 65535) % 65536 % 256
previous-low n = omega arith

pub HoldsWord-next_by :
    (whole : Bool) (w : Halves) (entry : Activation) (n : ℕ)
    → n < 65536 → HoldsWord w entry n → HoldsWord (next_word_by whole w) entry ((n + 1) % 65536)
unfolding next_word_by
HoldsWord-next_by false w entry n small h = HoldsWord-next w entry n small h
HoldsWord-next_by true w entry n small h =
    let high = high_incremented (low_of w.high) w.low.hi in
    let low = incremented (low_of w.low) in
    let top : Has high ((n + 1) % 65536 / 256) =
    subst (λ m. Has high ((m + 1) % 65536 / 256)) (whole-word n)
    ((high_incremented_sound (low_of w.high) w.low.hi high refl).gives (n / 256) (n % 256) (high-byte n small) (omega arith) h.low.most (Has-high w entry n h)) in
    let bottom : Has low ((n + 1) % 65536 % 256) =
    subst (λ m. Has low m) (next-low n)
    ((incremented_sound (low_of w.low) low refl).gives (n % 256) (byte n) (Has-low w entry n h)) in
    HoldsWord-cut high low (next_word w) entry ((n + 1) % 65536) (HoldsWord-next w entry n small h) top bottom

pub HoldsWord-previous_by :
    (whole : Bool) (w : Halves) (entry : Activation) (n : ℕ)
    → n < 65536 → HoldsWord w entry n → HoldsWord (previous_word_by whole w) entry ((n + 65535) % 65536)
unfolding previous_word_by
HoldsWord-previous_by false w entry n small h = HoldsWord-previous w entry n small h
HoldsWord-previous_by true w entry n small h =
    let high = high_decremented (low_of w.high) w.low.lo in
    let low = decremented (low_of w.low) in
    let top : Has high ((n + 65535) % 65536 / 256) =
    subst (λ m. Has high ((m + 65535) % 65536 / 256)) (whole-word n)
    ((high_decremented_sound (low_of w.high) w.low.lo high refl).gives (n / 256) (n % 256) (high-byte n small) h.low.least (omega arith) (Has-high w entry n h)) in
    let bottom : Has low ((n + 65535) % 65536 % 256) =
    subst (λ m. Has low m) (previous-low n)
    ((decremented_sound (low_of w.low) low refl).gives (n % 256) (byte n) (Has-low w entry n h)) in
    HoldsWord-cut high low (previous_word w) entry ((n + 65535) % 65536) (HoldsWord-previous w entry n small h) top bottom

-- ---- ADD HL

summed-low : (m n : ℕ) → (m % 256 + n % 256 + 0) % 256 ≡ (m + n) % 65536 % 256
summed-low m n = omega arith

doubled-low : (m : ℕ) → m % 256 * 2 % 256 ≡ (m + m) % 65536 % 256
doubled-low m = omega arith

Has-sum : (v w : Halves) (entry : Activation) (m n : ℕ) → HoldsWord v entry m → HoldsWord w entry n
    → Has (sum (low_of v.low) (low_of w.low) (Some false)) ((m + n) % 65536 % 256)
Has-sum v w entry m n h k =
    let low = sum (low_of v.low) (low_of w.low) (Some false) in
    subst (λ x. Has low x) (summed-low m n)
    ((sum_sound (low_of v.low) (low_of w.low) (Some false) low refl).gives (m % 256) (n % 256) false (byte m) (byte n) refl (Has-low v entry m h) (Has-low w entry n k))

Has-summed :
    (which : Pair) (v w : Halves) (entry : Activation) (m n : ℕ)
    → (which ≡ pair.Hl → n ≡ m) → HoldsWord v entry m → HoldsWord w entry n → Has (summed_low_bits which v w) ((m + n) % 65536 % 256)
Has-summed pair.Bc v w entry m n same h k = Has-sum v w entry m n h k
Has-summed pair.De v w entry m n same h k = Has-sum v w entry m n h k
Has-summed pair.Hl v w entry m n same h k =
    let low = doubled (low_of v.low) in
    subst (λ z. Has low ((m + z) % 65536 % 256)) (sym (same refl))
    (subst (λ x. Has low x) (doubled-low m) ((doubled_sound (low_of v.low) low refl).gives (m % 256) (byte m) (Has-low v entry m h)))
Has-summed pair.Sp v w entry m n same h k = choose (is_word_known w)
  where
    choose : (b : Bool) → Has (cond b (sum (low_of v.low) (low_of w.low) (Some false)) no_low_bits) ((m + n) % 65536 % 256)
    choose true = Has-sum v w entry m n h k
    choose false = Has-nothing _

pub HoldsWord-sum_by :
    (whole : Bool) (which : Pair) (v w : Halves) (entry : Activation) (m n : ℕ)
    → (which ≡ pair.Hl → n ≡ m) → HoldsWord v entry m → HoldsWord w entry n → HoldsWord (word_sum_by whole which v w) entry ((m + n) % 65536)
unfolding word_sum_by
HoldsWord-sum_by false which v w entry m n same h k = HoldsWord-sum v w entry m n h k
HoldsWord-sum_by true which v w entry m n same h k =
    HoldsWord-cut no_low_bits (summed_low_bits which v w) (word_sum v w) entry ((m + n) % 65536) (HoldsWord-sum v w entry m n h k) (Has-nothing _) (Has-summed which v w entry m n same h k)
