-- The fields of version 4: what is read is spelled so, and what is spelled so is read.
use Rattle.std.proofs.Common.{◌≡◌, ℕ, ◌+◌, ◌-◌, ◌*◌, ◌/◌, ◌%◌, ◌<◌, ◌≤◌, Bool, true, false, ◌||◌, ◌==◌, nat_le, nat_lt, List, [], ◌∷◌, Option, Some, None, refl, ◌∙◌, ap, if◌then◌else◌, arith}
use Rattle.std.proofs.lemmas.Bool.Decides.{nat_tests}
use Rattle.gb_fields.specs.declared.fault.CertFault.TheVariants as fault
use Rattle.gb_domain.specs.declared.types.Origin.{Origin}
use Rattle.gb_domain.specs.declared.types.Origin.TheVariants as origin
use Rattle.gb_domain.specs.declared.types.KeptBanks.{KeptBanks}
use Rattle.gb_domain.specs.declared.types.Val.{Val}
use Rattle.gb_domain.specs.Values.{is_strided}
use Rattle.gb_fields.specs.Format.{byte}
use Rattle.gb_fields.specs.Reading.{is_between, is_ordered, byte_between}
use Rattle.gb_states.specs.WholeRules.{kept_for, is_origin_in, IsValIn}
use Rattle.gb_states.specs.WholeReading.{origin_of, is_origin_number, is_tag, to_val, val_at, to_kept, kept_at}
use Rattle.gb_states.specs.Spelling as simple
use Rattle.gb_states.specs.WholeSpelling as spelled
use Rattle.gb_states.proofs.Formats.{IsFormat, IsFormat-byte, IsFormat-both, IsFormat-checked, IsFormat-onto, IsFormat-mapped, IsFormat-as}
use Rattle.gb_states.proofs.FieldLaws.{le_is, is_le, is_within, all_below, below, same, flag_small, one-flag, spelled_byte, IsFormat-byte_between}

-- ---- values

-- the most that a procedure must name for a number below 32
abbrev kept_by : ℕ → ℕ
kept_by n = if nat_lt n 12 || (n == 28 || n == 29) then 0 else n - 11

number-origin : (n : ℕ) → n < 32 → spelled.origin_number (origin_of n) ≡ n
unfolding all_below
number-origin n h = same _ _ (below 32 (λ c. spelled.origin_number (origin_of c) == c) refl n h)

kept-number : (n : ℕ) → n < 32 → kept_for (origin_of n) ≡ kept_by n
unfolding all_below
kept-number n h = same _ _ (below 32 (λ c. kept_for (origin_of c) == kept_by c) refl n h)

named-enough : (kept n : ℕ) → is_origin_number kept n ≡ true → nat_le (kept_by n) kept ≡ true
named-enough kept n h = grind (arith, nat_tests)

-- a byte that is kept
kept-again : (i : ℕ) → i < 16 → origin_of (12 + i) ≡ Some (origin.Kept i)
unfolding all_below
kept-again i h = by (number i h)
  where
    index : Option Origin → ℕ
    index (Some (origin.Kept j)) = j + 1
    index _ = 0

    number : (i : ℕ) → i < 16 → index (origin_of (12 + i)) ≡ i + 1
    number i h = same _ _ (below 16 (λ c. index (origin_of (12 + c)) == c + 1) refl i h)

    is : (o : Option Origin) → index o ≡ i + 1 → o ≡ Some (origin.Kept i)
    is None e = absurd (omega (arith, e))
    is (Some (origin.Kept j)) e = let f : j ≡ i = omega (arith, e) in ap (λ k. Some (origin.Kept k)) f
    is (Some origin.A) e = absurd (omega (arith, e))
    is (Some origin.F) e = absurd (omega (arith, e))
    is (Some origin.B) e = absurd (omega (arith, e))
    is (Some origin.C) e = absurd (omega (arith, e))
    is (Some origin.D) e = absurd (omega (arith, e))
    is (Some origin.E) e = absurd (omega (arith, e))
    is (Some origin.H) e = absurd (omega (arith, e))
    is (Some origin.L) e = absurd (omega (arith, e))
    is (Some origin.Ie) e = absurd (omega (arith, e))
    is (Some origin.ReturnHigh) e = absurd (omega (arith, e))
    is (Some origin.ReturnLow) e = absurd (omega (arith, e))
    is (Some origin.MarkHigh) e = absurd (omega (arith, e))
    is (Some origin.MarkLow) e = absurd (omega (arith, e))

    by : index (origin_of (12 + i)) ≡ i + 1 → origin_of (12 + i) ≡ Some (origin.Kept i)
    by e = is (origin_of (12 + i)) e

-- An origin is read again, and its number is one.
record IsNumbered (kept : ℕ) (o : Option Origin) : Type 0 where
  again : origin_of (spelled.origin_number o) ≡ o
  small : spelled.origin_number o < 32
  number : is_origin_number kept (spelled.origin_number o) ≡ true

small_number : (kept n : ℕ) → n < 12 → is_origin_number kept n ≡ true
small_number kept n h = grind (arith, nat_tests)

kept_number : (kept i : ℕ) → nat_le (i + 1) kept ≡ true → is_origin_number kept (12 + i) ≡ true
kept_number kept i h = grind (arith, nat_tests)

mark_number : (b c d : Bool) → (c || d) ≡ true → (b || (c || d)) ≡ true
mark_number true c d h = refl
mark_number false c d h = h

numbered : (kept : ℕ) (o : Option Origin) → kept ≤ 16 → is_origin_in kept o ≡ true → IsNumbered kept o
numbered kept None few h = record { again = refl; small = omega arith; number = small_number kept 0 (omega arith) }
numbered kept (Some origin.A) few h = record { again = refl; small = omega arith; number = small_number kept 1 (omega arith) }
numbered kept (Some origin.F) few h = record { again = refl; small = omega arith; number = small_number kept 2 (omega arith) }
numbered kept (Some origin.B) few h = record { again = refl; small = omega arith; number = small_number kept 3 (omega arith) }
numbered kept (Some origin.C) few h = record { again = refl; small = omega arith; number = small_number kept 4 (omega arith) }
numbered kept (Some origin.D) few h = record { again = refl; small = omega arith; number = small_number kept 5 (omega arith) }
numbered kept (Some origin.E) few h = record { again = refl; small = omega arith; number = small_number kept 6 (omega arith) }
numbered kept (Some origin.H) few h = record { again = refl; small = omega arith; number = small_number kept 7 (omega arith) }
numbered kept (Some origin.L) few h = record { again = refl; small = omega arith; number = small_number kept 8 (omega arith) }
numbered kept (Some origin.Ie) few h = record { again = refl; small = omega arith; number = small_number kept 9 (omega arith) }
numbered kept (Some origin.ReturnHigh) few h = record { again = refl; small = omega arith; number = small_number kept 10 (omega arith) }
numbered kept (Some origin.ReturnLow) few h = record { again = refl; small = omega arith; number = small_number kept 11 (omega arith) }
numbered kept (Some origin.MarkHigh) few h = record { again = refl; small = omega arith; number = mark_number (nat_lt 28 (12 + kept)) (28 == 28) (28 == 29) refl }
numbered kept (Some origin.MarkLow) few h = record { again = refl; small = omega arith; number = mark_number (nat_lt 29 (12 + kept)) (29 == 28) (29 == 29) refl }
numbered kept (Some (origin.Kept i)) few h =
    let below_kept : i + 1 ≤ kept = le_is (i + 1) kept h in
    let below_sixteen : i < 16 = omega (arith, below_kept, few) in
    record { again = kept-again i below_sixteen; small = omega (arith, below_sixteen); number = kept_number kept i h }

from_val : Val → (ℕ × ℕ) × ℕ
from_val v = ((v.lo, v.hi), spelled.tag v)

-- bytes in order, and a tag
abbrev IsTagged : ℕ → (ℕ × ℕ) × ℕ → Type 0
IsTagged kept p = (((p.0.0 < 256) × (p.0.1 < 256)) × (nat_le p.0.0 p.0.1 ≡ true)) × ((p.1 < 256) × (is_tag kept p.1 ≡ true))

-- a value but for what its low bits must be
record IsTaggedVal (kept : ℕ) (v : Val) : Type 0 where
  order : v.lo ≤ v.hi
  hi : v.hi < 256
  few : v.low_bits < 8
  origin : is_origin_in kept v.origin ≡ true

tag_same : (n : ℕ) (m : ℕ) → m ≡ n % 32 → 32 * (n / 32) + m ≡ n
tag_same n m e = omega (arith, e)

val-there : (kept : ℕ) (p : (ℕ × ℕ) × ℕ) → IsTagged kept p → (from_val (to_val p) ≡ p) × IsTaggedVal kept (to_val p)
unfolding from_val
val-there kept p h =
    let low : p.1 % 32 < 32 = omega arith in (
      ap (λ (n : ℕ). (let q : (ℕ × ℕ) × ℕ = (p.0, n) in q)) (tag_same p.1 (spelled.origin_number (origin_of (p.1 % 32))) (number-origin (p.1 % 32) low)),
      record {
        order = le_is p.0.0 p.0.1 h.0.1;
        hi = h.0.0.1;
        few = omega (arith, h.1.0);
        origin = ap (λ n. nat_le n kept) (kept-number (p.1 % 32) low) ∙ named-enough kept (p.1 % 32) h.1.1;
      },
    )

tag-parts : (n m : ℕ) → m < 32 → ((32 * n + m) % 32 ≡ m) × ((32 * n + m) / 32 ≡ n)
tag-parts n m h = (omega arith, omega arith)

-- so is its value, by its bytes
pub tagged-again : (kept : ℕ) (v : Val) → kept ≤ 16 → v.low_bits < 8 → is_origin_in kept v.origin ≡ true → to_val ((v.lo, v.hi), spelled.tag v) ≡ v
tagged-again kept v few bits named =
    let o = numbered kept v.origin few named in
    let t = tag-parts v.low_bits (spelled.origin_number v.origin) o.small in
    made _ v.low_bits _ v.origin t.1 (ap origin_of t.0 ∙ o.again)
  where
    made : (n m : ℕ) (a b : Option Origin) → n ≡ m → a ≡ b → (let w : Val = record { lo = v.lo; hi = v.hi; low_bits = n; origin = a } in w) ≡ record { lo = v.lo; hi = v.hi; low_bits = m; origin = b }
    made n m a b e f = rw (e, f) refl

val-again : (kept : ℕ) → kept ≤ 16 → (v : Val) → IsTaggedVal kept v → IsTagged kept (from_val v) × (to_val (from_val v) ≡ v)
unfolding from_val
val-again kept few v h =
    let o = numbered kept v.origin few h.origin in
    let t = tag-parts v.low_bits (spelled.origin_number v.origin) o.small in
    let n = o.small in
    let k = h.few in
    ((((omega (arith, h.order, h.hi), h.hi), is_le v.lo v.hi h.order), (omega (arith, n, k), ap (is_origin_number kept) t.0 ∙ o.number)), tagged-again kept v few h.few h.origin)

pub strided_few : (v : Val) → is_strided v ≡ true → v.low_bits < 8
strided_few v h = grind (arith, nat_tests)

pub IsFormat-val : (kept : ℕ) → kept ≤ 16 → IsFormat (val_at kept) spelled.val (IsValIn kept)
unfolding val_at from_val spelled.val
IsFormat-val kept few =
    IsFormat-as (val_at kept) spelled.val (λ v. IsTaggedVal kept v × (is_strided v ≡ true)) (IsValIn kept)
    (λ v h. record { val = record { order = h.0.order; hi = h.0.hi; strided = h.1 }; origin = h.0.origin })
    (λ v h. (record { order = h.val.order; hi = h.val.hi; few = strided_few v h.val.strided; origin = h.origin }, h.val.strided))
    (IsFormat-checked fault.Field is_strided _ spelled.val (IsTaggedVal kept)
    (IsFormat-onto to_val from_val _ _ (IsTagged kept) (IsTaggedVal kept) (val-there kept) (val-again kept few)
    (IsFormat-both _ _ _ _ _ _ (IsFormat-checked fault.Field is_ordered _ _ _ (IsFormat-both byte byte _ _ _ _ IsFormat-byte IsFormat-byte)) (IsFormat-checked fault.Field (is_tag kept) byte spelled_byte (λ b. b < 256) IsFormat-byte))))

-- ---- which registers of the controller are kept

bits-number : (a b c d e : ℕ) → a ≤ 1 → b ≤ 1 → c ≤ 1 → d ≤ 1 → e ≤ 1 → (n : ℕ) → n ≡ 16 * e + 8 * d + 4 * c + 2 * b + a → (n % 2 ≡ a) × (n / 2 % 2 ≡ b) × (n / 4 % 2 ≡ c) × (n / 8 % 2 ≡ d) × (n / 16 % 2 ≡ e) × (n ≤ 31)
bits-number a b c d e a1 b1 c1 d1 e1 n e0 = (omega arith, omega arith, omega arith, omega arith, omega arith, omega arith)

abbrev kept : Bool → Bool → Bool → Bool → Bool → KeptBanks
kept a b c d e = record { bank = a; second = b; gate = c; mode = d; high_bank = e }

kept-same : (a b c d e a2 b2 c2 d2 e2 : Bool) → a ≡ a2 → b ≡ b2 → c ≡ c2 → d ≡ d2 → e ≡ e2 → kept a b c d e ≡ kept a2 b2 c2 d2 e2
kept-same a b c d e a2 b2 c2 d2 e2 ea eb ec ed ee = rw (ea, eb, ec, ed, ee) refl

pub banks-again : (k : KeptBanks) → (to_kept (spelled.kept_number k) ≡ k) × (spelled.kept_number k ≤ 31)
banks-again k =
    let n : ℕ = spelled.kept_number k in
    let b = bits-number (simple.flag k.bank) (simple.flag k.second) (simple.flag k.gate) (simple.flag k.mode) (simple.flag k.high_bank) (flag_small k.bank) (flag_small k.second) (flag_small k.gate) (flag_small k.mode) (flag_small k.high_bank) n refl in
    (kept-same (n % 2 == 1) (n / 2 % 2 == 1) (n / 4 % 2 == 1) (n / 8 % 2 == 1) (n / 16 % 2 == 1) k.bank k.second k.gate k.mode k.high_bank (one-flag _ k.bank b.0) (one-flag _ k.second b.1) (one-flag _ k.gate b.2) (one-flag _ k.mode b.3) (one-flag _ k.high_bank b.4), b.5)

number-banks : (n : ℕ) → (n < 256) × (is_between 0 31 n ≡ true) → spelled.kept_number (to_kept n) ≡ n
unfolding all_below
number-banks n h = same _ _ (below 32 (λ c. spelled.kept_number (to_kept c) == c) refl n (high n h.1))
  where
    high : (n : ℕ) → is_between 0 31 n ≡ true → n < 32
    high n h = grind (arith, nat_tests)

abbrev pub spelled_kept : KeptBanks → List ℕ
spelled_kept k = spelled.kept_number k ∷ []

pub IsFormat-kept : IsFormat kept_at spelled_kept (λ k. Unit {0})
unfolding kept_at
IsFormat-kept =
    IsFormat-as kept_at spelled_kept (λ k. (spelled.kept_number k < 256) × (is_between 0 31 (spelled.kept_number k) ≡ true)) (λ k. Unit {0}) (λ k h. tt)
    (λ k h. let small = (banks-again k).1 in (omega (arith, small), is_within 31 (spelled.kept_number k) small))
    (IsFormat-mapped to_kept spelled.kept_number (byte_between 0 31) spelled_byte _ number-banks (λ k h. (banks-again k).0) (IsFormat-byte_between 0 31))
