-- Fewer low bits, common ones, and covering.
use Rattle.std.proofs.Common.{◌≡◌, ℕ, ◌%◌, ◌<◌, ◌≤◌, Bool, true, nat_lt, nat_le, refl, sym, ◌∙◌, subst, arith}
use Rattle.std.proofs.lemmas.Bool.{and_parts, eqb-true}
use Rattle.std.proofs.lemmas.Bool.Decides.{nat_tests}
use Rattle.std.specs.Prelude.{min}
use Rattle.std.specs.Int.{bit_at}
use Rattle.gb_domain.specs.declared.low_bits.LowBits.{LowBits}
use Rattle.gb_domain.specs.LowBits.{modulus, all_of, fewer, common, are_congruent, covers, is_common, count_passing}
use Rattle.gb_domain.specs.Meaning.{Has, IsPartOf}
use Rattle.gb_domain.proofs.ModulusLaws.{Has-low_bits, Has-fewer, Has-bit, congruent-bits, congruent-fewer}
use Rattle.gb_domain.proofs.PassingLaws.{count_passing-passes}

pub below : (i n : ℕ) → nat_lt i n ≡ true → i < n
below i n h = grind (arith, nat_tests)

pub at_most : (i n : ℕ) → nat_le i n ≡ true → i ≤ n
at_most i n h = grind (arith, nat_tests)

-- ---- fewer

Has-of_fewer : (n : ℕ) (k : LowBits) (x : ℕ) → Has k x → Has (fewer n k) x
unfolding fewer
Has-of_fewer n k x h = Has-low_bits (min n k.count) x k.bits (Has-fewer (min n k.count) k x (omega arith) h)

pub fewer_sound : (n : ℕ) (k o : LowBits) → o ≡ fewer n k → IsPartOf k o
fewer_sound n k o e = subst (λ r. IsPartOf k r) (sym e) (record { gives = Has-of_fewer n k })

-- ---- a known byte

pub Has-all_of : (x : ℕ) → Has (all_of x) x
unfolding all_of
Has-all_of x = Has-low_bits 8 x x refl

pub all_of_sound : (x : ℕ) (o : LowBits) → o ≡ all_of x → Has o x
all_of_sound x o e = subst (λ r. Has r x) (sym e) (Has-all_of x)

-- ---- common ones

record IsCommon (j k : LowBits) (i : ℕ) : Type 0 where
  first : i < j.count
  second : i < k.count
  same : bit_at j.bits i ≡ bit_at k.bits i

IsCommon-counted : (j k : LowBits) (i : ℕ) → i < count_passing (is_common j k) → IsCommon j k i
unfolding is_common
IsCommon-counted j k i lt =
    let both = and_parts _ _ (count_passing-passes (is_common j k) i lt) in
    let has = and_parts _ _ both.0 in
    record { first = below i j.count has.0; second = below i k.count has.1; same = eqb-true (bit_at j.bits i) (bit_at k.bits i) both.1 }

Has-common_first : (j k : LowBits) (x : ℕ) → Has j x → Has (common j k) x
unfolding common
Has-common_first j k x h =
    Has-low_bits (count_passing (is_common j k)) x j.bits
    (congruent-bits (count_passing (is_common j k)) x j.bits (λ i lt byte. Has-bit j i x (IsCommon-counted j k i lt).first byte h))

Has-common_second : (j k : LowBits) (x : ℕ) → Has k x → Has (common j k) x
unfolding common
Has-common_second j k x h =
    Has-low_bits (count_passing (is_common j k)) x j.bits
    (congruent-bits (count_passing (is_common j k)) x j.bits
    (λ i lt byte.
    let c = IsCommon-counted j k i lt in
    Has-bit k i x c.second byte h ∙ sym c.same))

pub common_first : (j k o : LowBits) → o ≡ common j k → IsPartOf j o
common_first j k o e = subst (λ r. IsPartOf j r) (sym e) (record { gives = Has-common_first j k })

pub common_second : (j k o : LowBits) → o ≡ common j k → IsPartOf k o
common_second j k o e = subst (λ r. IsPartOf k r) (sym e) (record { gives = Has-common_second j k })

-- ---- covering

pub Has-covered : (j k : LowBits) (x : ℕ) → covers j k ≡ true → Has j x → Has k x
unfolding covers are_congruent
Has-covered j k x c h =
    let p = and_parts _ _ c in
    record {
      same =
          congruent-fewer k.count j.count x j.bits (at_most k.count j.count p.0) h.same
          ∙ eqb-true (j.bits % modulus k.count) (k.bits % modulus k.count) p.1;
    }

pub covers_sound : (j k : LowBits) (o : Bool) → o ≡ covers j k → o ≡ true → IsPartOf j k
covers_sound j k o e h = record { gives = λ x. Has-covered j k x (sym e ∙ h) }
