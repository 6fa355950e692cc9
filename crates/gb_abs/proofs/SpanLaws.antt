-- The addresses of a span, and those of them that count.
use Rattle.std.proofs.Common.{◌≡◌, ℕ, ◌≤◌, Bool, true, false, ◌&&◌, ◌==◌, refl, sym, ◌∙◌, ap, arith}
use Rattle.std.proofs.lemmas.Bool.{eqb-true}
use Rattle.std.proofs.lemmas.Bool.Decides.{nat_tests}
use Rattle.gb_ops.specs.Cartridge.{is_within}
use Rattle.gb_domain.specs.declared.low_bits.LowBits.{LowBits}
use Rattle.gb_domain.specs.LowBits.{modulus, no_low_bits, are_congruent}
use Rattle.gb_domain.specs.Meaning.{Has}
use Rattle.gb_abs.specs.declared.span.Span.{Span}
use Rattle.gb_abs.specs.Span.{IsIn, counts, one}

pub Has-none : (a : ℕ) → Has no_low_bits a
unfolding modulus
Has-none a = record { same = omega arith }

pub IsIn-alone : (a : ℕ) → IsIn (one a) a
IsIn-alone a = record { first = omega arith; last = omega arith; low = Has-none a }

is_and : (b c : Bool) → b ≡ true → c ≡ true → (b && c) ≡ true
is_and true true e f = refl
is_and false c e f = cc
is_and true false e f = cc

within_of : (first last a : ℕ) → first ≤ a → a ≤ last → is_within first last a ≡ true
within_of first last a low high = grind (arith, nat_tests)

same_test : (n m : ℕ) → n ≡ m → (n == m) ≡ true
same_test n m e = grind (arith, nat_tests)

congruent_of : (k : LowBits) (a : ℕ) → Has k a → are_congruent k.count a k.bits ≡ true
unfolding are_congruent
congruent_of k a h = same_test _ _ h.same

-- an address of the span counts
pub counts-in : (span : Span) (a : ℕ) → IsIn span a → counts span a ≡ true
counts-in span a i = is_and _ _ (within_of span.first span.last a i.first i.last) (congruent_of span.low a i.low)

true_false : {X : Type 0} → true ≡ false → X
true_false e = absurd cc

-- an address that doesn't count is none of the span
pub apart-from : (span : Span) (a b : ℕ) → IsIn span a → counts span b ≡ false → (b == a) ≡ false
apart-from span a b i none = choose (b == a) refl
  where
    choose : (t : Bool) → (b == a) ≡ t → (b == a) ≡ false
    choose true e =
        let same : b ≡ a = eqb-true b a e in
        true_false (sym (counts-in span a i) ∙ (ap (λ n. counts span n) (sym same) ∙ none))
    choose false e = e
