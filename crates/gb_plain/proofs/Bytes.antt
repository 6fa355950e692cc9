-- Lists of bytes, from their elements.
use Rattle.std.proofs.Common.{◌≡◌, ℕ, ◌<◌, List, [], ◌∷◌, true, refl, arith, length, slice_index}
use Rattle.std.proofs.lemmas.Bool.{lt-ltb}
use Rattle.gb_ops.specs.Machine.{is_bytes}

pub three_are : (xs : List ℕ) → length xs ≡ 3 → slice_index xs 0 < 256 → slice_index xs 1 < 256 → slice_index xs 2 < 256 → is_bytes 3 xs ≡ true
three_are [] n ha hb hc = absurd (omega (arith, n))
three_are (a ∷ []) n ha hb hc = absurd (omega (arith, n))
three_are (a ∷ b ∷ []) n ha hb hc = absurd (omega (arith, n))
three_are (a ∷ b ∷ c ∷ []) n ha hb hc = rw (lt-ltb a 256 ha, lt-ltb b 256 hb, lt-ltb c 256 hc) refl
three_are (a ∷ b ∷ c ∷ d ∷ xs) n ha hb hc = absurd (omega (arith, n))

pub two_are : (xs : List ℕ) → length xs ≡ 2 → slice_index xs 0 < 256 → slice_index xs 1 < 256 → is_bytes 2 xs ≡ true
two_are [] n ha hb = absurd (omega (arith, n))
two_are (a ∷ []) n ha hb = absurd (omega (arith, n))
two_are (a ∷ b ∷ []) n ha hb = rw (lt-ltb a 256 ha, lt-ltb b 256 hb) refl
two_are (a ∷ b ∷ c ∷ xs) n ha hb = absurd (omega (arith, n))
