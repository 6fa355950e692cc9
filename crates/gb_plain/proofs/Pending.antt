-- What is shared with IE is some of its bits.
use Rattle.std.proofs.Common.{◌≡◌, ℕ, ◌%◌, ◌<◌, bit_and, ap, ◌∙◌, arith, zero-add}
use Rattle.std.specs.Prelude.{bit_or}
use Rattle.std.proofs.lemmas.Nat.{and_assoc, and_or_self, or_shifted}

pub itself : (x : ℕ) → x < 32 → bit_and x x ≡ x
itself x h =
    let zero_or : bit_or 0 x ≡ x = or_shifted 0 5 x h ∙ zero-add x in
    rw zero_or at (and_or_self x 0)

pub some_bits : (p ie : ℕ) → bit_and (bit_and p (ie % 32)) (ie % 32) ≡ bit_and p (ie % 32)
some_bits p ie = and_assoc (ie % 32) p (ie % 32) ∙ ap (λ n. bit_and p n) (itself (ie % 32) (omega arith))
