-- When mode 3 of a line begins for the next time.
use Rattle.std.proofs.Common.{◌≡◌, ℕ, ◌+◌, ◌-◌, ◌*◌, ◌/◌, ◌%◌, ◌<◌, ◌≤◌, true, false, arith}
use Rattle.std.proofs.lemmas.Bool.Decides.{nat_tests}
use Rattle.gb_ppu.specs.Picture.{begins_drawing, IsNextDrawing}

begins : (x : ℕ) → x % 114 ≡ 20 → x / 114 < 144 → begins_drawing x ≡ true
unfolding begins_drawing
begins x column line = grind (arith, nat_tests)

pub begins-not : (x : ℕ) → (x % 114 ≡ 20 → 144 ≤ x / 114) → begins_drawing x ≡ false
unfolding begins_drawing
begins-not x not_here = grind (arith, nat_tests)

-- on this line
pub this-line : (position : ℕ) → position < 143 * 114 + 20 → position % 114 < 20 → IsNextDrawing position (20 - position % 114)
this-line position within column = record {
  later = omega arith;
  begins = begins _ (omega arith) (omega arith);
  first = λ j above below. begins-not _ (λ e. omega arith);
}

-- on the next one
pub next-line : (position : ℕ) → position < 143 * 114 + 20 → 20 ≤ position % 114 → IsNextDrawing position (114 - position % 114 + 20)
next-line position within column = record {
  later = omega arith;
  begins = begins _ (omega arith) (omega arith);
  first = λ j above below. begins-not _ (λ e. omega arith);
}

-- in the next frame
pub next-frame : (position : ℕ) → position < 17556 → 143 * 114 + 20 ≤ position → IsNextDrawing position (17556 - position + 20)
next-frame position within past = record {
  later = omega arith;
  begins = begins _ (omega arith) (omega arith);
  first = λ j above below. begins-not _ (λ e. omega arith);
}
