-- Keys that stay held request nothing.
use Rattle.std.proofs.Common.{◌≡◌, Bool, true, false, not, ◌&&◌, refl}
use Rattle.gb_timer.specs.Joypad.{Pad, is_low, is_requested}

never : (b : Bool) → (not b && b) ≡ false
never true = refl
never false = refl

pub unchanged : (p : Pad) → is_requested p p ≡ false
unfolding is_requested
unchanged p = rw (never (is_low p 0), never (is_low p 1), never (is_low p 2), never (is_low p 3)) refl
