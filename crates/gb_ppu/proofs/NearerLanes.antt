-- One lane of an object that is put on a line, and of what shows.
use Rattle.std.proofs.Common.{◌≡◌, ℕ, zero, suc, ◌*◌, ◌/◌, ◌%◌, ◌<◌, Bool, true, false, not, ◌&&◌, nat_lt, ◌==◌, if◌then◌else◌, cond, eqb, ltb, leb, bit_and, refl, ap, ◌∙◌, arith}
use Rattle.std.proofs.lemmas.Bool.Decides.{nat_tests}
use Rattle.gb_ppu.specs.Control.{bit, has_bit}
use Rattle.gb_ppu.specs.FrontLine.{own_x, nearer_x, nearer_pixel, styled, by_palette, over}
use Rattle.gb_ppu.proofs.LaneLaws.{same_bytes}

-- ---- the object in front

past_byte : (front : ℕ) → front < 256 → ltb 255 front ≡ false
past_byte front byte = grind (arith, nat_tests)

pub x_lane : (x colour front : ℕ) → front < 256 → cond (ltb (own_x x colour) front) (own_x x colour) front ≡ nearer_x x colour front
unfolding nearer_x
x_lane x colour front byte = go (eqb colour 0) refl
  where
    go : (clear : Bool) → eqb colour 0 ≡ clear
        → cond (ltb (cond clear 255 x) front) (cond clear 255 x) front ≡ (if not clear && nat_lt x front then x else front)
    go true e = rw (past_byte front byte) refl
    go false e = refl

pub pixel_lane : (x colour attributes front pixel : ℕ) → front < 256
    → cond (ltb (own_x x colour) front) (styled colour attributes) pixel ≡ nearer_pixel x colour attributes front pixel
unfolding nearer_pixel
pixel_lane x colour attributes front pixel byte = go (eqb colour 0) refl
  where
    go : (clear : Bool) → eqb colour 0 ≡ clear
        → cond (ltb (cond clear 255 x) front) (styled colour attributes) pixel ≡ (if not clear && nat_lt x front then styled colour attributes else pixel)
    go true e = rw (past_byte front byte) refl
    go false e = refl

-- ---- what shows

pub two_low : (byte : ℕ) → byte < 256 → bit_and byte 3 ≡ byte % 4
two_low byte less = same_bytes (λ b. bit_and b 3) (λ b. b % 4) tt byte less

bit_four : (byte : ℕ) → byte < 256 → bit_and byte 16 ≡ 16 * (byte / 16 % 2)
bit_four byte less = same_bytes (λ b. bit_and b 16) (λ b. 16 * (b / 16 % 2)) tt byte less

pub palette_lane : (byte first second : ℕ) → byte < 256 → cond (eqb (bit_and byte 16) 0) first second ≡ by_palette byte first second
unfolding by_palette has_bit bit
palette_lane byte first second less = rw (bit_four byte less) (go (byte / 16 % 2) (omega arith))
  where
    go : (b : ℕ) → b < 2 → cond (eqb (16 * b) 0) first second ≡ (if b == 1 then second else first)
    go zero small = refl
    go (suc zero) small = refl
    go (suc (suc b)) small = absurd (omega arith)

top_bit : (byte : ℕ) → byte < 256 → leb 128 byte ≡ has_bit 7 byte
unfolding has_bit bit
top_bit byte less = at_one (leb 128 byte) ∙ ap (λ b. eqb b 1) (same_bytes (λ b. cond (leb 128 b) 1 0) (λ b. b / 128 % 2) tt byte less)
  where
    at_one : (t : Bool) → t ≡ eqb (cond t 1 0) 1
    at_one true = refl
    at_one false = refl

pub over_lane : (colour byte below above : ℕ) → byte < 256
    → cond (eqb (byte % 4) 0) below (cond (eqb (cond (leb 128 byte) colour 0) 0) above below) ≡ over colour byte below above
unfolding over
over_lane colour byte below above less = rw (top_bit byte less) (ap (λ shown. cond (eqb (byte % 4) 0) below shown) (go (has_bit 7 byte)))
  where
    by_colour : (clear : Bool) → cond clear above below ≡ (if not clear then below else above)
    by_colour true = refl
    by_colour false = refl

    go : (behind : Bool) → cond (eqb (cond behind colour 0) 0) above below ≡ (if behind && not (colour == 0) then below else above)
    go true = by_colour (eqb colour 0)
    go false = refl
