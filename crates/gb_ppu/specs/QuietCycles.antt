-- How long nothing but the position changes, and how long nobody sees a change (own).
use Rattle.std.specs.Prelude.{◌≡◌, ◌≢◌, ℕ, ◌+◌, ◌-◌, ◌%◌, ◌<◌, ◌≤◌, true, false, if◌then◌else◌, nat_lt}
use Rattle.gb_ppu.specs.declared.picture.Picture.{Picture}
use Rattle.gb_ppu.specs.Control.{has_bit, is_on}
use Rattle.gb_ppu.specs.Picture.{line_cycles, frame_cycles, begins_drawing, requested_in, nothing}

-- M-cycles from a position on that reach neither a line's start nor another mode
unfoldable pub quiet_at : ℕ → ℕ
quiet_at position =
    let column = position % line_cycles in
    if nat_lt column 20 then 19 - column else if nat_lt column 63 then 62 - column else line_cycles - 1 - column

-- nothing but the position changes in n M-cycles
abbrev pub IsQuietFor : ℕ → Picture → Type 0
IsQuietFor n p = is_on p.lcdc ≡ true → n ≤ quiet_at p.position

-- STAT's sources for modes are not chosen
pub record HasNoModeSource (stat : ℕ) : Type 0 where
  pub blank : has_bit 3 stat ≡ false
  pub vblank : has_bit 4 stat ≡ false
  pub scan : has_bit 5 stat ≡ false

-- where no mode's source is chosen, a line's start requests nothing; line 154 is the next frame's first, and is left out
pub record IsUnheeded (stat lyc line : ℕ) : Type 0 where
  pub vblank : line ≢ 144
  pub first : line ≢ 154
  pub other : has_bit 6 stat ≡ true → line ≢ lyc

-- in n M-cycles nothing is requested and no line is drawn
pub record IsSilentFor (n : ℕ) (p : Picture) : Type 0 where
  pub silent : requested_in n p ≡ nothing
  pub undrawn : is_on p.lcdc ≡ true → (j : ℕ) → 0 < j → j ≤ n → begins_drawing ((p.position + j) % frame_cycles) ≡ false
