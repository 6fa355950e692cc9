-- The picture's course (Pan Docs: Rendering; LCD Status; LCD Position and Scrolling; Window).
-- Own: mode 3 lasts 43 M-cycles on each line; a write of a register may raise STAT's request; line 0 begins as the LCD is turned on.
use Rattle.std.specs.Prelude.{ℕ, zero, suc, Bool, true, false, not, ◌&&◌, ◌||◌, ◌==◌, ◌+◌, ◌*◌, ◌/◌, ◌%◌, ◌<◌, ◌≡◌, if◌then◌else◌, nat_le, nat_lt, is_some}
use Rattle.gb_ppu.specs.declared.picture.Picture.{Picture}
use Rattle.gb_ppu.specs.declared.picture.Requests.{Requests}
use Rattle.gb_ppu.specs.declared.mode.Mode.{Mode}
use Rattle.gb_ppu.specs.declared.mode.Mode.TheVariants as mode
use Rattle.gb_ppu.specs.Window.{counted, kept, compared}
use Rattle.gb_ppu.specs.Control.{has_bit, is_on, has_background, has_window}

-- M-cycles of a line, lines that are drawn, and M-cycles of a frame of 154 lines
abbrev pub line_cycles : ℕ
line_cycles = 114

abbrev pub drawn_lines : ℕ
drawn_lines = 144

abbrev pub frame_cycles : ℕ
frame_cycles = 154 * line_cycles

-- LY; a picture that is off stands at the start of line 0
unfoldable pub line_of : Picture → ℕ
line_of p = p.position / line_cycles

-- the mode at a position of the frame
unfoldable pub mode_at : ℕ → Mode
mode_at position =
    if nat_le drawn_lines (position / line_cycles) then mode.VBlank
    else if nat_lt (position % line_cycles) 20 then mode.ObjectScan
    else if nat_lt (position % line_cycles) 63 then mode.Drawing
    else mode.HBlank

-- a picture that is off shows mode 0
unfoldable pub mode_of : Picture → Mode
mode_of p = if is_on p.lcdc then mode_at p.position else mode.HBlank

-- mode 3 of a drawn line begins at a position
unfoldable pub begins_drawing : ℕ → Bool
begins_drawing position = position % line_cycles == 20 && nat_lt (position / line_cycles) drawn_lines

-- a line begins
unfoldable pub line_begun : Picture → Picture
line_begun p = record p {
  window = compared (line_of p == p.wy) (kept (line_of p == 0) (counted p.shows_window p.window));
  shows_window = false;
}

-- mode 3 begins: the line shows the window or not
unfoldable pub drawing_begun : Picture → Picture
drawing_begun p = record p {
  shows_window = has_background p.lcdc && has_window p.lcdc && nat_le p.wx 166 && is_some p.window;
}

-- what happens at the position that was reached
unfoldable pub arrived : Picture → Picture
arrived p = if p.position % line_cycles == 0 then line_begun p else if begins_drawing p.position then drawing_begun p else p

-- one M-cycle
unfoldable pub ticked : Picture → Picture
ticked p = if is_on p.lcdc then arrived (record p { position = (p.position + 1) % frame_cycles }) else p

-- n M-cycles
unfoldable pub advanced : ℕ → Picture → Picture
advanced zero p = p
advanced (suc n) p = advanced n (ticked p)

-- STAT's source for a mode is chosen
abbrev pub chooses : ℕ → Mode → Bool
chooses stat mode.HBlank = has_bit 3 stat
chooses stat mode.VBlank = has_bit 4 stat
chooses stat mode.ObjectScan = has_bit 5 stat
chooses stat mode.Drawing = false

-- the OR of STAT's sources
unfoldable pub signal : Picture → Bool
signal p = is_on p.lcdc && (has_bit 6 p.stat && line_of p == p.lyc || chooses p.stat (mode_of p))

-- STAT's request comes as the OR rises
unfoldable pub rises : Picture → Picture → Bool
rises old new = not (signal old) && signal new

-- what one M-cycle requests; VBlank as line 144 begins
unfoldable pub requested : Picture → Requests
requested p = record {
  vblank = is_on p.lcdc && (ticked p).position == drawn_lines * line_cycles;
  stat = rises p (ticked p);
}

abbrev pub nothing : Requests
nothing = record { vblank = false; stat = false }

abbrev pub both : Requests → Requests → Requests
both a b = record { vblank = a.vblank || b.vblank; stat = a.stat || b.stat }

-- what n M-cycles request
unfoldable pub requested_in : ℕ → Picture → Requests
requested_in zero p = nothing
requested_in (suc n) p = both (requested p) (requested_in n (ticked p))

-- k M-cycles after a position mode 3 begins for the next time
pub record IsNextDrawing (position k : ℕ) : Type 0 where
  pub later : 0 < k
  pub begins : begins_drawing ((position + k) % frame_cycles) ≡ true
  pub first : (j : ℕ) → 0 < j → j < k → begins_drawing ((position + j) % frame_cycles) ≡ false
