-- A frame M-cycle by M-cycle, whatever is written meanwhile, and the window's own line in it (Pan Docs: Rendering, Window).
-- Own: a frame begins as the LCD is turned on, too; whether a line shows the window is decided as its mode 3 begins.
use Rattle.std.specs.Prelude.{ℕ, Bool, true, false, ◌≡◌, ◌&&◌, ◌==◌, ◌+◌, ◌*◌, ◌/◌, ◌<◌, if◌then◌else◌, nat_le, nat_lt, Option, Some, None, count_by}
use Rattle.std.specs.List.{range_with_len, list_any}
use Rattle.gb_ppu.specs.declared.picture.Picture.{Picture}
use Rattle.gb_ppu.specs.declared.registers.LcdRegister.{LcdRegister}
use Rattle.gb_ppu.specs.Control.{is_on, has_background, has_window}
use Rattle.gb_ppu.specs.Picture.{line_cycles, drawn_lines, frame_cycles, ticked}
use Rattle.gb_ppu.specs.LcdRegisters.{lcdc_written, register_written}
use Rattle.gb_ppu.specs.PowerUp.{power_up}

-- a frame begins at power-up, after the last M-cycle of another, or as the LCD is turned on
pub data BeginsFrame : Picture → Type 0 where
  powered_up : BeginsFrame power_up
  followed : (p : Picture) → is_on p.lcdc ≡ true → p.position + 1 ≡ frame_cycles → BeginsFrame (ticked p)
  turned_on : (p : Picture) (value : ℕ) → is_on p.lcdc ≡ false → is_on value ≡ true → BeginsFrame (lcdc_written value p)

-- any number of writes that leave the LCD on
pub data IsWritten (old : Picture) : Picture → Type 0 where
  unwritten : IsWritten old old
  written : (p : Picture) (register : LcdRegister) (value : ℕ) → IsWritten old p → is_on (register_written register value p).lcdc ≡ true
      → IsWritten old (register_written register value p)

-- any number of writes that leave the LCD on, and then one M-cycle
pub record IsFollowed (old new : Picture) : Type 0 where
  pub left : Picture
  pub written : IsWritten old left
  pub passed : new ≡ ticked left

-- the first n M-cycles of a frame: frame k is the picture as k of them have passed
pub record IsFrame (frame : ℕ → Picture) (n : ℕ) : Type 0 where
  pub begins : BeginsFrame (frame 0)
  pub within : n < frame_cycles
  pub each : (k : ℕ) → k < n → IsFollowed (frame k) (frame (k + 1))

-- a picture stands in a frame: some of its M-cycles have passed, and then anything was written
pub record IsInFrame (p : Picture) : Type 0 where
  pub frame : ℕ → Picture
  pub cycles : ℕ
  pub so_far : IsFrame frame cycles
  pub written : IsWritten (frame cycles) p

-- a picture whose LCD is on stands in a frame
abbrev pub IsFramed : Picture → Type 0
IsFramed p = is_on p.lcdc ≡ true → IsInFrame p

-- LY equalled WY as line y began
unfoldable pub meets_wy : (ℕ → Picture) → ℕ → Bool
meets_wy frame y = y == (frame (line_cycles * y)).wy

-- LY equalled WY as line y of the frame began, or an earlier one
unfoldable pub has_met_wy : (ℕ → Picture) → ℕ → Bool
has_met_wy frame y = list_any (meets_wy frame) (range_with_len 0 (y + 1))

-- line y shows the window, by the registers as its mode 3 begins; the lines of VBlank have none
unfoldable pub shows_window : (ℕ → Picture) → ℕ → Bool
shows_window frame y =
    let p = frame (line_cycles * y + 20) in
    nat_lt y drawn_lines && has_background p.lcdc && has_window p.lcdc && nat_le p.wx 166 && has_met_wy frame y

-- the window's own line on line y: none before LY has met WY, then the number of earlier lines that showed the window
unfoldable pub window_line : (ℕ → Picture) → ℕ → Option ℕ
window_line frame y = if has_met_wy frame y then Some (count_by (shows_window frame) (range_with_len 0 y)) else None

-- the row of the window on the line where a picture stands, whatever frame led to it
abbrev pub IsWindowLine : Picture → Option ℕ → Type 0
IsWindowLine p row = (h : IsInFrame p) → row ≡ window_line h.frame (h.cycles / line_cycles)
