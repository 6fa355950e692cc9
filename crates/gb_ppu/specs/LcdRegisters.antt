-- The picture's registers (Pan Docs: LCD Control; LCD Status; LCD Position and Scrolling; Palettes).
-- Own: LY is compared with WY as the LCD is turned on.
use Rattle.std.specs.Prelude.{ℕ, false, ◌==◌, ◌+◌, ◌*◌, ◌/◌, ◌%◌, if◌then◌else◌, None}
use Rattle.gb_ppu.specs.declared.picture.Picture.{Picture}
use Rattle.gb_ppu.specs.declared.picture.Requests.{Requests}
use Rattle.gb_ppu.specs.declared.mode.Mode.{Mode}
use Rattle.gb_ppu.specs.declared.mode.Mode.TheVariants as mode
use Rattle.gb_ppu.specs.declared.registers.LcdRegister.{LcdRegister}
use Rattle.gb_ppu.specs.declared.registers.LcdRegister.TheVariants as register
use Rattle.gb_ppu.specs.Control.{is_on}
use Rattle.gb_ppu.specs.Picture.{line_of, mode_of, line_begun, rises}

abbrev pub mode_number : Mode → ℕ
mode_number mode.HBlank = 0
mode_number mode.VBlank = 1
mode_number mode.ObjectScan = 2
mode_number mode.Drawing = 3

-- bit 7 reads as 1; bit 2 says that LY is LYC, also while the picture is off
unfoldable pub stat_read : Picture → ℕ
stat_read p = 0x80 + p.stat + (if line_of p == p.lyc then 4 else 0) + mode_number (mode_of p)

abbrev pub register_read : LcdRegister → Picture → ℕ
register_read register.Lcdc p = p.lcdc
register_read register.Stat p = stat_read p
register_read register.Scy p = p.scy
register_read register.Scx p = p.scx
register_read register.Ly p = line_of p
register_read register.Lyc p = p.lyc
register_read register.Bgp p = p.bgp
register_read register.Obp0 p = p.obp0
register_read register.Obp1 p = p.obp1
register_read register.Wy p = p.wy
register_read register.Wx p = p.wx

-- turned off, the picture stands at the start of line 0, without a window; turned on, line 0 begins
unfoldable pub lcdc_written : ℕ → Picture → Picture
lcdc_written value p =
    if is_on value
    then (if is_on p.lcdc then record p { lcdc = value } else line_begun (record p { lcdc = value; position = 0 }))
    else record p { lcdc = value; position = 0; window = None; shows_window = false }

-- of STAT bits 6 to 3 are written; a write of LY does nothing
abbrev pub register_written : LcdRegister → ℕ → Picture → Picture
register_written register.Lcdc value p = lcdc_written value p
register_written register.Stat value p = record p { stat = 8 * (value / 8 % 16) }
register_written register.Scy value p = record p { scy = value }
register_written register.Scx value p = record p { scx = value }
register_written register.Ly value p = p
register_written register.Lyc value p = record p { lyc = value }
register_written register.Bgp value p = record p { bgp = value }
register_written register.Obp0 value p = record p { obp0 = value }
register_written register.Obp1 value p = record p { obp1 = value }
register_written register.Wy value p = record p { wy = value }
register_written register.Wx value p = record p { wx = value }

-- what a write requests
unfoldable pub requested_by : Picture → Picture → Requests
requested_by old new = record { vblank = false; stat = rises old new }
