-- What the console's memory bus holds (own: the whole of it as one record).
use Rattle.std.specs.Prelude.{ℕ, List}
use Rattle.gb_ops.specs.Memory.{View}
use Rattle.gb_mbc.specs.Clock.{ClockState}
use Rattle.gb_ppu.specs.Below.gb_timer.Timer.{Counters}
use Rattle.gb_ppu.specs.Below.gb_timer.Joypad.{Pad}
use Rattle.gb_ppu.specs.declared.picture.Picture.{Picture}

-- what the machine of the checker knows stands in the view: the cartridge, the controller's registers,
-- plain storage, the transfer's count and whether one starts
pub record Contents : Type 0 where
  pub view : View
  pub cartridge_ram : List ℕ
  pub clock : ClockState
  pub video_ram : List ℕ
  pub oam : List ℕ
  pub timer : Counters
  pub pad : Pad
  pub picture : Picture
  -- 144 lines of 160 shades
  pub screen : List (List ℕ)
  -- the five bits of IF
  pub requests : ℕ
  -- what was written to FF46 last
  pub page : ℕ
