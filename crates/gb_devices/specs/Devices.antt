-- The timer and the picture as M-cycles pass (own: both as one record).
use Rattle.std.specs.Prelude.{◌≡◌, ℕ}
use Rattle.gb_ppu.specs.Below.gb_timer.Timer.{Counters, IsInRange, counts, overflows}
use Rattle.gb_ppu.specs.Below.gb_timer.Timer as Timer
use Rattle.gb_ppu.specs.declared.picture.Picture.{Picture}
use Rattle.gb_ppu.specs.Picture as Picture
use Rattle.gb_ppu.specs.QuietCycles.{IsSilentFor}
use Rattle.gb_ppu.specs.WellFormed.{IsWellFormed}

pub record DeviceState : Type 0 where
  pub timer : Counters
  pub picture : Picture

-- after n M-cycles
unfoldable pub after : DeviceState → ℕ → DeviceState
after d n = record { timer = Timer.advanced d.timer n; picture = Picture.advanced n d.picture }

-- in n M-cycles nothing overflows, is requested or drawn
pub record IsStill (d : DeviceState) (n : ℕ) : Type 0 where
  pub overflows : overflows d.timer (counts d.timer n) ≡ 0
  pub quiet : IsSilentFor n d.picture
  pub range : IsInRange d.timer
  pub formed : IsWellFormed d.picture
