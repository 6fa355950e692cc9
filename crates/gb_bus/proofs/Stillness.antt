-- The console's memory over M-cycles in which neither the timer nor the picture changes anything else.
use Rattle.std.proofs.Common.{◌≡◌, ℕ, true, false, Bool, List, refl}
use Rattle.std.specs.Int.Bits.{or_zero_r}
use Rattle.gb_ppu.specs.Below.gb_timer.Timer as Timer
use Rattle.gb_ppu.specs.declared.picture.Picture.{Picture}
use Rattle.gb_ppu.specs.Control.{is_on}
use Rattle.gb_ppu.specs.Picture as Picture
use Rattle.gb_ppu.specs.QuietCycles.{IsSilentFor}
use Rattle.gb_devices.specs.Devices.{DeviceState, IsStill}
use Rattle.gb_bus.specs.Contents.{Contents}
use Rattle.gb_bus.specs.Screen.{screened, pictured}
use Rattle.gb_bus.specs.Access.{timed}
use Rattle.gb_bus.proofs.Screens.{screened-quiet, screened-off}

undrawn_by : (b : Bool) (n : ℕ) (p : Picture) (v o : List ℕ) (s : List (List ℕ)) → is_on p.lcdc ≡ b → IsSilentFor n p → screened n p v o s ≡ s
undrawn_by true n p v o s on silent = screened-quiet n p v o s on (silent.undrawn on)
undrawn_by false n p v o s off silent = screened-off n p v o s off

undrawn : (n : ℕ) (p : Picture) (v o : List ℕ) (s : List (List ℕ)) → IsSilentFor n p → screened n p v o s ≡ s
undrawn n p v o s silent = undrawn_by (is_on p.lcdc) n p v o s refl silent

abbrev pub devices_of : Contents → DeviceState
devices_of c = record { timer = c.timer; picture = c.picture }

-- only the timer and the picture's position change
pub passed_quietly : (c : Contents) (n : ℕ) → IsStill (devices_of c) n
    → pictured n (timed c n) ≡ record c { timer = Timer.advanced c.timer n; picture = Picture.advanced n c.picture }
unfolding pictured
passed_quietly c n h =
    rw (h.overflows, undrawn n c.picture c.video_ram c.oam c.screen h.quiet, h.quiet.silent, or_zero_r c.requests) refl
