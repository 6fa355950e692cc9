-- What each picture keeps (own: consequences of how it goes on, from power-up).
use Rattle.std.specs.Prelude.{false, ◌<◌, ◌/◌, ◌≤◌, ◌≡◌}
use Rattle.std.specs.Option.{ForSome}
use Rattle.gb_ppu.specs.declared.picture.Picture.{Picture}
use Rattle.gb_ppu.specs.Control.{is_on}
use Rattle.gb_ppu.specs.Picture.{line_cycles, frame_cycles}

pub record IsWellFormed (p : Picture) : Type 0 where
  -- a position of the frame
  pub within : p.position < frame_cycles
  -- bits 6 to 3
  pub chosen : p.stat ≤ 0x78
  -- no more lines showed the window than there were
  pub counted : ForSome p.window (λ n. n ≤ p.position / line_cycles)
  -- off, the picture stands at the start of line 0
  pub off : is_on p.lcdc ≡ false → p.position ≡ 0
