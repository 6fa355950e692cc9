-- The window over what is drawn below it (own).
use Rattle.std.specs.Prelude.{ℕ, ◌+◌, ◌-◌, Option, Some, None}
use Rattle.gb_ppu.specs.Control.{has_bit}
use Rattle.gb_ppu.specs.Maps.{map_colour}
use Rattle.gb_ppu.specs.Seen.{Seen}

-- the window's colour at one of its rows, else the one below
abbrev pub or_below : Seen → ℕ → ℕ → Option ℕ → ℕ
or_below scene x below None = below
or_below scene x below (Some row) = map_colour scene.video_ram scene.lcdc (has_bit 6 scene.lcdc) (x + 7 - scene.wx) row
