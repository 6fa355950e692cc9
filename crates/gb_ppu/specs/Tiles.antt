-- Tiles and palettes (Pan Docs: Tile Data, Palettes).
use Rattle.std.specs.Prelude.{ℕ, ◌+◌, ◌-◌, ◌*◌, List, slice_index}
use Rattle.gb_ppu.specs.Control.{bit}

-- the colour in a column of a tile's row: two bytes, the low bit plane first, bit 7 leftmost
unfoldable pub colour_in : ℕ → ℕ → ℕ → ℕ
colour_in low high column = bit (7 - column) low + 2 * bit (7 - column) high

-- the colour of a tile that lies at an offset in video RAM
unfoldable pub tile_colour : List ℕ → ℕ → ℕ → ℕ → ℕ
tile_colour video_ram offset row column =
    colour_in (slice_index video_ram (offset + 2 * row)) (slice_index video_ram (offset + 2 * row + 1)) column

-- the shade that a palette gives a colour: bits 2c + 1 and 2c for colour c
unfoldable pub shade_of : ℕ → ℕ → ℕ
shade_of palette colour = bit (2 * colour) palette + 2 * bit (2 * colour + 1) palette
