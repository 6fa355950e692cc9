-- Tiles of background and window (Pan Docs: Tile Data, Tile Maps). Places are offsets in video RAM.
use Rattle.std.specs.Prelude.{ℕ, Bool, ◌+◌, ◌-◌, ◌*◌, ◌/◌, ◌%◌, if◌then◌else◌, nat_le, List, slice_index}
use Rattle.gb_ppu.specs.Control.{has_bit}
use Rattle.gb_ppu.specs.Tiles.{tile_colour}
use Rattle.gb_ppu.specs.declared.maps.TileRow.{TileRow}

-- where a tile's data begins: at 8000 by an unsigned index, or at 9000 by a signed one
unfoldable pub tile_offset : ℕ → ℕ → ℕ
tile_offset lcdc index =
    if has_bit 4 lcdc then 16 * index else 0x1000 + 16 * index - (if nat_le 128 index then 0x1000 else 0)

-- where a map begins: at 9800, or the second one at 9C00
unfoldable pub map_offset : Bool → ℕ
map_offset is_second = if is_second then 0x1C00 else 0x1800

-- the index of the tile at a point of a map, which has 32 rows of 32 tiles
unfoldable pub tile_index : List ℕ → Bool → ℕ → ℕ → ℕ
tile_index video_ram is_second u v = slice_index video_ram (map_offset is_second + 32 * (v / 8) + u / 8)

-- the colour at a point of a map
unfoldable pub map_colour : List ℕ → ℕ → Bool → ℕ → ℕ → ℕ
map_colour video_ram lcdc is_second u v =
    tile_colour video_ram (tile_offset lcdc (tile_index video_ram is_second u v)) (v % 8) (u % 8)

-- the two bytes of a tile's row at a point of a map: the low bit plane, and the high one
unfoldable pub tile_row : List ℕ → ℕ → Bool → ℕ → ℕ → TileRow
tile_row video_ram lcdc is_second u v =
    let place = tile_offset lcdc (tile_index video_ram is_second u v) + 2 * (v % 8) in
    record { low = slice_index video_ram place; high = slice_index video_ram (place + 1) }
