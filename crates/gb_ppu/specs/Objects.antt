-- Objects (Pan Docs: OAM, Rendering). An object's row y stands on line y - 16, its column x at x - 8.
use Rattle.std.specs.Prelude.{ℕ, Bool, ◌&&◌, ◌+◌, ◌-◌, ◌*◌, ◌/◌, if◌then◌else◌, nat_le, nat_lt, List, map, filter, take, slice_index}
use Rattle.std.specs.List.{range_with_len}
use Rattle.gb_ppu.specs.declared.objects.Object.{Object}
use Rattle.gb_ppu.specs.Control.{has_bit, object_height}
use Rattle.gb_ppu.specs.Tiles.{tile_colour}

-- four bytes of OAM are one object
unfoldable pub object_at : List ℕ → ℕ → Object
object_at oam i = record {
  y = slice_index oam (4 * i);
  x = slice_index oam (4 * i + 1);
  tile = slice_index oam (4 * i + 2);
  attributes = slice_index oam (4 * i + 3);
}

unfoldable pub objects : List ℕ → List Object
objects oam = map (object_at oam) (range_with_len 0 40)

-- the object has a row on the line
unfoldable pub meets_line : ℕ → ℕ → Object → Bool
meets_line lcdc y object = nat_le object.y (y + 16) && nat_lt (y + 16) (object.y + object_height lcdc)

-- the first ten objects in OAM's order that meet the line
unfoldable pub line_objects : ℕ → List ℕ → ℕ → List Object
line_objects lcdc oam y = take 10 (filter (meets_line lcdc y) (objects oam))

-- the object has a pixel at (x, y)
unfoldable pub contains : ℕ → ℕ → ℕ → Object → Bool
contains lcdc x y object = meets_line lcdc y object && nat_le object.x (x + 8) && nat_lt (x + 8) (object.x + 8)

-- the row of the object's tile that stands on line y: attribute bit 6 turns rows upside down
unfoldable pub object_row : ℕ → ℕ → Object → ℕ
object_row lcdc y object =
    let row = y + 16 - object.y in if has_bit 6 object.attributes then object_height lcdc - 1 - row else row

-- the column of the object's tile that stands at x: attribute bit 5 turns columns round
unfoldable pub object_column : ℕ → Object → ℕ
object_column x object = let column = x + 8 - object.x in if has_bit 5 object.attributes then 7 - column else column

-- an object 16 high ignores the lowest bit of its tile
unfoldable pub object_tile : ℕ → Object → ℕ
object_tile lcdc object = if has_bit 2 lcdc then 2 * (object.tile / 2) else object.tile

-- the colour of an object that has a pixel at (x, y)
unfoldable pub object_colour : List ℕ → ℕ → ℕ → ℕ → Object → ℕ
object_colour video_ram lcdc x y object =
    tile_colour video_ram (16 * object_tile lcdc object) (object_row lcdc y object) (object_column x object)
