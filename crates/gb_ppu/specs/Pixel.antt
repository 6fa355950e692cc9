-- The shade of one pixel (Pan Docs: Rendering, Window, OAM).
use Rattle.std.specs.Prelude.{ℕ, Bool, not, ◌&&◌, ◌==◌, ◌+◌, ◌-◌, ◌%◌, if◌then◌else◌, nat_le, nat_lt, List, Option, Some, None, fold}
use Rattle.std.specs.List.{filter_map}
use Rattle.gb_ppu.specs.declared.objects.Object.{Object}
use Rattle.gb_ppu.specs.Seen.{Seen}
use Rattle.gb_ppu.specs.Control.{has_bit, has_background, has_window, has_objects}
use Rattle.gb_ppu.specs.Tiles.{shade_of}
use Rattle.gb_ppu.specs.Maps.{map_colour}
use Rattle.gb_ppu.specs.Objects.{line_objects, contains, object_colour}

-- a pixel of an object, where it is opaque: the object's X, its shade, and whether it shows over background colour 0 alone
pub record ObjectPixel : Type 0 where
  pub x : ℕ
  pub shade : ℕ
  pub is_behind : Bool

-- the window's row at column x of the line, where the window shows there
unfoldable pub window_row : Seen → ℕ → Option ℕ
window_row scene x =
    if has_window scene.lcdc && nat_le scene.wx 166 && nat_le scene.wx (x + 7) then scene.window_line else None

-- the colour of the window at one of its rows, else of the background
abbrev pub layer_colour : Seen → ℕ → ℕ → Option ℕ → ℕ
layer_colour scene x y None =
    map_colour scene.video_ram scene.lcdc (has_bit 3 scene.lcdc) ((x + scene.scx) % 256) ((y + scene.scy) % 256)
layer_colour scene x y (Some row) =
    map_colour scene.video_ram scene.lcdc (has_bit 6 scene.lcdc) (x + 7 - scene.wx) row

-- background and window that are off count as colour 0
unfoldable pub background_colour : Seen → ℕ → ℕ → ℕ
background_colour scene x y = if has_background scene.lcdc then layer_colour scene x y (window_row scene x) else 0

-- the shade of a colour of background and window: 0 where they are off, whatever the palette
unfoldable pub background_shade : Seen → ℕ → ℕ
background_shade scene colour = if has_background scene.lcdc then shade_of scene.bgp colour else 0

-- colour 0 of an object is transparent
unfoldable pub is_opaque : Seen → ℕ → ℕ → Object → Bool
is_opaque scene x y object =
    contains scene.lcdc x y object && not (object_colour scene.video_ram scene.lcdc x y object == 0)

-- attribute bit 4 chooses the palette, bit 7 puts the object behind the background
unfoldable pub object_pixel : Seen → ℕ → ℕ → Object → Option ObjectPixel
object_pixel scene x y object =
    if is_opaque scene x y object then Some (record {
      x = object.x;
      shade = shade_of (if has_bit 4 object.attributes then scene.obp1 else scene.obp0) (object_colour scene.video_ram scene.lcdc x y object);
      is_behind = has_bit 7 object.attributes;
    }) else None

-- of a pixel that may be missing and a later one, the one whose object has the smaller X, the earlier one where both have the same
abbrev pub nearer : Option ObjectPixel → ObjectPixel → Option ObjectPixel
nearer None later = Some later
nearer (Some earlier) later = if nat_lt later.x earlier.x then Some later else Some earlier

-- of two pixels that may be missing, the one in front
abbrev pub joined : Option ObjectPixel → Option ObjectPixel → Option ObjectPixel
joined front None = front
joined front (Some later) = nearer front later

-- of pixels in OAM's order, the one in front: `ShowsFront` says what that is
unfoldable pub foremost : List ObjectPixel → Option ObjectPixel
foremost pixels = fold nearer None pixels

-- the pixel in front among some objects, where objects are drawn
unfoldable pub front_pixel : Seen → ℕ → ℕ → List Object → Option ObjectPixel
front_pixel scene x y objects =
    if has_objects scene.lcdc then foremost (filter_map (object_pixel scene x y) objects) else None

-- an object that is behind shows over background colour 0 alone
abbrev pub mixed : Seen → ℕ → Option ObjectPixel → ℕ
mixed scene colour None = background_shade scene colour
mixed scene colour (Some pixel) =
    if pixel.is_behind && not (colour == 0) then background_shade scene colour else pixel.shade

unfoldable pub shade : Seen → ℕ → ℕ → ℕ
shade scene x y =
    mixed scene (background_colour scene x y) (front_pixel scene x y (line_objects scene.lcdc scene.oam y))
