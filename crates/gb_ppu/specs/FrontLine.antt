-- The objects in front along a line, as lanes hold them (own).
use Rattle.std.specs.Prelude.{◌≡◌, ℕ, false, not, ◌&&◌, ◌==◌, ◌-◌, ◌*◌, ◌%◌, ◌<◌, if◌then◌else◌, nat_lt, List, slice_index, Option, Some, None, bit_and, bit_or}
use Rattle.gb_ppu.specs.declared.objects.Object.{Object}
use Rattle.gb_ppu.specs.Seen.{Seen}
use Rattle.gb_ppu.specs.Control.{has_bit}
use Rattle.gb_ppu.specs.Tiles.{tile_colour, shade_of}
use Rattle.gb_ppu.specs.Objects.{object_tile, object_row}
use Rattle.gb_ppu.specs.Pixel.{ObjectPixel, background_shade}

-- the colour of the object's k-th column on a line that it meets
unfoldable pub row_colour : List ℕ → ℕ → ℕ → Object → ℕ → ℕ
row_colour video_ram lcdc y object k =
    tile_colour video_ram (16 * object_tile lcdc object) (object_row lcdc y object) (if has_bit 5 object.attributes then 7 - k else k)

-- eight colours from a byte of the line on, as all its bytes see them: 0 where there is none
unfoldable pub laid : ℕ → List ℕ → ℕ → ℕ
laid at colours i = if nat_lt i at then 0 else slice_index colours (i - at)

-- the byte of an opaque pixel: its colour, with bits 7 and 4 of the object's attributes
abbrev pub styled : ℕ → ℕ → ℕ
styled colour attributes = bit_or colour (bit_and attributes 0x90)

-- an object's X at a column where it has this colour: 255 where it's transparent
abbrev pub own_x : ℕ → ℕ → ℕ
own_x x colour = if colour == 0 then 255 else x

-- the X of the object in front, after an object with this X and this colour, which is transparent if it's 0
unfoldable pub nearer_x : ℕ → ℕ → ℕ → ℕ
nearer_x x colour front = if not (colour == 0) && nat_lt x front then x else front

-- the byte of the pixel in front, after the same object
unfoldable pub nearer_pixel : ℕ → ℕ → ℕ → ℕ → ℕ → ℕ
nearer_pixel x colour attributes front pixel = if not (colour == 0) && nat_lt x front then styled colour attributes else pixel

-- the palette that an object's attributes, or the byte of its pixel, choose
abbrev pub palette_of : Seen → ℕ → ℕ
palette_of scene attributes = if has_bit 4 attributes then scene.obp1 else scene.obp0

-- the X of the object in front and the byte of its pixel stand for that pixel
pub record IsPixel (scene : Seen) (front byte : ℕ) (pixel : ObjectPixel) : Type 0 where
  pub x : front ≡ pixel.x
  pub near : front < 168
  pub opaque : (byte % 4 == 0) ≡ false
  pub shade : pixel.shade ≡ shade_of (palette_of scene byte) (byte % 4)
  pub behind : pixel.is_behind ≡ has_bit 7 byte

-- the same, or there is none: 255 and colour 0
abbrev pub IsPixelOrNone : Seen → ℕ → ℕ → Option ObjectPixel → Type 0
IsPixelOrNone scene front byte None = (front ≡ 255) × (byte % 4 ≡ 0)
IsPixelOrNone scene front byte (Some pixel) = IsPixel scene front byte pixel

-- of two shades the one by the palette that the byte of a pixel chooses
unfoldable pub by_palette : ℕ → ℕ → ℕ → ℕ
by_palette byte first second = if has_bit 4 byte then second else first

-- of the shades below and above, the one that shows
unfoldable pub over : ℕ → ℕ → ℕ → ℕ → ℕ
over colour byte below above =
    if byte % 4 == 0 then below else if has_bit 7 byte && not (colour == 0) then below else above

-- the same by three palettes: of background and window, and of objects
unfoldable pub mixed_by : ℕ → ℕ → ℕ → ℕ → ℕ → ℕ
mixed_by background first second colour byte =
    over colour byte (shade_of background colour) (by_palette byte (shade_of first (byte % 4)) (shade_of second (byte % 4)))

-- the shade of a pixel in front over a colour of the background
unfoldable pub mixed_byte : Seen → ℕ → ℕ → ℕ
mixed_byte scene colour byte = over colour byte (background_shade scene colour) (shade_of (palette_of scene byte) (byte % 4))
