-- The object in front (Pan Docs: OAM, "Drawing priority").
use Rattle.std.specs.Prelude.{ℕ, Bool, true, false, ◌≡◌, ◌≤◌, ◌&&◌, nat_lt, List, Option, Some, None, count_by}
use Rattle.std.specs.List.{range_with_len}
use Rattle.gb_ppu.specs.Seen.{Seen}
use Rattle.gb_ppu.specs.Control.{has_objects}
use Rattle.gb_ppu.specs.Objects.{object_at, meets_line}
use Rattle.gb_ppu.specs.Pixel.{ObjectPixel, is_opaque, object_pixel, background_colour, mixed}

-- object i is one of the line's first ten: it meets the line, and fewer than ten objects before it in OAM do
unfoldable pub is_used : ℕ → List ℕ → ℕ → ℕ → Bool
is_used lcdc oam y i =
    nat_lt i 40 && meets_line lcdc y (object_at oam i)
    && nat_lt (count_by (λ j. meets_line lcdc y (object_at oam j)) (range_with_len 0 i)) 10

-- object i may show at (x, y): objects are drawn, it is one of the line's first ten, and it is opaque there
unfoldable pub may_show : Seen → ℕ → ℕ → ℕ → Bool
may_show scene x y i =
    has_objects scene.lcdc && is_used scene.lcdc scene.oam y i && is_opaque scene x y (object_at scene.oam i)

-- the X of object i of OAM
abbrev pub x_of : Seen → ℕ → ℕ
x_of scene i = (object_at scene.oam i).x

-- of the objects that may show at (x, y) object i has the smallest X, and no earlier one in OAM has the same X
pub record IsFront (scene : Seen) (x y i : ℕ) : Type 0 where
  pub shows : may_show scene x y i ≡ true
  pub smallest : (j : ℕ) → may_show scene x y j ≡ true → x_of scene i ≤ x_of scene j
  pub earliest : (j : ℕ) → may_show scene x y j ≡ true → x_of scene j ≡ x_of scene i → i ≤ j

-- the object in front, or none where none may show
abbrev pub IsFrontOrNone : Seen → ℕ → ℕ → Option ℕ → Type 0
IsFrontOrNone scene x y None = (i : ℕ) → may_show scene x y i ≡ false
IsFrontOrNone scene x y (Some i) = IsFront scene x y i

-- the pixel of the object in front, where there is one
abbrev pub pixel_of : Seen → ℕ → ℕ → Option ℕ → Option ObjectPixel
pixel_of scene x y None = None
pixel_of scene x y (Some i) = object_pixel scene x y (object_at scene.oam i)

-- a shade is that of the object in front at (x, y), mixed with background and window
pub record ShowsFront (scene : Seen) (x y shade : ℕ) : Type 0 where
  pub front : Option ℕ
  pub is_front : IsFrontOrNone scene x y front
  pub mixes : shade ≡ mixed scene (background_colour scene x y) (pixel_of scene x y front)
