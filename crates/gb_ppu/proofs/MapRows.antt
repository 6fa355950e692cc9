-- Colours of a map's row, column by column.
use Rattle.std.proofs.Common.{◌≡◌, ℕ, ◌+◌, ◌-◌, ◌*◌, ◌/◌, ◌%◌, ◌<◌, ◌≤◌, Bool, true, false, ◌&&◌, nat_le, if◌then◌else◌, List, slice_index, Option, Some, None, refl, arith}
use Rattle.std.proofs.lemmas.Bool.Decides.{nat_tests}
use Rattle.gb_ppu.specs.Control.{bit, has_bit, has_window, has_background}
use Rattle.gb_ppu.specs.Pixel.{window_row, layer_colour, background_colour}
use Rattle.gb_ppu.specs.Seen.{Seen}
use Rattle.gb_ppu.specs.Layers.{or_below}
use Rattle.gb_ppu.specs.Tiles.{colour_in, tile_colour}
use Rattle.gb_ppu.specs.Maps.{tile_offset, tile_index, map_colour, tile_row}

-- a column's colour is one of its tile's row
colour_of_row : (m : List ℕ) (lcdc : ℕ) (s : Bool) (u v : ℕ) → colour_in (tile_row m lcdc s u v).low (tile_row m lcdc s u v).high (u % 8) ≡ map_colour m lcdc s u v
unfolding map_colour tile_colour tile_row
colour_of_row m lcdc s u v = refl

-- within a tile the row stays
row_stays : (m : List ℕ) (lcdc : ℕ) (s : Bool) (u v k : ℕ) → u % 8 ≡ 0 → k < 8 → tile_row m lcdc s (u + k) v ≡ tile_row m lcdc s u v
unfolding tile_row tile_index
row_stays m lcdc s u v k first within =
    let e : (u + k) / 8 ≡ u / 8 = omega arith in rw e refl

-- the columns of a tile's row are those of the map from its first one on
pub row_columns : (m : List ℕ) (lcdc : ℕ) (s : Bool) (u v k w : ℕ) → u % 8 ≡ 0 → k < 8 → w ≡ u + k
    → colour_in (tile_row m lcdc s u v).low (tile_row m lcdc s u v).high k ≡ map_colour m lcdc s w v
row_columns m lcdc s u v k w first within is =
    let e : (u + k) % 8 ≡ k = omega arith in
    let there : colour_in (tile_row m lcdc s (u + k) v).low (tile_row m lcdc s (u + k) v).high ((u + k) % 8) ≡ map_colour m lcdc s (u + k) v =
    colour_of_row m lcdc s (u + k) v in
    rw is (rw (row_stays m lcdc s u v k first within, e) at there)

-- ---- the window over the background

shown_off : (a b c : Bool) → a ≡ false → (a && b && c) ≡ false
shown_off a b c h = rw h refl

beyond_off : (a b c : Bool) → b ≡ false → (a && b && c) ≡ false
beyond_off true b c h = rw h refl
beyond_off false b c h = refl

before_off : (a b c : Bool) → c ≡ false → (a && b && c) ≡ false
before_off true true c h = h
before_off true false c h = refl
before_off false b c h = refl

hidden_by :
    (s : Seen) (x below : ℕ) → (has_window s.lcdc && nat_le s.wx 166 && nat_le s.wx (x + 7)) ≡ false
    → below ≡ or_below s x below (window_row s x)
unfolding window_row
hidden_by s x below h = rw h refl

pub hidden : (s : Seen) (x below : ℕ) → has_window s.lcdc ≡ false → below ≡ or_below s x below (window_row s x)
hidden s x below h = hidden_by s x below (shown_off _ _ _ h)

pub hidden_beyond : (s : Seen) (x below : ℕ) → 166 < s.wx → below ≡ or_below s x below (window_row s x)
hidden_beyond s x below h =
    let e : nat_le s.wx 166 ≡ false = grind (arith, nat_tests) in hidden_by s x below (beyond_off (has_window s.lcdc) _ _ e)

pub hidden_before : (s : Seen) (x below : ℕ) → x + 7 < s.wx → below ≡ or_below s x below (window_row s x)
hidden_before s x below h =
    let e : nat_le s.wx (x + 7) ≡ false = grind (arith, nat_tests) in hidden_by s x below (before_off (has_window s.lcdc) (nat_le s.wx 166) _ e)

no_row : (b : Bool) (w : Option ℕ) → w ≡ None → (if b then w else None) ≡ None
no_row true w h = h
no_row false w h = refl

pub without_row : (s : Seen) (x below : ℕ) → s.window_line ≡ None → below ≡ or_below s x below (window_row s x)
unfolding window_row
without_row s x below h =
    rw (no_row (has_window s.lcdc && nat_le s.wx 166 && nat_le s.wx (x + 7)) s.window_line h) refl

pub shown :
    (s : Seen) (x below row : ℕ) → has_window s.lcdc ≡ true → s.wx ≤ 166 → s.wx ≤ x + 7 → s.window_line ≡ Some row
    → map_colour s.video_ram s.lcdc (has_bit 6 s.lcdc) (x + 7 - s.wx) row ≡ or_below s x below (window_row s x)
unfolding window_row
shown s x below row on near begun is =
    let e : nat_le s.wx 166 ≡ true = grind (arith, nat_tests) in
    let f : nat_le s.wx (x + 7) ≡ true = grind (arith, nat_tests) in
    rw (on, e, f, is) refl

whole_by :
    (s : Seen) (x y below : ℕ) (w : Option ℕ)
    → below ≡ map_colour s.video_ram s.lcdc (has_bit 3 s.lcdc) ((x + s.scx) % 256) ((y + s.scy) % 256)
    → or_below s x below w ≡ layer_colour s x y w
whole_by s x y below None h = h
whole_by s x y below (Some row) h = refl

-- the window over the background is what the line shows of both
pub whole :
    (s : Seen) (x y below : ℕ) → has_background s.lcdc ≡ true
    → below ≡ map_colour s.video_ram s.lcdc (has_bit 3 s.lcdc) ((x + s.scx) % 256) ((y + s.scy) % 256)
    → or_below s x below (window_row s x) ≡ background_colour s x y
unfolding background_colour
whole s x y below on h = rw on (whole_by s x y below (window_row s x) h)

-- off, they have colour 0
pub off : (s : Seen) (x y : ℕ) → has_background s.lcdc ≡ false → 0 ≡ background_colour s x y
unfolding background_colour
off s x y h = rw h refl

-- ---- colours are two bits

bit_small : (n byte : ℕ) → bit n byte < 2
unfolding bit
bit_small n byte = omega arith

map_colour_small : (m : List ℕ) (lcdc : ℕ) (s : Bool) (u v : ℕ) → map_colour m lcdc s u v < 4
unfolding map_colour tile_colour colour_in
map_colour_small m lcdc s u v =
    let place : ℕ = tile_offset lcdc (tile_index m s u v) + 2 * (v % 8) in
    omega (arith, bit_small (7 - u % 8) (slice_index m place), bit_small (7 - u % 8) (slice_index m (place + 1)))

layer_small : (s : Seen) (x y : ℕ) (w : Option ℕ) → layer_colour s x y w < 4
layer_small s x y None = map_colour_small s.video_ram s.lcdc (has_bit 3 s.lcdc) ((x + s.scx) % 256) ((y + s.scy) % 256)
layer_small s x y (Some row) = map_colour_small s.video_ram s.lcdc (has_bit 6 s.lcdc) (x + 7 - s.wx) row

small_by : (b : Bool) (n : ℕ) → n < 4 → (if b then n else 0) < 4
small_by true n h = h
small_by false n h = omega arith

pub background_colour_small : (s : Seen) (x y : ℕ) → background_colour s x y < 4
unfolding background_colour
background_colour_small s x y = small_by (has_background s.lcdc) _ (layer_small s x y (window_row s x))
