-- The objects in front along a line, lane by lane and object by object.
use Rattle.std.proofs.Common.{◌≡◌, ℕ, ◌+◌, ◌-◌, ◌*◌, ◌/◌, ◌%◌, ◌<◌, ◌≤◌, Bool, true, false, not, ◌&&◌, nat_lt, nat_le, ◌==◌, if◌then◌else◌, eqb, T, List, length, get_or, slice_index, Option, Some, None, refl, sym, ap, ◌∙◌, inl, inr, arith, eqb→eq}
use Rattle.std.proofs.lemmas.Bool.{cases_lt}
use Rattle.std.proofs.lemmas.Bool.Decides.{nat_tests}
use Rattle.std.proofs.lemmas.List.{get_or_past}
use Rattle.std.proofs.lemmas.Simd.{get_or-put_chunk_below, get_or-put_chunk_at, get_or-put_chunk_above}
use Rattle.std.specs.Simd.Lanes.{put_chunk}
use Rattle.gb_ppu.specs.declared.objects.Object.{Object}
use Rattle.gb_ppu.specs.Seen.{Seen}
use Rattle.gb_ppu.specs.Control.{bit, has_bit}
use Rattle.gb_ppu.specs.Lanes.{HasLanes}
use Rattle.gb_ppu.specs.Tiles.{colour_in, tile_colour, shade_of}
use Rattle.gb_ppu.specs.Objects.{meets_line, contains, object_row, object_column, object_tile, object_colour}
use Rattle.gb_ppu.specs.Pixel.{ObjectPixel, is_opaque, object_pixel, joined, mixed}
use Rattle.gb_ppu.specs.FrontLine.{row_colour, laid, styled, nearer_x, nearer_pixel, palette_of, IsPixel, IsPixelOrNone, over, mixed_byte}
use Rattle.gb_ppu.proofs.LaneLaws.{all_below, every_below}
use lib.Ieee.Fits.{and_l, and_r}

-- ---- eight lanes on a line

laid-before : (at : ℕ) (colours : List ℕ) (i : ℕ) → i < at → laid at colours i ≡ 0
unfolding laid
laid-before at colours i before = let e : nat_lt i at ≡ true = grind (arith, nat_tests) in rw e refl

laid-from : (at : ℕ) (colours : List ℕ) (i : ℕ) → at ≤ i → laid at colours i ≡ get_or colours (i - at) 0
unfolding laid
laid-from at colours i from = let e : nat_lt i at ≡ false = grind (arith, nat_tests) in rw e refl

-- what a line is after eight lanes were put on it, where a transparent lane leaves it
pub laid_over : (g : ℕ → ℕ → ℕ) (at : ℕ) (old lanes colours : List ℕ) (i : ℕ) → at + 8 ≤ length old → length lanes ≡ 8 → length colours ≡ 8
    → ((k : ℕ) → k < 8 → get_or lanes k 0 ≡ g (at + k) (get_or colours k 0)) → ((k : ℕ) → g k 0 ≡ get_or old k 0)
    → get_or (put_chunk at old lanes) i 0 ≡ g i (laid at colours i)
laid_over g at old lanes colours i room long eight each clear = elim (cases_lt i at) [
  | inl before ↦ get_or-put_chunk_below at old lanes i 0 before ∙ sym (clear i) ∙ ap (g i) (sym (laid-before at colours i before))
  | inr from ↦ elim (cases_lt (i - at) 8) [
    | inl within ↦
        let e : at + (i - at) ≡ i = omega arith in
        let there : get_or (put_chunk at old lanes) (at + (i - at)) 0 ≡ g (at + (i - at)) (get_or colours (i - at) 0) =
        get_or-put_chunk_at at old lanes (i - at) 0 (omega arith) (omega arith) ∙ each (i - at) within in
        (rw e at there) ∙ ap (g i) (sym (laid-from at colours i from))
    | inr past ↦
        get_or-put_chunk_above at old lanes i 0 (omega arith) ∙ sym (clear i)
        ∙ ap (g i) (sym (laid-from at colours i from ∙ get_or_past colours (i - at) 0 (omega arith)))
  ]
]

-- ---- an object's pixel by its colour at a column

unfoldable pub coloured : Seen → Object → ℕ → Option ObjectPixel
coloured scene object colour =
    if colour == 0 then None
    else Some (record { x = object.x; shade = shade_of (palette_of scene object.attributes) colour; is_behind = has_bit 7 object.attributes })

turned : {A : Type 0} (b : Bool) (some none : A) → (if not b then some else none) ≡ (if b then none else some)
turned true some none = refl
turned false some none = refl

pixel-inside : (scene : Seen) (x y colour : ℕ) (object : Object) → contains scene.lcdc x y object ≡ true
    → object_colour scene.video_ram scene.lcdc x y object ≡ colour → object_pixel scene x y object ≡ coloured scene object colour
unfolding object_pixel is_opaque coloured
pixel-inside scene x y colour object inside is = rw (inside, is) (turned (colour == 0) _ _)

pixel-outside : (scene : Seen) (x y : ℕ) (object : Object) → contains scene.lcdc x y object ≡ false → object_pixel scene x y object ≡ coloured scene object 0
unfolding object_pixel is_opaque coloured
pixel-outside scene x y object outside = rw outside refl

is-inside : (lcdc x y : ℕ) (object : Object) → meets_line lcdc y object ≡ true → object.x ≤ x + 8 → x < object.x → contains lcdc x y object ≡ true
unfolding contains
is-inside lcdc x y object met from before =
    let e : nat_le object.x (x + 8) ≡ true = grind (arith, nat_tests) in
    let f : nat_lt (x + 8) (object.x + 8) ≡ true = grind (arith, nat_tests) in
    rw (met, e, f) refl

is-before : (lcdc x y : ℕ) (object : Object) → meets_line lcdc y object ≡ true → x + 8 < object.x → contains lcdc x y object ≡ false
unfolding contains
is-before lcdc x y object met before = let e : nat_le object.x (x + 8) ≡ false = grind (arith, nat_tests) in rw (met, e) refl

and_false : (a : Bool) → (a && false) ≡ false
and_false true = refl
and_false false = refl

is-past : (lcdc x y : ℕ) (object : Object) → object.x ≤ x → contains lcdc x y object ≡ false
unfolding contains
is-past lcdc x y object past =
    let e : nat_lt (x + 8) (object.x + 8) ≡ false = grind (arith, nat_tests) in
    rw e (and_false (meets_line lcdc y object && nat_le object.x (x + 8)))

object_colour-row : (video_ram : List ℕ) (lcdc x y : ℕ) (object : Object)
    → object_colour video_ram lcdc x y object ≡ row_colour video_ram lcdc y object (x + 8 - object.x)
unfolding object_colour object_column row_colour
object_colour-row video_ram lcdc x y object = refl

bit_small : (n byte : ℕ) → bit n byte < 2
unfolding bit
bit_small n byte = omega arith

pub row_colour_small : (video_ram : List ℕ) (lcdc y : ℕ) (object : Object) (k : ℕ) → row_colour video_ram lcdc y object k < 4
unfolding row_colour tile_colour colour_in
row_colour_small video_ram lcdc y object k =
    let column : ℕ = if has_bit 5 object.attributes then 7 - k else k in
    let place : ℕ = 16 * object_tile lcdc object + 2 * object_row lcdc y object in
    omega (arith, bit_small (7 - column) (slice_index video_ram place), bit_small (7 - column) (slice_index video_ram (place + 1)))

-- its pixel at a column of the line is that of the lanes that are laid there
pub pixel-laid : (scene : Seen) (x y : ℕ) (object : Object) (colours : List ℕ) → meets_line scene.lcdc y object ≡ true
    → HasLanes 8 colours (row_colour scene.video_ram scene.lcdc y object) → object_pixel scene x y object ≡ coloured scene object (laid object.x colours (x + 8))
pixel-laid scene x y object colours met is = elim (cases_lt (x + 8) object.x) [
  | inl before ↦
      pixel-outside scene x y object (is-before scene.lcdc x y object met before) ∙ ap (coloured scene object) (sym (laid-before object.x colours (x + 8) before))
  | inr from ↦ elim (cases_lt x object.x) [
    | inl within ↦
        pixel-inside scene x y _ object (is-inside scene.lcdc x y object met from within) (object_colour-row scene.video_ram scene.lcdc x y object)
        ∙ ap (coloured scene object) (sym (laid-from object.x colours (x + 8) from ∙ is.lanes (x + 8 - object.x) (omega arith)))
    | inr past ↦
        pixel-outside scene x y object (is-past scene.lcdc x y object past)
        ∙ ap (coloured scene object) (sym (laid-from object.x colours (x + 8) from ∙ get_or_past colours (x + 8 - object.x) 0 (omega (arith, is.len))))
  ]
]

pub laid_small : (scene : Seen) (y : ℕ) (object : Object) (colours : List ℕ) (i : ℕ) → HasLanes 8 colours (row_colour scene.video_ram scene.lcdc y object)
    → laid object.x colours i < 4
laid_small scene y object colours i is = elim (cases_lt i object.x) [
  | inl before ↦ rw (laid-before object.x colours i before) (omega arith)
  | inr from ↦ elim (cases_lt (i - object.x) 8) [
    | inl within ↦ rw (laid-from object.x colours i from, is.lanes (i - object.x) within) (row_colour_small scene.video_ram scene.lcdc y object (i - object.x))
    | inr past ↦ rw (laid-from object.x colours i from, get_or_past colours (i - object.x) 0 (omega (arith, is.len))) (omega arith)
  ]
]

-- an object that doesn't reach the line's columns
pub pixel-beyond : (scene : Seen) (x y : ℕ) (object : Object) (pixel : Option ObjectPixel) → meets_line scene.lcdc y object ≡ true → x < 160 → 168 ≤ object.x
    → joined pixel (object_pixel scene x y object) ≡ pixel
unfolding coloured
pixel-beyond scene x y object pixel met within beyond =
    rw (pixel-outside scene x y object (is-before scene.lcdc x y object met (omega arith))) refl

-- ---- one lane, one object

-- what a pixel's byte keeps
abbrev same_bits : ℕ → ℕ → Bool
same_bits colour attributes =
    eqb (styled colour attributes % 4) colour && eqb (styled colour attributes / 16 % 2) (attributes / 16 % 2) && eqb (styled colour attributes / 128 % 2) (attributes / 128 % 2)

module _ (colour attributes : ℕ) (small : colour < 4) (byte : attributes < 256) where
  computed : T (same_bits colour attributes)
  computed = every_below (same_bits colour) 256 (every_below (λ c. all_below (same_bits c) 256) 4 tt colour small) attributes byte

  styled-colour : styled colour attributes % 4 ≡ colour
  styled-colour = eqb→eq _ _ (and_l _ _ (and_l _ _ computed))

  styled-palette : has_bit 4 (styled colour attributes) ≡ has_bit 4 attributes
  unfolding has_bit bit
  styled-palette = ap (λ b. b == 1) (eqb→eq _ _ (and_r (eqb (styled colour attributes % 4) colour) _ (and_l _ _ computed)))

  styled-behind : has_bit 7 (styled colour attributes) ≡ has_bit 7 attributes
  unfolding has_bit bit
  styled-behind = ap (λ b. b == 1) (eqb→eq _ _ (and_r (eqb (styled colour attributes % 4) colour && eqb (styled colour attributes / 16 % 2) (attributes / 16 % 2)) _ computed))

abbrev pixel_from : Seen → Object → ℕ → ObjectPixel
pixel_from scene object colour =
    record { x = object.x; shade = shade_of (palette_of scene object.attributes) colour; is_behind = has_bit 7 object.attributes }

styled-stands : (scene : Seen) (object : Object) (colour : ℕ) → object.x < 168 → colour < 4 → object.attributes < 256 → (colour == 0) ≡ false
    → IsPixel scene object.x (styled colour object.attributes) (pixel_from scene object colour)
styled-stands scene object colour near small byte opaque = record {
  x = refl;
  near = near;
  opaque = rw (styled-colour colour object.attributes small byte) opaque;
  shade = rw (styled-colour colour object.attributes small byte, styled-palette colour object.attributes small byte) refl;
  behind = sym (styled-behind colour object.attributes small byte);
}

clear-stays : (scene : Seen) (object : Object) (colour front byte : ℕ) (pixel : Option ObjectPixel) → (colour == 0) ≡ true
    → IsPixelOrNone scene front byte pixel
    → IsPixelOrNone scene (nearer_x object.x colour front) (nearer_pixel object.x colour object.attributes front byte) (joined pixel (coloured scene object colour))
unfolding nearer_x nearer_pixel coloured
clear-stays scene object colour front byte pixel clear h = rw clear h

-- an opaque pixel is in front, or isn't
goes-front : (scene : Seen) (object : Object) (colour front byte : ℕ) (pixel : Option ObjectPixel) → (colour == 0) ≡ false → nat_lt object.x front ≡ true
    → joined pixel (Some (pixel_from scene object colour)) ≡ Some (pixel_from scene object colour)
    → IsPixel scene object.x (styled colour object.attributes) (pixel_from scene object colour)
    → IsPixelOrNone scene (nearer_x object.x colour front) (nearer_pixel object.x colour object.attributes front byte) (joined pixel (coloured scene object colour))
unfolding nearer_x nearer_pixel coloured
goes-front scene object colour front byte pixel opaque nearest e h = rw (opaque, nearest, e) h

goes-behind : (scene : Seen) (object : Object) (colour front byte : ℕ) (pixel : Option ObjectPixel) → (colour == 0) ≡ false → nat_lt object.x front ≡ false
    → joined pixel (Some (pixel_from scene object colour)) ≡ pixel → IsPixelOrNone scene front byte pixel
    → IsPixelOrNone scene (nearer_x object.x colour front) (nearer_pixel object.x colour object.attributes front byte) (joined pixel (coloured scene object colour))
unfolding nearer_x nearer_pixel coloured
goes-behind scene object colour front byte pixel opaque other e h = rw (opaque, other, e) h

-- an object more at one lane
pub lane-joined : (scene : Seen) (object : Object) (colour front byte : ℕ) (pixel : Option ObjectPixel) → object.x < 168 → colour < 4 → object.attributes < 256
    → IsPixelOrNone scene front byte pixel
    → IsPixelOrNone scene (nearer_x object.x colour front) (nearer_pixel object.x colour object.attributes front byte) (joined pixel (coloured scene object colour))
lane-joined scene object colour front byte pixel near small attributes h = go (colour == 0) refl pixel h
  where
    opaque_lane : (pixel : Option ObjectPixel) (nearest : Bool) → (colour == 0) ≡ false → nat_lt object.x front ≡ nearest → IsPixelOrNone scene front byte pixel
        → IsPixelOrNone scene (nearer_x object.x colour front) (nearer_pixel object.x colour object.attributes front byte) (joined pixel (coloured scene object colour))
    opaque_lane None true opaque n h = goes-front scene object colour front byte None opaque n refl (styled-stands scene object colour near small attributes opaque)
    opaque_lane None false opaque n h = let e : front ≡ 255 = h.0 in absurd (let f : front ≤ object.x = grind (arith, nat_tests) in omega arith)
    opaque_lane (Some q) true opaque n h =
        let e : nat_lt object.x q.x ≡ true = ap (nat_lt object.x) (sym h.x) ∙ n in
        goes-front scene object colour front byte (Some q) opaque n (rw e refl) (styled-stands scene object colour near small attributes opaque)
    opaque_lane (Some q) false opaque n h =
        let e : nat_lt object.x q.x ≡ false = ap (nat_lt object.x) (sym h.x) ∙ n in
        goes-behind scene object colour front byte (Some q) opaque n (rw e refl) h

    go : (clear : Bool) → (colour == 0) ≡ clear → (pixel : Option ObjectPixel) → IsPixelOrNone scene front byte pixel
        → IsPixelOrNone scene (nearer_x object.x colour front) (nearer_pixel object.x colour object.attributes front byte) (joined pixel (coloured scene object colour))
    go true c pixel h = clear-stays scene object colour front byte pixel c h
    go false c pixel h = opaque_lane pixel (nat_lt object.x front) c refl h

-- ---- the shade of a lane

pub byte-mixed : (scene : Seen) (colour front byte : ℕ) (pixel : Option ObjectPixel) → IsPixelOrNone scene front byte pixel
    → mixed_byte scene colour byte ≡ mixed scene colour pixel
unfolding mixed_byte over
byte-mixed scene colour front byte None h = rw h.1 refl
byte-mixed scene colour front byte (Some pixel) h = rw (h.opaque, h.behind, h.shade) refl

-- ---- a transparent lane

pub nearer_x-clear : (x front : ℕ) → nearer_x x 0 front ≡ front
unfolding nearer_x
nearer_x-clear x front = refl

pub nearer_pixel-clear : (x attributes front pixel : ℕ) → nearer_pixel x 0 attributes front pixel ≡ pixel
unfolding nearer_pixel
nearer_pixel-clear x attributes front pixel = refl

-- ---- the lanes of an object's row

abbrev pub row_place : ℕ → ℕ → Object → ℕ
row_place lcdc y object = 16 * object_tile lcdc object + 2 * object_row lcdc y object

module _ (video_ram : List ℕ) (lcdc y : ℕ) (object : Object) (place : ℕ) (row : List ℕ) (is : place ≡ row_place lcdc y object)
    (colours : HasLanes 8 row (colour_in (get_or video_ram place 0) (get_or video_ram (place + 1) 0))) where
  plain_lane : (k : ℕ) → has_bit 5 object.attributes ≡ false
      → colour_in (get_or video_ram place 0) (get_or video_ram (place + 1) 0) k ≡ row_colour video_ram lcdc y object k
  unfolding row_colour tile_colour
  plain_lane k e = rw (is, e) refl

  turned_lane : (k : ℕ) → has_bit 5 object.attributes ≡ true
      → colour_in (get_or video_ram place 0) (get_or video_ram (place + 1) 0) (7 - k) ≡ row_colour video_ram lcdc y object k
  unfolding row_colour tile_colour
  turned_lane k e = rw (is, e) refl

  pub row-plain : (lanes : List ℕ) → has_bit 5 object.attributes ≡ false → lanes ≡ row → HasLanes 8 lanes (row_colour video_ram lcdc y object)
  row-plain lanes e same = rw same (record { len = colours.len; lanes = λ k less. colours.lanes k less ∙ plain_lane k e })

  pub row-turned : (lanes turned : List ℕ) → has_bit 5 object.attributes ≡ true → lanes ≡ turned → HasLanes 8 turned (λ k. get_or row (7 - k) 0)
      → HasLanes 8 lanes (row_colour video_ram lcdc y object)
  row-turned lanes turned e same h = rw same (record { len = h.len; lanes = λ k less. h.lanes k less ∙ colours.lanes (7 - k) (omega arith) ∙ turned_lane k e })
