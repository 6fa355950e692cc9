-- Sixteen lanes of what shows.
use Rattle.std.proofs.Common.{◌≡◌, ℕ, zero, suc, ◌%◌, ◌<◌, Bool, true, false, if◌then◌else◌, refl, ◌∙◌, arith}
use Rattle.gb_ppu.specs.Control.{bit, has_bit, has_background}
use Rattle.gb_ppu.specs.Seen.{Seen}
use Rattle.gb_ppu.specs.Tiles.{shade_of}
use Rattle.gb_ppu.specs.Pixel.{background_shade}
use Rattle.gb_ppu.specs.FrontLine.{palette_of, by_palette, over, mixed_by, mixed_byte}

-- ---- background and window

background_on : (scene : Seen) (palette colour : ℕ) → has_background scene.lcdc ≡ true → palette ≡ scene.bgp → shade_of palette colour ≡ background_shade scene colour
unfolding background_shade
background_on scene palette colour on e = rw (on, e) refl

blank : (colour : ℕ) → colour < 4 → shade_of 0 colour ≡ 0
unfolding shade_of bit
blank zero small = refl
blank (suc zero) small = refl
blank (suc (suc zero)) small = refl
blank (suc (suc (suc zero))) small = refl
blank (suc (suc (suc (suc n)))) small = absurd (omega arith)

background_off : (scene : Seen) (palette colour : ℕ) → colour < 4 → has_background scene.lcdc ≡ false → palette ≡ 0 → shade_of palette colour ≡ background_shade scene colour
unfolding background_shade
background_off scene palette colour small off e = rw (off, e) (blank colour small)

-- ---- the objects' palettes

shaded_by : (scene : Seen) (byte : ℕ) → by_palette byte (shade_of scene.obp0 (byte % 4)) (shade_of scene.obp1 (byte % 4)) ≡ shade_of (palette_of scene byte) (byte % 4)
unfolding by_palette
shaded_by scene byte = go (has_bit 4 byte)
  where
    go : (b : Bool) → (if b then shade_of scene.obp1 (byte % 4) else shade_of scene.obp0 (byte % 4)) ≡ shade_of (if b then scene.obp1 else scene.obp0) (byte % 4)
    go true = refl
    go false = refl

-- ---- what is mixed

pub mixed_by-none : (background first second colour byte : ℕ) → byte ≡ 0 → shade_of background colour ≡ mixed_by background first second colour byte
unfolding mixed_by over
mixed_by-none background first second colour byte e = rw e refl

pub mixed_by-over : (background first second colour byte below above : ℕ) → below ≡ shade_of background colour
    → above ≡ by_palette byte (shade_of first (byte % 4)) (shade_of second (byte % 4)) → over colour byte below above ≡ mixed_by background first second colour byte
unfolding mixed_by
mixed_by-over background first second colour byte below above p q = rw (p, q) refl

-- ---- a scene's palettes

background_by : (scene : Seen) (palette colour : ℕ) → colour < 4 → palette ≡ (if has_background scene.lcdc then scene.bgp else 0)
    → shade_of palette colour ≡ background_shade scene colour
background_by scene palette colour small e = go (has_background scene.lcdc) refl
  where
    go : (on : Bool) → has_background scene.lcdc ≡ on → shade_of palette colour ≡ background_shade scene colour
    go true on = background_on scene palette colour on (e ∙ rw on refl)
    go false off = background_off scene palette colour small off (e ∙ rw off refl)

pub mixed_by-scene : (scene : Seen) (background first second colour byte : ℕ) → colour < 4 → background ≡ (if has_background scene.lcdc then scene.bgp else 0)
    → first ≡ scene.obp0 → second ≡ scene.obp1 → mixed_by background first second colour byte ≡ mixed_byte scene colour byte
unfolding mixed_by mixed_byte
mixed_by-scene scene background first second colour byte small b f s =
    rw (f, s) (λ j. over colour byte (background_by scene background colour small b j) (shaded_by scene byte j))
