-- The opaque pixel in front, object by object.
use Rattle.std.proofs.Common.{◌≡◌, ℕ, List, [], ◌∷◌, ◌++◌, Option, Some, None, refl, append-nil}
use Rattle.std.proofs.lemmas.List.Elements.{filter_map-append}
use Rattle.std.proofs.lemmas.List.Sums.{fold-append}
use Rattle.std.specs.List.{filter_map}
use Rattle.gb_ppu.specs.declared.objects.Object.{Object}
use Rattle.gb_ppu.specs.Seen.{Seen}
use Rattle.gb_ppu.specs.Objects.{line_objects}
use Rattle.gb_ppu.specs.Pixel.{ObjectPixel, object_pixel, nearer, joined, foremost}
use Rattle.gb_ppu.proofs.LineObjects.{chosen_before, chosen_before-all}

unfoldable pub front_of : Seen → ℕ → ℕ → List Object → Option ObjectPixel
front_of scene x y objects = foremost (filter_map (object_pixel scene x y) objects)

pub front_of-none : (scene : Seen) (x y : ℕ) → front_of scene x y [] ≡ None
unfolding front_of foremost
front_of-none scene x y = refl

by_pixel : (scene : Seen) (x y : ℕ) (objects : List Object) (object : Object) (pixel : Option ObjectPixel)
    → object_pixel scene x y object ≡ pixel → front_of scene x y (objects ++ object ∷ []) ≡ joined (front_of scene x y objects) pixel
unfolding front_of foremost
by_pixel scene x y objects object None e =
    rw (filter_map-append (object_pixel scene x y) objects (object ∷ []), e, append-nil) refl
by_pixel scene x y objects object (Some pixel) e =
    rw (filter_map-append (object_pixel scene x y) objects (object ∷ []), e, fold-append nearer None (filter_map (object_pixel scene x y) objects) (pixel ∷ [])) refl

pub front_of-push : (scene : Seen) (x y : ℕ) (objects : List Object) (object : Object)
    → front_of scene x y (objects ++ object ∷ []) ≡ joined (front_of scene x y objects) (object_pixel scene x y object)
front_of-push scene x y objects object = by_pixel scene x y objects object (object_pixel scene x y object) refl

pub front_of-all : (scene : Seen) (x y i : ℕ) → i ≡ 40
    → front_of scene x y (chosen_before scene.lcdc scene.oam y i) ≡ foremost (filter_map (object_pixel scene x y) (line_objects scene.lcdc scene.oam y))
unfolding front_of
front_of-all scene x y i e = rw (chosen_before-all scene.lcdc scene.oam y i e) refl
