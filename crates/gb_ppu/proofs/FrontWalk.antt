-- The objects in front along a line, after the first objects of OAM.
use Rattle.std.proofs.Common.{◌≡◌, ℕ, ◌+◌, ◌<◌, true, false, List, length, get_or, ◌++◌, ◌∷◌, [], Option, refl, sym, ap, ◌∙◌, arith, length-append}
use Rattle.gb_ppu.specs.declared.objects.Object.{Object}
use Rattle.gb_ppu.specs.Seen.{Seen}
use Rattle.gb_ppu.specs.Control.{has_objects}
use Rattle.gb_ppu.specs.Objects.{object_at, meets_line, line_objects}
use Rattle.gb_ppu.specs.Pixel.{ObjectPixel, object_pixel, joined, front_pixel}
use Rattle.gb_ppu.specs.FrontLine.{IsPixelOrNone}
use Rattle.gb_ppu.proofs.LineObjects.{chosen_before, chosen_before-met, chosen_before-none}
use Rattle.gb_ppu.proofs.FrontPixels.{front_of, front_of-none, front_of-push, front_of-all}

-- how many objects were chosen among the first i, and what their lanes hold
pub record IsWalkedLine (scene : Seen) (y met : ℕ) (xs pixels : List ℕ) (i : ℕ) : Type 0 where
  pub chosen : met ≡ length (chosen_before scene.lcdc scene.oam y i)
  pub in_front : (x : ℕ) → x < 160 → IsPixelOrNone scene (get_or xs (x + 8) 0) (get_or pixels (x + 8) 0) (front_of scene x y (chosen_before scene.lcdc scene.oam y i))

pub IsWalkedLine-none : (scene : Seen) (y : ℕ) (xs pixels : List ℕ) → ((x : ℕ) → x < 160 → get_or xs (x + 8) 0 ≡ 255) → ((x : ℕ) → x < 160 → get_or pixels (x + 8) 0 ≡ 0)
    → IsWalkedLine scene y 0 xs pixels 0
IsWalkedLine-none scene y xs pixels far clear = record {
  chosen = rw (chosen_before-none scene.lcdc scene.oam y) refl;
  in_front = λ x within. rw (chosen_before-none scene.lcdc scene.oam y, front_of-none scene x y, clear x within) (far x within, refl);
}

pub IsWalkedLine-met : (scene : Seen) (y met : ℕ) (xs pixels : List ℕ) (i met' : ℕ) (xs' pixels' : List ℕ) (object : Object)
    → IsWalkedLine scene y met xs pixels i → object ≡ object_at scene.oam i → meets_line scene.lcdc y object ≡ true → met < 10 → met' ≡ met + 1
    → ((x : ℕ) → x < 160 → (front : Option ObjectPixel) → IsPixelOrNone scene (get_or xs (x + 8) 0) (get_or pixels (x + 8) 0) front
    → IsPixelOrNone scene (get_or xs' (x + 8) 0) (get_or pixels' (x + 8) 0) (joined front (object_pixel scene x y object)))
    → IsWalkedLine scene y met' xs' pixels' (i + 1)
IsWalkedLine-met scene y met xs pixels i met' xs' pixels' object h o meets room m f =
    let is_met : meets_line scene.lcdc y (object_at scene.oam i) ≡ true = ap (meets_line scene.lcdc y) (sym o) ∙ meets in
    let more : chosen_before scene.lcdc scene.oam y (i + 1) ≡ chosen_before scene.lcdc scene.oam y i ++ object_at scene.oam i ∷ [] =
    chosen_before-met scene.lcdc scene.oam y i is_met (omega (arith, h.chosen)) in
    record {
      chosen = rw more (omega (arith, length-append (chosen_before scene.lcdc scene.oam y i) (object_at scene.oam i ∷ []), h.chosen, m));
      in_front = λ x within. rw (more, front_of-push, ← o) (f x within _ (h.in_front x within));
    }

pub IsWalkedLine-same : (scene : Seen) (y met : ℕ) (xs pixels : List ℕ) (i n met' : ℕ) (xs' pixels' : List ℕ) → IsWalkedLine scene y met xs pixels i
    → chosen_before scene.lcdc scene.oam y n ≡ chosen_before scene.lcdc scene.oam y i → met' ≡ met → xs' ≡ xs → pixels' ≡ pixels
    → IsWalkedLine scene y met' xs' pixels' n
IsWalkedLine-same scene y met xs pixels i n met' xs' pixels' h same m p q =
    record { chosen = rw same (m ∙ h.chosen); in_front = λ x within. rw (same, p, q) (h.in_front x within) }

-- all of OAM was walked, where objects are drawn
pub walked-all : (scene : Seen) (y met : ℕ) (xs pixels : List ℕ) (i : ℕ) → i ≡ 40 → has_objects scene.lcdc ≡ true → IsWalkedLine scene y met xs pixels i
    → (x : ℕ) → x < 160 → IsPixelOrNone scene (get_or xs (x + 8) 0) (get_or pixels (x + 8) 0) (front_pixel scene x y (line_objects scene.lcdc scene.oam y))
unfolding front_pixel
walked-all scene y met xs pixels i all on h x within = rw (on, ← front_of-all scene x y i all) (h.in_front x within)

pub walked-off : (scene : Seen) (y : ℕ) (xs pixels : List ℕ) → has_objects scene.lcdc ≡ false → ((x : ℕ) → x < 160 → get_or xs (x + 8) 0 ≡ 255)
    → ((x : ℕ) → x < 160 → get_or pixels (x + 8) 0 ≡ 0)
    → (x : ℕ) → x < 160 → IsPixelOrNone scene (get_or xs (x + 8) 0) (get_or pixels (x + 8) 0) (front_pixel scene x y (line_objects scene.lcdc scene.oam y))
unfolding front_pixel
walked-off scene y xs pixels off far clear x within = rw (off, clear x within) (far x within, refl)
