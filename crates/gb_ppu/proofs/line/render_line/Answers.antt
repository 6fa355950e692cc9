use Rattle.std.proofs.Common.{◌≡◌, ℕ, ap, ◌∙◌}
use Rattle.gb_ppu.specs.Seen.{Seen, seen}
use Rattle.gb_ppu.specs.Objects.{line_objects}
use Rattle.gb_ppu.specs.Pixel.{shade, mixed, background_colour, front_pixel}
use Rattle.gb_ppu.specs.FrontLine.{IsPixelOrNone, mixed_byte}
use Rattle.gb_ppu.proofs.FrontObject.{shows_front}
use Rattle.gb_ppu.proofs.FrontLines.{byte-mixed}
use Rattle.gb_ppu.proofs.MapRows.{background_colour_small}
use Rattle.gb_ppu.proofs.line.render_line.Goals as goal

pub mix_line-requires : goal.mix_line-requires
mix_line-requires c = λ x within. rw (c.background_line-colours.ensures x within) (background_colour_small _ _ _)

-- background and objects, mixed
mixed-shade : (scene : Seen) (x y colour front byte : ℕ) → colour ≡ background_colour scene x y
    → IsPixelOrNone scene front byte (front_pixel scene x y (line_objects scene.lcdc scene.oam y)) → mixed_byte scene colour byte ≡ shade scene x y
unfolding shade
mixed-shade scene x y colour front byte below above =
    byte-mixed scene colour front byte _ above ∙ ap (λ c. mixed scene c (front_pixel scene x y (line_objects scene.lcdc scene.oam y))) below

pub returns-clause-pixels : goal.returns-clause-pixels
returns-clause-pixels c = λ x within.
    c.mix_line.ensures x within ∙ mixed-shade (seen c.args.scene.now) x c.args.y _ _ _ (c.background_line-colours.ensures x within) (c.front_line-front.ensures x within)

pub returns-clause-front : goal.returns-clause-front
returns-clause-front c = λ x within.
    shows_front (seen c.args.scene.now) x c.args.y _
    (c.mix_line.ensures x within ∙ mixed-shade (seen c.args.scene.now) x c.args.y _ _ _ (c.background_line-colours.ensures x within) (c.front_line-front.ensures x within))
