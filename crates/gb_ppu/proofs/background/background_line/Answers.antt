use Rattle.std.proofs.Common.{◌≡◌, ℕ, ◌+◌, ◌-◌, ◌%◌, sym, ap, ◌∙◌, arith}
use Rattle.std.proofs.lemmas.List.{get_or-replicate}
use Rattle.gb_ppu.specs.Control.{has_bit}
use Rattle.gb_ppu.specs.Maps.{map_colour}
use Rattle.gb_ppu.specs.Seen.{seen}
use Rattle.gb_ppu.proofs.MapRows.{whole, off}
use Rattle.gb_ppu.proofs.background.background_line.Goals as goal

pub returns-then-has_background : goal.returns-then-has_background
returns-then-has_background c = λ x within.
    let scene = seen c.args.scene.now in
    c.draw_window.ensures x within ∙ whole scene x c.args.y _ (sym c.has_background.ensures ∙ c.if-has_background.true)
    (c.draw_tiles.ensures.drawn (x + 8) (omega arith) (omega arith)
    ∙ rw c.has_bit.ensures (ap (λ u. map_colour scene.video_ram scene.lcdc (has_bit 3 scene.lcdc) u ((c.args.y + scene.scy) % 256)) (let e : (scene.scx - scene.scx % 8 + (x + 8 - (8 - c.from-from.result))) % 256 ≡ (x + scene.scx) % 256 = omega (arith, c.from-from.ensures) in e)))

pub returns-else-has_background : goal.returns-else-has_background
returns-else-has_background c = λ x within.
    rw c.blank_line-colours.ensures (get_or-replicate {A = ℕ} 176 (x + 8) 0 0 (omega arith)) ∙ off (seen c.args.scene.now) x c.args.y (sym c.has_background.ensures ∙ c.if-has_background.false)
