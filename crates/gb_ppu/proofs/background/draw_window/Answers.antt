use Rattle.std.proofs.Common.{◌≡◌, ◌<◌, ◌≤◌, ◌+◌, ◌-◌, ◌%◌, inl, inr, sym, ap, ◌∙◌, arith}
use Rattle.std.proofs.lemmas.Bool.{cases_lt}
use Rattle.gb_ppu.specs.Control.{has_bit}
use Rattle.gb_ppu.specs.Maps.{map_colour}
use Rattle.gb_ppu.specs.Seen.{seen}
use Rattle.gb_ppu.proofs.MapRows.{hidden, hidden_beyond, hidden_before, without_row, shown}
use Rattle.gb_ppu.proofs.background.draw_window.Goals as goal

pub returns-then-not-has_window : goal.returns-then-not-has_window
returns-then-not-has_window c = λ x within. hidden (seen c.args.scene.now) x _ (sym c.has_window.ensures ∙ c.if-not-has_window.true)

pub returns-then-scene-gt166 : goal.returns-then-scene-gt166
returns-then-scene-gt166 c = λ x within. hidden_beyond (seen c.args.scene.now) x _ c.if-scene-gt166.true

pub returns-in-Some : goal.returns-in-Some
returns-in-Some c = λ x within.
    let scene = seen c.args.scene.now in
    let near : scene.wx ≤ 166 = c.if-scene-gt166.false in
    let starts : c.from-from.result ≡ scene.wx = c.from-from.ensures in
    elim (cases_lt (x + 8) (c.from-from.result + 1)) [
      | inl before ↦ c.draw_tiles.ensures.kept (x + 8) before ∙ hidden_before scene x _ (let left : x + 7 < scene.wx = omega (arith, starts, before) in left)
      | inr begun ↦
          c.draw_tiles.ensures.drawn (x + 8) begun (omega arith)
          ∙ rw c.has_bit.ensures (ap (λ u. map_colour scene.video_ram scene.lcdc (has_bit 6 scene.lcdc) u c.in-Some.row)
          (let e : (0 + (x + 8 - (c.from-from.result + 1))) % 256 ≡ x + 7 - scene.wx = omega (arith, starts, begun, within, near) in e))
          ∙ shown scene x _ c.in-Some.row (sym c.has_window.ensures ∙ c.if-not-has_window.false) near (omega (arith, starts, begun)) c.in-Some.is
    ]

pub returns-in_default : goal.returns-in_default
returns-in_default c = λ x within. without_row (seen c.args.scene.now) x _ c.in_default.is
