use Rattle.std.proofs.Common.{◌≡◌, ℕ, ◌+◌, ◌*◌, sym, ◌∙◌, arith}
use Rattle.gb_ppu.proofs.FrontLines.{row_place, row-plain, row-turned}
use Rattle.gb_ppu.proofs.objects.Object.row_colours.Goals as goal
use Rattle.gb_ppu.proofs.objects.Object.row_colours.Goals.{then-has_bit, else-has_bit}

pub returns : goal.returns
returns c =
    let m = c.args.video_ram.now in
    let place : ℕ = 16 * c.from.result + 2 * c.from-2.result in
    let is : place ≡ row_place c.args.lcdc c.args.y c.args.self = omega (arith, c.from.ensures, c.first_tile.ensures, c.from-2.ensures, c.row.ensures.value) in
    elim c.if-has_bit.branch [
      | then-has_bit w ↦ row-turned m c.args.lcdc c.args.y c.args.self place c.tile_row-row.result is c.tile_row-row.ensures _ _ (sym c.has_bit.ensures ∙ w.if-has_bit.true) w.result-is w.reversed.ensures
      | else-has_bit w ↦ row-plain m c.args.lcdc c.args.y c.args.self place c.tile_row-row.result is c.tile_row-row.ensures _ (sym c.has_bit.ensures ∙ w.if-has_bit.false) w.result-is
    ]
