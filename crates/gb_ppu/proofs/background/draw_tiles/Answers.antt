use Rattle.std.proofs.Common.{◌≡◌, ◌+◌, ◌-◌, ◌<◌, inl, inr, ap, ◌∙◌, arith}
use Rattle.std.proofs.lemmas.Bool.{cases_lt}
use Rattle.std.proofs.lemmas.Simd.{get_or-put_chunk_below, get_or-put_chunk_at}
use Rattle.gb_ppu.specs.declared.maps.TileRow.{TileRow}
use Rattle.gb_ppu.specs.Tiles.{colour_in}
use Rattle.gb_ppu.proofs.MapRows.{row_columns}
use Rattle.gb_ppu.proofs.background.draw_tiles.Goals as goal

pub loop-at-preserved : goal.loop-at-preserved
loop-at-preserved c =
    let m = c.args.scene.now.video_ram.now in
    let lcdc = c.args.scene.now.lcdc in
    let at = c.loop-at.at in
    let lanes = c.tile_row.result in
    let column = c.loop-at.invariant.1 in
    let first = c.loop-at.invariant.2 in (
      omega (arith, c.loop-at.invariant.0),
      omega (arith, c.loop-at.invariant.0, column),
      omega (arith, first),
      (λ k least less. rw c.put_eight.ensures (elim (cases_lt k at) [
        | inl before ↦ get_or-put_chunk_below at c.loop-at.colours lanes k 0 before ∙ c.loop-at.invariant.3 k least before
        | inr from ↦
            let within : k - at < 8 = omega arith in
            let e : at + (k - at) ≡ k = omega arith in
            let there = get_or-put_chunk_at at c.loop-at.colours lanes (k - at) 0 (omega (arith, c.tile_row.ensures.len)) (omega (arith, c.loop-at-test.true)) in
            (rw e at there)
            ∙ c.tile_row.ensures.lanes (k - at) within
            ∙ ap (λ (r : TileRow). colour_in r.low r.high (k - at)) c.tile_row-row.ensures
            ∙ row_columns m lcdc c.args.is_second c.loop-at.column c.args.v (k - at) _ first within (omega (arith, c.loop-at.invariant.0, column, first))
      ])),
      (λ k less. rw c.put_eight.ensures (get_or-put_chunk_below at c.loop-at.colours lanes k 0 (omega (arith, c.loop-at.invariant.0)) ∙ c.loop-at.invariant.4 k less)),
    )
