use Rattle.std.proofs.Common.{◌≡◌, ℕ, ◌+◌, ◌-◌, ◌<◌, List, inl, inr, ap, ◌∙◌, arith, get_or}
use Rattle.std.proofs.lemmas.Bool.{cases_lt}
use Rattle.std.proofs.lemmas.Simd.{get_or-chunk, get_or-put_chunk_below, get_or-put_chunk_at}
use Rattle.std.specs.Simd.Lanes.{chunk}
use Rattle.gb_ppu.specs.Seen.{seen}
use Rattle.gb_ppu.specs.FrontLine.{mixed_byte}
use Rattle.gb_ppu.proofs.MixedLanes.{mixed_by-scene}
use Rattle.gb_ppu.proofs.mixing.mix_line.Goals as goal

-- the colours that were read are colours
small_lane : (colours lanes : List ℕ) (x i : ℕ) → ((x : ℕ) → x < 160 → get_or colours (x + 8) 0 < 4) → lanes ≡ chunk (x + 8) 16 colours → x + i < 160 → i < 16
    → get_or lanes i 0 < 4
small_lane colours lanes x i small is within less =
    let e : x + 8 + i ≡ x + i + 8 = omega arith in
    rw (is, get_or-chunk (x + 8) 16 colours i 0 less, e) (small (x + i) within)

pub mix-requires : goal.mix-requires
mix-requires c = λ i less.
    small_lane c.args.colours.now _ c.loop-x.x i c.requires c.sixteen_at-below.ensures (omega (arith, c.loop-x-test.true, c.loop-x.invariant.1)) less

pub loop-x-preserved : goal.loop-x-preserved
loop-x-preserved c =
    let scene = seen c.args.scene.now in
    let colours = c.args.colours.now in
    let pixels = c.args.pixels.now in
    let x = c.loop-x.x in
    let lanes = c.mix.result in (
      omega (arith, c.loop-x-test.true, c.loop-x.invariant.1),
      omega (arith, c.loop-x.invariant.1),
      (λ k less. rw c.put_sixteen.ensures (elim (cases_lt k x) [
        | inl before ↦ get_or-put_chunk_below x c.loop-x.line lanes k 0 before ∙ c.loop-x.invariant.2 k before
        | inr from ↦
            let within : k - x < 16 = omega arith in
            let e : x + (k - x) ≡ k = omega arith in
            let f : x + 8 + (k - x) ≡ k + 8 = omega arith in
            let there = get_or-put_chunk_at x c.loop-x.line lanes (k - x) 0 (omega (arith, c.mix.ensures.len)) (omega (arith, c.loop-x-test.true, c.loop-x.invariant.1)) in
            let colour : get_or (chunk (x + 8) 16 colours) (k - x) 0 ≡ get_or colours (k + 8) 0 = get_or-chunk (x + 8) 16 colours (k - x) 0 within ∙ ap (λ n. get_or colours n 0) f in
            let pixel : get_or (chunk (x + 8) 16 pixels) (k - x) 0 ≡ get_or pixels (k + 8) 0 = get_or-chunk (x + 8) 16 pixels (k - x) 0 within ∙ ap (λ n. get_or pixels n 0) f in
            (rw e at there)
            ∙ c.mix.ensures.lanes (k - x) within
            ∙ mixed_by-scene scene _ _ _ _ _ (small_lane colours _ x (k - x) c.requires c.sixteen_at-below.ensures (omega (arith, c.loop-x-test.true, c.loop-x.invariant.1)) within) c.palettes_of-palettes.ensures.background c.palettes_of-palettes.ensures.first c.palettes_of-palettes.ensures.second
            ∙ rw (c.sixteen_at-below.ensures, c.sixteen_at-above.ensures) (λ j. mixed_byte scene (colour j) (pixel j))
      ])),
    )

pub returns : goal.returns
returns c = λ x within. c.loop-x.invariant.2 x (omega (arith, c.loop-x-test.false))
