use Rattle.std.proofs.Common.{◌≡◌, ◌≢◌, ◌<◌, length, ◌∙◌, arith, below_more}
use Rattle.std.proofs.lemmas.List.{get_or-set_same, get_or-set_other, length-set}
use Rattle.gb_printed.proofs.Packing.{all_packed, fours_packed}
use Rattle.gb_printed.proofs.screen.packed.Goals as goal

pub loop-i-preserved : goal.loop-i-preserved
loop-i-preserved c =
    let lt : c.loop-i.i < length c.loop-i.bytes = omega (arith, c.loop-i.invariant.room, c.as_chunks.ensures.front_len, c.told-shades) in
    record {
      room = length-set c.loop-i.bytes c.loop-i.i c.byte_of.result ∙ c.loop-i.invariant.room;
      done = below_more _ _
          (λ k h. let ne : k ≢ c.loop-i.i = omega arith in get_or-set_other c.loop-i.bytes c.loop-i.i k c.byte_of.result 0 ne ∙ c.loop-i.invariant.done k h)
          (get_or-set_same c.loop-i.bytes c.loop-i.i c.byte_of.result 0 lt ∙ c.byte_of.ensures);
    }

pub returns : goal.returns
returns c =
    let count : length c.as_chunks.result.0.now ≡ 40 = omega (arith, c.as_chunks.ensures.front_len, c.told-shades) in
    all_packed c.loop-i.bytes c.as_chunks.result.0.now (omega (arith, c.loop-i.invariant.room)) (λ k h. c.loop-i.invariant.done k (omega arith))
    ∙ fours_packed c.args.shades.now c.as_chunks.result.0.now c.told-shades c.as_chunks.ensures.front
