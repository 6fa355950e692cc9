-- The sink took a part of what was left.
use Rattle.std.proofs.Common.{◌≤◌, length, arith, length-drop}
use Rattle.gb_text.proofs.Gained.{gains_more, gains_whole, rest_is}
use Rattle.gb_text.proofs.put.put_all.Goals as goal

pub loop-done-preserved : goal.loop-done-preserved
loop-done-preserved g c =
    let rest = rest_is c.args.bytes.now c.loop-done.done in
    let most = rw rest at c.in-Ok.ensures.most in
    record {
      within = omega (arith, most, length-drop c.loop-done.done c.args.bytes.now);
      works = c.in-Ok.ensures.failed;
      taken = gains_more _ _ _ c.args.bytes.now c.loop-done.done c.in-Ok.taken c.loop-done.invariant.taken (rw rest at c.in-Ok.ensures.took);
    }

pub returns-clause-whole : goal.returns-clause-whole
returns-clause-whole g c =
    let past : length c.args.bytes.now ≤ c.loop-done.done = omega arith in
    gains_whole _ _ c.args.bytes.now c.loop-done.done past c.loop-done.invariant.taken
