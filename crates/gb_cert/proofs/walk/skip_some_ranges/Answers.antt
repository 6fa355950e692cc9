use Rattle.std.proofs.lemmas.Result.{err_from_is_err_and}
use Rattle.gb_states.specs.Below.gb_fields.Format.{several}
use Rattle.gb_cert.specs.Skipping.{skipped}
use Rattle.gb_states.specs.Rules.{after_range}
use Rattle.gb_states.specs.Reading.{range_at}
use Rattle.gb_cert.proofs.Skipping.{skips_on, skip_ends, skip_done}
use Rattle.gb_cert.proofs.walk.skip_some_ranges.Goals as goal

pub returns-in_err-range : goal.returns-in_err-range
returns-in_err-range c =
    let p = err_from_is_err_and c.from_residual.result c.from_residual.ensures.1 in
    rw (p.1, p.2) (skip_ends (range_at c.args.region) after_range c.loop.least c.args.count c.loop.counter c.loop.rest.now c.in_err-range.field-0.0 (skipped (several (range_at c.args.region) after_range 0 c.args.count) c.args.bytes.now) c.loop-test.true c.in_err-range.ensures c.loop.invariant)

pub loop-preserved : goal.loop-preserved
loop-preserved c = skips_on (range_at c.args.region) after_range c.loop.least c.args.count c.loop.counter c.loop.rest.now c.in_ok-range.range c.in_ok-range.after.now (skipped (several (range_at c.args.region) after_range 0 c.args.count) c.args.bytes.now) c.loop-test.true c.in_ok-range.ensures c.loop.invariant

pub returns : goal.returns
returns c = skip_done (range_at c.args.region) after_range c.loop.least c.args.count c.loop.counter c.loop.rest.now (skipped (several (range_at c.args.region) after_range 0 c.args.count) c.args.bytes.now) c.loop-test.false c.loop.invariant
