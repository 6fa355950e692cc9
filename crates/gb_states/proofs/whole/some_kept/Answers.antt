use Rattle.std.proofs.Common.{arith}
use Rattle.std.proofs.lemmas.Result.{err_from_is_err_and}
use Rattle.gb_fields.specs.Format.{several}
use Rattle.gb_states.specs.WholeRules.{after_address}
use Rattle.gb_states.specs.WholeReading.{free_address_at}
use Rattle.gb_states.proofs.Several.{goes_on, ends, is_done}
use Rattle.gb_states.proofs.whole.some_kept.Goals as goal

pub returns-in_err-address : goal.returns-in_err-address
returns-in_err-address c =
    let p = err_from_is_err_and c.from_residual.result c.from_residual.ensures.1 in
    rw (p.1, p.2) (ends (free_address_at c.args.region) after_address c.loop.kept.items c.loop.least c.args.count c.loop.counter c.loop.rest.now c.in_err-address.field-0.0 (several (free_address_at c.args.region) after_address 0 c.args.count c.args.bytes.now) c.loop-test.true c.in_err-address.ensures c.loop.invariant.read)

pub loop-preserved : goal.loop-preserved
loop-preserved c = record {
  count = omega arith;
  read = rw c.push.ensures.items (goes_on (free_address_at c.args.region) after_address c.loop.kept.items c.loop.least c.args.count c.loop.counter c.loop.rest.now c.in_ok-address.address c.in_ok-address.after.now (several (free_address_at c.args.region) after_address 0 c.args.count c.args.bytes.now) c.loop-test.true c.in_ok-address.ensures c.loop.invariant.read);
}

pub returns : goal.returns
returns c = is_done (free_address_at c.args.region) after_address c.loop.kept.items c.loop.least c.args.count c.loop.counter c.loop.rest.now (several (free_address_at c.args.region) after_address 0 c.args.count c.args.bytes.now) c.loop-test.false c.loop.invariant.read
