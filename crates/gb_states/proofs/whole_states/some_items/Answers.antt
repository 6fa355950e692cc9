use Rattle.std.proofs.Common.{arith}
use Rattle.std.proofs.lemmas.Result.{err_from_is_err_and}
use Rattle.gb_fields.specs.Format.{several}
use Rattle.gb_states.specs.WholeReading.{val_at}
use Rattle.gb_states.proofs.Several.{goes_on, ends, is_done}
use Rattle.gb_states.proofs.whole_states.some_items.Goals as goal

pub returns-in_err-item : goal.returns-in_err-item
returns-in_err-item c =
    let p = err_from_is_err_and c.from_residual.result c.from_residual.ensures.1 in
    rw (p.1, p.2) (ends (λ (s : Unit {0}). val_at c.args.kept) (λ v. tt) c.loop.items.items tt c.args.count c.loop.counter c.loop.rest.now c.in_err-item.field-0.0 (several (λ (s : Unit {0}). val_at c.args.kept) (λ v. tt) tt c.args.count c.args.bytes.now) c.loop-test.true c.in_err-item.ensures c.loop.invariant.read)

pub loop-preserved : goal.loop-preserved
loop-preserved c = record {
  count = omega arith;
  read = rw c.push.ensures.items (goes_on (λ (s : Unit {0}). val_at c.args.kept) (λ v. tt) c.loop.items.items tt c.args.count c.loop.counter c.loop.rest.now c.in_ok-item.item c.in_ok-item.after.now (several (λ (s : Unit {0}). val_at c.args.kept) (λ v. tt) tt c.args.count c.args.bytes.now) c.loop-test.true c.in_ok-item.ensures c.loop.invariant.read);
}

pub returns : goal.returns
returns c = is_done (λ (s : Unit {0}). val_at c.args.kept) (λ v. tt) c.loop.items.items tt c.args.count c.loop.counter c.loop.rest.now (several (λ (s : Unit {0}). val_at c.args.kept) (λ v. tt) tt c.args.count c.args.bytes.now) c.loop-test.false c.loop.invariant.read
