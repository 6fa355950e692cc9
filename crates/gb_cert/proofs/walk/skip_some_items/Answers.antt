use Rattle.std.proofs.lemmas.Result.{err_from_is_err_and}
use Rattle.gb_states.specs.Below.gb_fields.Format.{several}
use Rattle.gb_cert.specs.Skipping.{skipped}
use Rattle.gb_states.specs.Forms.{val_by}
use Rattle.gb_cert.proofs.Skipping.{skips_on, skip_ends, skip_done}
use Rattle.gb_cert.proofs.walk.skip_some_items.Goals as goal

pub returns-in_err-_item : goal.returns-in_err-_item
returns-in_err-_item c =
    let p = err_from_is_err_and c.from_residual.result c.from_residual.ensures.1 in
    rw (p.1, p.2) (skip_ends (λ (s : Unit {0}). val_by c.args.form) (λ v. tt) tt c.args.count c.loop.counter c.loop.rest.now c.in_err-_item.field-0.0 (skipped (several (λ (s : Unit {0}). val_by c.args.form) (λ v. tt) tt c.args.count) c.args.bytes.now) c.loop-test.true c.in_err-_item.ensures c.loop.invariant)

pub loop-preserved : goal.loop-preserved
loop-preserved c = skips_on (λ (s : Unit {0}). val_by c.args.form) (λ v. tt) tt c.args.count c.loop.counter c.loop.rest.now c.in_ok-_item._item c.in_ok-_item.after.now (skipped (several (λ (s : Unit {0}). val_by c.args.form) (λ v. tt) tt c.args.count) c.args.bytes.now) c.loop-test.true c.in_ok-_item.ensures c.loop.invariant

pub returns : goal.returns
returns c = skip_done (λ (s : Unit {0}). val_by c.args.form) (λ v. tt) tt c.args.count c.loop.counter c.loop.rest.now (skipped (several (λ (s : Unit {0}). val_by c.args.form) (λ v. tt) tt c.args.count) c.args.bytes.now) c.loop-test.false c.loop.invariant
