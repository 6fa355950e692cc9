use Rattle.std.proofs.lemmas.Result.{err_from_is_err_and}
use Rattle.gb_cert.proofs.FourthSkipping.{no_items}
use Rattle.gb_cert.proofs.walk.skip_fourth_state.Goals as goal

pub returns-in_err-count : goal.returns-in_err-count
returns-in_err-count c =
    let p = err_from_is_err_and c.from_residual-in_err-count.result c.from_residual-in_err-count.ensures.1 in
    rw (p.1, p.2) (no_items c.args.facts c.args.form c.args.role c.args.region c.args.bytes.now (c.in_ok-stack_set.stack_set, c.in_ok-stack_set.aside) c.in_ok-stack_set.rest.now c.in_err-count.field-0.0 c.in_ok-stack_set.ensures c.in_err-count.ensures)
