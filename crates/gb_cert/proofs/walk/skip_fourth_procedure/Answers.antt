use Rattle.std.proofs.lemmas.Result.{err_from_is_err_and}
use Rattle.gb_cert.proofs.FourthSkipping.{no_ranges}
use Rattle.gb_cert.proofs.walk.skip_fourth_procedure.Goals as goal

pub returns-in_err-rest : goal.returns-in_err-rest
returns-in_err-rest c =
    let p = err_from_is_err_and c.from_residual-in_err-rest.result c.from_residual-in_err-rest.ensures.1 in
    rw (p.1, p.2) (no_ranges c.args.facts c.args.region c.args.nodes c.args.is_main c.args.bytes.now c.in_ok-_entry._entry c.in_ok-_entry.rest.now c.in_ok-base.base c.in_ok-base.rest.now c.in_ok-_need._need c.in_ok-_need.rest.now c.in_err-rest.field-0.0 c.in_ok-_entry.ensures c.in_ok-base.ensures c.in_ok-_need.ensures c.in_err-rest.ensures)
