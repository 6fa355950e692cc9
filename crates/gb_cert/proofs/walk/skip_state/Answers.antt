use Rattle.std.proofs.Common.{◌∙◌, ap}
use Rattle.std.proofs.lemmas.Result.{err_from_is_err_and}
use Rattle.gb_cert.specs.Skipping.{skipped, past}
use Rattle.gb_states.specs.Below.gb_fields.Format.{both}
use Rattle.gb_states.specs.RelationReading.{relations_by}
use Rattle.gb_states.specs.Reading.{cells_at}
use Rattle.gb_cert.proofs.Skipping.{pass_then}
use Rattle.gb_cert.proofs.walk.skip_state.Goals as goal

pub returns-in_err-rest : goal.returns-in_err-rest
returns-in_err-rest c =
    let p = err_from_is_err_and c.from_residual-in_err-rest.result c.from_residual-in_err-rest.ensures.1 in
    let e = pass_then c.args.rules c.args.role c.args.region c.args.bytes.now (c.in_ok-stack_set.stack_set, c.in_ok-stack_set.test) c.in_ok-stack_set.rest.now c.in_ok-stack_set.ensures in
    rw (p.1, p.2) (e ∙ ap (λ r. past r (skipped (both (relations_by c.args.rules c.args.region c.in_ok-stack_set.test) (cells_at c.args.rules c.args.region)))) c.in_err-rest.ensures)

pub returns : goal.returns
returns c =
    let e = pass_then c.args.rules c.args.role c.args.region c.args.bytes.now (c.in_ok-stack_set.stack_set, c.in_ok-stack_set.test) c.in_ok-stack_set.rest.now c.in_ok-stack_set.ensures in
    rw (e ∙ ap (λ r. past r (skipped (both (relations_by c.args.rules c.args.region c.in_ok-stack_set.test) (cells_at c.args.rules c.args.region)))) c.in_ok-rest.ensures) c.skip_told.ensures
