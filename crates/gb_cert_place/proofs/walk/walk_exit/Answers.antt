use Rattle.std.proofs.Common.{◌≡◌, subst, Ok}
use Rattle.std.proofs.lemmas.Result.{err_from_is_err_and}
use Rattle.gb_fields.specs.Reading.{returns_at}
use Rattle.gb_states.specs.declared.role.Role.TheVariants as role
use Rattle.gb_cert_place.specs.declared.block.Block.TheVariants as block
use Rattle.gb_cert_place.specs.declared.block.Part.TheVariants as part
use Rattle.gb_cert_place.specs.Standing.{InState, InExit, AtReturns, BehindReturns}
use Rattle.gb_cert_place.proofs.PartLaws.{stop_in_returns, stop_in_exit}
use Rattle.gb_cert_place.proofs.StandingLaws.{stops_in_front, stops_within_part}
use Rattle.gb_cert_place.proofs.walk.walk_exit.Goals as goal

pub returns-in-Err-clause-reads : goal.returns-in-Err-clause-reads
returns-in-Err-clause-reads c = stop_in_returns c.args.form c.args.is_main c.args.region c.args.bytes.now c.stopped.result c.stopped.ensures.place

pub returns-in_err-end-in-Ok-true-default-clause-reads : goal.returns-in_err-end-in-Ok-true-default-clause-reads
returns-in_err-end-in-Ok-true-default-clause-reads c =
    let p = err_from_is_err_and c.from_residual.result c.from_residual.ensures.1 in
    rw (p.1, p.2) (stop_in_exit c.args.form c.args.is_main c.args.region c.args.bytes.now c.in-Ok-true-default.rest.now c.in_err-end-in-Ok-true-default.field-0.0 (subst (λ t. returns_at c.args.is_main c.args.bytes.now ≡ Ok (t, c.in-Ok-true-default.rest.now)) c.in-Ok-true-default.field-0-0-test c.in-Ok-true-default.ensures) c.in_err-end-in-Ok-true-default.ensures.reads)

pub returns-in-Err-clause-block : goal.returns-in-Err-clause-block
returns-in-Err-clause-block c = stops_in_front (InExit c.args.number c.args.form c.args.is_main c.args.region c.args.bytes.now) (part.Procedure c.args.number) (block.Returns c.args.is_main) c.args.bytes.now c.stopped.result c.stopped.ensures.part c.stopped.ensures.block c.stopped.ensures.before c.stopped.ensures.place AtReturns

pub returns-in_err-end-in-Ok-true-default-clause-block : goal.returns-in_err-end-in-Ok-true-default-clause-block
returns-in_err-end-in-Ok-true-default-clause-block c =
    let p = err_from_is_err_and c.from_residual.result c.from_residual.ensures.1 in
    let r = subst (λ t. returns_at c.args.is_main c.args.bytes.now ≡ Ok (t, c.in-Ok-true-default.rest.now)) c.in-Ok-true-default.field-0-0-test c.in-Ok-true-default.ensures in
    rw (p.1, p.2) (stops_within_part (part.Exit c.args.number) (InState c.args.form role.Exit c.args.region c.in-Ok-true-default.rest.now) (InExit c.args.number c.args.form c.args.is_main c.args.region c.args.bytes.now) c.in_err-end-in-Ok-true-default.field-0.0 (λ b rest a. BehindReturns r a) c.in_err-end-in-Ok-true-default.ensures.block)
