use Rattle.std.proofs.Common.{refl}
use Rattle.std.proofs.lemmas.Result.{err_from_is_err_and}
use Rattle.gb_cert_place.specs.Standing.{Of, InTold, InCells, InLists, FirstTold, BehindTold}
use Rattle.gb_cert_place.proofs.PartLaws.{stop_in_list_cells}
use Rattle.gb_cert_place.proofs.StandingLaws.{stops_within_part}
use Rattle.gb_cert_place.proofs.walk.walk_lists.Goals as goal

pub returns-in_err-rest-clause-block : goal.returns-in_err-rest-clause-block
returns-in_err-rest-clause-block c =
    let p = err_from_is_err_and c.from_residual.result c.from_residual.ensures.1 in
    rw (p.1, p.2) (stops_within_part c.args.part (InTold c.args.form c.args.stack c.args.may_be_aside c.args.test c.args.bytes.now) (Of c.args.part (InLists c.args.form c.args.stack c.args.may_be_aside c.args.test c.args.bytes.now)) c.in_err-rest.field-0.0 (λ b rest a. (refl, FirstTold a)) c.in_err-rest.ensures.block)

pub returns-in_err-end-clause-block : goal.returns-in_err-end-clause-block
returns-in_err-end-clause-block c =
    let p = err_from_is_err_and c.from_residual-in_err-end.result c.from_residual-in_err-end.ensures.1 in
    rw (p.1, p.2) (stops_within_part c.args.part (InCells c.args.form c.args.stack.region c.in_ok-rest.rest.now) (Of c.args.part (InLists c.args.form c.args.stack c.args.may_be_aside c.args.test c.args.bytes.now)) c.in_err-end.field-0.0 (λ b rest a. (refl, BehindTold c.in_ok-rest.ensures.reads a)) c.in_err-end.ensures.block)

pub returns-in_err-end-clause-reads : goal.returns-in_err-end-clause-reads
returns-in_err-end-clause-reads c =
    let p = err_from_is_err_and c.from_residual-in_err-end.result c.from_residual-in_err-end.ensures.1 in
    rw (p.1, p.2) (stop_in_list_cells c.args.form c.args.stack c.args.may_be_aside c.args.test c.args.bytes.now c.in_ok-rest.rest.now c.in_err-end.field-0.0 c.in_ok-rest.ensures.reads c.in_err-end.ensures.reads)
