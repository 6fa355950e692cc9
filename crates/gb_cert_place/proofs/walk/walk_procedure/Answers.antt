use Rattle.std.proofs.lemmas.Result.{err_from_is_err_and}
use Rattle.gb_fields.specs.Reading.{head_in}
use Rattle.gb_cert_place.specs.declared.block.Block.TheVariants as block
use Rattle.gb_cert_place.specs.declared.block.Part.TheVariants as part
use Rattle.gb_cert_place.specs.Standing.{InBody, InProcedure, AtEntry, BehindEntry}
use Rattle.gb_cert_place.proofs.ProcedureLaws.{stop_in_entry}
use Rattle.gb_cert_place.proofs.StandingLaws.{stops_in_front, stops_within}
use Rattle.gb_cert_place.proofs.walk.walk_procedure.Goals as goal

pub returns-in-Err-clause-reads : goal.returns-in-Err-clause-reads
returns-in-Err-clause-reads c = stop_in_entry c.args.head.version c.args.facts c.args.head.region c.args.head.nodes c.args.is_main c.args.bytes.now c.stopped.result c.stopped.ensures.place

pub returns-in-Err-clause-block : goal.returns-in-Err-clause-block
returns-in-Err-clause-block c =
    stops_in_front (InProcedure c.args.number (head_in c.args.head) c.args.facts c.args.is_main c.args.bytes.now) (part.Procedure c.args.number) (block.Entry c.args.head.version c.args.head.nodes) c.args.bytes.now c.stopped.result c.stopped.ensures.part c.stopped.ensures.block c.stopped.ensures.before c.stopped.ensures.place AtEntry

pub returns-in_err-form-in-Ok-clause-block : goal.returns-in_err-form-in-Ok-clause-block
returns-in_err-form-in-Ok-clause-block c =
    let p = err_from_is_err_and c.from_residual.result c.from_residual.ensures.1 in
    rw (p.1, p.2) (stops_within (InBody c.args.number c.args.head.version c.args.facts c.args.is_main c.args.head.region c.in-Ok.rest.now) (InProcedure c.args.number (head_in c.args.head) c.args.facts c.args.is_main c.args.bytes.now) c.in_err-form-in-Ok.field-0.0 (λ q b rest a. BehindEntry c.in-Ok.ensures a) c.in_err-form-in-Ok.ensures.block)
