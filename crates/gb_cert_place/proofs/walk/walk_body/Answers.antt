use Rattle.std.proofs.lemmas.Result.{err_from_is_err_and}
use Rattle.gb_fields.specs.Rules.{any_rules_of}
use Rattle.gb_cert_place.specs.declared.block.Part.TheVariants as part
use Rattle.gb_cert_place.specs.Standing.{InBase, InNeeded, InBody, FirstBase}
use Rattle.gb_cert_place.proofs.ProcedureLaws.{stop_in_body_needed, behind_base_in}
use Rattle.gb_cert_place.proofs.StandingLaws.{stops_within, stops_within_part}
use Rattle.gb_cert_place.proofs.walk.walk_body.Goals as goal

pub returns-in_err-base-clause-block : goal.returns-in_err-base-clause-block
returns-in_err-base-clause-block c =
    let p = err_from_is_err_and c.from_residual.result c.from_residual.ensures.1 in
    rw (p.1, p.2) (stops_within_part (part.Procedure c.args.number) (InBase (any_rules_of c.args.version) c.args.is_main c.args.region c.args.bytes.now) (InBody c.args.number c.args.version c.args.facts c.args.is_main c.args.region c.args.bytes.now) c.in_err-base.field-0.0
    (λ b rest a. FirstBase a) c.in_err-base.ensures.block)

pub returns-in_err-form-clause-reads : goal.returns-in_err-form-clause-reads
returns-in_err-form-clause-reads c =
    let p = err_from_is_err_and c.from_residual-in_err-form.result c.from_residual-in_err-form.ensures.1 in
    rw (p.1, p.2) (stop_in_body_needed c.args.version c.args.facts c.args.is_main c.args.region c.args.bytes.now c.in_ok-base.base c.in_ok-base.rest.now c.in_err-form.field-0.0 c.in_ok-base.ensures.reads c.in_err-form.ensures.reads)

pub returns-in_err-form-clause-block : goal.returns-in_err-form-clause-block
returns-in_err-form-clause-block c =
    let p = err_from_is_err_and c.from_residual-in_err-form.result c.from_residual-in_err-form.ensures.1 in
    rw (p.1, p.2) (stops_within (InNeeded c.args.number c.args.version c.args.facts c.in_ok-base.base c.args.is_main c.args.region c.in_ok-base.rest.now) (InBody c.args.number c.args.version c.args.facts c.args.is_main c.args.region c.args.bytes.now) c.in_err-form.field-0.0
    (λ q b rest a. behind_base_in c.args.number c.args.version c.args.facts c.args.is_main c.args.region c.args.bytes.now c.in_ok-base.base c.in_ok-base.rest.now q b rest c.in_ok-base.ensures.reads a) c.in_err-form.ensures.block)
