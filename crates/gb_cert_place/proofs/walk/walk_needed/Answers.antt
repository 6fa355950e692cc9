use Rattle.std.proofs.Common.{◌≡◌, Ok, sym, subst}
use Rattle.std.proofs.lemmas.Result.{err_from_is_err_and}
use Rattle.gb_fields.specs.Reading.{need_at}
use Rattle.gb_states.specs.Reading.{ranges_at}
use Rattle.gb_cert.specs.Skipping.{skipped}
use Rattle.gb_cert_place.specs.declared.block.Block.TheVariants as block
use Rattle.gb_cert_place.specs.declared.block.Part.TheVariants as part
use Rattle.gb_cert_place.specs.Standing.{InRanges, InEnding, InNeeded, AtNeed, BehindNeed, BehindRanges}
use Rattle.gb_cert_place.proofs.ProcedureLaws.{stop_in_need, stop_in_ranges, stop_behind_ranges}
use Rattle.gb_cert_place.proofs.StandingLaws.{stops_in_front, stops_within, stops_within_part}
use Rattle.gb_cert_place.proofs.walk.walk_needed.Goals as goal

pub returns-in-Err-clause-reads : goal.returns-in-Err-clause-reads
returns-in-Err-clause-reads c = stop_in_need c.args.version c.args.facts c.args.base c.args.is_main c.args.region c.args.bytes.now c.any_rules_of-rules.result c.stopped.result c.any_rules_of-rules.ensures c.stopped.ensures.place

pub returns-in-Err-clause-block : goal.returns-in-Err-clause-block
returns-in-Err-clause-block c =
    stops_in_front (InNeeded c.args.number c.args.version c.args.facts c.args.base c.args.is_main c.args.region c.args.bytes.now) (part.Procedure c.args.number) (block.Need c.any_rules_of-rules.result c.args.is_main c.args.region) c.args.bytes.now c.stopped.result c.stopped.ensures.part c.stopped.ensures.block c.stopped.ensures.before c.stopped.ensures.place
    (subst (λ r. InNeeded c.args.number c.args.version c.args.facts c.args.base c.args.is_main c.args.region c.args.bytes.now (part.Procedure c.args.number) (block.Need r c.args.is_main c.args.region) c.args.bytes.now) (sym c.any_rules_of-rules.ensures) AtNeed)

pub returns-in_err-rest-in-Ok-clause-reads : goal.returns-in_err-rest-in-Ok-clause-reads
returns-in_err-rest-in-Ok-clause-reads c =
    let p = err_from_is_err_and c.from_residual.result c.from_residual.ensures.1 in
    rw (p.1, p.2) (stop_in_ranges c.args.version c.args.facts c.args.base c.args.is_main c.args.region c.args.bytes.now c.any_rules_of-rules.result c.in-Ok._need c.in-Ok.rest.now c.in_err-rest-in-Ok.field-0.0 c.any_rules_of-rules.ensures c.in-Ok.ensures c.in_err-rest-in-Ok.ensures.reads)

pub returns-in_err-rest-in-Ok-clause-block : goal.returns-in_err-rest-in-Ok-clause-block
returns-in_err-rest-in-Ok-clause-block c =
    let p = err_from_is_err_and c.from_residual.result c.from_residual.ensures.1 in
    let read = subst (λ r. need_at r c.args.is_main c.args.region c.args.bytes.now ≡ Ok (c.in-Ok._need, c.in-Ok.rest.now)) c.any_rules_of-rules.ensures c.in-Ok.ensures in
    rw (p.1, p.2) (stops_within_part (part.Procedure c.args.number) (InRanges c.any_rules_of-rules.result c.args.is_main c.args.region c.in-Ok.rest.now) (InNeeded c.args.number c.args.version c.args.facts c.args.base c.args.is_main c.args.region c.args.bytes.now) c.in_err-rest-in-Ok.field-0.0
    (λ b rest a. BehindNeed read (subst (λ r. InRanges r c.args.is_main c.args.region c.in-Ok.rest.now b rest) c.any_rules_of-rules.ensures a)) c.in_err-rest-in-Ok.ensures.block)

pub returns-in_err-form-in-Ok-clause-reads : goal.returns-in_err-form-in-Ok-clause-reads
returns-in_err-form-in-Ok-clause-reads c =
    let p = err_from_is_err_and c.from_residual-in_err-form-in-Ok.result c.from_residual-in_err-form-in-Ok.ensures.1 in
    rw (p.1, p.2) (stop_behind_ranges c.args.version c.args.facts c.args.base c.args.is_main c.args.region c.args.bytes.now c.any_rules_of-rules.result c.in-Ok._need c.in-Ok.rest.now c.in_ok-rest-in-Ok.rest.now c.in_err-form-in-Ok.field-0.0 c.any_rules_of-rules.ensures c.in-Ok.ensures c.in_ok-rest-in-Ok.ensures.reads c.in_err-form-in-Ok.ensures.reads)

pub returns-in_err-form-in-Ok-clause-block : goal.returns-in_err-form-in-Ok-clause-block
returns-in_err-form-in-Ok-clause-block c =
    let p = err_from_is_err_and c.from_residual-in_err-form-in-Ok.result c.from_residual-in_err-form-in-Ok.ensures.1 in
    let read = subst (λ r. need_at r c.args.is_main c.args.region c.args.bytes.now ≡ Ok (c.in-Ok._need, c.in-Ok.rest.now)) c.any_rules_of-rules.ensures c.in-Ok.ensures in
    let ranges = subst (λ r. skipped (ranges_at r c.args.is_main c.args.region) c.in-Ok.rest.now ≡ Ok c.in_ok-rest-in-Ok.rest.now) c.any_rules_of-rules.ensures c.in_ok-rest-in-Ok.ensures.reads in
    rw (p.1, p.2) (stops_within (InEnding c.args.number c.args.version c.args.facts c.args.base c.args.is_main c.args.region c.in_ok-rest-in-Ok.rest.now) (InNeeded c.args.number c.args.version c.args.facts c.args.base c.args.is_main c.args.region c.args.bytes.now) c.in_err-form-in-Ok.field-0.0 (λ q b rest a. BehindRanges read ranges a) c.in_err-form-in-Ok.ensures.block)
