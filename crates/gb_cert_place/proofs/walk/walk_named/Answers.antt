use Rattle.std.proofs.lemmas.Result.{err_from_is_err_and}
use Rattle.gb_states.specs.declared.form.Form.TheVariants.{Fourth}
use Rattle.gb_cert_place.specs.declared.block.Block.TheVariants as block
use Rattle.gb_cert_place.specs.declared.block.Part.TheVariants as part
use Rattle.gb_cert_place.specs.Standing.{InKept, InExit, InNamed, FirstKept}
use Rattle.gb_cert_place.proofs.NamedLaws.{stop_in_mark, in_mark, behind_mark}
use Rattle.gb_cert_place.proofs.StandingLaws.{stops_in_front, stops_within, stops_within_part}
use Rattle.gb_cert_place.proofs.walk.walk_named.Goals as goal

pub returns-in_err-kept-clause-block : goal.returns-in_err-kept-clause-block
returns-in_err-kept-clause-block c =
    let p = err_from_is_err_and c.from_residual.result c.from_residual.ensures.1 in
    rw (p.1, p.2) (stops_within_part (part.Procedure c.args.number) (InKept c.args.is_main c.args.region c.args.bytes.now) (InNamed c.args.number c.args.facts c.args.base c.args.is_main c.args.region c.args.bytes.now) c.in_err-kept.field-0.0 (λ b rest a. FirstKept a) c.in_err-kept.ensures.block)

pub returns-in-Err-clause-reads : goal.returns-in-Err-clause-reads
returns-in-Err-clause-reads c = stop_in_mark c.args.facts c.args.base c.args.is_main c.args.region c.args.bytes.now c.in_ok-kept.kept c.in_ok-kept.rest.now c.stopped.result c.in_ok-kept.ensures.reads c.stopped.ensures.place

pub returns-in-Err-clause-block : goal.returns-in-Err-clause-block
returns-in-Err-clause-block c =
    stops_in_front (InNamed c.args.number c.args.facts c.args.base c.args.is_main c.args.region c.args.bytes.now) (part.Procedure c.args.number) block.Mark c.in_ok-kept.rest.now c.stopped.result c.stopped.ensures.part c.stopped.ensures.block c.stopped.ensures.before c.stopped.ensures.place
    (in_mark c.args.number c.args.facts c.args.base c.args.is_main c.args.region c.args.bytes.now c.in_ok-kept.kept c.in_ok-kept.rest.now c.in_ok-kept.ensures.reads)

pub returns-in_err-end-clause-block : goal.returns-in_err-end-clause-block
returns-in_err-end-clause-block c =
    let p = err_from_is_err_and c.from_residual-in_err-end.result c.from_residual-in_err-end.ensures.1 in
    rw (p.1, p.2) (stops_within (InExit c.args.number (Fourth c.args.facts (record { kept = c.in_ok-kept.kept; base = c.args.base })) c.args.is_main c.args.region c.in-Ok.after.now) (InNamed c.args.number c.args.facts c.args.base c.args.is_main c.args.region c.args.bytes.now) c.in_err-end.field-0.0
    (λ q b rest a. behind_mark c.args.number c.args.facts c.args.base c.args.is_main c.args.region c.args.bytes.now c.in_ok-kept.kept c.in_ok-kept.rest.now c.in-Ok._mark c.in-Ok.after.now rest q b c.in_ok-kept.ensures.reads c.in-Ok.ensures a) c.in_err-end.ensures.block)
