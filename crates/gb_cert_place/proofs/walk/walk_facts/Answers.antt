use Rattle.std.proofs.lemmas.Result.{err_from_is_err_and}
use Rattle.gb_cert_place.specs.declared.block.Block.TheVariants as block
use Rattle.gb_cert_place.specs.declared.block.Part.TheVariants as part
use Rattle.gb_cert_place.specs.Standing.{AmongFacts, InFacts, AtFactCount, BehindFactCount}
use Rattle.gb_cert_place.proofs.BlockLaws.{no_fact_count}
use Rattle.gb_cert_place.proofs.NamedLaws.{is_fourth, stop_in_fact_count, in_facts, facts_passed}
use Rattle.gb_cert_place.proofs.StandingLaws.{stops_in_front, stops_within}
use Rattle.gb_cert_place.proofs.walk.walk_facts.Goals as goal

pub stopped-requires : goal.stopped-requires
stopped-requires c = no_fact_count c.args.bytes.now c.in-Err.fault c.in-Err.ensures

pub returns-in-Err-clause-reads : goal.returns-in-Err-clause-reads
returns-in-Err-clause-reads c = stop_in_fact_count c.args.version c.args.region c.args.bytes.now c.stopped.result (is_fourth c.args.version c.if-version-ne4.false) c.stopped.ensures.place

pub returns-in-Err-clause-block : goal.returns-in-Err-clause-block
returns-in-Err-clause-block c = stops_in_front (InFacts c.args.version c.args.region c.args.bytes.now) part.Head block.FactCount c.args.bytes.now c.stopped.result c.stopped.ensures.part c.stopped.ensures.block c.stopped.ensures.before c.stopped.ensures.place (AtFactCount (is_fourth c.args.version c.if-version-ne4.false))

pub returns-in_err-end-in-Ok-clause-reads : goal.returns-in_err-end-in-Ok-clause-reads
returns-in_err-end-in-Ok-clause-reads c =
    let p = err_from_is_err_and c.from_residual.result c.from_residual.ensures.1 in
    rw (p.1, p.2) (in_facts c.args.version c.args.region c.args.bytes.now c.in-Ok.count c.in-Ok.rest.now c.in_err-end-in-Ok.field-0.0 (is_fourth c.args.version c.if-version-ne4.false) c.in-Ok.ensures c.in_err-end-in-Ok.ensures.reads)

pub returns-in_ok-end-in-Ok-clause-reads : goal.returns-in_ok-end-in-Ok-clause-reads
returns-in_ok-end-in-Ok-clause-reads c = facts_passed c.args.version c.args.region c.args.bytes.now c.in-Ok.count c.in-Ok.rest.now c.in_ok-end-in-Ok.end.now (is_fourth c.args.version c.if-version-ne4.false) c.in-Ok.ensures c.in_ok-end-in-Ok.ensures.reads

pub returns-in_err-end-in-Ok-clause-block : goal.returns-in_err-end-in-Ok-clause-block
returns-in_err-end-in-Ok-clause-block c =
    let p = err_from_is_err_and c.from_residual.result c.from_residual.ensures.1 in
    rw (p.1, p.2) (stops_within (AmongFacts c.args.region c.in-Ok.count c.in-Ok.rest.now) (InFacts c.args.version c.args.region c.args.bytes.now) c.in_err-end-in-Ok.field-0.0 (λ q b rest a. BehindFactCount (is_fourth c.args.version c.if-version-ne4.false) c.in-Ok.ensures a) c.in_err-end-in-Ok.ensures.block)
