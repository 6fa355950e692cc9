use Rattle.std.proofs.Common.{List, sym, subst}
use Rattle.std.proofs.lemmas.Result.{err_from_is_err_and}
use Rattle.gb_fields.specs.Reading.{head_in}
use Rattle.gb_cert_place.specs.declared.block.Block.TheVariants as block
use Rattle.gb_cert_place.specs.declared.block.Part.TheVariants as part
use Rattle.gb_states.specs.declared.form.ProcedureForm.{ProcedureForm}
use Rattle.gb_states.specs.WholeReading.{nodes_at}
use Rattle.gb_cert_place.specs.Stops.{Stopped}
use Rattle.gb_cert_place.specs.Standing.{InFacts, InProcedures, InNodes, InCertificate, AtHead, BehindHead}
use Rattle.gb_cert_place.proofs.PlaceLaws.{stop_in_certificate_facts, stop_in_procedures, stop_in_nodes, behind_facts_in, behind_procedures_in}
use Rattle.gb_cert_place.proofs.StandingLaws.{stops_in_front, stops_within}
use Rattle.gb_cert_place.proofs.walk.walk_parts.Goals as goal

pub returns-in-Err-clause-block : goal.returns-in-Err-clause-block
returns-in-Err-clause-block c =
    stops_in_front (InCertificate c.args.bytes.now) part.Head (block.Head c.version_in.result) c.args.bytes.now c.stopped.result c.stopped.ensures.part c.stopped.ensures.block c.stopped.ensures.before c.stopped.ensures.place
    (subst (λ v. InCertificate c.args.bytes.now part.Head (block.Head v) c.args.bytes.now) (sym c.version_in.ensures) AtHead)

pub returns-in_err-facts-in-Ok-clause-reads : goal.returns-in_err-facts-in-Ok-clause-reads
returns-in_err-facts-in-Ok-clause-reads c =
    let p = err_from_is_err_and c.from_residual.result c.from_residual.ensures.1 in
    rw (p.1, p.2) (stop_in_certificate_facts c.args.bytes.now (head_in c.in-Ok.head) c.in-Ok.rest.now c.in_err-facts-in-Ok.field-0.0 c.in-Ok.ensures c.in_err-facts-in-Ok.ensures.reads)

pub returns-in_err-facts-in-Ok-clause-block : goal.returns-in_err-facts-in-Ok-clause-block
returns-in_err-facts-in-Ok-clause-block c =
    let p = err_from_is_err_and c.from_residual.result c.from_residual.ensures.1 in
    rw (p.1, p.2) (stops_within (InFacts c.in-Ok.head.version c.in-Ok.head.region c.in-Ok.rest.now) (InCertificate c.args.bytes.now) c.in_err-facts-in-Ok.field-0.0 (λ q b rest a. BehindHead c.in-Ok.ensures a) c.in_err-facts-in-Ok.ensures.block)

pub returns-in_err-forms-in-Ok-clause-reads : goal.returns-in_err-forms-in-Ok-clause-reads
returns-in_err-forms-in-Ok-clause-reads c =
    let p = err_from_is_err_and c.from_residual-in_err-forms-in-Ok.result c.from_residual-in_err-forms-in-Ok.ensures.1 in
    rw (p.1, p.2) (stop_in_procedures c.args.bytes.now (head_in c.in-Ok.head) c.in-Ok.rest.now c.in_ok-facts-in-Ok.facts c.in_ok-facts-in-Ok.rest.now c.in_err-forms-in-Ok.field-0.0 c.in-Ok.ensures c.in_ok-facts-in-Ok.ensures.reads c.in_err-forms-in-Ok.ensures.reads)

pub returns-in_err-forms-in-Ok-clause-block : goal.returns-in_err-forms-in-Ok-clause-block
returns-in_err-forms-in-Ok-clause-block c =
    let p = err_from_is_err_and c.from_residual-in_err-forms-in-Ok.result c.from_residual-in_err-forms-in-Ok.ensures.1 in
    rw (p.1, p.2) (stops_within (InProcedures (head_in c.in-Ok.head) c.in_ok-facts-in-Ok.facts c.in_ok-facts-in-Ok.rest.now) (InCertificate c.args.bytes.now) c.in_err-forms-in-Ok.field-0.0
    (λ q b rest a. behind_facts_in c.args.bytes.now (head_in c.in-Ok.head) c.in-Ok.rest.now c.in_ok-facts-in-Ok.facts c.in_ok-facts-in-Ok.rest.now q b rest c.in-Ok.ensures c.in_ok-facts-in-Ok.ensures.reads a) c.in_err-forms-in-Ok.ensures.block)

pub returns-in_err-end-in-Ok-clause-reads : goal.returns-in_err-end-in-Ok-clause-reads
returns-in_err-end-in-Ok-clause-reads c =
    let p = err_from_is_err_and c.from_residual-in_err-end-in-Ok.result c.from_residual-in_err-end-in-Ok.ensures.1 in
    rw (p.1, p.2) (stop_in_nodes c.args.bytes.now (head_in c.in-Ok.head) c.in-Ok.rest.now c.in_ok-facts-in-Ok.facts c.in_ok-facts-in-Ok.rest.now c.in_ok-forms-in-Ok.forms.items c.in_ok-forms-in-Ok.rest.now c.in_err-end-in-Ok.field-0.0 c.in-Ok.ensures c.in_ok-facts-in-Ok.ensures.reads c.in_ok-forms-in-Ok.ensures.reads (subst (λ (cs : List ProcedureForm). Stopped (nodes_at (head_in c.in-Ok.head) c.in_ok-facts-in-Ok.facts cs) c.in_ok-forms-in-Ok.rest.now c.in_err-end-in-Ok.field-0.0) c.as_slice.ensures.value c.in_err-end-in-Ok.ensures.reads))

pub returns-in_err-end-in-Ok-clause-block : goal.returns-in_err-end-in-Ok-clause-block
returns-in_err-end-in-Ok-clause-block c =
    let p = err_from_is_err_and c.from_residual-in_err-end-in-Ok.result c.from_residual-in_err-end-in-Ok.ensures.1 in
    rw (p.1, p.2) (stops_within (InNodes (head_in c.in-Ok.head) c.in_ok-facts-in-Ok.facts c.as_slice.result.now c.in_ok-forms-in-Ok.rest.now) (InCertificate c.args.bytes.now) c.in_err-end-in-Ok.field-0.0
    (λ q b rest a. behind_procedures_in c.args.bytes.now (head_in c.in-Ok.head) c.in-Ok.rest.now c.in_ok-facts-in-Ok.facts c.in_ok-facts-in-Ok.rest.now c.in_ok-forms-in-Ok.forms.items c.in_ok-forms-in-Ok.rest.now q b rest c.in-Ok.ensures c.in_ok-facts-in-Ok.ensures.reads c.in_ok-forms-in-Ok.ensures.reads (subst (λ (cs : List ProcedureForm). InNodes (head_in c.in-Ok.head) c.in_ok-facts-in-Ok.facts cs c.in_ok-forms-in-Ok.rest.now q b rest) c.as_slice.ensures.value a)) c.in_err-end-in-Ok.ensures.block)
