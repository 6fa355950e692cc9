use Rattle.std.proofs.Common.{◌==◌, true, false, refl, arith}
use Rattle.std.proofs.lemmas.Result.{err_from_is_err_and}
use Rattle.gb_fields.specs.Format.{several}
use Rattle.gb_fields.specs.Reading.{head_in}
use Rattle.gb_states.specs.Rules.{is_after}
use Rattle.gb_cert.specs.Places.{form_if, forms_if}
use Rattle.gb_states.specs.WholeReading.{procedure_by, procedures_at}
use Rattle.gb_cert_place.specs.Standing.{NonePassed, InProcedure, InProcedures, AtProcedure}
use Rattle.gb_cert_place.proofs.WholeFieldsAreLocal.{IsLocal-procedure_by}
use Rattle.gb_cert_place.proofs.WalkLaws.{Stopped-mapped, Stopped-unmapped, leads_start, leads_told, leads_end, tells_start, tells_on, tells_done}
use Rattle.gb_cert_place.proofs.StandingLaws.{stops_within, passed_told}
use Rattle.gb_cert_place.proofs.walk.walk_procedures.Goals as goal

pub returns-in_err-form-clause-reads : goal.returns-in_err-form-clause-reads
unfolding procedures_at
returns-in_err-form-clause-reads c =
    let p = err_from_is_err_and c.from_residual.result c.from_residual.ensures.1 in
    rw (p.1, p.2) (Stopped-mapped (forms_if (c.args.head.version == 4)) (several (procedure_by (c.args.head.version == 4) c.args.head.version c.args.facts c.args.head.region c.args.head.nodes) is_after true c.args.head.procedures) c.args.bytes.now c.in_err-form.field-0.0
    (leads_end (procedure_by (c.args.head.version == 4) c.args.head.version c.args.facts c.args.head.region c.args.head.nodes) is_after (several (procedure_by (c.args.head.version == 4) c.args.head.version c.args.facts c.args.head.region c.args.head.nodes) is_after true c.args.head.procedures) c.args.bytes.now c.loop-number.is_main c.args.head.procedures c.loop-number.number c.loop-number.rest.now c.in_err-form.field-0.0 c.loop-number-test.true
    (Stopped-unmapped (form_if (c.args.head.version == 4)) ((procedure_by (c.args.head.version == 4) c.args.head.version c.args.facts c.args.head.region c.args.head.nodes) c.loop-number.is_main) c.loop-number.rest.now c.in_err-form.field-0.0 c.in_err-form.ensures.reads) c.loop-number.invariant.leads))

pub returns-in_err-form-clause-block : goal.returns-in_err-form-clause-block
returns-in_err-form-clause-block c =
    let p = err_from_is_err_and c.from_residual.result c.from_residual.ensures.1 in
    rw (p.1, p.2) (stops_within (InProcedure c.loop-number.number (head_in c.args.head) c.args.facts c.loop-number.is_main c.loop-number.rest.now) (InProcedures (head_in c.args.head) c.args.facts c.args.bytes.now) c.in_err-form.field-0.0
    (λ q b rest a. AtProcedure c.loop-number-test.true c.loop-number.invariant.passed a) c.in_err-form.ensures.block)

pub loop-number-preserved : goal.loop-number-preserved
loop-number-preserved c = record {
  count = omega arith;
  leads = leads_told (procedure_by (c.args.head.version == 4) c.args.head.version c.args.facts c.args.head.region c.args.head.nodes) is_after (form_if (c.args.head.version == 4)) (IsLocal-procedure_by (c.args.head.version == 4) c.args.head.version c.args.facts c.args.head.region c.args.head.nodes) (several (procedure_by (c.args.head.version == 4) c.args.head.version c.args.facts c.args.head.region c.args.head.nodes) is_after true c.args.head.procedures) c.args.bytes.now c.loop-number.is_main false (λ x. refl)
      c.args.head.procedures c.loop-number.number c.loop-number.rest.now c.in_ok-form.form c.in_ok-form.after.now c.loop-number-test.true c.in_ok-form.ensures.reads c.loop-number.invariant.leads;
  passed = passed_told (procedure_by (c.args.head.version == 4) c.args.head.version c.args.facts c.args.head.region c.args.head.nodes) is_after (form_if (c.args.head.version == 4)) true c.args.bytes.now c.loop-number.number c.loop-number.is_main false (λ x. refl) c.loop-number.rest.now c.in_ok-form.form c.in_ok-form.after.now c.in_ok-form.ensures.reads c.loop-number.invariant.passed;
  tells = rw c.push.ensures.items (tells_on (form_if (c.args.head.version == 4)) (procedure_by (c.args.head.version == 4) c.args.head.version c.args.facts c.args.head.region c.args.head.nodes) is_after (several (procedure_by (c.args.head.version == 4) c.args.head.version c.args.facts c.args.head.region c.args.head.nodes) is_after true c.args.head.procedures) c.args.bytes.now c.loop-number.is_main false (λ x. refl) c.args.head.procedures c.loop-number.number c.loop-number.rest.now c.in_ok-form.form c.in_ok-form.after.now c.loop-number.forms.items c.loop-number-test.true c.in_ok-form.ensures.reads c.loop-number.invariant.tells);
}

pub returns-clause-reads : goal.returns-clause-reads
unfolding procedures_at
returns-clause-reads c = tells_done (form_if (c.args.head.version == 4)) (procedure_by (c.args.head.version == 4) c.args.head.version c.args.facts c.args.head.region c.args.head.nodes) is_after (several (procedure_by (c.args.head.version == 4) c.args.head.version c.args.facts c.args.head.region c.args.head.nodes) is_after true c.args.head.procedures) c.args.bytes.now c.loop-number.is_main c.args.head.procedures c.loop-number.number c.loop-number.rest.now c.loop-number.forms.items c.loop-number-test.false c.loop-number.invariant.tells

pub loop-number-init : goal.loop-number-init
loop-number-init c = record {
  count = rw c.new-forms.ensures refl;
  leads = leads_start (procedure_by (c.args.head.version == 4) c.args.head.version c.args.facts c.args.head.region c.args.head.nodes) is_after true c.args.head.procedures c.args.bytes.now;
  passed = NonePassed;
  tells = rw c.new-forms.ensures (tells_start (form_if (c.args.head.version == 4)) (procedure_by (c.args.head.version == 4) c.args.head.version c.args.facts c.args.head.region c.args.head.nodes) is_after true c.args.head.procedures c.args.bytes.now);
}
