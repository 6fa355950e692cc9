use Rattle.std.proofs.Common.{true, false, refl, ◌==◌, arith}
use Rattle.std.proofs.lemmas.Result.{err_from_is_err_and}
use Rattle.gb_states.specs.Rules.{is_after}
use Rattle.gb_states.specs.WholeRules.{IsProcedureBy}
use Rattle.gb_cert.specs.Places.{form_if}
use Rattle.gb_states.specs.WholeReading.{procedure_by, procedures_at}
use Rattle.gb_states.specs.WholeSpelling as spelled
use Rattle.gb_cert.proofs.Marking.{marked-begins, marked-on, marked-ends, marked-done}
use Rattle.gb_cert.proofs.WholeCertificateLaws.{IsFormat-procedure_by}
use Rattle.gb_cert.proofs.parse.place_procedures.Goals as goal

pub loop-init : goal.loop-init
loop-init c = rw (c.in_ok-places.ensures.items, c.in_ok-forms.ensures.items) (marked-begins (procedure_by (c.args.head.version == 4) c.args.head.version c.args.facts c.args.head.region c.args.head.nodes) is_after (form_if (c.args.head.version == 4)) (spelled.procedure_by (c.args.head.version == 4) c.args.head.version c.args.head.region) c.args.bytes.now true c.args.head.procedures c.args.start.now c.requires.left)

pub returns-in_err-form : goal.returns-in_err-form
unfolding procedures_at
returns-in_err-form c =
    let p = err_from_is_err_and c.from_residual-in_err-form.result c.from_residual-in_err-form.ensures.1 in
    rw (p.1, p.2) (λ m. marked-ends (procedure_by (c.args.head.version == 4) c.args.head.version c.args.facts c.args.head.region c.args.head.nodes) is_after (form_if (c.args.head.version == 4)) (spelled.procedure_by (c.args.head.version == 4) c.args.head.version c.args.head.region) c.args.bytes.now true c.args.head.procedures c.args.start.now c.loop.is_main c.loop.counter c.loop.rest.now c.loop.places.items c.loop.forms.items c.in_err-form.field-0.0 c.loop-test.true c.in_err-form.ensures c.loop.invariant)

pub loop-preserved : goal.loop-preserved
loop-preserved c =
    rw (c.in_ok-push.ensures.items, c.in_ok-push-2.ensures.items) (marked-on (procedure_by (c.args.head.version == 4) c.args.head.version c.args.facts c.args.head.region c.args.head.nodes) is_after (form_if (c.args.head.version == 4)) (spelled.procedure_by (c.args.head.version == 4) c.args.head.version c.args.head.region) (IsProcedureBy (c.args.head.version == 4) c.args.head.version c.args.facts c.args.head.region c.args.head.nodes) c.args.bytes.now true c.args.head.procedures c.args.start.now c.loop.is_main false c.loop.counter c.in_ok-form.form c.loop.rest.now c.in_ok-form.after.now c.loop.places.items c.loop.forms.items
    (IsFormat-procedure_by (c.args.head.version == 4) c.args.head.version c.args.facts c.args.head.region c.args.head.nodes c.loop.is_main refl (omega arith) c.requires.few c.requires.last) (λ i. omega (arith, c.type_inv.bytes i)) c.loop-test.true (λ x. refl) c.in_ok-form.ensures c.loop.invariant)

pub returns : goal.returns
unfolding procedures_at
returns c = marked-done (c.args.head.version == 4) (procedure_by (c.args.head.version == 4) c.args.head.version c.args.facts c.args.head.region c.args.head.nodes) is_after (spelled.procedure_by (c.args.head.version == 4) c.args.head.version c.args.head.region) c.args.bytes.now true c.args.head.procedures c.args.start.now c.loop.is_main c.loop.counter c.loop.rest.now c.loop.places.items c.loop.forms.items c.loop-test.false c.loop.invariant
