use Rattle.std.proofs.Common.{◌≡◌, ◌∙◌, ap, subst, Ok, Err, ◌==◌}
use Rattle.std.proofs.lemmas.Result.{err_from_is_err_and}
use Rattle.gb_states.specs.declared.role.Role.{Role}
use Rattle.gb_states.specs.declared.form.Form.{Form}
use Rattle.gb_states.specs.Rules.{role_of}
use Rattle.gb_states.specs.Forms.{form_by, state_by}
use Rattle.gb_states.specs.WholeRules.{form_in}
use Rattle.gb_cert.specs.Skipping.{skipped, past}
use Rattle.gb_cert.proofs.FourthSkipping.{bank_then, no_bank, no_key}
use Rattle.gb_cert.proofs.walk.skip_node.Goals as goal

pub returns-in_err-key : goal.returns-in_err-key
returns-in_err-key c =
    let p = err_from_is_err_and c.from_residual.result c.from_residual.ensures.1 in
    rw (p.1, p.2) (no_key c.args.head.version c.args.facts c.args.forms.now c.args.head.region c.args.head.procedures c.args.before c.args.bytes.now c.in_err-key.field-0.0 c.in_err-key.ensures)

pub returns-in_err-_bank : goal.returns-in_err-_bank
returns-in_err-_bank c =
    let p = err_from_is_err_and c.from_residual-in_err-_bank.result c.from_residual-in_err-_bank.ensures.1 in
    rw (p.1, p.2) (no_bank c.args.head.version c.args.facts c.args.forms.now c.args.head.region c.args.head.procedures c.args.before c.args.bytes.now c.in_ok-key.key c.in_ok-key.rest.now c.in_err-_bank.field-0.0 c.in_ok-key.ensures c.in_err-_bank.ensures)

pub returns-in_err-after : goal.returns-in_err-after
returns-in_err-after c =
    let p = err_from_is_err_and c.from_residual-in_err-after.result c.from_residual-in_err-after.ensures.1 in
    let e = bank_then c.args.head.version c.args.facts c.args.forms.now c.args.head.region c.args.head.procedures c.args.before c.args.bytes.now c.in_ok-key.key c.in_ok-key.rest.now c.in_ok-_bank._bank c.in_ok-_bank.state.now c.in_ok-key.ensures c.in_ok-_bank.ensures in
    let form : c.of-form.result ≡ form_by (c.args.head.version == 4) c.args.head.version c.args.facts (form_in c.args.forms.now c.in_ok-key.key.0) = c.of-form.ensures ∙ ap (form_by (c.args.head.version == 4) c.args.head.version c.args.facts) c.form_in.ensures in
    let f = subst (λ (r : Role). skipped (state_by c.of-form.result r c.args.head.region) c.in_ok-_bank.state.now ≡ Err c.in_err-after.field-0.0) c.of.ensures c.in_err-after.ensures in
    let g = subst (λ (m : Form). skipped (state_by m (role_of c.in_ok-key.key.0) c.args.head.region) c.in_ok-_bank.state.now ≡ Err c.in_err-after.field-0.0) form f in
    rw (p.1, p.2) (e ∙ ap (λ r. past r (λ rest. Ok (c.in_ok-key.key, rest))) g)

pub returns : goal.returns
returns c =
    let e = bank_then c.args.head.version c.args.facts c.args.forms.now c.args.head.region c.args.head.procedures c.args.before c.args.bytes.now c.in_ok-key.key c.in_ok-key.rest.now c.in_ok-_bank._bank c.in_ok-_bank.state.now c.in_ok-key.ensures c.in_ok-_bank.ensures in
    let form : c.of-form.result ≡ form_by (c.args.head.version == 4) c.args.head.version c.args.facts (form_in c.args.forms.now c.in_ok-key.key.0) = c.of-form.ensures ∙ ap (form_by (c.args.head.version == 4) c.args.head.version c.args.facts) c.form_in.ensures in
    let f = subst (λ (r : Role). skipped (state_by c.of-form.result r c.args.head.region) c.in_ok-_bank.state.now ≡ Ok c.in_ok-after.after.now) c.of.ensures c.in_ok-after.ensures in
    let g = subst (λ (m : Form). skipped (state_by m (role_of c.in_ok-key.key.0) c.args.head.region) c.in_ok-_bank.state.now ≡ Ok c.in_ok-after.after.now) form f in
    e ∙ ap (λ r. past r (λ rest. Ok (c.in_ok-key.key, rest))) g
