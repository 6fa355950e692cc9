use Rattle.std.proofs.Common.{◌∙◌, sym, subst}
use Rattle.gb_states.specs.declared.form.Form.{Form}
use Rattle.gb_cert.specs.Borrowed.{state_in, StateStands}
use Rattle.gb_cert.proofs.StateLending.{says-nothing}
use Rattle.gb_cert.proofs.state.StateRef.summary.Goals as goal

pub returns-in-Older : goal.returns-in-Older
returns-in-Older c =
    let i = c.self.inside in
    let stands = subst (λ (form : Form). StateStands form i.role i.region i.bytes.now (state_in i.form i.role i.region i.bytes.now)) c.in-Older.is c.self.invariant in
    rw (← c.self.view_is) (c.none.ensures ∙ sym (says-nothing c.in-Older.field-0 i.role i.region (state_in i.form i.role i.region i.bytes.now) stands.is_state))
