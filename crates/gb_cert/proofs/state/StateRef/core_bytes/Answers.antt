use Rattle.std.proofs.Common.{Bool, ◌∙◌, ap}
use Rattle.gb_states.specs.Checked.{core_in}
use Rattle.gb_cert.specs.Borrowed.{state_in}
use Rattle.gb_cert.proofs.StateLending.{core-stands, core-fits}
use Rattle.gb_cert.proofs.state.StateRef.core_bytes.Goals as goal

pub returns-clause-core : goal.returns-clause-core
returns-clause-core c =
    let i = c.self.inside in
    rw (← c.self.view_is) (ap (λ (b : Bool). core_in b i.bytes.now) c.is_fourth.ensures ∙ core-stands i.form i.role i.region i.bytes.now (state_in i.form i.role i.region i.bytes.now) c.self.invariant)

pub returns-clause-long : goal.returns-clause-long
returns-clause-long c =
    let i = c.self.inside in
    core-fits i.form i.role i.region i.bytes.now (state_in i.form i.role i.region i.bytes.now) c.self.invariant
