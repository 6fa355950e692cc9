use Rattle.std.proofs.Common.{◌∙◌}
use Rattle.gb_cert.specs.Borrowed.{state_in}
use Rattle.gb_cert.proofs.StateLending.{test-stands, core-fits}
use Rattle.gb_cert.proofs.state.StateRef.test.Goals as goal

pub test_in-requires : goal.test_in-requires
test_in-requires c =
    let i = c.self.inside in
    core-fits i.form i.role i.region i.bytes.now (state_in i.form i.role i.region i.bytes.now) c.self.invariant

pub returns : goal.returns
returns c =
    let i = c.self.inside in
    rw (← c.self.view_is) (c.test_in.ensures ∙ test-stands i.form i.role i.region i.bytes.now (state_in i.form i.role i.region i.bytes.now) c.self.invariant)
