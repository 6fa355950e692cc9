use Rattle.gb_cert.specs.Borrowed.{state_in}
use Rattle.gb_cert.proofs.StateLending.{core-taken, older-core}
use Rattle.gb_cert.proofs.state.StateRef.older_core.Goals as goal

pub slice_bounds-copy_from_slice-end-2 : goal.slice_bounds-copy_from_slice-end-2
slice_bounds-copy_from_slice-end-2 c =
    let i = c.self.inside in
    core-taken i.form i.role i.region i.bytes.now (state_in i.form i.role i.region i.bytes.now) c.self.invariant

pub copy_from_slice-requires : goal.copy_from_slice-requires
copy_from_slice-requires c =
    let i = c.self.inside in
    core-taken i.form i.role i.region i.bytes.now (state_in i.form i.role i.region i.bytes.now) c.self.invariant

pub returns : goal.returns
returns c =
    let i = c.self.inside in
    rw (c.older_kept.ensures, c.copy_from_slice.ensures.after, ← c.self.view_is) (older-core i.form i.role i.region i.bytes.now (state_in i.form i.role i.region i.bytes.now) c.self.invariant (rw c.self.view_is c.requires))
