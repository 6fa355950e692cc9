use Rattle.gb_ops.proofs.PointerLaws.{follows, stores}
use Rattle.gb_ops.proofs.pointers.pointers_are_followed.Goals as goal

-- src/pointers.rt
pub returns-clause-pointed : goal.returns-clause-pointed
returns-clause-pointed c = follows

-- src/pointers.rt
pub returns-clause-stored : goal.returns-clause-stored
returns-clause-stored c = stores
