use Rattle.std.proofs.Common.{refl}
use Rattle.gb_bus.proofs.Screens.{pictured-view}
use Rattle.gb_bus.proofs.access.MemoryBus.pass.Goals as goal

pub returns-clause-view : goal.returns-clause-view
returns-clause-view c = rw (c.pass_devices.ensures, pictured-view, c.pass_transfer.ensures) refl
