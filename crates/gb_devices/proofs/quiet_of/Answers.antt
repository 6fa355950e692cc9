use Rattle.gb_devices.proofs.Stillness.{still_of}
use Rattle.gb_devices.proofs.quiet_of.Goals as goal

pub returns : goal.returns
returns c = still_of _ _ _ _ _ c.quiet.ensures.quiet c.quiet.ensures.range c.silent.ensures.silent c.silent.ensures.formed c.least.ensures.first c.least.ensures.second
