use Rattle.gb_devices.specs.Devices.{after}
use Rattle.gb_devices.proofs.Devices.ppu.Goals as goal

pub returns : goal.returns
unfolding after
returns c = rw (← c.self.view_is) c.advance.ensures.picture
