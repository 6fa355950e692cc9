use Rattle.gb_devices.specs.Devices.{after}
use Rattle.gb_devices.proofs.Devices.timer.Goals as goal

pub returns : goal.returns
unfolding after
returns c = rw (← c.self.view_is) c.advance.ensures.state
