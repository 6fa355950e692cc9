use Rattle.gb_events.proofs.Replaying.{whole_are_faultless}
use Rattle.gb_events.proofs.play.whole_replays_are_faultless.Goals as goal

pub returns : goal.returns
returns c = whole_are_faultless
