use Rattle.gb_events.proofs.Judging.{verified_whole}
use Rattle.gb_events.proofs.play.verified_replays_are_whole.Goals as goal

pub returns : goal.returns
returns c = verified_whole
