use Rattle.gb_witness.proofs.Telling.{runs_played}
use Rattle.gb_witness.proofs.played.watched_runs_are_played.Goals as goal

pub returns : goal.returns
returns c = runs_played
