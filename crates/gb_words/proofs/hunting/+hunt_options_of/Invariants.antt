use Rattle.std.proofs.Common.{length}
use Rattle.gb_words.proofs.hunting.+hunt_options_of.Given as goal

abbrev pub decreases-hunt_options_of : goal.decreases-hunt_options_of
decreases-hunt_options_of l = length l.words.now
