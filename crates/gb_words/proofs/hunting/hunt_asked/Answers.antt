use Rattle.std.proofs.Common.{rules}
use Rattle.gb_words.proofs.HuntWords.{hunted_words}
use Rattle.gb_words.proofs.hunting.hunt_asked.Goals as goal

pub returns-clause-some : goal.returns-clause-some
returns-clause-some c =
    hunted_words c.args.words.now _ _ (search rules) (search rules) (search rules) c.in_ok-options.ensures
