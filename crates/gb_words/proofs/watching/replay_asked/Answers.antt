use Rattle.std.proofs.Common.{rules}
use Rattle.gb_words.proofs.ReplayWords.{replayed_words}
use Rattle.gb_words.proofs.watching.replay_asked.Goals as goal

pub returns-clause-some : goal.returns-clause-some
returns-clause-some c =
    replayed_words c.args.words.now _ c.in_ok-events.events.now _ (search rules) (search rules) (search rules) c.in_ok-options.ensures (search rules)
