use Rattle.std.proofs.Common.{rules}
use Rattle.gb_words.proofs.WatchWords.{watched_words}
use Rattle.gb_words.proofs.watching.watch_asked.Goals as goal

pub returns-clause-some : goal.returns-clause-some
returns-clause-some c =
    watched_words c.args.words.now _ c.in_ok-frames.frames _ (search rules) (search rules) (search rules) (search rules) c.in_ok-frames.ensures.some c.in_ok-options.ensures (search rules)
