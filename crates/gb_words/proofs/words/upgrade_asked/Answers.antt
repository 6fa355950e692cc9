use Rattle.std.proofs.Common.{rules}
use Rattle.gb_words.proofs.UpgradeWords.{asked}
use Rattle.gb_words.proofs.words.upgrade_asked.Goals as goal

pub returns-clause-some : goal.returns-clause-some
returns-clause-some c = asked c.args.words.now _ c.in_ok-to.to (search rules) (search rules) (search rules) c.in_ok-to.ensures.some (search rules)
