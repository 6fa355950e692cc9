use Rattle.gb_rules.proofs.LowestLaws.{before_simply}
use Rattle.gb_rules.proofs.ways.reason_of_settled.Goals as goal

pub reason_of_each-requires-clause-before : goal.reason_of_each-requires-clause-before
reason_of_each-requires-clause-before c =
    before_simply _ c.args.site.now.stack.now.setting.rules c.args.site.now.stack.now.setting.entered c.args.core.now _ c.args.site.now.state.now c.in-Simple.is c.requires.core c.relations-relations.ensures
