use Rattle.std.proofs.Common.{sym, ◌∙◌, ap, length}
use Rattle.gb_successors.proofs.CountLaws.{unmoved_count}
use Rattle.gb_successors.proofs.way.Successor.item_count.Goals as goal

pub returns-in-None : goal.returns-in-None
returns-in-None c =
    rw (← c.self.view_is, c.in-None.is)
    (ap length c.items-count.ensures.items
    ∙ sym (unmoved_count c.self.inside.told c.self.inside.before.now.core c.self.inside.write c.self.inside.core c.self.inside.relations c.self.inside.summary c.self.inside.before.now))
