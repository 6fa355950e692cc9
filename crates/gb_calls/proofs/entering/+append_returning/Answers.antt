use Rattle.gb_cert.proofs.Below.gb_states_laws.ListedLaws.{items_put}
use Rattle.gb_calls.proofs.ItemLaws.{returning_front}
use Rattle.gb_calls.proofs.entering.+append_returning.Goals as goal

pub returns-in-len1-up : goal.returns-in-len1-up
returns-in-len1-up t c =
    items_put _ _ _ _ _ _ c.append_returning.ensures c.push_item-in-len1-up.ensures (returning_front c.args.items.now c.without_origin.result c.in-len1-up.len_at_least c.without_origin.ensures)
