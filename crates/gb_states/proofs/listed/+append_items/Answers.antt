use Rattle.gb_states.proofs.ListedLaws.{no_items, items_front, items_put, no_items_put}
use Rattle.gb_states.proofs.listed.+append_items.Goals as goal

pub returns-in_default : goal.returns-in_default
returns-in_default t c = no_items_put _ _ (no_items c.args.bytes.now c.in_default.len_below)

pub returns-in-len3-up : goal.returns-in-len3-up
returns-in-len3-up t c = items_put _ _ _ _ _ _ c.append_items.ensures c.push_item.ensures (items_front c.args.bytes.now c.val_of.result c.in-len3-up.len_at_least c.val_of.ensures)
