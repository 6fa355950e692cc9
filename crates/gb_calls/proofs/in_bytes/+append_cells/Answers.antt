use Rattle.gb_calls.proofs.ItemLaws.{cells_behind, no_cells_behind}
use Rattle.gb_calls.proofs.in_bytes.+append_cells.Goals as goal

pub returns-in_default : goal.returns-in_default
returns-in_default t c = no_cells_behind _ c.args.bytes.now c.in_default.len_below

pub returns-in-len5-up : goal.returns-in-len5-up
returns-in-len5-up t c = cells_behind _ _ _ c.args.bytes.now c.cell_of.result c.in-len5-up.len_at_least c.append_cells.ensures c.push.ensures.items c.cell_of.ensures
