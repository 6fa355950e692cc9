use Rattle.gb_states.proofs.ListedLaws.{no_cells, cells_front, cells_put, no_cells_put}
use Rattle.gb_states.proofs.listed.+append_cells.Goals as goal

pub returns-in_default : goal.returns-in_default
returns-in_default t c = no_cells_put _ _ (no_cells c.args.bytes.now c.in_default.len_below)

pub returns-in-len5-up : goal.returns-in-len5-up
returns-in-len5-up t c = cells_put _ _ _ _ _ _ c.append_cells.ensures c.push_cell.ensures (cells_front c.args.bytes.now c.cell_of.result c.in-len5-up.len_at_least c.cell_of.ensures)
