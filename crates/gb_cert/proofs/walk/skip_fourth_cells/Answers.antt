use Rattle.gb_cert.proofs.FourthSkipping.{cells_then}
use Rattle.gb_cert.proofs.walk.skip_fourth_cells.Goals as goal

pub returns : goal.returns
returns c = rw (cells_then c.args.form c.args.region c.args.bytes.now c.cell_limit.result c.in_ok-count.count c.in_ok-count.rest.now c.cell_limit.ensures.exact c.in_ok-count.ensures) c.skip_some_cells.ensures
