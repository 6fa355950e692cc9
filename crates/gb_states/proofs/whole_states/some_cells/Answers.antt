use Rattle.std.proofs.Common.{arith}
use Rattle.std.proofs.lemmas.Result.{err_from_is_err_and}
use Rattle.gb_fields.specs.Format.{several}
use Rattle.gb_domain.specs.Rules.{after_cell}
use Rattle.gb_states.specs.WholeReading.{cell_at}
use Rattle.gb_states.proofs.Several.{goes_on, ends, is_done}
use Rattle.gb_states.proofs.whole_states.some_cells.Goals as goal

pub returns-in_err-cell : goal.returns-in_err-cell
returns-in_err-cell c =
    let p = err_from_is_err_and c.from_residual.result c.from_residual.ensures.1 in
    rw (p.1, p.2) (ends (cell_at c.args.kept c.args.region) after_cell c.loop.cells.items c.loop.least c.args.count c.loop.counter c.loop.rest.now c.in_err-cell.field-0.0 (several (cell_at c.args.kept c.args.region) after_cell 0 c.args.count c.args.bytes.now) c.loop-test.true c.in_err-cell.ensures c.loop.invariant.read)

pub loop-preserved : goal.loop-preserved
loop-preserved c = record {
  count = omega arith;
  read = rw c.push.ensures.items (goes_on (cell_at c.args.kept c.args.region) after_cell c.loop.cells.items c.loop.least c.args.count c.loop.counter c.loop.rest.now c.in_ok-cell.cell c.in_ok-cell.after.now (several (cell_at c.args.kept c.args.region) after_cell 0 c.args.count c.args.bytes.now) c.loop-test.true c.in_ok-cell.ensures c.loop.invariant.read);
}

pub returns : goal.returns
returns c = is_done (cell_at c.args.kept c.args.region) after_cell c.loop.cells.items c.loop.least c.args.count c.loop.counter c.loop.rest.now (several (cell_at c.args.kept c.args.region) after_cell 0 c.args.count c.args.bytes.now) c.loop-test.false c.loop.invariant.read
