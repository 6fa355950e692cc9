use Rattle.std.proofs.lemmas.Result.{err_from_is_err_and}
use Rattle.gb_states.specs.Below.gb_fields.Format.{several}
use Rattle.gb_cert.specs.Skipping.{skipped}
use Rattle.gb_domain.specs.Rules.{after_cell}
use Rattle.gb_states.specs.Forms.{cell_by}
use Rattle.gb_cert.proofs.Skipping.{skips_on, skip_ends, skip_done}
use Rattle.gb_cert.proofs.walk.skip_some_cells.Goals as goal

pub returns-in_err-cell : goal.returns-in_err-cell
returns-in_err-cell c =
    let p = err_from_is_err_and c.from_residual.result c.from_residual.ensures.1 in
    rw (p.1, p.2) (skip_ends (cell_by c.args.form c.args.region) after_cell c.loop.least c.args.count c.loop.counter c.loop.rest.now c.in_err-cell.field-0.0 (skipped (several (cell_by c.args.form c.args.region) after_cell 0 c.args.count) c.args.bytes.now) c.loop-test.true c.in_err-cell.ensures c.loop.invariant)

pub loop-preserved : goal.loop-preserved
loop-preserved c = skips_on (cell_by c.args.form c.args.region) after_cell c.loop.least c.args.count c.loop.counter c.loop.rest.now c.in_ok-cell.cell c.in_ok-cell.after.now (skipped (several (cell_by c.args.form c.args.region) after_cell 0 c.args.count) c.args.bytes.now) c.loop-test.true c.in_ok-cell.ensures c.loop.invariant

pub returns : goal.returns
returns c = skip_done (cell_by c.args.form c.args.region) after_cell c.loop.least c.args.count c.loop.counter c.loop.rest.now (skipped (several (cell_by c.args.form c.args.region) after_cell 0 c.args.count) c.args.bytes.now) c.loop-test.false c.loop.invariant
