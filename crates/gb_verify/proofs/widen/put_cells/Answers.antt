use Rattle.std.proofs.Common.{refl}
use Rattle.gb_verify.proofs.FileLaws.{on_err, when_err, when_ok}
use Rattle.gb_verify.proofs.WidenedText.{begun, cells_text, gone_on, joined}
use Rattle.gb_verify.proofs.widen.put_cells.Goals as goal

pub returns-in_err-put_all-clause-beginning : goal.returns-in_err-put_all-clause-beginning
returns-in_err-put_all-clause-beginning g c =
    let text = cells_text c.args.state.now.cells c.cell_count.result _ c.cell_count.ensures refl in
    on_err c.from_residual.result (begun _ _ _ _ _ text c.in_err-put_all.ensures.beginning)

pub returns-clause-whole : goal.returns-clause-whole
returns-clause-whole g c =
    let text = cells_text c.args.state.now.cells c.cell_count.result c.cells.result.now c.cell_count.ensures (c.cells.ensures.older c.requires.narrow.cells_sayable) in
    when_ok c.put_all-2.result (joined _ _ _ _ _ _ text c.in_ok-put_all.ensures.whole) c.put_all-2.ensures.whole

pub returns-clause-beginning : goal.returns-clause-beginning
returns-clause-beginning g c =
    let text = cells_text c.args.state.now.cells c.cell_count.result c.cells.result.now c.cell_count.ensures (c.cells.ensures.older c.requires.narrow.cells_sayable) in
    when_err c.put_all-2.result (gone_on _ _ _ _ _ _ text c.in_ok-put_all.ensures.whole) c.put_all-2.ensures.beginning
