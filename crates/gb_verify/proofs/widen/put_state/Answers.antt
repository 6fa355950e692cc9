use Rattle.std.proofs.Common.{refl}
use Rattle.gb_text.proofs.Gained.{begins_first, begins_second}
use Rattle.gb_verify.proofs.FileLaws.{on_err, when_err}
use Rattle.gb_verify.proofs.WidenedText.{gone_on, state_text}
use Rattle.gb_verify.proofs.widen.put_state.Goals as goal

pub returns-in_err-put_items-clause-beginning : goal.returns-in_err-put_items-clause-beginning
returns-in_err-put_items-clause-beginning g c =
    let text = state_text c.args.is_entered c.args.state.now c.older_core.result _ c.older_core.ensures refl in
    on_err c.from_residual-in_err-put_items.result (gone_on _ _ _ _ _ _ text c.in_ok-put_all.ensures.whole (begins_first _ _ _ _ c.in_err-put_items.ensures.beginning))

pub returns-in_err-put_all-2-clause-beginning : goal.returns-in_err-put_all-2-clause-beginning
returns-in_err-put_all-2-clause-beginning g c =
    let text = state_text c.args.is_entered c.args.state.now c.older_core.result c.told.result.now c.older_core.ensures c.told.ensures in
    on_err c.from_residual-in_err-put_all-2.result (gone_on _ _ _ _ _ _ text c.in_ok-put_all.ensures.whole (begins_second _ _ _ _ _ c.in_ok-put_items.ensures.whole (begins_first _ _ _ _ c.in_err-put_all-2.ensures.beginning)))

pub returns-clause-beginning : goal.returns-clause-beginning
returns-clause-beginning g c =
    let text = state_text c.args.is_entered c.args.state.now c.older_core.result c.told.result.now c.older_core.ensures c.told.ensures in
    when_err c.put_cells.result (λ h. gone_on _ _ _ _ _ _ text c.in_ok-put_all.ensures.whole (begins_second _ _ _ _ _ c.in_ok-put_items.ensures.whole (begins_second _ _ _ _ _ c.in_ok-put_all-2.ensures.whole h))) c.put_cells.ensures.beginning
