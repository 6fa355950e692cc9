use Rattle.std.proofs.Common.{refl}
use Rattle.gb_text.proofs.Gained.{gains_both, begins_first, begins_second}
use Rattle.gb_verify.proofs.FileLaws.{on_err, when_err, when_ok}
use Rattle.gb_verify.proofs.WidenedText.{begun, gone_on, items_text, joined}
use Rattle.gb_verify.proofs.widen.put_items.Goals as goal

pub returns-in_err-put_all-clause-beginning : goal.returns-in_err-put_all-clause-beginning
returns-in_err-put_all-clause-beginning g c =
    let text = items_text c.args.is_entered c.args.state.now.items c.item_count.result _ _ c.item_count.ensures refl refl in
    on_err c.from_residual.result (begun _ _ _ _ _ text c.in_err-put_all.ensures.beginning)

pub returns-in_err-put_all-2-clause-beginning : goal.returns-in_err-put_all-2-clause-beginning
returns-in_err-put_all-2-clause-beginning g c =
    let text = items_text c.args.is_entered c.args.state.now.items c.item_count.result c.below_items.result.now _ c.item_count.ensures c.below_items.ensures refl in
    on_err c.from_residual-in_err-put_all-2.result (gone_on _ _ _ _ _ _ text c.in_ok-put_all.ensures.whole (begins_first _ _ _ _ c.in_err-put_all-2.ensures.beginning))

pub returns-clause-whole : goal.returns-clause-whole
returns-clause-whole g c =
    let text = items_text c.args.is_entered c.args.state.now.items c.item_count.result c.below_items.result.now c.items.result.now c.item_count.ensures c.below_items.ensures (c.items.ensures.older c.requires.narrow.items_sayable) in
    when_ok c.put_all-3.result (λ h. joined _ _ _ _ _ _ text c.in_ok-put_all.ensures.whole (gains_both _ _ _ _ _ c.in_ok-put_all-2.ensures.whole h)) c.put_all-3.ensures.whole

pub returns-clause-beginning : goal.returns-clause-beginning
returns-clause-beginning g c =
    let text = items_text c.args.is_entered c.args.state.now.items c.item_count.result c.below_items.result.now c.items.result.now c.item_count.ensures c.below_items.ensures (c.items.ensures.older c.requires.narrow.items_sayable) in
    when_err c.put_all-3.result (λ h. gone_on _ _ _ _ _ _ text c.in_ok-put_all.ensures.whole (begins_second _ _ _ _ _ c.in_ok-put_all-2.ensures.whole h)) c.put_all-3.ensures.beginning
