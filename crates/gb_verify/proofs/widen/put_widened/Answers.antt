use Rattle.gb_text.proofs.Gained.{gains_both, begins_first, begins_second}
use Rattle.gb_verify.proofs.FileLaws.{on_err, when_err, when_ok}
use Rattle.gb_verify.proofs.WidenedText.{begun, gone_on, joined, widened_text}
use Rattle.gb_verify.proofs.widen.put_widened.Goals as goal

pub returns-in_err-put_all-clause-beginning : goal.returns-in_err-put_all-clause-beginning
returns-in_err-put_all-clause-beginning g c =
    let text = widened_text c.args.cert.now c.head_in.result c.requires.simple c.head_in.ensures in
    on_err c.from_residual.result (begun _ _ _ _ _ text c.in_err-put_all.ensures.beginning)

pub returns-in_err-put_procedures-clause-beginning : goal.returns-in_err-put_procedures-clause-beginning
returns-in_err-put_procedures-clause-beginning g c =
    let text = widened_text c.args.cert.now c.head_in.result c.requires.simple c.head_in.ensures in
    on_err c.from_residual-in_err-put_procedures.result (gone_on _ _ _ _ _ _ text c.in_ok-put_all.ensures.whole (begins_first _ _ _ _ c.in_err-put_procedures.ensures.beginning))

pub returns-clause-whole : goal.returns-clause-whole
returns-clause-whole g c =
    let text = widened_text c.args.cert.now c.head_in.result c.requires.simple c.head_in.ensures in
    when_ok c.put_nodes.result (λ h. joined _ _ _ _ _ _ text c.in_ok-put_all.ensures.whole (gains_both _ _ _ _ _ c.in_ok-put_procedures.ensures.whole h)) c.put_nodes.ensures.whole

pub returns-clause-beginning : goal.returns-clause-beginning
returns-clause-beginning g c =
    let text = widened_text c.args.cert.now c.head_in.result c.requires.simple c.head_in.ensures in
    when_err c.put_nodes.result (λ h. gone_on _ _ _ _ _ _ text c.in_ok-put_all.ensures.whole (begins_second _ _ _ _ _ c.in_ok-put_procedures.ensures.whole h)) c.put_nodes.ensures.beginning
