use Rattle.std.proofs.Common.{sym}
use Rattle.gb_verify.proofs.FileLaws.{on_err, when_err}
use Rattle.gb_verify.proofs.WidenedText.{begun, exit_text, gone_on}
use Rattle.gb_verify.proofs.widen.put_exit.Goals as goal

pub returns-in_err-put_all-in-Some-clause-beginning : goal.returns-in_err-put_all-in-Some-clause-beginning
returns-in_err-put_all-in-Some-clause-beginning g c =
    let text = exit_text c.args.procedure.now.exit c.in-Some.state (sym c.in-Some.ensures) in
    on_err c.from_residual.result (begun _ _ _ _ _ text c.in_err-put_all-in-Some.ensures.beginning)

pub returns-in_ok-put_all-in-Some-clause-beginning : goal.returns-in_ok-put_all-in-Some-clause-beginning
returns-in_ok-put_all-in-Some-clause-beginning g c =
    let text = exit_text c.args.procedure.now.exit c.in-Some.state (sym c.in-Some.ensures) in
    when_err c.put_state.result (gone_on _ _ _ _ _ _ text c.in_ok-put_all-in-Some.ensures.whole) c.put_state.ensures.beginning
