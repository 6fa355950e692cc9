use Rattle.std.proofs.Common.{◌==◌, not, ℕ, refl, ap}
use Rattle.gb_verify.proofs.FileLaws.{on_err, when_err, when_ok}
use Rattle.gb_verify.proofs.WidenedText.{begun, gone_on, joined, node_text}
use Rattle.gb_verify.proofs.widen.put_node.Goals as goal

pub returns-in_err-put_all-clause-beginning : goal.returns-in_err-put_all-clause-beginning
returns-in_err-put_all-clause-beginning g c =
    let text = node_text c.args.node.now c.args.node.now.state c.node_front.result _ c.node_front.ensures refl refl in
    on_err c.from_residual.result (begun _ _ _ _ _ text c.in_err-put_all.ensures.beginning)

pub returns-clause-whole : goal.returns-clause-whole
returns-clause-whole g c =
    let text = node_text c.args.node.now c.lent.result c.node_front.result _ c.node_front.ensures c.lent.ensures (ap (λ (n : ℕ). not (n == 0)) c.procedure.ensures) in
    when_ok c.put_state.result (λ h. joined _ _ _ _ _ _ text c.in_ok-put_all.ensures.whole h) c.put_state.ensures.whole

pub returns-clause-beginning : goal.returns-clause-beginning
returns-clause-beginning g c =
    let text = node_text c.args.node.now c.lent.result c.node_front.result _ c.node_front.ensures c.lent.ensures (ap (λ (n : ℕ). not (n == 0)) c.procedure.ensures) in
    when_err c.put_state.result (λ h. gone_on _ _ _ _ _ _ text c.in_ok-put_all.ensures.whole h) c.put_state.ensures.beginning
