use Rattle.std.proofs.Common.{◌≡◌, ◌∙◌, ◌++◌, ◌∷◌, [], ap, subst, List, ℕ}
use Rattle.std.specs.List.{flat_map}
use Rattle.gb_command_line.specs.Below.gb_verify.Below.gb_states.WholeSpelling as whole
use Rattle.gb_events.specs.Sinks.{Gains}
use Rattle.gb_events.specs.Sinks.{GainsBeginning}
use Rattle.gb_events.proofs.Below.gb_text_laws.Gained.{gains_both, begins_first, begins_second}
use Rattle.gb_command_line.specs.Below.gb_verify.Widened.{widened}
use Rattle.gb_program.specs.Fourth.{fourth_forms, grouped, placed}
use Rattle.gb_events.proofs.Below.gb_verify_laws.FileLaws.{on_err, when_err, when_ok}
use Rattle.gb_events.proofs.Below.gb_verify_laws.WidenedText.{begun, gone_on, joined}
use Rattle.gb_program.proofs.FourthLaws.{text_is}
use Rattle.gb_program.proofs.fourth.put_fourth.Goals as goal

pub returns-in_err-put_all-clause-beginning : goal.returns-in_err-put_all-clause-beginning
returns-in_err-put_all-clause-beginning g c =
    let text = text_is c.args.cert.now c.requires.certificate c.requires.older in
    on_err c.from_residual.result (begun _ _ _ _ _ text (subst (λ (t : List ℕ). GainsBeginning (g.W.Sink.contents c.args.out.now) t (g.W.Sink.contents c.put_all.new.out)) c.head.ensures c.in_err-put_all.ensures.beginning))

pub returns-in_err-put_procedures-clause-beginning : goal.returns-in_err-put_procedures-clause-beginning
returns-in_err-put_procedures-clause-beginning g c =
    let text = text_is c.args.cert.now c.requires.certificate c.requires.older in
    let first = subst (λ (t : List ℕ). Gains (g.W.Sink.contents c.args.out.now) t (g.W.Sink.contents c.put_all.new.out)) c.head.ensures c.in_ok-put_all.ensures.whole in
    let begins = subst (λ (l : List ℕ). GainsBeginning (g.W.Sink.contents c.put_all.new.out) (flat_map (whole.procedure c.args.cert.now.region) (placed (widened c.args.cert.now) 0 l)) (g.W.Sink.contents c.put_procedures.new.out))
    (c.as_slice-2.ensures.value ∙ c.order-numbers.ensures.exact) c.in_err-put_procedures.ensures.beginning in
    on_err c.from_residual-in_err-put_procedures.result (gone_on _ _ _ _ _ _ text first (begins_first _ _ _ _ begins))

pub returns-clause-whole : goal.returns-clause-whole
returns-clause-whole g c =
    let text = text_is c.args.cert.now c.requires.certificate c.requires.older in
    let first = subst (λ (t : List ℕ). Gains (g.W.Sink.contents c.args.out.now) t (g.W.Sink.contents c.put_all.new.out)) c.head.ensures c.in_ok-put_all.ensures.whole in
    let second = subst (λ (l : List ℕ). Gains (g.W.Sink.contents c.put_all.new.out) (flat_map (whole.procedure c.args.cert.now.region) (placed (widened c.args.cert.now) 0 l)) (g.W.Sink.contents c.put_procedures.new.out))
    (c.as_slice-2.ensures.value ∙ c.order-numbers.ensures.exact) c.in_ok-put_procedures.ensures.whole in
    when_ok c.put_nodes.result (λ h. joined _ _ _ _ _ _ text first (gains_both _ _ _ _ _ second
    (subst (λ (l : List ℕ). Gains (g.W.Sink.contents c.put_procedures.new.out) (flat_map (whole.node c.args.cert.now.region (fourth_forms c.args.cert.now)) (grouped 0 (widened c.args.cert.now).nodes l)) (g.W.Sink.contents c.put_nodes.new.out)) (c.as_slice-3.ensures.value ∙ c.order-numbers.ensures.exact) h))) c.put_nodes.ensures.whole

pub returns-clause-beginning : goal.returns-clause-beginning
returns-clause-beginning g c =
    let text = text_is c.args.cert.now c.requires.certificate c.requires.older in
    let first = subst (λ (t : List ℕ). Gains (g.W.Sink.contents c.args.out.now) t (g.W.Sink.contents c.put_all.new.out)) c.head.ensures c.in_ok-put_all.ensures.whole in
    let second = subst (λ (l : List ℕ). Gains (g.W.Sink.contents c.put_all.new.out) (flat_map (whole.procedure c.args.cert.now.region) (placed (widened c.args.cert.now) 0 l)) (g.W.Sink.contents c.put_procedures.new.out))
    (c.as_slice-2.ensures.value ∙ c.order-numbers.ensures.exact) c.in_ok-put_procedures.ensures.whole in
    when_err c.put_nodes.result (λ h. gone_on _ _ _ _ _ _ text first (begins_second _ _ _ _ _ second
    (subst (λ (l : List ℕ). GainsBeginning (g.W.Sink.contents c.put_procedures.new.out) (flat_map (whole.node c.args.cert.now.region (fourth_forms c.args.cert.now)) (grouped 0 (widened c.args.cert.now).nodes l)) (g.W.Sink.contents c.put_nodes.new.out)) (c.as_slice-3.ensures.value ∙ c.order-numbers.ensures.exact) h))) c.put_nodes.ensures.beginning
