use Rattle.std.proofs.Common.{◌≡◌, ◌∙◌, ◌+◌, false, arith, drop, subst, sym, Option, ℕ, List}
use Rattle.gb_domain.specs.declared.rules.Rules.{Rules}
use Rattle.gb_events.proofs.Below.gb_text_laws.Remaining.{Remains}
use Rattle.std.specs.List.{flat_map}
use Rattle.gb_command_line.specs.Below.gb_verify.Below.gb_states.WholeSpelling as whole
use Rattle.gb_command_line.specs.Below.gb_verify.Widened.{widened}
use Rattle.gb_program.specs.Fourth.{fourth_forms, fourth_node, has_return_word, nodes_of, IsOlder}
use Rattle.gb_events.proofs.Below.gb_verify_laws.FileLaws.{on_err}
use Rattle.gb_program.proofs.FourthLaws.{group_cut, group_done, group_passed, group_taken, node_free, node_older}
use Rattle.gb_program.proofs.fourth.put_group.Goals.{then-procedure-old+in_ok-put_all, else-procedure-old}
use Rattle.gb_program.proofs.fourth.put_group.Goals as goal

pub node_text-requires : goal.node_text-requires
node_text-requires g c = subst (λ (r : Rules). IsOlder (has_return_word r c.node-node.result.procedure) c.node-node.result.state) (sym c.loop-i.invariant.rules) (node_older c.args.cert.now c.loop-i.i c.node-node.result c.requires.certificate c.node-node.ensures)

pub returns-in_err-put_all-clause-beginning : goal.returns-in_err-put_all-clause-beginning
returns-in_err-put_all-clause-beginning g c =
    on_err c.from_residual.result
    (group_cut (whole.node c.args.cert.now.region (fourth_forms c.args.cert.now)) c.args.cert.now c.args.old c.args.number c.loop-i.i c.procedure.result c.node-node.result c.of-rules.result _ _ _ _ _ c.node-node.ensures c.procedure.ensures c.if-procedure-old.true c.loop-i.invariant.rules
    (c.as_slice.ensures.value ∙ c.node_text.ensures c.args.cert.now.region (fourth_forms c.args.cert.now) (node_free c.args.cert.now c.loop-i.i c.node-node.result c.requires.certificate c.node-node.ensures)) c.loop-i.invariant.remains c.in_err-put_all.ensures.beginning)

pub loop-i-preserved : goal.loop-i-preserved
loop-i-preserved g c = elim c.if-procedure-old.branch [
  | then-procedure-old+in_ok-put_all w ↦ record {
    works = subst (λ o. g.W.Sink.has_failed o ≡ false) (sym w.out-is) w.in_ok-put_all.ensures.failed;
    rules = c.loop-i.invariant.rules;
    remains = subst (λ o. Remains (g.W.Sink.contents c.args.out.now) (flat_map (λ n. whole.node c.args.cert.now.region (fourth_forms c.args.cert.now) (fourth_node c.args.number n)) (nodes_of c.args.old (widened c.args.cert.now).nodes)) (g.W.Sink.contents o) (flat_map (λ n. whole.node c.args.cert.now.region (fourth_forms c.args.cert.now) (fourth_node c.args.number n)) (nodes_of c.args.old (drop (c.loop-i.i + 1) (widened c.args.cert.now).nodes)))) (sym w.out-is)
        (group_taken (whole.node c.args.cert.now.region (fourth_forms c.args.cert.now)) c.args.cert.now c.args.old c.args.number c.loop-i.i c.procedure.result c.node-node.result c.of-rules.result _ _ _ _ _ c.node-node.ensures c.procedure.ensures w.if-procedure-old.true c.loop-i.invariant.rules
        (w.as_slice.ensures.value ∙ w.node_text.ensures c.args.cert.now.region (fourth_forms c.args.cert.now) (node_free c.args.cert.now c.loop-i.i c.node-node.result c.requires.certificate c.node-node.ensures)) c.loop-i.invariant.remains w.in_ok-put_all.ensures.whole);
  }
  | else-procedure-old w ↦ record {
    works = subst (λ o. g.W.Sink.has_failed o ≡ false) (sym w.out-is) c.loop-i.invariant.works;
    rules = c.loop-i.invariant.rules;
    remains = subst (λ o. Remains (g.W.Sink.contents c.args.out.now) (flat_map (λ n. whole.node c.args.cert.now.region (fourth_forms c.args.cert.now) (fourth_node c.args.number n)) (nodes_of c.args.old (widened c.args.cert.now).nodes)) (g.W.Sink.contents o) (flat_map (λ n. whole.node c.args.cert.now.region (fourth_forms c.args.cert.now) (fourth_node c.args.number n)) (nodes_of c.args.old (drop (c.loop-i.i + 1) (widened c.args.cert.now).nodes)))) (sym w.out-is)
        (group_passed (whole.node c.args.cert.now.region (fourth_forms c.args.cert.now)) c.args.cert.now c.args.old c.args.number c.loop-i.i c.procedure.result c.node-node.result _ _ _ c.node-node.ensures c.procedure.ensures w.if-procedure-old.false c.loop-i.invariant.remains);
  }
]

pub returns-clause-whole : goal.returns-clause-whole
returns-clause-whole g c = group_done (whole.node c.args.cert.now.region (fourth_forms c.args.cert.now)) c.args.cert.now c.args.old c.args.number c.loop-i.i _ _ _ (omega (arith, c.loop-i-test.false, c.nodes-i-end.ensures)) c.loop-i.invariant.remains
