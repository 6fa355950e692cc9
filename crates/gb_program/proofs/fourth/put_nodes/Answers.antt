use Rattle.std.proofs.Common.{◌≡◌, arith, subst, List, ℕ}
use Rattle.gb_events.proofs.Below.gb_text_laws.Remaining.{Remains, remains_less, remains_cut, remains_none}
use Rattle.gb_command_line.specs.Below.gb_verify.Below.gb_states.WholeSpelling as whole
use Rattle.gb_command_line.specs.Below.gb_verify.Widened.{widened}
use Rattle.gb_program.specs.Fourth.{fourth_forms}
use Rattle.gb_events.proofs.Below.gb_verify_laws.FileLaws.{on_err}
use Rattle.gb_program.proofs.FourthLaws.{nodes_cut, nodes_done, nodes_taken}
use Rattle.gb_program.proofs.fourth.put_nodes.Goals as goal

pub returns-in_err-put_group-clause-beginning : goal.returns-in_err-put_group-clause-beginning
returns-in_err-put_group-clause-beginning g c =
    on_err c.from_residual.result (nodes_cut (whole.node c.args.cert.now.region (fourth_forms c.args.cert.now)) (widened c.args.cert.now).nodes c.args.numbers.now c.loop-i.i _ _ _ _ _ c.loop-i-test.true c.loop-i.invariant.remains c.in_err-put_group.ensures.beginning)

pub loop-i-preserved : goal.loop-i-preserved
loop-i-preserved g c = record {
  works = c.in_ok-put_group.ensures.failed;
  remains = nodes_taken (whole.node c.args.cert.now.region (fourth_forms c.args.cert.now)) (widened c.args.cert.now).nodes c.args.numbers.now c.loop-i.i _ _ _ _ _ c.loop-i-test.true c.loop-i.invariant.remains c.in_ok-put_group.ensures.whole;
}

pub returns-clause-whole : goal.returns-clause-whole
returns-clause-whole g c = nodes_done (whole.node c.args.cert.now.region (fourth_forms c.args.cert.now)) (widened c.args.cert.now).nodes c.args.numbers.now c.loop-i.i _ _ _ (omega (arith, c.loop-i-test.false)) c.loop-i.invariant.remains
