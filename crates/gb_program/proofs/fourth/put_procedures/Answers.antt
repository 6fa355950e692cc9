use Rattle.std.proofs.Common.{◌≡◌, ◌∙◌, arith, subst, List, ℕ}
use Rattle.gb_command_line.specs.Below.gb_verify.Below.gb_states.WholeSpelling as whole
use Rattle.gb_command_line.specs.Below.gb_verify.Widened.{widened}
use Rattle.gb_events.proofs.Below.gb_verify_laws.FileLaws.{on_err}
use Rattle.gb_program.proofs.FourthLaws.{all_counted, nodes_few, procedures_cut, procedures_done, procedures_taken}
use Rattle.gb_program.proofs.fourth.put_procedures.Goals as goal

pub returns-in_err-put_all-clause-beginning : goal.returns-in_err-put_all-clause-beginning
returns-in_err-put_all-clause-beginning g c =
    on_err c.from_residual.result
    (procedures_cut (whole.procedure c.args.cert.now.region) (widened c.args.cert.now) c.args.numbers.now c.loop-i.i _ c.loop-i.before _ _ _ _ _ c.loop-i-test.true (c.as_slice.ensures.value ∙ c.placed_text.ensures) c.loop-i.invariant.remains c.in_err-put_all.ensures.beginning)

pub overflow_add-before : goal.overflow_add-before
overflow_add-before g c = omega (arith, c.loop-i.invariant.few, c.count-before.ensures.few, c.nodes.ensures, nodes_few c.args.cert.now c.requires.certificate, c.loop-i-test.true, c.requires.few)

pub loop-i-preserved : goal.loop-i-preserved
loop-i-preserved g c = record {
  works = c.in_ok-put_all.ensures.failed;
  few = omega (arith, c.loop-i.invariant.few, c.count-before.ensures.few, c.nodes.ensures, nodes_few c.args.cert.now c.requires.certificate);
  remains = procedures_taken (whole.procedure c.args.cert.now.region) (widened c.args.cert.now) c.args.numbers.now c.loop-i.i _ c.loop-i.before c.count-before.result _ _ _ _ _ c.loop-i-test.true (c.as_slice.ensures.value ∙ c.placed_text.ensures)
      (all_counted c.args.cert.now _ c.count-before.result c.nodes.result c.nodes.ensures c.count-before.ensures.exact) c.loop-i.invariant.remains c.in_ok-put_all.ensures.whole;
}

pub returns-clause-whole : goal.returns-clause-whole
returns-clause-whole g c = procedures_done (whole.procedure c.args.cert.now.region) (widened c.args.cert.now) c.args.numbers.now c.loop-i.i c.loop-i.before _ _ _ (omega (arith, c.loop-i-test.false)) c.loop-i.invariant.remains
