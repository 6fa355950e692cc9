use Rattle.std.proofs.Common.{◌≡◌, arith}
use Rattle.gb_command_line.specs.Below.gb_verify.Widened.{widened}
use Rattle.gb_program.proofs.FourthLaws.{all_counted, nodes_few, total_end, total_next}
use Rattle.gb_program.proofs.fourth.node_count.Goals as goal

pub overflow_add-nodes : goal.overflow_add-nodes
overflow_add-nodes c = omega (arith, c.loop-i.invariant.few, c.count-nodes.ensures.few, c.nodes.ensures, nodes_few c.args.cert.now c.requires.certificate, c.loop-i-test.true, c.requires.few)

pub loop-i-preserved : goal.loop-i-preserved
loop-i-preserved c = record {
  exact = total_next (widened c.args.cert.now).nodes c.args.numbers.now c.loop-i.i _ c.loop-i.nodes c.count-nodes.result c.loop-i-test.true c.loop-i.invariant.exact (all_counted c.args.cert.now _ c.count-nodes.result c.nodes.result c.nodes.ensures c.count-nodes.ensures.exact);
  few = omega (arith, c.loop-i.invariant.few, c.count-nodes.ensures.few, c.nodes.ensures, nodes_few c.args.cert.now c.requires.certificate);
}

pub returns : goal.returns
returns c = total_end (widened c.args.cert.now).nodes c.args.numbers.now c.loop-i.i c.loop-i.nodes (omega (arith, c.loop-i-test.false, c.loop-i.auto.i-end)) c.loop-i.invariant.exact
