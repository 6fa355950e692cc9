use Rattle.gb_verify.proofs.FileLaws.{on_err}
use Rattle.gb_verify.proofs.WidenedText.{cut, node_at, node_narrow, owner_few, taken}
use Rattle.gb_verify.proofs.widen.put_nodes.Goals as goal

pub put_node-requires-clause-few : goal.put_node-requires-clause-few
put_node-requires-clause-few g c = owner_few c.args.cert.now c.loop-i.i c.node.result c.requires.certificate c.node.ensures

pub put_node-requires-clause-narrow : goal.put_node-requires-clause-narrow
put_node-requires-clause-narrow g c = node_narrow c.args.cert.now c.loop-i.i c.node.result c.requires.certificate c.requires.simple c.node.ensures

pub returns-in_err-put_node-clause-beginning : goal.returns-in_err-put_node-clause-beginning
returns-in_err-put_node-clause-beginning g c =
    on_err c.from_residual.result (cut _ _ _ _ _ _ c.loop-i.i _ (node_at c.args.cert.now.nodes c.loop-i.i c.node.result c.node.ensures) c.loop-i.invariant.remains c.in_err-put_node.ensures.beginning)

pub loop-i-preserved : goal.loop-i-preserved
loop-i-preserved g c = record {
  works = c.in_ok-put_node.ensures.failed;
  remains = taken _ _ _ _ _ _ c.loop-i.i _ (node_at c.args.cert.now.nodes c.loop-i.i c.node.result c.node.ensures) c.loop-i.invariant.remains c.in_ok-put_node.ensures.whole;
}
