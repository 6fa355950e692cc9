use Rattle.gb_cert.specs.Written.{stands_with, has_unsayable}
use Rattle.gb_cert.proofs.Refusing.{none_at}
use Rattle.gb_cert.proofs.writer.put_nodes.Goals as goal

pub put_node-requires-clause-said : goal.put_node-requires-clause-said
put_node-requires-clause-said c =
    none_at (stands_with (has_unsayable c.args.version)) c.args.nodes.now c.loop-node.node-index c.node-item.result c.node-item.is c.loop-node-test.true c.requires.said
