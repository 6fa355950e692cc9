use Rattle.std.proofs.Common.{arith}
use Rattle.gb_states.specs.WholeSpelling as spelled
use Rattle.gb_cert.proofs.Placing.{at-length}
use Rattle.gb_states.proofs.StateLaws.{limit_bound}
use Rattle.gb_cert.proofs.cert.Cert.nodes.Goals as goal

pub overflow_cast-result : goal.overflow_cast-result
overflow_cast-result c =
    let k = at-length (spelled.node_by _ _ _ _) _ _ _ _ c.self.invariant.nodes_at in
    let few = limit_bound _ _ c.self.invariant.spells.is_certificate.node_count in
    omega arith

pub returns : goal.returns
returns c =
    let k = at-length (spelled.node_by _ _ _ _) _ _ _ _ c.self.invariant.nodes_at in
    cc
