use Rattle.std.proofs.Common.{◌≡◌, false, sym, ◌∙◌, arith}
use Rattle.gb_successors.specs.Below.gb_product.Covering.{covers}
use Rattle.gb_rules.specs.Covered.{with_parts}
use Rattle.gb_rules.proofs.SearchLaws.{none_yet}
use Rattle.gb_rules.proofs.covered.first_covering.Goals as goal

pub loop-number-init : goal.loop-number-init
loop-number-init c = λ j n least lt. absurd (omega arith)

pub loop-number-preserved : goal.loop-number-preserved
loop-number-preserved c =
    let apart : covers c.args.program.now (with_parts c.args.states.now.core.now c.args.states.now.relations.now c.args.states.now.summary.now c.args.states.now.lists.now) c.node-node.result.state ≡ false = sym c.covers_states.ensures ∙ c.if-covers_states.false in
    none_yet c.args.program.now c.args.cert.now.nodes (with_parts c.args.states.now.core.now c.args.states.now.relations.now c.args.states.now.summary.now c.args.states.now.lists.now) c.args.from c.loop-number.number c.node-node.result c.node-node.ensures apart c.loop-number.invariant
