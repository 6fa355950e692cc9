use Rattle.gb_rules.proofs.SearchLaws.{covered_by}
use Rattle.gb_rules.specs.Covered.{with_parts}
use Rattle.gb_rules.proofs.covered.covered_near.Goals as goal

pub returns-then-covers_states : goal.returns-then-covers_states
returns-then-covers_states c =
    covered_by c.args.program.now c.args.rules c.args.cert.now c.args.procedure c.args.address (with_parts c.args.states.now.core.now c.args.states.now.relations.now c.args.states.now.summary.now c.args.states.now.lists.now)
    c.saturating_add-behind.result c.node.result c.has_key-is_there.result c.covers_states.result c.has_key-is_there.ensures.some c.node.ensures c.covers_states.ensures c.if-is_there.true c.if-covers_states.true

pub returns-then-covers_states-2 : goal.returns-then-covers_states-2
returns-then-covers_states-2 c =
    covered_by c.args.program.now c.args.rules c.args.cert.now c.args.procedure c.args.address (with_parts c.args.states.now.core.now c.args.states.now.relations.now c.args.states.now.summary.now c.args.states.now.lists.now)
    c.first_near-first.result.number c.node-then-has_key.result c.has_key.result c.covers_states-then-has_key.result c.has_key.ensures.some c.node-then-has_key.ensures c.covers_states-then-has_key.ensures c.if-has_key.true c.if-covers_states-2.true
