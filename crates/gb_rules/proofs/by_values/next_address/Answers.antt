use Rattle.std.proofs.Common.{ap, ◌∙◌, arith}
use Rattle.gb_successors.specs.Below.gb_domain.Types.{AbsState}
use Rattle.gb_rules.proofs.ByteLaws.{IsLowest, IsLowest-next, up_to_found}
use Rattle.gb_rules.proofs.by_values.next_address.Goals as goal

pub loop-number-preserved : goal.loop-number-preserved
loop-number-preserved c =
    let before : IsLowest c.args.nodes.now.cert.now.nodes c.args.nodes.now.procedure c.args.nodes.now.address c.args.least c.args.nodes.now.found.now.first c.loop-number.number c.loop-number.next =
    record { some = c.loop-number.invariant.some; first_one = c.loop-number.invariant.first } in
    let next = IsLowest-next c.args.nodes.now.cert.now.nodes c.args.nodes.now.procedure c.args.nodes.now.address c.args.least
    c.args.nodes.now.found.now.first c.args.nodes.now.found.now.after c.loop-number.number c.node.result c.cells.result.now c.loop-number.next c.next_in.result c.sooner-next.result
    c.requires (omega arith) (omega arith) c.node.ensures (c.cells.ensures.cells ∙ ap (λ (s : AbsState). s.cells) c.state-state.ensures)
    c.next_in.ensures.some c.next_in.ensures.first c.sooner-next.ensures.one c.sooner-next.ensures.left c.sooner-next.ensures.right before in
    record { some = next.some; first = next.first_one }

pub returns-clause-first : goal.returns-clause-first
returns-clause-first c =
    λ at le there. up_to_found c.args.nodes.now.cert.now.nodes c.args.nodes.now.procedure c.args.nodes.now.address at c.args.least
    c.args.nodes.now.found.now.first c.args.nodes.now.found.now.after c.loop-number.next c.requires
    (λ i b n least lt here from cell. c.loop-number.invariant.first i b n least (omega arith) here from cell) le there
