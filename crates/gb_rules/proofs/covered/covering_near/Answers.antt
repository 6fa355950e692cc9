use Rattle.std.proofs.Common.{◌≤◌, arith}
use Rattle.gb_rules.specs.Covered.{with_parts}
use Rattle.gb_rules.proofs.SearchLaws.{found_covers, found_around}
use Rattle.gb_rules.proofs.covered.covering_near.Goals as goal

pub returns-in-Some-clause-covered : goal.returns-in-Some-clause-covered
returns-in-Some-clause-covered c =
    let from : c.args.near ≤ c.in-Some.number = c.in-Some.ensures.inside.0 in
    let least : c.args.found.now.first ≤ c.in-Some.number = omega arith in
    found_covers c.args.program.now c.args.cert.now.nodes c.args.procedure c.args.address (with_parts c.args.states.now.core.now c.args.states.now.relations.now c.args.states.now.summary.now c.args.states.now.lists.now)
    c.args.found.now.first c.args.found.now.after c.in-Some.number c.requires.found least c.in-Some.ensures.inside.1 c.in-Some.ensures.some

pub returns-in-None-clause-covered : goal.returns-in-None-clause-covered
returns-in-None-clause-covered c =
    found_around c.args.program.now c.args.cert.now.nodes c.args.procedure c.args.address (with_parts c.args.states.now.core.now c.args.states.now.relations.now c.args.states.now.summary.now c.args.states.now.lists.now)
    c.args.found.now.first c.args.near c.args.found.now.after c.first_covering-in-None.result c.requires.found c.requires.most c.in-None.ensures.none
    c.first_covering-in-None.ensures.inside c.first_covering-in-None.ensures.some c.first_covering-in-None.ensures.none
