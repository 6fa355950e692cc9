use Rattle.gb_rules.specs.Covered.{with_parts}
use Rattle.gb_rules.proofs.SearchLaws.{NoneBetween}
use Rattle.gb_rules.proofs.covered.first_covering.Given as goal

abbrev pub invariant-loop-number : goal.invariant-loop-number
invariant-loop-number l = NoneBetween l.program l.cert.nodes (with_parts l.states.core.now l.states.relations.now l.states.summary.now l.states.lists.now) l.fn.from l.number
