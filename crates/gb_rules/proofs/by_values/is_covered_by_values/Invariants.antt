use Rattle.std.proofs.Common.{◌≡◌, ◌-◌, ◌≤◌, true}
use Rattle.gb_rules.specs.Covered.{with_parts, is_value_covered, all_from, known_of}
use Rattle.gb_rules.proofs.by_values.is_covered_by_values.Given as goal

abbrev pub invariant-loop-value : goal.invariant-loop-value
invariant-loop-value l = record {
  least : l.nodes.found.now.first ≤ l.near;
  most : l.near ≤ l.nodes.found.now.after;
  passed :
      all_from (is_value_covered l.nodes.program.now l.nodes.rules l.nodes.entered l.nodes.cert.now.nodes l.nodes.procedure l.nodes.address (with_parts l.states.core.now l.states.relations.now l.states.summary.now l.states.lists.now) l.fn.parted)
      (known_of l.fn.parted (with_parts l.states.core.now l.states.relations.now l.states.summary.now l.states.lists.now)).lo (l.value - (known_of l.fn.parted (with_parts l.states.core.now l.states.relations.now l.states.summary.now l.states.lists.now)).lo)
      ≡ true;
}
