use Rattle.std.proofs.Common.{◌≡◌, ℕ, ◌-◌, ◌≤◌, ◌<◌, true, false}
use Rattle.gb_rules.specs.Covered.{has_cell_there, is_covered_by_byte, with_parts}
use Rattle.gb_rules.proofs.by_values.is_covered_by_bytes.Given as goal

abbrev pub decreases-loop-at : goal.decreases-loop-at
decreases-loop-at l = 65536 - l.least

abbrev pub invariant-loop-at : goal.invariant-loop-at
invariant-loop-at l = record {
  most : l.least ≤ 65536;
  failed :
      (at : ℕ) → at < l.least → has_cell_there l.fn.nodes.cert.now.nodes l.fn.nodes.procedure l.fn.nodes.address at ≡ true
      → is_covered_by_byte l.fn.nodes.program.now l.fn.nodes.rules l.fn.nodes.entered l.fn.nodes.cert.now.nodes l.fn.nodes.procedure l.fn.nodes.address (with_parts l.fn.states.core.now l.fn.states.relations.now l.fn.states.summary.now l.fn.states.lists.now) at
      ≡ false;
}
