use Rattle.std.proofs.Common.{◌≡◌, false, drop, map}
use Rattle.std.specs.List.{flat_map}
use Rattle.gb_rules.specs.Below.gb_domain.declared.rules.Rules.TheVariants.{Extended}
use Rattle.gb_rules.specs.Below.gb_states.Spelling as spelled
use Rattle.gb_text.proofs.Remaining.{Remains}
use Rattle.gb_verify.specs.Widened.{widened_node}
use Rattle.gb_verify.proofs.widen.put_nodes.Given as goal

abbrev pub invariant-loop-i : goal.invariant-loop-i
invariant-loop-i g l = record {
  works : g.W.Sink.has_failed l.out ≡ false;
  remains : Remains (g.W.Sink.contents l.fn.out) (flat_map (spelled.node Extended) (map widened_node l.cert.nodes)) (g.W.Sink.contents l.out) (flat_map (spelled.node Extended) (drop l.i (map widened_node l.cert.nodes)));
}
