use Rattle.std.proofs.Common.{◌≡◌, false, drop}
use Rattle.std.specs.List.{flat_map}
use Rattle.gb_domain.specs.Limits.{rules_of}
use Rattle.gb_command_line.specs.Below.gb_verify.Below.gb_states.WholeSpelling as whole
use Rattle.gb_events.proofs.Below.gb_text_laws.Remaining.{Remains}
use Rattle.gb_command_line.specs.Below.gb_verify.Widened.{widened}
use Rattle.gb_program.specs.Fourth.{fourth_forms, fourth_node, nodes_of}
use Rattle.gb_program.proofs.fourth.put_group.Given as goal

abbrev pub invariant-loop-i : goal.invariant-loop-i
invariant-loop-i g l = record {
  works : g.W.Sink.has_failed l.out ≡ false;
  rules : l.rules ≡ rules_of l.cert.version;
  remains : Remains (g.W.Sink.contents l.fn.out) (flat_map (λ n. whole.node l.cert.region (fourth_forms l.cert) (fourth_node l.number n)) (nodes_of l.old (widened l.cert).nodes)) (g.W.Sink.contents l.out) (flat_map (λ n. whole.node l.cert.region (fourth_forms l.cert) (fourth_node l.number n)) (nodes_of l.old (drop l.i (widened l.cert).nodes)));
}
