use Rattle.std.proofs.Common.{◌≡◌, false, drop}
use Rattle.std.specs.List.{flat_map}
use Rattle.gb_rules.specs.Below.gb_states.Spelling as spelled
use Rattle.gb_text.proofs.Remaining.{Remains}
use Rattle.gb_verify.specs.Widened.{widened_procedures}
use Rattle.gb_verify.proofs.widen.put_procedures.Given as goal

abbrev pub invariant-loop-i : goal.invariant-loop-i
invariant-loop-i g l = record {
  works : g.W.Sink.has_failed l.out ≡ false;
  remains : Remains (g.W.Sink.contents l.fn.out) (flat_map (spelled.procedure 3) (widened_procedures l.cert.procedures)) (g.W.Sink.contents l.out) (flat_map (spelled.procedure 3) (drop l.i (widened_procedures l.cert.procedures)));
}
