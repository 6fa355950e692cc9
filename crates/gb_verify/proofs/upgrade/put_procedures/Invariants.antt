use Rattle.std.proofs.Common.{◌≡◌, false, drop}
use Rattle.std.specs.List.{flat_map}
use Rattle.gb_rules.specs.Below.gb_cert.Places.{upgraded_version}
use Rattle.gb_rules.specs.Below.gb_states.Spelling as spelled
use Rattle.gb_text.proofs.Remaining.{Remains}
use Rattle.gb_verify.proofs.upgrade.put_procedures.Given as goal

abbrev pub invariant-loop-i : goal.invariant-loop-i
invariant-loop-i g l = record {
  works : g.W.Sink.has_failed l.out ≡ false;
  remains : Remains (g.W.Sink.contents l.fn.out) (flat_map (spelled.procedure (upgraded_version l.cert.version)) l.cert.procedures) (g.W.Sink.contents l.out) (flat_map (spelled.procedure (upgraded_version l.cert.version)) (drop l.i l.cert.procedures));
}
