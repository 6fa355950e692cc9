use Rattle.std.proofs.Common.{◌≡◌, ◌≤◌, ◌*◌, false, drop}
use Rattle.std.specs.List.{flat_map}
use Rattle.gb_command_line.specs.Below.gb_verify.Below.gb_states.WholeSpelling as whole
use Rattle.gb_events.proofs.Below.gb_text_laws.Remaining.{Remains}
use Rattle.gb_command_line.specs.Below.gb_verify.Widened.{widened}
use Rattle.gb_program.specs.Fourth.{placed}
use Rattle.gb_program.proofs.fourth.put_procedures.Given as goal

abbrev pub invariant-loop-i : goal.invariant-loop-i
invariant-loop-i g l = record {
  works : g.W.Sink.has_failed l.out ≡ false;
  few : l.before ≤ l.i * 1048576;
  remains : Remains (g.W.Sink.contents l.fn.out) (flat_map (whole.procedure l.cert.region) (placed (widened l.cert) 0 l.numbers)) (g.W.Sink.contents l.out) (flat_map (whole.procedure l.cert.region) (placed (widened l.cert) l.before (drop l.i l.numbers)));
}
