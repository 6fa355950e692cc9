use Rattle.std.proofs.Common.{◌≡◌, false, drop}
use Rattle.gb_text.proofs.Remaining.{Remains}
use Rattle.gb_printed.specs.Show.{procedure_lines, numbered}
use Rattle.gb_printed.proofs.show.put_procedures.Given as goal

abbrev pub invariant-loop-i : goal.invariant-loop-i
invariant-loop-i g l = record {
  works : g.W.Sink.has_failed l.out ≡ false;
  remains : Remains (g.W.Sink.contents l.fn.out) (numbered (procedure_lines l.rules) 0 l.cert.procedures) (g.W.Sink.contents l.out) (numbered (procedure_lines l.rules) l.i (drop l.i l.cert.procedures));
}
