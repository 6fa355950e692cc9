use Rattle.std.proofs.Common.{◌≡◌, false, take}
use Rattle.std.specs.List.{flat_map}
use Rattle.gb_text.specs.Sink.{Gains}
use Rattle.gb_printed.specs.Show.{fact_text}
use Rattle.gb_printed.proofs.show.put_facts.Given as goal

abbrev pub invariant-loop-fact : goal.invariant-loop-fact
invariant-loop-fact g l = record {
  works : g.W.Sink.has_failed l.out ≡ false;
  taken : Gains (g.W.Sink.contents l.fn.out) (flat_map fact_text (take l.fact-index l.facts)) (g.W.Sink.contents l.out);
}
