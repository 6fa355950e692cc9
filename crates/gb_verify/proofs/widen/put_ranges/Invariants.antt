use Rattle.std.proofs.Common.{◌≡◌, false, drop}
use Rattle.std.specs.List.{flat_map}
use Rattle.gb_rules.specs.Below.gb_states.Spelling as spelled
use Rattle.gb_text.proofs.Remaining.{Remains}
use Rattle.gb_verify.proofs.widen.put_ranges.Given as goal

abbrev pub invariant-loop-range : goal.invariant-loop-range
invariant-loop-range g l = record {
  works : g.W.Sink.has_failed l.out ≡ false;
  remains : Remains (g.W.Sink.contents l.fn.out) (spelled.counted spelled.range l.ranges) (g.W.Sink.contents l.out) (flat_map spelled.range (drop l.range-index l.ranges));
}
