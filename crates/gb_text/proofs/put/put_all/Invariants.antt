use Rattle.std.proofs.Common.{◌≡◌, ◌-◌, ◌≤◌, false, length, take}
use Rattle.gb_text.specs.Sink.{Gains}
use Rattle.gb_text.proofs.put.put_all.Given as goal

abbrev pub invariant-loop-done : goal.invariant-loop-done
invariant-loop-done g l = record {
  within : l.done ≤ length l.bytes;
  works : g.W.Sink.has_failed l.out ≡ false;
  taken : Gains (g.W.Sink.contents l.fn.out) (take l.done l.bytes) (g.W.Sink.contents l.out);
}

abbrev pub decreases-loop-done : goal.decreases-loop-done
decreases-loop-done g l = length l.bytes - l.done
