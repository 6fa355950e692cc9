use Rattle.gb_printed.specs.Script.{keys_at, seconds_of}
use Rattle.gb_printed.specs.Below.gb_watch.Watch.{Watches}
use Rattle.gb_witness.proofs.witness.watch_frames.Given as goal

-- the frames so far were whole and without a fault
abbrev pub invariant-loop-number : goal.invariant-loop-number
invariant-loop-number g l = Watches l.region (keys_at l.script) seconds_of l.number l.fn.console l.console
