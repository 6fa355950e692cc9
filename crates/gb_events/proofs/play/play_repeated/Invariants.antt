use Rattle.std.proofs.Common.{◌≡◌, replicate}
use Rattle.gb_events.specs.Replay.{IsWholeReplay}
use Rattle.gb_events.proofs.play.play_repeated.Given as goal

-- the event, so often as it was played, had no fault
abbrev pub invariant-loop-number : goal.invariant-loop-number
invariant-loop-number l =
    record {
      rom : l.machine.state.rom ≡ l.fn.machine.state.rom;
      whole : IsWholeReplay l.fn.machine.state.rom l.region l.fn.machine.state.machine (replicate l.number l.item.event) l.number l.machine.state.machine;
    }
