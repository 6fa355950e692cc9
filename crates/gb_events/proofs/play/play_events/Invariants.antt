use Rattle.std.proofs.Common.{◌≡◌, take}
use Rattle.gb_events.specs.Replay.{events_of, IsWholeReplay}
use Rattle.gb_events.proofs.play.play_events.Given as goal

-- the items so far had no fault
abbrev pub invariant-loop-item : goal.invariant-loop-item
invariant-loop-item l =
    record {
      rom : l.machine.state.rom ≡ l.fn.machine.state.rom;
      whole : IsWholeReplay l.fn.machine.state.rom l.region l.fn.machine.state.machine (events_of (take l.item-index l.list)) l.number l.machine.state.machine;
    }
