use Rattle.std.proofs.Common.{◌≡◌, ◌≤◌, ◌-◌}
use Rattle.gb_console.specs.Console.{rom_of}
use Rattle.gb_console.specs.Frame.{seconds_at}
use Rattle.gb_faults.specs.Quiet.{IsGuard}
use Rattle.gb_watch.specs.Watch.{GoesFaultless}
use Rattle.gb_watch.proofs.frame.watch_steps.Given as goal

-- the steps so far had no fault and did not end the frame, and the seconds are those of the next one
abbrev pub invariant-loop-ending : goal.invariant-loop-ending
invariant-loop-ending l = record {
  goes : GoesFaultless l.fn.region l.fn.console l.keys l.seconds l.number l.console;
  seconds : l.passed ≡ seconds_at l.number l.seconds;
  counted : l.number ≤ l.console.cycles;
  guard : IsGuard (rom_of l.console) l.guard;
  region : l.guard.region ≡ l.fn.region;
}

abbrev pub decreases-loop-ending : goal.decreases-loop-ending
decreases-loop-ending l = 17556 - l.console.cycles
