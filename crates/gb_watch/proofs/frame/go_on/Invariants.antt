use Rattle.std.proofs.Common.{◌≡◌, ◌<◌, ◌≤◌, ◌-◌, true, false}
use Rattle.gb_console.specs.Console.{rom_of}
use Rattle.gb_faults.specs.Below.gb_cpu.Choice.{is_idle}
use Rattle.gb_faults.specs.Quiet.{IsGuard}
use Rattle.gb_watch.specs.Ready.{IsSurelyReady, HasGoneOn}
use Rattle.gb_watch.proofs.frame.go_on.Given as goal

-- the instructions so far had no fault and did not end the frame
abbrev pub invariant-loop-goes : goal.invariant-loop-goes
invariant-loop-goes l = record {
  gone : HasGoneOn l.guard.region l.fn.console l.keys l.fn.number l.number l.console;
  running : is_idle l.console.cpu ≡ false;
  ready : l.goes ≡ true → IsSurelyReady l.guard.region l.console l.keys;
  counted : l.number ≤ l.console.cycles;
  small : l.console.cycles < 17556;
  guard : IsGuard (rom_of l.console) l.guard;
}

abbrev pub decreases-loop-goes : goal.decreases-loop-goes
decreases-loop-goes l = 17556 - l.console.cycles
