use Rattle.gb_trace.specs.Below.gb_console.Console.{rom_of}
use Rattle.gb_faults.specs.Quiet.{IsGuard}
use Rattle.gb_hunt.proofs.explore.take_steps.Given as goal

-- the guard is the cartridge's
abbrev pub invariant-loop : goal.invariant-loop
invariant-loop l = IsGuard (rom_of l.console) l.guard
