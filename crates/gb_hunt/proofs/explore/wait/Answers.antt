use Rattle.gb_trace.specs.Below.gb_console.Console.{rom_of}
use Rattle.gb_hunt.proofs.Guarding.{same_guard, rests_rom}
use Rattle.gb_hunt.proofs.explore.wait.Goals as goal

pub returns-then-not-processor-2 : goal.returns-then-not-processor-2
returns-then-not-processor-2 c =
    same_guard (rom_of c.args.console.now) (rom_of c.wait.new.self) c.args.guard.now
    (rests_rom c.args.console.now c.args.keys c.wait.result c.wait.new.self c.wait.ensures) c.requires
