use Rattle.std.proofs.Common.{◌≡◌, ℕ, refl, arith}
use Rattle.gb_ops.specs.Play.{outside}
use Rattle.gb_console.specs.Console.{ConsoleState}
use Rattle.gb_console.specs.Frame.{IsReady}
use Rattle.gb_console.proofs.Going.{some_step, run_keeps}
use Rattle.gb_console.proofs.console.Console.run.Goals as goal

pub invariant_of-self : goal.invariant_of-self
unfolding outside
invariant_of-self c =
    let kept = run_keeps c.self.inside.cpu c.run-cycles.new.self c.self.inside.memory _ c.run-cycles.new.bus c.run-cycles.result refl c.run-cycles.ensures (record { settled = c.self.invariant.1; reachable = c.self.invariant.2; cartridge = c.self.invariant.3 }) in
    (omega (arith, c.count.ensures.counted), kept.settled, kept.reachable, kept.cartridge)

pub returns : goal.returns
returns c =
    let ready : IsReady (record { cpu = c.self.inside.cpu; contents = c.self.inside.memory; cycles = c.self.inside.cycles }) c.args.keys = rw (← c.self.view_is) at c.requires in
    rw (← c.self.view_is)
    (record {
      cycles = c.run-cycles.result;
      step = some_step c.self.inside.cpu c.run-cycles.new.self c.self.inside.memory _ c.run-cycles.new.bus c.self.inside.cycles c.run-cycles.result _ c.args.keys refl c.run-cycles.ensures ready.unshared ready.held c.self.invariant.1 c.count.ensures.counted;
      reaches = c.count.ensures.passed;
    })
