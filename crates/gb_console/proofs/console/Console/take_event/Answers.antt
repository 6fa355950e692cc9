use Rattle.std.proofs.Common.{refl, arith}
use Rattle.gb_ops.specs.Play.{outside}
use Rattle.gb_cpu.specs.Choice.{is_idle}
use Rattle.gb_console.proofs.Stepping.{keeps, step_of}
use Rattle.gb_console.proofs.console.Console.take_event.Goals as goal

pub invariant_of-self : goal.invariant_of-self
unfolding outside
invariant_of-self c =
    let kept = keeps c.self.inside.cpu.processor c.self.inside.memory c.take.new.memory (is_idle c.self.inside.cpu) c.args.keys c.args.seconds _ _ c.take.ensures c.act-stepped.ensures.machine (record { settled = c.self.invariant.1; reachable = c.self.invariant.2; cartridge = c.self.invariant.3 }) in
    (omega (arith, c.count.ensures.counted), kept.settled, kept.reachable, kept.cartridge)

pub returns-clause-step : goal.returns-clause-step
returns-clause-step c =
    rw (← c.self.view_is)
    (step_of _ c.args.keys c.args.seconds c.take.new.memory _ _ c.take.ensures c.self.invariant.1
    (record {
      machine = c.act-stepped.ensures.machine;
      joined = c.act-stepped.ensures.joined;
      choice = c.act-stepped.ensures.choice;
      free = c.act-stepped.ensures.free;
      waiting = c.act-stepped.ensures.waiting;
      cycles = rw (c.count.ensures.counted, c.act-stepped.ensures.cycles) refl;
    }))
