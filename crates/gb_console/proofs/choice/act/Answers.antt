use Rattle.gb_console.proofs.Interrupts.{dispatches}
use Rattle.gb_console.proofs.choice.act.Goals as goal

pub returns-in-Some-clause-choice : goal.returns-in-Some-clause-choice
returns-in-Some-clause-choice c = dispatches c.args.cpu.now c.args.memory.now c.in-Some.i _ c.in-Some.ensures.interrupt c.in-Some.ensures.running c.dispatch.ensures.choice
