use Rattle.gb_console.proofs.Interrupts.{dispatchable}
use Rattle.gb_console.proofs.choice.interrupt.Goals as goal

pub returns-clause-possible : goal.returns-clause-possible
returns-clause-possible c = rw (c.lowest.ensures, c.pending-shared.ensures.value) (dispatchable c.args.cpu.processor c.args.memory.now)
