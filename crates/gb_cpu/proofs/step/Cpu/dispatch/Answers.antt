use Rattle.gb_cpu.proofs.Kept.{step_is}
use Rattle.gb_cpu.proofs.step.Cpu.dispatch.Goals as goal

pub returns-clause-machine : goal.returns-clause-machine
returns-clause-machine g c = step_is _ _ _ c.interrupt.ensures.state
