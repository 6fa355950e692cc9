use Rattle.gb_plain.proofs.Running.{ran}
use Rattle.gb_plain.proofs.machine.PlainMachine.run.Goals as goal

pub returns : goal.returns
returns c = rw c.from.ensures (ran _ _ _ _ _ _ c.requires c.in_order-free.ensures c.step.ensures)
