use Rattle.gb_plain.proofs.Stepping.{stepped}
use Rattle.gb_plain.proofs.machine.PlainMachine.step.Goals as goal

pub returns : goal.returns
returns c =
    let made = c.step-stepped.ensures in
    rw c.set_processor.ensures (stepped _ _ _ _ _ _ c.processor.ensures made.machine made.next made.joined made.choice made.cycles made.free)
