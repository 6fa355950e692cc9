use Rattle.std.proofs.Common.{false}
use Rattle.gb_plain.proofs.Dispatching.{irq_is}
use Rattle.gb_plain.proofs.Stepping.{irq}
use Rattle.gb_plain.proofs.machine.PlainMachine.dispatch.Goals as goal

pub dispatch-stepped-requires : goal.dispatch-stepped-requires
dispatch-stepped-requires c =
    rw c.processor.ensures (irq_is c.args.self.now.state.rom c.args.self.now.state.machine false c.args.i c.requires)

pub returns : goal.returns
returns c =
    let made = c.dispatch-stepped.ensures in
    rw (c.from.ensures, c.set_processor.ensures) (irq c.args.self.now.state c.args.self.now.handed _ _ c.dispatch-stepped.new.bus c.dispatch-stepped.result _ c.requires c.processor.ensures made.machine made.next made.choice made.cycles)
