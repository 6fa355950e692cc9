use Rattle.gb_plain.proofs.Leading.{same_rom, next_is}
use Rattle.gb_plain.proofs.machine.PlainMachine.apply.Goals as goal

pub returns-clause-rom : goal.returns-clause-rom
returns-clause-rom c =
    same_rom c.happen.new.self.state.rom c.args.self.now.state.rom c.happen.new.self.state.machine c.args.self.now.state.machine c.args.event c.happen.ensures.next

pub returns-clause-machine : goal.returns-clause-machine
returns-clause-machine c =
    next_is c.happen.new.self.state.rom c.args.self.now.state.rom c.happen.new.self.state.machine c.args.self.now.state.machine c.args.event c.happen.ensures.next
