use Rattle.gb_console.proofs.Idle.{idle_waits, idle_same}
use Rattle.gb_console.proofs.console.Console.advance.Goals as goal

pub returns-clause-waits : goal.returns-clause-waits
returns-clause-waits c = λ h. idle_waits c.args.self.now c.args.keys c.args.seconds c.take_event.result.event c.take_event.new.self c.take_event.ensures.step h

pub returns-clause-unchanged : goal.returns-clause-unchanged
returns-clause-unchanged c = λ h. idle_same c.args.self.now c.args.keys c.args.seconds c.take_event.result.event c.take_event.new.self c.take_event.ensures.step c.take_event.ensures.small h
