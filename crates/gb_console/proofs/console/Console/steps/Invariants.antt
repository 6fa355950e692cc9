use Rattle.std.proofs.Common.{List, take}
use Rattle.gb_ops.specs.declared.machine.Event.{Event}
use Rattle.gb_console.specs.Run.{Steps}
use Rattle.gb_console.proofs.console.Console.steps.Given as goal

-- the inputs so far were the steps'
abbrev pub invariant-loop-input : goal.invariant-loop-input
invariant-loop-input l = (events : List Event) × Steps l.fn.self (take l.input-index l.inputs) events l.self
