use Rattle.std.proofs.Common.{ap, ◌%◌}
use Rattle.gb_plain.proofs.Running.{stayed, marked}
use Rattle.gb_plain.proofs.machine.PlainMachine.halt.Goals as goal

pub returns-clause-stay : goal.returns-clause-stay
returns-clause-stay c = λ possible. rw c.from.ensures (stayed _ _ _ _ _ possible (ap (λ n. n % 32) c.ie-enabled.ensures) c.step.ensures)

pub returns-clause-bug : goal.returns-clause-bug
returns-clause-bug c = λ possible. rw c.from.ensures (marked _ _ _ _ _ possible (ap (λ n. n % 32) c.ie-enabled.ensures) c.step.ensures)
