use Rattle.std.proofs.Common.{◌≡◌, ℕ, ◌-◌, true, false}
use Rattle.gb_cpu.specs.Choice.{is_idle}
use Rattle.gb_console.specs.Frame.{HasGoneOn, IsReady}
use Rattle.gb_console.proofs.console.Console.go_on.Given as goal

-- the instructions so far did not end the frame
abbrev pub invariant-loop-goes : goal.invariant-loop-goes
invariant-loop-goes l = HasGoneOn l.fn.self l.keys l.self × (is_idle l.self.cpu ≡ false) × (l.goes ≡ true → IsReady l.self l.keys)

abbrev pub decreases-loop-goes : goal.decreases-loop-goes
decreases-loop-goes l = 17556 - l.self.cycles
