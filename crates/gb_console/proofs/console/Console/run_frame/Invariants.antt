use Rattle.std.proofs.Common.{◌≡◌, ℕ, ◌-◌}
use Rattle.gb_console.specs.Frame.{Goes, seconds_at}
use Rattle.gb_console.proofs.console.Console.run_frame.Given as goal

-- the steps so far did not end the frame, and the seconds are those of the next one
abbrev pub invariant-loop-ending : goal.invariant-loop-ending
invariant-loop-ending l = (n : ℕ) × Goes l.fn.self l.keys l.seconds n l.self × (l.passed ≡ seconds_at n l.seconds)

abbrev pub decreases-loop-ending : goal.decreases-loop-ending
decreases-loop-ending l = 17556 - l.self.cycles
