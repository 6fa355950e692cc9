use Rattle.gb_printed.specs.Script.{Plays}
use Rattle.gb_printed.proofs.script.run_frames.Given as goal

-- the frames so far were whole
abbrev pub invariant-loop-number : goal.invariant-loop-number
invariant-loop-number g l = Plays l.script l.number l.fn.console l.console
