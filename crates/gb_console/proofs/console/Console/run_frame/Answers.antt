use Rattle.std.proofs.Common.{arith}
use Rattle.gb_console.proofs.Frames.{forward, idle_steps}
use Rattle.gb_console.proofs.Going.{step_forward, step_running, more_goes, more_ends, goes_running}
use Rattle.gb_console.proofs.console.Console.run_frame.Goals as goal

pub go_on-requires : goal.go_on-requires
go_on-requires c = step_running c.loop-ending.self c.args.keys c.loop-ending.passed c.frame_step.new.self c.in-None.ensures.step

pub loop-ending-smaller : goal.loop-ending-smaller
loop-ending-smaller c =
    let first = forward c.loop-ending.self c.args.keys c.loop-ending.passed c.frame_step.new.self c.in-None.ensures.step in
    let on = step_forward c.loop-ending.self c.frame_step.new.self c.go_on.new.self c.args.keys c.loop-ending.passed c.in-None.ensures.step c.in-None-go_on.ensures in
    omega (arith, first.0, first.1, on)

pub loop-ending-preserved : goal.loop-ending-preserved
loop-ending-preserved c =
    more_goes c.args.self.now c.loop-ending.self c.frame_step.new.self c.go_on.new.self c.args.keys c.args.seconds c.loop-ending.invariant.0 c.loop-ending.passed
    c.loop-ending.invariant.1 c.loop-ending.invariant.2 c.in-None.ensures.step c.in-None-go_on.ensures

pub returns-in-Some-clause-unchanged : goal.returns-in-Some-clause-unchanged
returns-in-Some-clause-unchanged c =
    idle_steps c.args.self.now c.args.keys c.args.seconds c.loop-ending.invariant.0 c.loop-ending.self c.frame_step.new.self c.loop-ending.invariant.1 c.in-Some.ensures.unchanged

pub returns-in-Some-go_on-clause-frame : goal.returns-in-Some-go_on-clause-frame
returns-in-Some-go_on-clause-frame c =
    more_ends c.args.self.now c.loop-ending.self c.frame_step.new.self c.go_on.new.self c.args.keys c.args.seconds c.loop-ending.invariant.0 c.loop-ending.passed
    c.in-Some-go_on.ending c.loop-ending.invariant.1 c.loop-ending.invariant.2 c.in-None.ensures.step c.in-Some-go_on.ensures

pub returns-in-Some-go_on-clause-unchanged : goal.returns-in-Some-go_on-clause-unchanged
returns-in-Some-go_on-clause-unchanged c =
    λ h. absurd (goes_running c.args.self.now c.loop-ending.self c.frame_step.new.self c.args.keys c.args.seconds c.loop-ending.invariant.0 c.loop-ending.passed c.loop-ending.invariant.1 c.loop-ending.invariant.2 c.in-None.ensures.step h)
