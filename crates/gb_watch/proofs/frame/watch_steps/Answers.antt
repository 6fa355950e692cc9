use Rattle.std.proofs.Common.{◌+◌, subst, ◌∙◌, None, arith}
use Rattle.gb_ops.specs.declared.machine.Region.{Region}
use Rattle.gb_console.specs.Console.{rom_of}
use Rattle.gb_console.proofs.Going.{step_running}
use Rattle.gb_watch.specs.Ready.{HasGoneOn, HasEnded}
use Rattle.gb_watch.specs.Watch.{IsFaultlessStep}
use Rattle.gb_watch.proofs.Counting.{step_forward, goes_count, goes_rom, frame_more, frame_ends, same_guard}
use Rattle.gb_watch.proofs.Quietly.{frame_step}
use Rattle.gb_watch.proofs.frame.watch_steps.Goals as goal

pub go_on-requires-clause-running : goal.go_on-requires-clause-running
go_on-requires-clause-running c =
    step_running c.loop-ending.console c.args.keys c.loop-ending.passed c.watch_step.new.console
    (frame_step c.guard_of-guard.result.region c.loop-ending.console c.args.keys c.loop-ending.passed None c.watch_step.new.console c.in-Goes.ensures)

pub go_on-requires-clause-counted : goal.go_on-requires-clause-counted
go_on-requires-clause-counted c =
    let on = step_forward c.guard_of-guard.result.region c.loop-ending.console c.args.keys c.loop-ending.passed c.watch_step.new.console c.in-Goes.ensures in
    omega (arith, on.0, c.loop-ending.invariant.counted)

pub returns-in-Some : goal.returns-in-Some
returns-in-Some c =
    let f : IsFaultlessStep c.args.region c.loop-ending.console c.args.keys c.loop-ending.passed None c.watch_step.new.console =
    subst (λ (g : Region). IsFaultlessStep g c.loop-ending.console c.args.keys c.loop-ending.passed None c.watch_step.new.console) c.loop-ending.invariant.region c.in-Goes.ensures in
    let h : HasEnded c.args.region c.watch_step.new.console c.args.keys c.in-Some.ending c.go_on.new.console =
    subst (λ (g : Region). HasEnded g c.watch_step.new.console c.args.keys c.in-Some.ending c.go_on.new.console) c.loop-ending.invariant.region c.in-Some.ensures in
    frame_ends c.args.region c.args.console.now c.loop-ending.console c.watch_step.new.console c.go_on.new.console c.args.keys c.args.seconds c.loop-ending.passed c.loop-ending.number c.in-Some.ending
    c.loop-ending.invariant.goes c.loop-ending.invariant.seconds f h

pub loop-ending-smaller : goal.loop-ending-smaller
loop-ending-smaller c =
    let h : HasGoneOn c.guard_of-guard.result.region c.watch_step.new.console c.args.keys (c.loop-ending.number + 1) c.go_on.new.number c.go_on.new.console = c.in-None.ensures in
    let on = step_forward c.guard_of-guard.result.region c.loop-ending.console c.args.keys c.loop-ending.passed c.watch_step.new.console c.in-Goes.ensures in
    let more = goes_count c.guard_of-guard.result.region c.watch_step.new.console c.args.keys h.steps c.go_on.new.console h.goes in
    omega (arith, on.0, on.1, more)

pub loop-ending-preserved : goal.loop-ending-preserved
loop-ending-preserved c =
    let h : HasGoneOn c.guard_of-guard.result.region c.watch_step.new.console c.args.keys (c.loop-ending.number + 1) c.go_on.new.number c.go_on.new.console = c.in-None.ensures in
    let on = step_forward c.guard_of-guard.result.region c.loop-ending.console c.args.keys c.loop-ending.passed c.watch_step.new.console c.in-Goes.ensures in
    let more = goes_count c.guard_of-guard.result.region c.watch_step.new.console c.args.keys h.steps c.go_on.new.console h.goes in
    let f : IsFaultlessStep c.args.region c.loop-ending.console c.args.keys c.loop-ending.passed None c.watch_step.new.console =
    subst (λ (g : Region). IsFaultlessStep g c.loop-ending.console c.args.keys c.loop-ending.passed None c.watch_step.new.console) c.loop-ending.invariant.region c.in-Goes.ensures in
    let there : HasGoneOn c.args.region c.watch_step.new.console c.args.keys (c.loop-ending.number + 1) c.go_on.new.number c.go_on.new.console =
    subst (λ (g : Region). HasGoneOn g c.watch_step.new.console c.args.keys (c.loop-ending.number + 1) c.go_on.new.number c.go_on.new.console) c.loop-ending.invariant.region h in
    let all =
    frame_more c.args.region c.args.console.now c.loop-ending.console c.watch_step.new.console c.go_on.new.console c.args.keys c.args.seconds c.loop-ending.passed c.loop-ending.number c.go_on.new.number
    c.loop-ending.invariant.goes c.loop-ending.invariant.seconds f there in
    record {
      goes = all.0;
      seconds = all.1;
      counted = omega (arith, on.0, more, h.counted, c.loop-ending.invariant.counted);
      guard =
          same_guard (rom_of c.loop-ending.console) (rom_of c.go_on.new.console) c.guard_of-guard.result
          (goes_rom c.guard_of-guard.result.region c.watch_step.new.console c.args.keys 0 h.steps c.go_on.new.console h.goes ∙ f.step.cartridge) c.loop-ending.invariant.guard;
      region = c.loop-ending.invariant.region;
    }
