use Rattle.std.proofs.Common.{sym, subst, Some, None, arith}
use Rattle.gb_console.specs.Console.{ConsoleState, rom_of}
use Rattle.gb_console.specs.Frame.{IsPassing}
use Rattle.gb_console.proofs.Going.{step_running}
use Rattle.gb_watch.specs.Ready.{IsSurelyReady}
use Rattle.gb_watch.specs.Watch.{IsFaultlessStep}
use Rattle.gb_watch.proofs.Counting.{step_forward, one_more, and_more, ended, same_guard}
use Rattle.gb_watch.proofs.Quietly.{quiet_passing, frame_step}
use Rattle.gb_watch.proofs.frame.go_on.Goals as goal

pub returns-in-Some : goal.returns-in-Some
returns-in-Some c =
    let s = c.goes_surely-goes-in-loop-goes.new.console in
    let passing : IsPassing c.loop-goes.console c.args.keys c.run-is_passed.result s =
    subst (λ (x : ConsoleState). IsPassing c.loop-goes.console c.args.keys c.run-is_passed.result x) (sym c.goes_surely-goes-in-loop-goes.ensures.same) c.run-is_passed.ensures in
    let f : IsFaultlessStep c.args.guard.now.region c.loop-goes.console c.args.keys 0 (Some c.in-Some.ending) s =
    quiet_passing c.args.guard.now.region c.loop-goes.console c.args.keys c.run-is_passed.result (Some c.in-Some.ending) s (c.loop-goes.invariant.ready c.loop-goes-test.true) passing c.in-Some.ensures in
    ended c.args.guard.now.region c.args.console.now c.loop-goes.console s c.args.keys c.args.number.now c.loop-goes.number c.in-Some.ending c.loop-goes.invariant.gone f

pub loop-goes-smaller : goal.loop-goes-smaller
loop-goes-smaller c =
    let s = c.goes_surely-goes-in-loop-goes.new.console in
    let passing : IsPassing c.loop-goes.console c.args.keys c.run-is_passed.result s =
    subst (λ (x : ConsoleState). IsPassing c.loop-goes.console c.args.keys c.run-is_passed.result x) (sym c.goes_surely-goes-in-loop-goes.ensures.same) c.run-is_passed.ensures in
    let f : IsFaultlessStep c.args.guard.now.region c.loop-goes.console c.args.keys 0 None s =
    quiet_passing c.args.guard.now.region c.loop-goes.console c.args.keys c.run-is_passed.result None s (c.loop-goes.invariant.ready c.loop-goes-test.true) passing c.in-None.ensures in
    let on = step_forward c.args.guard.now.region c.loop-goes.console c.args.keys 0 s f in
    omega (arith, on.0, on.1)

pub loop-goes-preserved : goal.loop-goes-preserved
loop-goes-preserved c =
    let s = c.goes_surely-goes-in-loop-goes.new.console in
    let passing : IsPassing c.loop-goes.console c.args.keys c.run-is_passed.result s =
    subst (λ (x : ConsoleState). IsPassing c.loop-goes.console c.args.keys c.run-is_passed.result x) (sym c.goes_surely-goes-in-loop-goes.ensures.same) c.run-is_passed.ensures in
    let f : IsFaultlessStep c.args.guard.now.region c.loop-goes.console c.args.keys 0 None s =
    quiet_passing c.args.guard.now.region c.loop-goes.console c.args.keys c.run-is_passed.result None s (c.loop-goes.invariant.ready c.loop-goes-test.true) passing c.in-None.ensures in
    let on = step_forward c.args.guard.now.region c.loop-goes.console c.args.keys 0 s f in
    record {
      gone = one_more c.args.guard.now.region c.args.console.now c.loop-goes.console s c.args.keys c.args.number.now c.loop-goes.number c.loop-goes.invariant.gone f;
      running = step_running c.loop-goes.console c.args.keys 0 s (frame_step c.args.guard.now.region c.loop-goes.console c.args.keys 0 None s f);
      ready = λ h. subst (λ (x : ConsoleState). IsSurelyReady c.args.guard.now.region x c.args.keys) (sym c.goes_surely-goes-in-loop-goes.ensures.same) (c.goes_surely-goes-in-loop-goes.ensures.ready h);
      counted = omega (arith, on.0, c.loop-goes.invariant.counted);
      small = on.1;
      guard = same_guard (rom_of c.loop-goes.console) (rom_of s) c.args.guard.now f.step.cartridge c.loop-goes.invariant.guard;
    }

pub returns : goal.returns
returns c =
    rw c.from.ensures
    (and_more c.args.guard.now.region c.args.console.now c.loop-goes.console c.wait-waited.new.self c.args.keys c.args.number.now c.loop-goes.number c.wait-waited.result c.loop-goes.invariant.gone c.wait-waited.ensures)
