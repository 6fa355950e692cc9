use Rattle.std.proofs.Common.{◌≡◌, sym, subst, true, None, arith}
use Rattle.gb_console.specs.Frame.{IsFrameStep, IsPassing, IsReady}
use Rattle.gb_console.proofs.Frames.{forward}
use Rattle.gb_console.proofs.Going.{passing_step, one_more, both_gone, rests_gone, step_running}
use Rattle.gb_console.proofs.console.Console.go_on.Goals as goal

pub loop-goes-smaller : goal.loop-goes-smaller
loop-goes-smaller c =
    let passing : IsPassing c.loop-goes.self c.args.keys c.run-is_passed.result c.is_ready-goes-in-loop-goes.new.self =
    subst (λ s. IsPassing c.loop-goes.self c.args.keys c.run-is_passed.result s) (sym c.is_ready-goes-in-loop-goes.ensures.same) c.run-is_passed.ensures in
    let f : IsFrameStep c.loop-goes.self c.args.keys 0 None c.is_ready-goes-in-loop-goes.new.self =
    passing_step c.loop-goes.self c.args.keys c.run-is_passed.result None c.is_ready-goes-in-loop-goes.new.self passing c.in-None.ensures in
    let on = forward c.loop-goes.self c.args.keys 0 c.is_ready-goes-in-loop-goes.new.self f in
    omega (arith, on.0, on.1)

pub loop-goes-preserved : goal.loop-goes-preserved
loop-goes-preserved c =
    let passing : IsPassing c.loop-goes.self c.args.keys c.run-is_passed.result c.is_ready-goes-in-loop-goes.new.self =
    subst (λ s. IsPassing c.loop-goes.self c.args.keys c.run-is_passed.result s) (sym c.is_ready-goes-in-loop-goes.ensures.same) c.run-is_passed.ensures in
    let f : IsFrameStep c.loop-goes.self c.args.keys 0 None c.is_ready-goes-in-loop-goes.new.self =
    passing_step c.loop-goes.self c.args.keys c.run-is_passed.result None c.is_ready-goes-in-loop-goes.new.self passing c.in-None.ensures in (
      one_more c.args.self.now c.loop-goes.self c.is_ready-goes-in-loop-goes.new.self c.args.keys c.loop-goes.invariant.0 f,
      step_running c.loop-goes.self c.args.keys 0 c.is_ready-goes-in-loop-goes.new.self f,
      λ h. subst (λ s. IsReady s c.args.keys) (sym c.is_ready-goes-in-loop-goes.ensures.same) (c.is_ready-goes-in-loop-goes.ensures.ready h),
    )

pub returns : goal.returns
returns c = both_gone c.args.self.now c.loop-goes.self c.wait.new.self c.args.keys c.loop-goes.invariant.0 (rests_gone c.wait.result c.loop-goes.self c.args.keys c.wait.new.self c.wait.ensures)
