use Rattle.std.proofs.Common.{[], refl}
use Rattle.gb_console.proofs.Running.{steps_on, run_of}
use Rattle.gb_console.proofs.console.Console.steps.Goals as goal

pub loop-input-init : goal.loop-input-init
loop-input-init c = ([], refl)

pub loop-input-preserved : goal.loop-input-preserved
loop-input-preserved c =
    steps_on c.args.self.now c.loop-input.self _ c.args.inputs.now c.loop-input.input-index (record { keys = record { 0 = 0 }; seconds = 0 }) c.step.result
    c.loop-input-test.true c.loop-input.invariant c.step.ensures.step

pub returns : goal.returns
returns c = run_of c.args.self.now _ c.args.inputs.now c.loop-input.input-index c.loop-input-test.false c.loop-input.invariant
