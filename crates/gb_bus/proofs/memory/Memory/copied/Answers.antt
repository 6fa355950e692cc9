use Rattle.std.proofs.Common.{◌≤◌, arith}
use Rattle.gb_bus.specs.Access.{copied}
use Rattle.gb_bus.proofs.Copying.{in_a_row}
use Rattle.gb_bus.proofs.memory.Memory.copied.Goals as goal

pub returns : goal.returns
unfolding copied
returns c =
    in_a_row _ _ 160 c.loop-i.invariant.0
    (λ k within. let done : 160 ≤ c.loop-i.i = omega (arith, c.loop-i-test.false, c.loop-i.auto.i-end) in c.loop-i.invariant.1 k (omega arith))
