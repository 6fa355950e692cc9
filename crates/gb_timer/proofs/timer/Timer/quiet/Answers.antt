use Rattle.std.proofs.Common.{◌<◌, arith}
use Rattle.gb_timer.proofs.Passing.{none_counting}
use Rattle.gb_timer.proofs.timer.Timer.quiet.Goals as goal

pub returns-then-is_set-clause-quiet : goal.returns-then-is_set-clause-quiet
returns-then-is_set-clause-quiet c =
    let small : c.self.inside.tima < 256 = omega (arith, c.self.ranges) in
    rw (c.period-period.ensures.period, ← c.self.view_is) (none_counting _ small)
