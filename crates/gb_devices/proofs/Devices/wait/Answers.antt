use Rattle.std.proofs.Common.{◌-◌, arith}
use Rattle.gb_devices.proofs.Stillness.{still_more}
use Rattle.gb_devices.proofs.Devices.wait.Goals as goal

pub returns-then-most-left-clause-still : goal.returns-then-most-left-clause-still
returns-then-most-left-clause-still c =
    rw (← c.self.view_is) (still_more _ c.self.inside.owed c.args.most c.self.inside.quiet (omega (arith, c.if-most-left.true, c.self.invariant.0)) c.self.invariant.1)

pub returns-else-most-left-clause-still : goal.returns-else-most-left-clause-still
returns-else-most-left-clause-still c =
    rw (← c.self.view_is) (still_more _ c.self.inside.owed (c.self.inside.quiet - c.self.inside.owed) c.self.inside.quiet (omega (arith, c.self.invariant.0)) c.self.invariant.1)
