use Rattle.std.proofs.Common.{arith}
use Rattle.gb_devices.proofs.Stillness.{still_more}
use Rattle.gb_devices.proofs.Devices.owe.Goals as goal

pub returns-then-n-self-clause-still : goal.returns-then-n-self-clause-still
returns-then-n-self-clause-still c =
    rw (← c.self.view_is) (λ passed. still_more _ c.self.inside.owed c.args.n c.self.inside.quiet (omega (arith, c.if-n-self.true, c.self.invariant.0)) c.self.invariant.1)
