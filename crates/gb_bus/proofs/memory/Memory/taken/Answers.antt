use Rattle.std.proofs.Common.{rules, arith}
use Rattle.gb_bus.proofs.Reading.{work_is_read}
use Rattle.gb_bus.proofs.memory.Memory.taken.Goals as goal

pub returns-then-address-lt65024-clause-byte : goal.returns-then-address-lt65024-clause-byte
returns-then-address-lt65024-clause-byte c =
    rw (c.fixed-then-address-lt65024.ensures, c.deref.ensures, ← c.self.view_is)
    (work_is_read _ c.args.address c.work_index.result (omega (arith, c.if-address-ge49152.true)) (omega (arith, c.if-address-lt65024.true)) (omega (arith, c.left.ensures.count, c.if-left-ne0.false)) c.work_index.ensures.value)
