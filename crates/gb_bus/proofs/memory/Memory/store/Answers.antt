use Rattle.std.proofs.Common.{rules, arith}
use Rattle.gb_bus.proofs.Reading.{work_is_written}
use Rattle.gb_bus.proofs.memory.Memory.store.Goals as goal

pub returns-then-left-eq0 : goal.returns-then-left-eq0
returns-then-left-eq0 c =
    rw (c.deref_mut.ensures.value, ← c.self.view_is)
    (work_is_written _ c.args.address c.work_index.result c.args.value (omega (arith, c.if-address-ge49152.true)) (omega (arith, c.if-address-lt65024.true)) (omega (arith, c.left.ensures.count, c.if-left-eq0.true)) c.work_index.ensures.value)
