use Rattle.std.proofs.Common.{◌<◌, refl, arith}
use Rattle.gb_bus.proofs.Screens.{off_of, screened-off, screened-before}
use Rattle.gb_bus.proofs.memory.Memory.drawing_within.Goals as goal

pub returns-in_err-way-clause-none : goal.returns-in_err-way-clause-none
returns-in_err-way-clause-none c = rw (← c.self.view_is, ← c.ppu-ppu.ensures) (λ none. screened-off _ _ _ _ _ (off_of _ c.in_err-way.ensures.on))

pub returns-else-way-from-clause-none : goal.returns-else-way-from-clause-none
returns-else-way-from-clause-none c =
    let less : c.args.most < c.in_ok-way.way = omega (arith, c.if-way-from.false, c.from.ensures) in
    rw (← c.self.view_is, ← c.ppu-ppu.ensures) (λ none. screened-before _ _ _ _ _ _ (c.in_ok-way.ensures.on.0 refl) c.in_ok-way.ensures.next less)
