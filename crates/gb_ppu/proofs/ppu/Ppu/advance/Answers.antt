use Rattle.gb_ppu.proofs.SameRegisters.{advanced-registers, advanced-position}
use Rattle.gb_ppu.proofs.ppu.Ppu.advance.Goals as goal

pub returns-clause-registers : goal.returns-clause-registers
returns-clause-registers c = rw c.pass.ensures.picture (advanced-registers _ _)

pub returns-clause-moved : goal.returns-clause-moved
returns-clause-moved c = rw c.pass.ensures.picture (λ on. advanced-position _ _ c.pass.ensures.formed on)
