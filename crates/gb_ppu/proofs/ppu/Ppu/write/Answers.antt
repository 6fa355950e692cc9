use Rattle.gb_ppu.proofs.WellFormed.{IsWellFormed-written}
use Rattle.gb_ppu.proofs.InFrame.{framed-written}
use Rattle.gb_ppu.proofs.ppu.Ppu.write.Goals as goal

pub rises-requires-clause-new : goal.rises-requires-clause-new
rises-requires-clause-new c = rw c.written-self-inside.ensures (IsWellFormed-written _ _ _ c.self.invariant.0)

pub invariant_of-self : goal.invariant_of-self
invariant_of-self c =
    rw c.written-self-inside.ensures (IsWellFormed-written _ _ _ c.self.invariant.0, framed-written _ _ _ c.self.invariant.1)
