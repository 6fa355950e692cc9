use Rattle.gb_ppu.proofs.Courses.{IsWellFormed-advanced}
use Rattle.gb_ppu.proofs.InFrame.{framed-advanced}
use Rattle.gb_ppu.proofs.ppu.Ppu.pass_changes.Goals as goal

pub invariant_of-self : goal.invariant_of-self
invariant_of-self c =
    rw c.advance-passed.ensures.picture (IsWellFormed-advanced _ _ c.self.invariant.0, framed-advanced _ _ c.self.invariant.1)
