use Rattle.std.proofs.Common.{◌≤◌, arith}
use Rattle.gb_ppu.specs.QuietCycles.{quiet_at}
use Rattle.gb_ppu.proofs.Courses.{IsWellFormed-quiet, quiet-advanced}
use Rattle.gb_ppu.proofs.InFrame.{framed-advanced}
use Rattle.gb_ppu.proofs.ppu.Ppu.pass.Goals as goal

pub invariant_of-self : goal.invariant_of-self
invariant_of-self c =
    let quiet = c.is_quiet.ensures c.if-is_quiet.true in
    let few : c.from.result ≤ quiet_at c.self.inside.picture.position = omega (arith, quiet.1, c.from.ensures) in
    let h = c.self.invariant.0 in (
      IsWellFormed-quiet c.from.result c.self.inside.picture h quiet.0 few,
      rw (quiet-advanced c.from.result c.self.inside.picture h.within quiet.0 few) at (framed-advanced c.from.result c.self.inside.picture c.self.invariant.1),
    )
