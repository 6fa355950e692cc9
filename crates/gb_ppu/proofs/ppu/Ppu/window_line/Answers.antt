use Rattle.gb_ppu.proofs.WindowLine.{the_window_line}
use Rattle.gb_ppu.proofs.ppu.Ppu.window_line.Goals as goal

pub returns-clause-framed : goal.returns-clause-framed
returns-clause-framed c = rw (← c.self.view_is) c.self.invariant.1

pub returns-clause-counted : goal.returns-clause-counted
returns-clause-counted c = rw c.self.view_is (the_window_line _)
