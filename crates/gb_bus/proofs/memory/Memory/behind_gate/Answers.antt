use Rattle.gb_bus.proofs.Cartridges.{ram_is_held}
use Rattle.gb_bus.proofs.memory.Memory.behind_gate.Goals as goal

pub returns-in-Some-clause-held : goal.returns-in-Some-clause-held
returns-in-Some-clause-held c = rw (← c.self.view_is) (ram_is_held _ _ _ c.self.invariant.1 c.in-Some.ensures.below)
