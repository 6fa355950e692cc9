use Rattle.std.proofs.Common.{◌≡◌}
use Rattle.gb_bus.specs.Screen.{pictured}
use Rattle.gb_bus.proofs.memory.Memory.pass_picture.Given as goal

abbrev pub invariant-loop-left : goal.invariant-loop-left
invariant-loop-left l = pictured l.left l.self ≡ pictured l.cycles l.fn.self

abbrev pub decreases-loop-left : goal.decreases-loop-left
decreases-loop-left l = l.left
