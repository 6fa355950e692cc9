use Rattle.std.proofs.Common.{◌≡◌, ℕ, ◌<◌, get_or, length}
use Rattle.gb_bus.specs.Access.{transferred}
use Rattle.gb_bus.proofs.memory.Memory.copied.Given as goal

abbrev pub invariant-loop-i : goal.invariant-loop-i
invariant-loop-i l = (length l.bytes ≡ 160) × ((k : ℕ) → k < l.i → get_or l.bytes k 0 ≡ transferred l.self l.page k)
