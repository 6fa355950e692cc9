-- Waiting: M-cycles one by one that leave the shared interrupts as they are (own).
use Rattle.std.specs.Prelude.{◌≡◌, ℕ, zero, suc}
use Rattle.gb_bus.specs.Contents.{Contents}
use Rattle.gb_bus.specs.Access.{shared, advanced}

-- n M-cycles, each from a memory that shares what the first shared, lead from a memory to a memory
abbrev pub Waits : ℕ → Contents → Contents → Type 0
Waits zero old new = new ≡ old
Waits (suc n) old new = (mid : Contents) × Waits n old mid × (shared mid ≡ shared old) × (new ≡ advanced mid 1)
