-- One way on from an instruction, as contracts see it.
use Rattle.std.specs.Prelude.{ℕ}
use Rattle.gb_domain.specs.Types.{AbsState}
use Rattle.gb_product.specs.Below.gb_abs_effects.declared.reads.AbsRead.{AbsRead}
use Rattle.gb_product.specs.Below.gb_abs_effects.declared.writes.AbsWrite.{AbsWrite}
use Rattle.gb_product.specs.Below.gb_abs_effects.declared.targets.Target.{Target}

-- what it reads and writes besides its own bytes, where it goes on, the address behind it, and the states behind it
pub record Successor : Type 0 where
  pub read : AbsRead
  pub write : AbsWrite
  pub target : Target
  pub next : ℕ
  pub state : AbsState
