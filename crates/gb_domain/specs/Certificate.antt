-- What contracts see of a certificate.
use Rattle.std.specs.Prelude.{ℕ, List}
use Rattle.gb_ops.specs.declared.machine.Region.{Region}
use Rattle.gb_domain.specs.declared.summary.Fact.{Fact}
use Rattle.gb_domain.specs.Types.{ProcedureParts, Node}

-- a certificate; its version is 1, 2 or 3; facts are what it says of RAM for the whole program (these versions have none)
pub record Certificate : Type 0 where
  pub version : ℕ
  pub procedures : List ProcedureParts
  pub nodes : List Node
  pub region : Region
  pub facts : List Fact
