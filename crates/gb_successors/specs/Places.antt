-- The places that a certificate certifies (own rules).
use Rattle.std.specs.Prelude.{◌≡◌, ℕ, List, Some}
use Rattle.std.specs.List.{Contains}
use Rattle.gb_ops.specs.declared.machine.CodePlace.{CodePlace}
use Rattle.gb_ops.specs.Machine.{length_of}
use Rattle.gb_abs_memory.specs.Below.gb_domain.Types.{Node}
use Rattle.gb_abs_memory.specs.Below.gb_domain.Certificate.{Certificate}
use Rattle.gb_abs_memory.specs.Below.gb_domain.Summaries.{Program}
use Rattle.gb_successors.specs.Code.{known_byte, addresses_of}
use Rattle.gb_successors.specs.Programs.{program_of}

-- a node has the place's bank, and one of its instruction's bytes stands at the place's address
pub record IsCertifiedBy (program : Program) (rom : List ℕ) (n : Node) (place : CodePlace) : Type 0 where
  pub bank : place.bank ≡ n.bank
  pub opcode : ℕ
  pub is_known : known_byte program rom n.state n.address ≡ Some opcode
  pub inside : Contains (addresses_of n.address (length_of opcode)) place.address

-- some node certifies the place
abbrev pub IsCertified : List ℕ → Certificate → CodePlace → Type 0
IsCertified rom cert place = (n : Node) × Contains cert.nodes n × IsCertifiedBy (program_of rom cert) rom n place
