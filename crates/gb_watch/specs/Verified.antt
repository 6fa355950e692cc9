-- Cartridges for which some certificate with a stack region is right (own).
use Rattle.std.specs.Prelude.{◌≡◌, ℕ, List}
use Rattle.gb_ops.specs.declared.machine.Region.{Region}
use Rattle.gb_console.specs.Below.gb_domain.Certificate.{Certificate}
use Rattle.gb_console.specs.Below.gb_states.WholeRules.{IsCertificate}
use Rattle.gb_console.specs.Below.gb_verify.Verdict.{IsRight}

-- some certificate with this region is right for the cartridge
pub record IsVerifiedFor (rom : List ℕ) (region : Region) : Type 0 where
  pub certificate : Certificate
  pub rules : IsCertificate certificate
  pub right : IsRight rom certificate
  pub region_is : certificate.region ≡ region
