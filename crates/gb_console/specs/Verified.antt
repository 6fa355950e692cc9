-- Cartridges that never lock or stop a console: those for which some certificate is right (own).
use Rattle.std.specs.Prelude.{ℕ, List}
use Rattle.gb_verify.specs.Below.gb_domain.Certificate.{Certificate}
use Rattle.gb_verify.specs.Below.gb_states.WholeRules.{IsCertificate}
use Rattle.gb_verify.specs.Verdict.{IsRight}

-- some certificate is right for the cartridge
pub record IsVerified (rom : List ℕ) : Type 0 where
  pub certificate : Certificate
  pub rules : IsCertificate certificate
  pub right : IsRight rom certificate
