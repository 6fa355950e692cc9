-- A certificate's file in version 4 of the format (own).
use Rattle.std.specs.Prelude.{◌≡◌, ℕ, List, Option}
use Rattle.gb_domain.specs.Certificate.{Certificate}
use Rattle.gb_command_line.specs.Below.gb_verify.Below.gb_states.WholeSpelling.{Spells}
use Rattle.gb_events.specs.Sinks.{Gains}
use Rattle.gb_command_line.specs.Below.gb_verify.Text.{memory_line}
use Rattle.gb_command_line.specs.Below.gb_verify.CertificateFile.{text_of}
use Rattle.gb_command_line.specs.Below.gb_verify.declared.upgrade.Upgraded.{Upgraded}
use Rattle.gb_command_line.specs.Below.gb_verify.declared.upgrade.Upgraded.TheVariants as upgrade
use Rattle.gb_program.specs.Fourth.{fourth_text}

-- what was written: the certificate's bytes in version 4, or the line of the first fault, or where memory ran out its own
abbrev pub written : Upgraded → List ℕ → List ℕ
written upgrade.NoMemory bytes = memory_line
written _ bytes = text_of fourth_text bytes

-- A sink gained the certificate that the bytes spell, in version 4.
pub record GainsFourth (old : Option (List ℕ)) (bytes : List ℕ) (new : Option (List ℕ)) : Type 0 where
  pub certificate : Certificate
  pub spelled : Spells bytes certificate
  pub gained : Gains old (fourth_text certificate) new

-- One of version 4 is gained as it is.
abbrev pub GainsSame : Option (List ℕ) → List ℕ → Option (List ℕ) → Type 0
GainsSame old bytes new = (c : Certificate) → Spells bytes c → c.version ≡ 4 → Gains old bytes new
