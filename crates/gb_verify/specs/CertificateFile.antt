-- What is written of a certificate's file (own texts).
use Rattle.std.specs.Prelude.{ℕ, List, Option, Result, Ok, Err, ◌⊎◌}
use Rattle.gb_rules.specs.Below.gb_fields.declared.fault.CertFault.{CertFault}
use Rattle.gb_rules.specs.Below.gb_domain.Certificate.{Certificate}
use Rattle.gb_rules.specs.Below.gb_states.WholeReading.{read_certificate}
use Rattle.gb_text.specs.Text.{GainsBeginning}
use Rattle.gb_verify.specs.Text.{certificate_text, memory_line}

abbrev pub text_or_fault : (Certificate → List ℕ) → Result Certificate CertFault → List ℕ
text_or_fault text (Ok c) = text c
text_or_fault text (Err fault) = certificate_text fault

-- what a command writes of the certificate that the bytes spell, or the line of their first fault
unfoldable pub text_of : (Certificate → List ℕ) → List ℕ → List ℕ
text_of text bytes = text_or_fault text (read_certificate bytes)

-- a beginning of it, or of the line where memory ran out
abbrev pub HasBeginning : (Certificate → List ℕ) → Option (List ℕ) → List ℕ → Option (List ℕ) → Type 0
HasBeginning text old bytes new = GainsBeginning old (text_of text bytes) new ⊎ GainsBeginning old memory_line new
