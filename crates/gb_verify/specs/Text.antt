-- What the program says of two files (own texts).
use Rattle.std.specs.Prelude.{◌≡◌, ℕ, List, ◌++◌, codes, decimal, Result, Ok, Err, IsOk, Option, ◌⊎◌}
use Rattle.gb_text.specs.Below.gb_header.declared.fault.HeaderFault.{HeaderFault}
use Rattle.gb_text.specs.Below.gb_header.Header as Header
use Rattle.gb_rules.specs.Below.gb_fields.declared.fault.CertFault.{CertFault}
use Rattle.gb_rules.specs.Below.gb_fields.declared.fault.CertFault.TheVariants.{Memory}
use Rattle.gb_rules.specs.Below.gb_fields.Fault as CertFaults
use Rattle.gb_rules.specs.Below.gb_domain.Certificate.{Certificate}
use Rattle.gb_rules.specs.Below.gb_states.WholeReading.{read_certificate}
use Rattle.gb_rules.specs.Below.gb_states.WholeSpelling.{Spells}
use Rattle.gb_rules.specs.Below.gb_abs.Reason.{reason_number}
use Rattle.gb_text.specs.Cartridge.{cartridge_text}
use Rattle.gb_text.specs.Text.{line_feed, GainsBeginning}
use Rattle.gb_verify.specs.Verdict.{verdict_of, IsRight}
use Rattle.gb_verify.specs.Headline.{IsSafe}
use Rattle.gb_verify.specs.declared.verdict.Verdict.{Verdict}
use Rattle.gb_verify.specs.declared.verdict.Verdict.TheVariants.{Accepted, Refused}
use Rattle.gb_verify.specs.declared.verify.Answer.{Answer}
use Rattle.gb_verify.specs.declared.verify.Answer.TheVariants as answer
use Rattle.gb_verify.specs.declared.verify.Outcome.{Outcome}
use Rattle.gb_verify.specs.declared.verify.Outcome.TheVariants as outcome

-- ---- the lines

abbrev pub certificate_text : CertFault → List ℕ
certificate_text fault = codes "CERTIFICATE C" ++ decimal (CertFaults.number_of fault) ++ line_feed

abbrev pub verdict_text : Verdict → List ℕ
verdict_text (Accepted nodes procedures) = codes "ACCEPTED nodes " ++ decimal nodes ++ codes " procedures " ++ decimal procedures ++ line_feed
verdict_text (Refused node reason) = codes "REFUSED node " ++ decimal node ++ codes " reason " ++ decimal (reason_number reason) ++ line_feed

abbrev pub answer_text : Answer → List ℕ
answer_text (answer.Cartridge fault) = cartridge_text fault
answer_text (answer.Certificate fault) = certificate_text fault
answer_text (answer.Judged verdict) = verdict_text verdict

-- ---- the answer of two files

abbrev pub judged : List ℕ → Result Certificate CertFault → Answer
judged rom (Ok cert) = answer.Judged (verdict_of rom cert)
judged rom (Err fault) = answer.Certificate fault

abbrev pub answered : Result (List ℕ) HeaderFault → List ℕ → Answer
answered (Ok rom) cert = judged rom (read_certificate cert)
answered (Err fault) cert = answer.Cartridge fault

-- the cartridge is read first, then the certificate, and then the certificate is checked
unfoldable pub answer_of : List ℕ → List ℕ → Answer
answer_of rom cert = answered (Header.parsed rom) cert

-- the verdict's line of two byte strings
abbrev pub line_of : List ℕ → List ℕ → List ℕ
line_of rom cert = answer_text (answer_of rom cert)

-- the line where memory ran out
abbrev pub memory_line : List ℕ
memory_line = certificate_text Memory

-- ---- the outcome

abbrev pub verdict_outcome : Verdict → Outcome
verdict_outcome (Accepted nodes procedures) = outcome.Accepted
verdict_outcome (Refused node reason) = outcome.Refused

abbrev pub fault_outcome : CertFault → Outcome
fault_outcome Memory = outcome.NoMemory
fault_outcome _ = outcome.Unreadable

abbrev pub outcome_of : Answer → Outcome
outcome_of (answer.Cartridge fault) = outcome.Unreadable
outcome_of (answer.Certificate fault) = fault_outcome fault
outcome_of (answer.Judged verdict) = verdict_outcome verdict

-- what was written: the line of the two files, or where memory ran out its own
abbrev pub written : Outcome → List ℕ → List ℕ → List ℕ
written outcome.NoMemory rom cert = memory_line
written _ rom cert = line_of rom cert

-- the outcome is that of the two files, or memory ran out behind a cartridge that could be read
abbrev pub IsOutcome : Outcome → List ℕ → List ℕ → Type 0
IsOutcome outcome.NoMemory rom cert = IsOk (Header.parsed rom)
IsOutcome o rom cert = o ≡ outcome_of (answer_of rom cert)

-- a beginning of the line of the two files, or, where the cartridge could be read, of the line where memory ran out
abbrev pub HasBeginning : Option (List ℕ) → List ℕ → List ℕ → Option (List ℕ) → Type 0
HasBeginning old rom cert new = GainsBeginning old (line_of rom cert) new ⊎ (IsOk (Header.parsed rom) × GainsBeginning old memory_line new)

-- both files can be read, the certificate is right, and every run from power-up is safe
pub record IsVerified (rom bytes : List ℕ) : Type 0 where
  pub cartridge : Header.IsCartridge rom
  pub certificate : Certificate
  pub spelled : Spells bytes certificate
  pub right : IsRight rom certificate
  pub safe : IsSafe rom certificate

abbrev pub IfVerified : Outcome → Type 0 → Type 0
IfVerified outcome.Accepted P = P
IfVerified _ P = Unit {0}

abbrev pub IfAcceptedAnswer : Answer → Type 0 → Type 0
IfAcceptedAnswer (answer.Judged (Accepted nodes procedures)) P = P
IfAcceptedAnswer _ P = Unit {0}

-- the answer of the two files, or that memory ran out behind a cartridge that could be read
abbrev pub IsAnswer : List ℕ → List ℕ → Answer → Type 0
IsAnswer rom cert a = (a ≡ answer_of rom cert) ⊎ ((a ≡ answer.Certificate Memory) × IsOk (Header.parsed rom))
