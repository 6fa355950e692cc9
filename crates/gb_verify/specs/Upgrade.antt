-- A certificate in a later version of the format (own).
use Rattle.std.specs.Prelude.{◌≡◌, ℕ, Bool, false, nat_lt, List, Option, Result, Ok, Err}
use Rattle.gb_rules.specs.Below.gb_fields.declared.fault.CertFault.{CertFault}
use Rattle.gb_rules.specs.Below.gb_fields.declared.fault.CertFault.TheVariants.{Memory}
use Rattle.gb_rules.specs.Below.gb_domain.Certificate.{Certificate}
use Rattle.gb_rules.specs.Below.gb_states.WholeReading.{read_certificate}
use Rattle.gb_rules.specs.Below.gb_states.WholeSpelling.{Spells, spelling}
use Rattle.gb_rules.specs.Below.gb_cert.Places.{upgraded_version}
use Rattle.gb_text.specs.Sink.{Gains}
use Rattle.gb_verify.specs.Text.{memory_line}
use Rattle.gb_verify.specs.CertificateFile.{text_of}
use Rattle.gb_verify.specs.Widened.{widened}
use Rattle.gb_verify.specs.declared.upgrade.UpgradeTo.{UpgradeTo}
use Rattle.gb_verify.specs.declared.upgrade.UpgradeTo.TheVariants.{Two, Three}
use Rattle.gb_verify.specs.declared.upgrade.Upgraded.{Upgraded}
use Rattle.gb_verify.specs.declared.upgrade.Upgraded.TheVariants as upgrade

-- the same procedures, nodes and region, in version 2 if it was of version 1
abbrev pub upgraded : Certificate → Certificate
upgraded c = record c { version = upgraded_version c.version }

-- its bytes
abbrev pub upgraded_text : Certificate → List ℕ
upgraded_text c = spelling (upgraded c)

-- the same certificate in the version that is asked for, or in its own where that is a later one
abbrev pub upgraded_to : UpgradeTo → Certificate → Certificate
upgraded_to Two c = upgraded c
upgraded_to Three c = widened c

abbrev pub text_in : UpgradeTo → Certificate → List ℕ
text_in to c = spelling (upgraded_to to c)

-- what was written: the upgraded certificate's bytes, or the line of the first fault, or where memory ran out its own
abbrev pub written : UpgradeTo → Upgraded → List ℕ → List ℕ
written to upgrade.NoMemory bytes = memory_line
written to _ bytes = text_of (text_in to) bytes

abbrev pub fault_outcome : CertFault → Upgraded
fault_outcome Memory = upgrade.NoMemory
fault_outcome _ = upgrade.Unreadable

abbrev pub outcome_of : Result Certificate CertFault → Upgraded
outcome_of (Ok c) = upgrade.Written
outcome_of (Err fault) = fault_outcome fault

-- the outcome is that of the bytes, or memory ran out
abbrev pub IsOutcome : Upgraded → List ℕ → Type 0
IsOutcome upgrade.NoMemory bytes = Unit {0}
IsOutcome outcome bytes = outcome ≡ outcome_of (read_certificate bytes)

abbrev pub IfWritten : Upgraded → Type 0 → Type 0
IfWritten upgrade.Written P = P
IfWritten _ P = Unit {0}

-- The first bytes spell a certificate, and the second the same upgraded.
pub record IsUpgrade (to : UpgradeTo) (bytes new : List ℕ) : Type 0 where
  pub certificate : Certificate
  pub before : Spells bytes certificate
  pub after : Spells new (upgraded_to to certificate)

-- A sink gained an upgrade of the bytes.
pub record GainsUpgrade (to : UpgradeTo) (old : Option (List ℕ)) (bytes : List ℕ) (new : Option (List ℕ)) : Type 0 where
  pub text : List ℕ
  pub is_upgrade : IsUpgrade to bytes text
  pub gained : Gains old text new

abbrev pub number_in : UpgradeTo → ℕ
number_in Two = 2
number_in Three = 3

-- the version is before the one that is asked for
abbrev pub is_before : UpgradeTo → ℕ → Bool
is_before to version = nat_lt version (number_in to)

-- What isn't of an earlier version is gained as it is.
abbrev pub GainsSame : UpgradeTo → Option (List ℕ) → List ℕ → Option (List ℕ) → Type 0
GainsSame to old bytes new = (c : Certificate) → Spells bytes c → is_before to c.version ≡ false → Gains old bytes new
