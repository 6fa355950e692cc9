-- What the commands write of the bytes of their files (own texts).
use Rattle.std.specs.Prelude.{◌≡◌, ℕ, List, Option, Some, None, Result, Ok, Err, ◌⊎◌}
use Rattle.gb_text.specs.Sink.{Gains}
use Rattle.gb_text.specs.Below.gb_header.declared.fault.HeaderFault.{HeaderFault}
use Rattle.gb_text.specs.Below.gb_header.Header.{IsCartridge, IsLowestFault, fault_of}
use Rattle.gb_watch.specs.Below.gb_console.declared.frame.Ending.{Ending}
use Rattle.gb_watch.specs.Below.gb_console.Console.{ConsoleState, at_power_up}
use Rattle.gb_text.specs.Cartridge.{cartridge_text}
use Rattle.gb_text.specs.Text.{GainsBeginning}
use Rattle.gb_watch.specs.Below.gb_console.Below.gb_fields.declared.fault.CertFault.{CertFault}
use Rattle.gb_watch.specs.Below.gb_console.Below.gb_fields.declared.fault.CertFault.TheVariants.{Memory}
use Rattle.gb_watch.specs.Below.gb_console.Below.gb_domain.Certificate.{Certificate}
use Rattle.gb_watch.specs.Below.gb_console.Below.gb_states.WholeReading.{read_certificate}
use Rattle.gb_watch.specs.Below.gb_verify.Text.{memory_line}
use Rattle.gb_watch.specs.Below.gb_verify.CertificateFile.{text_of}
use Rattle.gb_printed.specs.HeaderLine.{header_text}
use Rattle.gb_printed.specs.Script.{IsWrittenRun, IsBegunRun}
use Rattle.gb_printed.specs.Show.{show_text}
use Rattle.gb_printed.specs.declared.commands.RunOutcome.{RunOutcome}
use Rattle.gb_printed.specs.declared.commands.RunOutcome.TheVariants as outcome

-- ---- header

abbrev pub header_or_fault : Option HeaderFault → List ℕ → List ℕ
header_or_fault None file = header_text file
header_or_fault (Some fault) file = cartridge_text fault

-- the header's line of a file, or the line of its lowest fault
abbrev pub file_text : List ℕ → List ℕ
file_text file = header_or_fault (fault_of file) file

-- ---- show

-- the first fault of a certificate's bytes, if they have one
abbrev pub certificate_fault : Result Certificate CertFault → Option CertFault
certificate_fault (Ok c) = None
certificate_fault (Err fault) = Some fault

-- what was written, by the fault: the certificate's lines, or the line of the first fault, or where memory ran out its own
abbrev pub written_lines : Option CertFault → List ℕ → List ℕ
written_lines (Some Memory) file = memory_line
written_lines _ file = text_of show_text file

-- it is the first fault of the bytes, or none, or memory ran out
abbrev pub IsCertificateFault : Option CertFault → List ℕ → Type 0
IsCertificateFault (Some Memory) file = Unit {0}
IsCertificateFault fault file = fault ≡ certificate_fault (read_certificate file)

-- ---- run

-- a cartridge, and a run of its console from power-up, whose text was written
pub record IsRunFile (file script : List ℕ) (frames : ℕ) (end : Ending) (before after : Option (List ℕ)) : Type 0 where
  pub cartridge : IsCartridge file
  pub new : ConsoleState
  pub written : IsWrittenRun script frames (at_power_up file) end new before after

-- the same, and a beginning of its text
pub record IsBegunFile (file script : List ℕ) (frames : ℕ) (before after : Option (List ℕ)) : Type 0 where
  pub cartridge : IsCartridge file
  pub new : ConsoleState
  pub begun : IsBegunRun script frames (at_power_up file) new before after

-- what was written, by the outcome: where memory ran out, nothing
abbrev pub IsRunWritten : RunOutcome → List ℕ → List ℕ → ℕ → Option (List ℕ) → Option (List ℕ) → Type 0
IsRunWritten (outcome.Ended end) file script frames before after = IsRunFile file script frames end before after
IsRunWritten (outcome.NoCartridge fault) file script frames before after = IsLowestFault file fault × Gains before (cartridge_text fault) after
IsRunWritten outcome.NoMemory file script frames before after = IsCartridge file × (after ≡ before)

-- a file's lowest fault, and a beginning of its line
pub record IsBegunFault (file : List ℕ) (before after : Option (List ℕ)) : Type 0 where
  pub fault : HeaderFault
  pub lowest : IsLowestFault file fault
  pub begun : GainsBeginning before (cartridge_text fault) after

-- a beginning of what is to be written
abbrev pub IsRunBegun : List ℕ → List ℕ → ℕ → Option (List ℕ) → Option (List ℕ) → Type 0
IsRunBegun file script frames before after = IsBegunFault file before after ⊎ IsBegunFile file script frames before after
