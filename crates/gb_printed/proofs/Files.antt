-- What reading a cartridge's file says of what is written for it.
use Rattle.std.proofs.Common.{◌≡◌, ℕ, List, Option, Some, None, Ok, Err, inr, refl, ◌∙◌, ap, subst}
use Rattle.gb_text.specs.Below.gb_header.declared.fault.HeaderFault.{HeaderFault}
use Rattle.gb_text.specs.Below.gb_header.Header.{IsCartridge, IsLowestFault, fault_of, taken_or}
use Rattle.gb_text.specs.Below.gb_header.Header as Header
use Rattle.gb_watch.specs.Below.gb_console.declared.frame.Ending.{Ending}
use Rattle.gb_watch.specs.Below.gb_console.Console.{ConsoleState, at_power_up}
use Rattle.gb_printed.specs.HeaderLine.{header_text}
use Rattle.gb_printed.specs.Script.{IsWrittenRun, IsBegunRun}
use Rattle.gb_text.specs.Cartridge.{cartridge_text}
use Rattle.gb_printed.specs.Commands.{file_text, IsRunFile, IsRunBegun}

taken_same : (o : Option HeaderFault) (file parsed : List ℕ) → Ok parsed ≡ taken_or o file → (parsed ≡ file) × (None ≡ o)
taken_same None file parsed h = (cc, refl)
taken_same (Some f) file parsed h = cc

taken_fault : (o : Option HeaderFault) (file : List ℕ) (f : HeaderFault) → Err f ≡ taken_or o file → Some f ≡ o
taken_fault None file f h = cc
taken_fault (Some g) file f h = cc

pub parsed_same : (file parsed : List ℕ) → Ok parsed ≡ Header.parsed file → (parsed ≡ file) × (None ≡ fault_of file)
unfolding Header.parsed
parsed_same file parsed h = taken_same (fault_of file) file parsed h

pub no_fault : (file parsed : List ℕ) → Ok parsed ≡ Header.parsed file → None ≡ fault_of file
no_fault file parsed h = (parsed_same file parsed h).1

pub lowest_fault : (file : List ℕ) (f : HeaderFault) → Err f ≡ Header.parsed file → Some f ≡ fault_of file
unfolding Header.parsed
lowest_fault file f h = taken_fault (fault_of file) file f h

pub header_file : (file parsed : List ℕ) → Ok parsed ≡ Header.parsed file → header_text parsed ≡ file_text file
header_file file parsed h = let same = parsed_same file parsed h in rw (← same.1) (ap header_text same.0)

pub fault_file : (file : List ℕ) (f : HeaderFault) → Err f ≡ Header.parsed file → cartridge_text f ≡ file_text file
fault_file file f h = rw (← lowest_fault file f h) refl

pub run_file : (file parsed script : List ℕ) (frames : ℕ) (s new : ConsoleState) (end : Ending) (before after : Option (List ℕ)) → Ok parsed ≡ Header.parsed file → IsCartridge file
    → s ≡ at_power_up parsed → IsWrittenRun script frames s end new before after → IsRunFile file script frames end before after
run_file file parsed script frames s new end before after h cartridge start written =
    record {
      cartridge = cartridge;
      new = new;
      written = subst (λ x. IsWrittenRun script frames x end new before after) (start ∙ ap at_power_up (parsed_same file parsed h).0) written;
    }

pub begun_file : (file parsed script : List ℕ) (frames : ℕ) (s new : ConsoleState) (before after : Option (List ℕ)) → Ok parsed ≡ Header.parsed file → IsCartridge file
    → s ≡ at_power_up parsed → IsBegunRun script frames s new before after → IsRunBegun file script frames before after
begun_file file parsed script frames s new before after h cartridge start begun =
    inr (record {
      cartridge = cartridge;
      new = new;
      begun = subst (λ x. IsBegunRun script frames x new before after) (start ∙ ap at_power_up (parsed_same file parsed h).0) begun;
    })
