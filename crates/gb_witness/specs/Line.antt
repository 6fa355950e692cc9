-- The lines of runs that are watched for faults (own).
use Rattle.std.specs.Prelude.{ℕ, List, ◌++◌, codes, decimal}
use Rattle.gb_ops.specs.declared.machine.Faults.{Faults}
use Rattle.gb_ops.specs.declared.machine.CodePlace.{CodePlace}
use Rattle.gb_text.specs.Text.{line_feed, hex_word}
use Rattle.gb_printed.specs.Show.{hex_bank}
use Rattle.gb_witness.specs.Fault.{fault_number, lowest_fault}
use Rattle.gb_witness.specs.declared.line.CountedIn.{CountedIn}
use Rattle.gb_witness.specs.declared.line.CountedIn.TheVariants as counted

abbrev pub counted_word : CountedIn → List ℕ
counted_word counted.Frame = codes " frame "
counted_word counted.Event = codes " event "

-- the line of an event with these faults: the lowest of them, its frame or its number, and where the processor was before it
abbrev pub fault_text : Faults → CountedIn → ℕ → CodePlace → List ℕ
fault_text faults what number place =
    codes "FAULT F" ++ decimal (fault_number (lowest_fault faults)) ++ counted_word what ++ decimal number
    ++ codes " pc " ++ hex_word place.address ++ codes " bank " ++ hex_bank place.bank ++ line_feed

-- the line of a search that played so much and found no fault
abbrev pub no_fault_text : CountedIn → ℕ → List ℕ
no_fault_text counted.Frame number = codes "NO FAULT frames " ++ decimal number ++ line_feed
no_fault_text counted.Event number = codes "NO FAULT events " ++ decimal number ++ line_feed
