-- The line of a list of events that was played (own).
use Rattle.std.specs.Prelude.{ℕ, List, ◌++◌, codes, decimal}
use Rattle.gb_text.specs.Text.{line_feed}
use Rattle.gb_hunt.specs.Below.gb_witness.Line.{fault_text}
use Rattle.gb_hunt.specs.Below.gb_witness.declared.line.CountedIn.TheVariants as counted
use Rattle.gb_events.specs.declared.play.Replayed.{Replayed}
use Rattle.gb_events.specs.declared.play.Replayed.TheVariants as replayed

-- the first event with a fault: its lowest fault, its number, and where the processor was; or how many events there were
abbrev pub replay_text : Replayed → List ℕ
replay_text (replayed.Faulty told) = fault_text told.faults counted.Event told.number told.place
replay_text (replayed.Whole number) = codes "WHOLE events " ++ decimal number ++ line_feed
