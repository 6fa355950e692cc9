-- What the line of a watched script says, as runs of the machine.
use Rattle.std.specs.Prelude.{◌≡◌, ℕ, List, [], ◌∷◌, ◌++◌}
use Rattle.gb_ops.specs.declared.machine.Event.{Event}
use Rattle.gb_ops.specs.declared.machine.Region.{Region}
use Rattle.gb_ops.specs.Faults.{code_place}
use Rattle.gb_ops.specs.Play.{MState, play, within}
use Rattle.gb_printed.specs.Below.gb_console.Below.gb_timer.declared.irqs.Keys.{Keys}
use Rattle.gb_printed.specs.Below.gb_console.Console.{ConsoleState, rom_of, machine_of}
use Rattle.gb_printed.specs.Below.gb_watch.Watch.{IsWatchedRun}
use Rattle.gb_printed.specs.Below.gb_watch.Played.{IsPlayedWell, IsPlayedFault}
use Rattle.gb_printed.specs.Below.gb_watch.declared.sighting.Sighting.{Sighting}
use Rattle.gb_printed.specs.Below.gb_watch.declared.sighting.Watched.{Watched}
use Rattle.gb_printed.specs.Below.gb_watch.declared.sighting.Watched.TheVariants as watched
use Rattle.gb_witness.specs.Line.{fault_text}
use Rattle.gb_witness.specs.Witness.{watched_text}
use Rattle.gb_witness.specs.declared.line.CountedIn.TheVariants as counted

-- events without a fault that a console answered
pub record IsFaultlessPlay (region : Region) (old new : ConsoleState) : Type 0 where
  pub events : List Event
  pub well : IsPlayedWell region old events new

-- where the machine's run over these events leaves the processor, its line names that place, and the lowest fault of the run with one more event
abbrev pub played_text : Region → ConsoleState → List Event → Event → ℕ → List ℕ
played_text region old events last frame =
    let s : MState = (play (rom_of old) region (machine_of old) events).state in
    fault_text (play (rom_of old) region (machine_of old) (events ++ last ∷ [])).faults counted.Frame frame (code_place (within (rom_of old) s).memory s.processor.pc)

-- such events and one more that has a fault, and the line that says so
pub record IsFaultyPlay (region : Region) (old : ConsoleState) (s : Sighting) (number : ℕ) (new : ConsoleState) : Type 0 where
  pub events : List Event
  pub fault : IsPlayedFault region old events s new
  pub text : (pc : ℕ) → watched_text (watched.Faulted s) number pc ≡ played_text region old events s.event number

abbrev pub IsPlayedAs : Region → ConsoleState → ℕ → Watched → ConsoleState → Type 0
IsPlayedAs region old number (watched.Ended end) new = IsFaultlessPlay region old new
IsPlayedAs region old number (watched.Faulted s) new = IsFaultyPlay region old s number new

-- frames up to the first that isn't whole or has a fault: the machine's run over the events that the console answered has none,
-- or it has exactly those of the line with the last of them, and none before
abbrev pub WatchedRunsArePlayed : Type 0
WatchedRunsArePlayed =
    (region : Region) (keys : ℕ → Keys) (seconds : ℕ → ℕ) (frames : ℕ) (old : ConsoleState) (number : ℕ) (outcome : Watched) (new : ConsoleState)
    → IsWatchedRun region keys seconds frames old number outcome new → IsPlayedAs region old number outcome new
