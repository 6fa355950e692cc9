-- What watching tells, as runs of the machine (own).
use Rattle.std.specs.Prelude.{◌≡◌, ℕ, ◌++◌, List, [], ◌∷◌, length}
use Rattle.gb_ops.specs.declared.machine.Event.{Event}
use Rattle.gb_ops.specs.declared.machine.Region.{Region}
use Rattle.gb_ops.specs.Faults.{no_faults, code_place}
use Rattle.gb_ops.specs.Play.{play, within}
use Rattle.gb_console.specs.Below.gb_timer.declared.irqs.Keys.{Keys}
use Rattle.gb_console.specs.declared.frame.Ending.{Ending}
use Rattle.gb_console.specs.declared.run.Input.{Input}
use Rattle.gb_console.specs.Console.{ConsoleState, rom_of, machine_of}
use Rattle.gb_console.specs.Run.{Steps}
use Rattle.gb_watch.specs.declared.sighting.Sighting.{Sighting}
use Rattle.gb_watch.specs.Watch.{IsFaultlessFrame, IsFaultyFrame, Watches}

-- events that a console answered, one after another, and that have no fault in the machine's run
pub record IsPlayedWell (region : Region) (old : ConsoleState) (events : List Event) (new : ConsoleState) : Type 0 where
  pub inputs : List Input
  pub steps : Steps old inputs events new
  pub faultless : (play (rom_of old) region (machine_of old) events).faults ≡ no_faults

-- such events and one more, with which the machine's run has exactly the faults that are told, where it stands
pub record IsPlayedFault (region : Region) (old : ConsoleState) (events : List Event) (s : Sighting) (new : ConsoleState) : Type 0 where
  pub last : ConsoleState
  pub before : IsPlayedWell region old events last
  pub inputs : List Input
  pub steps : Steps old inputs (events ++ s.event ∷ []) new
  pub faults : (play (rom_of old) region (machine_of old) (events ++ s.event ∷ [])).faults ≡ s.faults
  pub processor : s.processor ≡ (play (rom_of old) region (machine_of old) events).state.processor
  pub place : s.place ≡ code_place (within (rom_of old) (play (rom_of old) region (machine_of old) events).state).memory s.processor.pc

-- a frame without a fault: none of the events that the console answered has one
abbrev pub FaultlessFramesArePlayed : Type 0
FaultlessFramesArePlayed =
    (region : Region) (old : ConsoleState) (keys : Keys) (seconds : ℕ) (end : Ending) (new : ConsoleState) → IsFaultlessFrame region old keys seconds end new
    → (events : List Event) × IsPlayedWell region old events new

-- a frame with a fault: its number says how many events came before it, and none of these has one
abbrev pub FaultyFramesArePlayed : Type 0
FaultyFramesArePlayed =
    (region : Region) (old : ConsoleState) (keys : Keys) (seconds : ℕ) (s : Sighting) (new : ConsoleState) → IsFaultyFrame region old keys seconds s new
    → (events : List Event) × (length events ≡ s.number) × IsPlayedFault region old events s new

-- frames without a fault: none of the events of the whole run has one
abbrev pub FaultlessRunsArePlayed : Type 0
FaultlessRunsArePlayed =
    (region : Region) (keys : ℕ → Keys) (seconds : ℕ → ℕ) (n : ℕ) (old new : ConsoleState) → Watches region keys seconds n old new
    → (events : List Event) × IsPlayedWell region old events new

-- frames without a fault, and then one that ends without a fault: the same
abbrev pub CutRunsArePlayed : Type 0
CutRunsArePlayed =
    (region : Region) (keys : ℕ → Keys) (seconds : ℕ → ℕ) (n : ℕ) (old before : ConsoleState) (end : Ending) (new : ConsoleState) → Watches region keys seconds n old before
    → IsFaultlessFrame region before (keys n) (seconds n) end new → (events : List Event) × IsPlayedWell region old events new

-- frames without a fault, and then one that has one: the first event of the whole run with a fault is its
abbrev pub FaultyRunsArePlayed : Type 0
FaultyRunsArePlayed =
    (region : Region) (keys : ℕ → Keys) (seconds : ℕ → ℕ) (n : ℕ) (old before : ConsoleState) (s : Sighting) (new : ConsoleState) → Watches region keys seconds n old before
    → IsFaultyFrame region before (keys n) (seconds n) s new → (events : List Event) × IsPlayedFault region old events s new
