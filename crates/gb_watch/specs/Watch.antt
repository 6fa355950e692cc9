-- Steps and frames of the console that are watched for faults (own: a step that has one ends the watch).
use Rattle.std.specs.Prelude.{◌≡◌, ◌≢◌, ℕ, zero, suc, ◌<◌, Option, Some, None}
use Rattle.gb_ops.specs.declared.machine.Event.{Event}
use Rattle.gb_ops.specs.declared.machine.Faults.{Faults}
use Rattle.gb_ops.specs.declared.machine.Region.{Region}
use Rattle.gb_ops.specs.Faults.{no_faults, code_place}
use Rattle.gb_ops.specs.Play.{faults}
use Rattle.gb_faults.specs.Below.gb_cpu.Met.{HasMet}
use Rattle.gb_console.specs.Below.gb_timer.declared.irqs.Keys.{Keys}
use Rattle.gb_console.specs.declared.frame.Ending.{Ending}
use Rattle.gb_console.specs.declared.frame.Ending.TheVariants as ending
use Rattle.gb_console.specs.Console.{ConsoleState, IsConsoleStep, rom_of, machine_of, shown}
use Rattle.gb_console.specs.Frame.{ending_after, seconds_at}
use Rattle.gb_watch.specs.declared.sighting.Sighting.{Sighting}
use Rattle.gb_watch.specs.declared.sighting.Watched.{Watched}
use Rattle.gb_watch.specs.declared.sighting.Watched.TheVariants as watched

-- the faults of an event that a console answers
abbrev pub faults_at : Region → ConsoleState → Event → Faults
faults_at region s e = faults (rom_of s) region (machine_of s) e

-- ---- steps

-- a step whose event has no fault, and how it ends the frame, if it does
pub record IsFaultlessStep (region : Region) (old : ConsoleState) (keys : Keys) (seconds : ℕ) (ends : Option Ending) (new : ConsoleState) : Type 0 where
  pub event : Event
  pub step : IsConsoleStep old keys seconds event new
  pub ending : ends ≡ ending_after old event new
  pub faultless : faults_at region old event ≡ no_faults

-- n such steps, none of which ends the frame
abbrev pub GoesFaultless : Region → ConsoleState → Keys → ℕ → ℕ → ConsoleState → Type 0
GoesFaultless region old keys seconds zero new = new ≡ old
GoesFaultless region old keys seconds (suc n) new =
    (before : ConsoleState) × GoesFaultless region old keys seconds n before × IsFaultlessStep region before keys (seconds_at n seconds) None new

-- a step whose event has a fault, and what is told of it
pub record IsFaultyStep (region : Region) (old : ConsoleState) (keys : Keys) (seconds : ℕ) (s : Sighting) (new : ConsoleState) : Type 0 where
  pub step : IsConsoleStep old keys seconds s.event new
  pub faults : s.faults ≡ faults_at region old s.event
  pub faulty : s.faults ≢ no_faults
  pub place : s.place ≡ code_place old.contents.view old.cpu.processor.pc
  pub met : HasMet (shown old) s.event s.met
  pub processor : s.processor ≡ old.cpu.processor

-- ---- frames

-- a frame none of whose events has a fault
pub record IsFaultlessFrame (region : Region) (old : ConsoleState) (keys : Keys) (seconds : ℕ) (end : Ending) (new : ConsoleState) : Type 0 where
  pub steps : ℕ
  pub last : ConsoleState
  pub goes : GoesFaultless region old keys seconds steps last
  pub ends : IsFaultlessStep region last keys (seconds_at steps seconds) (Some end) new

-- a frame up to its first event with a fault: the events before it are counted
pub record IsFaultyFrame (region : Region) (old : ConsoleState) (keys : Keys) (seconds : ℕ) (s : Sighting) (new : ConsoleState) : Type 0 where
  pub last : ConsoleState
  pub goes : GoesFaultless region old keys seconds s.number last
  pub meets : IsFaultyStep region last keys (seconds_at s.number seconds) s new

abbrev pub IsWatchedFrame : Region → ConsoleState → Keys → ℕ → Watched → ConsoleState → Type 0
IsWatchedFrame region old keys seconds (watched.Ended end) new = IsFaultlessFrame region old keys seconds end new
IsWatchedFrame region old keys seconds (watched.Faulted s) new = IsFaultyFrame region old keys seconds s new

-- ---- runs

-- n whole frames without a fault, frame k with these keys and seconds
abbrev pub Watches : Region → (ℕ → Keys) → (ℕ → ℕ) → ℕ → ConsoleState → ConsoleState → Type 0
Watches region keys seconds zero old new = new ≡ old
Watches region keys seconds (suc n) old new =
    (before : ConsoleState) × Watches region keys seconds n old before × IsFaultlessFrame region before (keys n) (seconds n) ending.Whole new

-- all frames are whole and without a fault
pub record IsWholeRun (region : Region) (keys : ℕ → Keys) (seconds : ℕ → ℕ) (frames : ℕ) (old : ConsoleState) (number : ℕ) (new : ConsoleState) : Type 0 where
  pub all : number ≡ frames
  pub watches : Watches region keys seconds frames old new

-- the frame with this number is the first that isn't whole or has a fault
pub record IsCutRun (region : Region) (keys : ℕ → Keys) (seconds : ℕ → ℕ) (frames : ℕ) (old : ConsoleState) (number : ℕ) (outcome : Watched) (new : ConsoleState) : Type 0 where
  pub within : number < frames
  pub before : ConsoleState
  pub watches : Watches region keys seconds number old before
  pub last : IsWatchedFrame region before (keys number) (seconds number) outcome new

-- at most so many frames, up to the first that isn't whole or has a fault
abbrev pub IsWatchedRun : Region → (ℕ → Keys) → (ℕ → ℕ) → ℕ → ConsoleState → ℕ → Watched → ConsoleState → Type 0
IsWatchedRun region keys seconds frames old number (watched.Ended ending.Whole) new = IsWholeRun region keys seconds frames old number new
IsWatchedRun region keys seconds frames old number outcome new = IsCutRun region keys seconds frames old number outcome new
