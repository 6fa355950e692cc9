-- A script that is watched, and the line that says how it went (own).
use Rattle.std.specs.Prelude.{ℕ, Bool, true, false, List, Option}
use Rattle.gb_ops.specs.declared.machine.Region.{Region}
use Rattle.gb_text.specs.Sink.{Gains}
use Rattle.gb_text.specs.Text.{GainsBeginning}
use Rattle.gb_printed.specs.Below.gb_console.Console.{ConsoleState}
use Rattle.gb_printed.specs.Below.gb_console.declared.frame.Ending.TheVariants as ending
use Rattle.gb_printed.specs.Below.gb_watch.Watch.{IsWatchedRun}
use Rattle.gb_printed.specs.Below.gb_watch.declared.sighting.Watched.{Watched}
use Rattle.gb_printed.specs.Below.gb_watch.declared.sighting.Watched.TheVariants as watched
use Rattle.gb_printed.specs.Script.{keys_at, seconds_of, ending_text}
use Rattle.gb_witness.specs.Line.{fault_text}
use Rattle.gb_witness.specs.declared.line.CountedIn.TheVariants as counted
use Rattle.gb_witness.specs.declared.witness.WatchedRun.{WatchedRun}

-- how a watched run ended, with its number and the address of the next instruction
abbrev pub watched_text : Watched → ℕ → ℕ → List ℕ
watched_text (watched.Ended end) number pc = ending_text end number pc
watched_text (watched.Faulted s) number pc = fault_text s.faults counted.Frame number s.place

-- a frame was whole and without a fault
abbrev pub is_whole : Watched → Bool
is_whole (watched.Ended ending.Whole) = true
is_whole _ = false

-- the frames of a script, watched for the faults of a stack region
abbrev pub IsWatchedScript : Region → List ℕ → ℕ → ConsoleState → WatchedRun → ConsoleState → Type 0
IsWatchedScript region script frames old told new =
    IsWatchedRun region (keys_at script) seconds_of frames old told.number told.watched new

-- such frames, and a sink that gained their line
pub record IsWrittenWatch (region : Region) (script : List ℕ) (frames : ℕ) (old : ConsoleState) (told : WatchedRun) (new : ConsoleState) (before after : Option (List ℕ)) : Type 0 where
  pub run : IsWatchedScript region script frames old told new
  pub text : Gains before (watched_text told.watched told.number new.cpu.processor.pc) after

-- such frames, and a sink that gained a beginning of their line
pub record IsBegunWatch (region : Region) (script : List ℕ) (frames : ℕ) (old new : ConsoleState) (before after : Option (List ℕ)) : Type 0 where
  pub told : WatchedRun
  pub run : IsWatchedScript region script frames old told new
  pub text : GainsBeginning before (watched_text told.watched told.number new.cpu.processor.pc) after
