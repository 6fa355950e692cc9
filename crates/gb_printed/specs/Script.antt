-- A run of a script: whole frames, up to the first that isn't (own).
use Rattle.std.specs.Prelude.{◌≡◌, ℕ, zero, suc, ◌+◌, ◌%◌, ◌<◌, ◌==◌, if◌then◌else◌, List, ◌++◌, codes, decimal, slice_index, Option}
use Rattle.gb_text.specs.Sink.{Gains}
use Rattle.gb_watch.specs.Below.gb_console.Below.gb_timer.declared.irqs.Keys.{Keys}
use Rattle.gb_watch.specs.Below.gb_console.declared.frame.Ending.{Ending}
use Rattle.gb_watch.specs.Below.gb_console.declared.frame.Ending.TheVariants as ending
use Rattle.gb_watch.specs.Below.gb_console.Console.{ConsoleState}
use Rattle.gb_watch.specs.Below.gb_console.Frame.{IsFrame}
use Rattle.gb_text.specs.Text.{line_feed, hex_word, GainsBeginning}
use Rattle.gb_printed.specs.Screen.{screen_text}

-- ---- the run

-- the keys of frame k: byte k of the script, none past its end
abbrev pub keys_at : List ℕ → ℕ → Keys
keys_at script k = record { 0 = slice_index script k }

-- one second passes with each sixtieth frame
unfoldable pub seconds_of : ℕ → ℕ
seconds_of k = if (k + 1) % 60 == 0 then 1 else 0

-- frame k of a script
abbrev pub IsFrameAt : List ℕ → ℕ → ConsoleState → Ending → ConsoleState → Type 0
IsFrameAt script k old end new = IsFrame old (keys_at script k) (seconds_of k) end new

-- n whole frames lead from a console to a console
abbrev pub Plays : List ℕ → ℕ → ConsoleState → ConsoleState → Type 0
Plays script zero old new = new ≡ old
Plays script (suc n) old new = (before : ConsoleState) × Plays script n old before × IsFrameAt script n before ending.Whole new

-- all frames are whole, and so many
pub record IsWholeRun (script : List ℕ) (frames : ℕ) (old : ConsoleState) (number : ℕ) (new : ConsoleState) : Type 0 where
  pub all : number ≡ frames
  pub plays : Plays script frames old new

-- the frame with this number is the first that isn't whole
pub record IsCutRun (script : List ℕ) (frames : ℕ) (old : ConsoleState) (number : ℕ) (end : Ending) (new : ConsoleState) : Type 0 where
  pub within : number < frames
  pub before : ConsoleState
  pub plays : Plays script number old before
  pub last : IsFrameAt script number before end new

-- a run of at most so many frames, how it ended, and the number that stands for that
abbrev pub IsRun : List ℕ → ℕ → ConsoleState → ℕ → Ending → ConsoleState → Type 0
IsRun script frames old number ending.Whole new = IsWholeRun script frames old number new
IsRun script frames old number ending.Locked new = IsCutRun script frames old number ending.Locked new
IsRun script frames old number ending.Stopped new = IsCutRun script frames old number ending.Stopped new

-- ---- its text

-- how a run ended, with its number and the address of the next instruction
abbrev pub ending_text : Ending → ℕ → ℕ → List ℕ
ending_text ending.Whole number pc = codes "WHOLE frames " ++ decimal number ++ line_feed
ending_text ending.Locked number pc = codes "LOCKED frame " ++ decimal number ++ codes " pc " ++ hex_word pc ++ line_feed
ending_text ending.Stopped number pc = codes "STOPPED frame " ++ decimal number ++ codes " pc " ++ hex_word pc ++ line_feed

-- the screen's lines and the ending's line
abbrev pub run_text : ConsoleState → ℕ → Ending → List ℕ
run_text s number end = screen_text s.contents.screen ++ ending_text end number s.cpu.processor.pc

-- a run, and a sink that gained its text
pub record IsWrittenRun (script : List ℕ) (frames : ℕ) (old : ConsoleState) (end : Ending) (new : ConsoleState) (before after : Option (List ℕ)) : Type 0 where
  pub number : ℕ
  pub run : IsRun script frames old number end new
  pub text : Gains before (run_text new number end) after

-- a run, and a sink that gained a beginning of its text
pub record IsBegunRun (script : List ℕ) (frames : ℕ) (old new : ConsoleState) (before after : Option (List ℕ)) : Type 0 where
  pub number : ℕ
  pub end : Ending
  pub run : IsRun script frames old number end new
  pub text : GainsBeginning before (run_text new number end) after
