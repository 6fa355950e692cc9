-- Instructions that surely have no fault, and the steps behind a frame's first (own).
use Rattle.std.specs.Prelude.{◌≡◌, ℕ, ◌+◌, false, Option, Some, None}
use Rattle.gb_ops.specs.declared.machine.Region.{Region}
use Rattle.gb_console.specs.Below.gb_timer.declared.irqs.Keys.{Keys}
use Rattle.gb_console.specs.declared.frame.Ending.{Ending}
use Rattle.gb_console.specs.Console.{ConsoleState, shown}
use Rattle.gb_console.specs.Frame.{IsReady}
use Rattle.gb_faults.specs.Quiet.{IsQuiet}
use Rattle.gb_watch.specs.declared.frame.Step.{Step}
use Rattle.gb_watch.specs.declared.frame.Step.TheVariants as step
use Rattle.gb_watch.specs.Watch.{GoesFaultless, IsFaultlessStep, IsFaultyStep}

-- an instruction comes next with nothing else, and whatever it is, it has no fault
pub record IsSurelyReady (region : Region) (s : ConsoleState) (keys : Keys) : Type 0 where
  pub ready : IsReady s keys
  pub rests : s.contents.view.starting ≡ false
  pub quiet : IsQuiet region (shown s)

-- a watched step
abbrev pub IsWatchedStep : Region → ConsoleState → Keys → ℕ → ℕ → Step → ConsoleState → Type 0
IsWatchedStep region old keys seconds number step.Goes new = IsFaultlessStep region old keys seconds None new
IsWatchedStep region old keys seconds number (step.Ends end) new = IsFaultlessStep region old keys seconds (Some end) new
IsWatchedStep region old keys seconds number (step.Faults s) new = (s.number ≡ number) × IsFaultyStep region old keys seconds s new

-- some steps without seconds, none of which ends the frame, with their number added to another
pub record HasGoneOn (region : Region) (old : ConsoleState) (keys : Keys) (number more : ℕ) (new : ConsoleState) : Type 0 where
  pub steps : ℕ
  pub counted : more ≡ number + steps
  pub goes : GoesFaultless region old keys 0 steps new

-- such steps, and one that ends the frame
pub record HasEnded (region : Region) (old : ConsoleState) (keys : Keys) (end : Ending) (new : ConsoleState) : Type 0 where
  pub steps : ℕ
  pub last : ConsoleState
  pub goes : GoesFaultless region old keys 0 steps last
  pub ends : IsFaultlessStep region last keys 0 (Some end) new

abbrev pub HasGone : Region → ConsoleState → Keys → ℕ → ℕ → Option Ending → ConsoleState → Type 0
HasGone region old keys number more None new = HasGoneOn region old keys number more new
HasGone region old keys number more (Some end) new = HasEnded region old keys end new
