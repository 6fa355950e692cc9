-- A frame of the console (own: it is steps until the M-cycles since power-up reach or pass a multiple of a
-- frame's, or the console is locked or stopped).
use Rattle.std.specs.Prelude.{◌≡◌, ℕ, zero, suc, ◌+◌, nat_le, Bool, true, false, Option, Some, None}
use Rattle.gb_ops.specs.declared.machine.Event.{Event}
use Rattle.gb_ops.specs.declared.machine.Event.TheVariants as event
use Rattle.gb_ops.specs.Accesses.{event_cycles}
use Rattle.gb_cpu.specs.Below.gb_timer.declared.irqs.Keys.{Keys}
use Rattle.gb_cpu.specs.Below.gb_timer.Joypad.{key_bits}
use Rattle.gb_cpu.specs.Below.gb_bus.Access.{shared}
use Rattle.gb_cpu.specs.Run as Run
use Rattle.gb_console.specs.declared.frame.Ending.{Ending}
use Rattle.gb_console.specs.declared.frame.Ending.TheVariants as ending
use Rattle.gb_cpu.specs.Below.gb_ppu.Picture.{frame_cycles}
use Rattle.gb_console.specs.Console.{ConsoleState, IsConsoleStep, shown}

-- how a step ends a frame: locked and stopped win over whole
abbrev pub ending_by : Bool → Bool → Bool → Option Ending
ending_by true stopped passed = Some ending.Locked
ending_by false true passed = Some ending.Stopped
ending_by false false true = Some ending.Whole
ending_by false false false = None

-- how a frame of a locked or stopped console ends
abbrev pub idle_ending : Bool → Ending
idle_ending true = ending.Locked
idle_ending false = ending.Stopped

-- whether an event reaches or passes the next multiple
abbrev pub passes : ConsoleState → Event → Bool
passes old e = nat_le frame_cycles (old.cycles + event_cycles (shown old) e)

-- how an event from a console to a console ends the frame, if it does
unfoldable pub ending_after : ConsoleState → Event → ConsoleState → Option Ending
ending_after old e new = ending_by new.cpu.processor.locked new.cpu.processor.stopped (passes old e)

-- the seconds of step n of a frame: all come with its first
abbrev pub seconds_at : ℕ → ℕ → ℕ
seconds_at zero seconds = seconds
seconds_at (suc n) seconds = 0

-- a step, and how it ends the frame, if it does
pub record IsFrameStep (old : ConsoleState) (keys : Keys) (seconds : ℕ) (ends : Option Ending) (new : ConsoleState) : Type 0 where
  pub event : Event
  pub step : IsConsoleStep old keys seconds event new
  pub ending : ends ≡ ending_after old event new

-- n steps, none of which ends the frame, lead from a console to a console
abbrev pub Goes : ConsoleState → Keys → ℕ → ℕ → ConsoleState → Type 0
Goes old keys seconds zero new = new ≡ old
Goes old keys seconds (suc n) new =
    (before : ConsoleState) × Goes old keys seconds n before × IsFrameStep before keys (seconds_at n seconds) None new

-- n waits of one M-cycle, none of which ends the frame
abbrev pub Rests : ConsoleState → Keys → ℕ → ConsoleState → Type 0
Rests old keys zero new = new ≡ old
Rests old keys (suc n) new =
    (before : ConsoleState) × Rests old keys n before × IsConsoleStep before keys 0 (event.Wait 1) new
    × (None ≡ ending_after before (event.Wait 1) new)

-- a step without seconds, of n M-cycles
pub record IsSomeStep (old : ConsoleState) (keys : Keys) (n : ℕ) (new : ConsoleState) : Type 0 where
  pub event : Event
  pub step : IsConsoleStep old keys 0 event new
  pub cycles : n ≡ event_cycles (shown old) event

-- an instruction comes next with nothing else: no interrupt is shared, and these keys are held
pub record IsReady (s : ConsoleState) (keys : Keys) : Type 0 where
  pub processor : Run.IsReady s.cpu
  pub unshared : shared s.contents ≡ 0
  pub held : s.contents.pad.keys ≡ key_bits keys

-- such a step, and whether it reaches or passes the next multiple
pub record IsPassing (old : ConsoleState) (keys : Keys) (passed : Bool) (new : ConsoleState) : Type 0 where
  pub cycles : ℕ
  pub step : IsSomeStep old keys cycles new
  pub reaches : passed ≡ nat_le frame_cycles (old.cycles + cycles)

-- some steps without seconds, none of which ends the frame
pub record HasGoneOn (old : ConsoleState) (keys : Keys) (new : ConsoleState) : Type 0 where
  pub steps : ℕ
  pub goes : Goes old keys 0 steps new

-- such steps, and one that ends the frame, if it was ended
abbrev pub HasGone : ConsoleState → Keys → Option Ending → ConsoleState → Type 0
HasGone old keys None new = HasGoneOn old keys new
HasGone old keys (Some end) new = (last : ConsoleState) × HasGoneOn old keys last × IsFrameStep last keys 0 (Some end) new

-- a frame: steps that don't end it, and one that does
pub record IsFrame (old : ConsoleState) (keys : Keys) (seconds : ℕ) (end : Ending) (new : ConsoleState) : Type 0 where
  pub steps : ℕ
  pub last : ConsoleState
  pub goes : Goes old keys seconds steps last
  pub ends : IsFrameStep last keys (seconds_at steps seconds) (Some end) new
