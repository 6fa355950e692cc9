-- Runs of the console: steps one after another, and the run of the machine that they are (own).
use Rattle.std.specs.Prelude.{◌≡◌, List, [], ◌∷◌}
use Rattle.gb_ops.specs.declared.machine.Event.{Event}
use Rattle.gb_ops.specs.declared.machine.Region.{Region}
use Rattle.gb_ops.specs.Play.{play}
use Rattle.gb_console.specs.declared.run.Input.{Input}
use Rattle.gb_console.specs.Console.{ConsoleState, IsConsoleStep, rom_of, machine_of}

-- steps with these inputs lead from a console to a console, and these are the events that they answer
abbrev pub Steps : ConsoleState → List Input → List Event → ConsoleState → Type 0
Steps old [] [] new = new ≡ old
Steps old (input ∷ inputs) (event ∷ events) new =
    (after : ConsoleState) × IsConsoleStep old input.keys input.seconds event after × Steps after inputs events new
Steps old [] (event ∷ events) new = ⊥
Steps old (input ∷ inputs) [] new = ⊥

-- the cartridge stays, and the machine state is the one that the events of the machine's run lead to
pub record IsPlayed (old : ConsoleState) (events : List Event) (new : ConsoleState) : Type 0 where
  pub cartridge : rom_of new ≡ rom_of old
  pub machine : (region : Region) → machine_of new ≡ (play (rom_of old) region (machine_of old) events).state

-- steps with these inputs, and the machine's run over the events that they answer
pub record IsRun (old : ConsoleState) (inputs : List Input) (new : ConsoleState) : Type 0 where
  pub events : List Event
  pub steps : Steps old inputs events new
  pub played : IsPlayed old events new

-- whatever the inputs, the console's state is that of the machine's run over the events that were answered
abbrev pub StepsArePlayed : Type 0
StepsArePlayed =
    (old new : ConsoleState) (inputs : List Input) (events : List Event) → Steps old inputs events new → IsPlayed old events new
