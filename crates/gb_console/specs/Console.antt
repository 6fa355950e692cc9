-- The console between two events, and one step of it (Pan Docs: Power Up Sequence; Interrupts; halt. Own: keys
-- and seconds come before the event, and an interrupt is chosen before anything else).
use Rattle.std.specs.Prelude.{◌≡◌, ℕ, ◌+◌, ◌%◌, false, List, Option, Some, None, if◌then◌else◌}
use Rattle.gb_ops.specs.declared.registers.Ime.TheVariants as ime
use Rattle.gb_ops.specs.declared.machine.Event.{Event}
use Rattle.gb_ops.specs.declared.machine.Event.TheVariants as event
use Rattle.gb_ops.specs.declared.machine.Region.{Region}
use Rattle.gb_ops.specs.Machine.{BusState, is_ime}
use Rattle.gb_ops.specs.Accesses.{Joined, accesses_of, event_cycles}
use Rattle.gb_ops.specs.Play.{MState, IsReached, processor_at_power_up}
use Rattle.gb_ops.specs.Play as Play
use Rattle.gb_cpu.specs.Below.gb_mbc.Clock as Clock
use Rattle.gb_cpu.specs.Below.gb_timer.declared.irqs.Keys.{Keys}
use Rattle.gb_cpu.specs.Below.gb_timer.Joypad.{key_bits}
use Rattle.gb_cpu.specs.Below.gb_timer.Interrupts.{next_irq}
use Rattle.gb_cpu.specs.Below.gb_ppu.Picture.{frame_cycles}
use Rattle.gb_cpu.specs.Below.gb_bus.Contents.{Contents}
use Rattle.gb_cpu.specs.Below.gb_bus.Registers.{with_pad}
use Rattle.gb_cpu.specs.Below.gb_bus.PowerUp as PowerUp
use Rattle.gb_cpu.specs.Below.gb_bus.Access.{IsAccessed, shared}
use Rattle.gb_cpu.specs.declared.step.Cpu.{Cpu}
use Rattle.gb_cpu.specs.Step.{state}
use Rattle.gb_cpu.specs.Below.gb_accesses.Access.{HasFreeBytes}
use Rattle.gb_cpu.specs.Choice.{IsChoice, is_idle, waits_after}

-- the processor and whether it waits, the memory, and the M-cycles since power-up, modulo a frame's
pub record ConsoleState : Type 0 where
  pub cpu : Cpu
  pub contents : Contents
  pub cycles : ℕ

-- the cartridge, the machine state, and both as a bus shows them
abbrev pub rom_of : ConsoleState → List ℕ
rom_of s = s.contents.view.rom

abbrev pub machine_of : ConsoleState → MState
machine_of s = record { processor = s.cpu.processor; storage = s.contents.view.storage }

abbrev pub shown : ConsoleState → BusState
shown s = state s.cpu.processor s.contents.view

-- some start and some list of events lead to a machine state, whatever the region
unfoldable pub IsReachable : List ℕ → MState → Type 0
IsReachable rom s = (region : Region) → IsReached rom region s

-- ---- power-up

unfoldable pub at_power_up : List ℕ → ConsoleState
at_power_up rom =
    record {
      cpu = record { processor = processor_at_power_up rom; is_waiting = false };
      contents = PowerUp.at_power_up rom;
      cycles = 0;
    }

-- ---- a step

-- the keys that are held from now on, and so many seconds more
abbrev pub told : Contents → Keys → ℕ → Contents
told c keys seconds =
    let pressed = with_pad c (record c.pad { keys = key_bits keys }) in
    record pressed { clock = Clock.advanced pressed.clock seconds }

-- what a step takes: a locked or stopped console takes nothing
unfoldable pub taken : ConsoleState → Keys → ℕ → Contents
taken s keys seconds = if is_idle s.cpu then s.contents else told s.contents keys seconds

-- the interrupt that is dispatched: with IME on the lowest that IE and IF share
unfoldable pub interrupt : Cpu → Contents → Option ℕ
interrupt cpu c = if is_idle cpu then None else next_irq (is_ime cpu.processor.ime ime.On) c.view.storage.ie c.requests

-- the event that is chosen: that interrupt's; where there is none, the processor's own choice
abbrev pub IsChosen : Option ℕ → Cpu → Contents → Event → Type 0
IsChosen (Some i) cpu c e = e ≡ event.Irq i
IsChosen None cpu c e = IsChoice cpu (shared c) (state cpu.processor c.view) e

-- a step with these keys and seconds leads by an event from a console to a console
pub record IsConsoleStep (old : ConsoleState) (keys : Keys) (seconds : ℕ) (e : Event) (new : ConsoleState) : Type 0 where
  pub choice : IsChosen (interrupt old.cpu (taken old keys seconds)) old.cpu (taken old keys seconds) e
  pub free : HasFreeBytes (shown old) e
  pub cartridge : rom_of new ≡ rom_of old
  pub machine : machine_of new ≡ Play.next (rom_of old) (machine_of old) e
  pub joined : Joined IsAccessed (taken old keys seconds) (accesses_of (shown old) e) new.contents
  pub waiting : new.cpu.is_waiting ≡ waits_after old.cpu (shown old) e
  pub cycles : new.cycles ≡ (old.cycles + event_cycles (shown old) e) % frame_cycles
