use Rattle.std.specs.Prelude.{ℕ, ◌≡◌, ◌≢◌, ◌<◌, true, Option, Some, None}
use Rattle.gb_ops.specs.declared.registers.Processor.{Processor}
use Rattle.gb_ops.specs.declared.registers.Ime.{Ime}
use Rattle.gb_ops.specs.declared.registers.Ime.TheVariants as ime
use Rattle.gb_ops.specs.declared.machine.Event.TheVariants as event
use Rattle.gb_ops.specs.Memory.{View}
use Rattle.gb_ops.specs.Machine.{BusState, is_running, is_possible}
use Rattle.gb_cpu.specs.declared.step.Special.{Special}
use Rattle.gb_cpu.specs.declared.step.Special.TheVariants as special

-- the machine state of a processor over what its bus shows
abbrev pub state : Processor → View → BusState
state p m = record { processor = p; memory = m }

-- HALT with a shared bit, interrupts pending or off
abbrev pub IsSpecial : ℕ → Ime → ℕ → Option Special → Type 0
IsSpecial opcode i shared (Some special.Stay) = (opcode ≡ 0x76) × (i ≡ ime.Pending) × (shared ≢ 0)
IsSpecial opcode i shared (Some special.Bug) = (opcode ≡ 0x76) × (i ≡ ime.Off) × (shared ≢ 0)
IsSpecial opcode i shared None = opcode ≡ 0x76 → shared ≢ 0 → i ≡ ime.On

-- an interrupt that a running processor may take
pub record IsDispatchable (s : BusState) (i : ℕ) : Type 0 where
  pub number : i < 5
  pub possible : is_running s ≡ true → is_possible s (event.Irq i) ≡ true
