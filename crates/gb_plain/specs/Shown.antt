-- A machine state and its cartridge, as a bus shows them (own).
use Rattle.std.specs.Prelude.{ℕ, Bool, false, List, replicate}
use Rattle.gb_ops.specs.declared.machine.Banks.{Banks}
use Rattle.gb_ops.specs.Cartridge.{banks_at_power_up}
use Rattle.gb_ops.specs.Memory.{View}
use Rattle.gb_ops.specs.Machine.{BusState}
use Rattle.gb_ops.specs.Play.{MState}

-- a cartridge and the registers of its controller
pub record CartridgeState : Type 0 where
  pub rom : List ℕ
  pub banks : Banks

-- so many bytes 00
unfoldable pub zeros : ℕ → List ℕ
zeros n = replicate n 0

-- a cartridge of so many bytes 00, at power-up
abbrev pub blank : ℕ → CartridgeState
blank n = record { rom = zeros n; banks = banks_at_power_up }

-- a machine state and its cartridge
pub record PlainState : Type 0 where
  pub rom : List ℕ
  pub machine : MState

-- within an event
abbrev pub shown : List ℕ → MState → Bool → View
shown rom s starting = record { rom = rom; storage = s.storage; starting = starting }

-- between events
abbrev pub resting : List ℕ → MState → View
resting rom s = shown rom s false

abbrev pub bus : List ℕ → MState → BusState
bus rom s = record { processor = s.processor; memory = resting rom s }

abbrev pub left : BusState → MState
left s = record { processor = s.processor; storage = s.memory.storage }
