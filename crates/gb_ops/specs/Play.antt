-- Runs of the machine (own rules over the sources of the event's parts; Power-up sequence).
use Rattle.std.specs.Prelude.{ℕ, ◌≡◌, ◌<◌, ◌==◌, Bool, true, false, not, List, [], ◌∷◌, ◌++◌, length, slice_index}
use Rattle.std.specs.List.{All}
use Rattle.gb_ops.specs.declared.machine.CodePlace.{CodePlace}
use Rattle.gb_ops.specs.declared.machine.Faults.{Faults}
use Rattle.gb_ops.specs.declared.machine.Region.{Region}
use Rattle.gb_ops.specs.declared.machine.Event.{Event}
use Rattle.gb_ops.specs.declared.registers.Processor.{Processor}
use Rattle.gb_ops.specs.declared.registers.Ime.TheVariants as ime
use Rattle.gb_ops.specs.Cartridge.{banks_at_power_up}
use Rattle.gb_ops.specs.Memory.{Storage}
use Rattle.gb_ops.specs.Machine as Machine
use Rattle.gb_ops.specs.Machine.{BusState, is_possible}
use Rattle.gb_ops.specs.Faults.{no_faults, either_faults, event_faults, event_places}

-- a machine state
pub record MState : Type 0 where
  pub processor : Processor
  pub storage : Storage

-- a machine state and its cartridge as a bus shows them between events, and back
unfoldable pub within : List ℕ → MState → BusState
within rom s = record { processor = s.processor; memory = record { rom = rom; storage = s.storage; starting = false } }

unfoldable pub outside : BusState → MState
outside s = record { processor = s.processor; storage = s.memory.storage }

-- the machine state after an event
unfoldable pub next : List ℕ → MState → Event → MState
next rom s e = outside (Machine.next (within rom s) e)

abbrev pub faults_where : Bool → Faults → Faults
faults_where true f = f
faults_where false f = no_faults

abbrev pub places_where : Bool → List CodePlace → List CodePlace
places_where true ps = ps
places_where false ps = []

-- the faults of an event; one that isn't possible has none
unfoldable pub faults : List ℕ → Region → MState → Event → Faults
faults rom region s e = faults_where (is_possible (within rom s) e) (event_faults region (within rom s) e)

-- the places that an event fetches
unfoldable pub places : List ℕ → MState → Event → List CodePlace
places rom s e = places_where (is_possible (within rom s) e) (event_places (within rom s) e)

-- what a run leads to: the last state, all faults, and all places in their order
pub record Played : Type 0 where
  pub state : MState
  pub faults : Faults
  pub places : List CodePlace

-- a list of events, one after another
unfoldable pub play : List ℕ → Region → MState → List Event → Played
play rom region s [] = record { state = s; faults = no_faults; places = [] }
play rom region s (e ∷ events) =
    let rest = play rom region (next rom s e) events in
    record {
      state = rest.state;
      faults = either_faults (faults rom region s e) rest.faults;
      places = places rom s e ++ rest.places;
    }

-- the processor at power-up: H and C are clear where the header's checksum is 00
unfoldable pub processor_at_power_up : List ℕ → Processor
processor_at_power_up rom =
    let others = not (slice_index rom 0x14D == 0) in
    record {
      registers = record { a = 0x01; b = 0x00; c = 0x13; d = 0x00; e = 0xD8; h = 0x01; l = 0x4D };
      flags = record { zero = true; subtract = false; half_carry = others; carry = others };
      sp = 0xFFFE;
      pc = 0x100;
      ime = ime.Off;
      halt_mark = false;
      locked = false;
      stopped = false;
    }

-- a state of power-up, with any bytes in work RAM and high RAM
pub record IsStart (rom : List ℕ) (s : MState) : Type 0 where
  pub processor : s.processor ≡ processor_at_power_up rom
  pub banks : s.storage.banks ≡ banks_at_power_up
  pub ie : s.storage.ie ≡ 0
  pub count : s.storage.count ≡ 0
  pub work_size : length s.storage.work ≡ 8192
  pub work : All (λ b. b < 256) s.storage.work
  pub high_size : length s.storage.high ≡ 127
  pub high : All (λ b. b < 256) s.storage.high

-- a state that some start and some list of events lead to
pub record IsReached (rom : List ℕ) (region : Region) (s : MState) : Type 0 where
  pub start : MState
  pub events : List Event
  pub is_start : IsStart rom start
  pub leads : (play rom region start events).state ≡ s

-- A step from old to new, as a bus shows it, is the machine's: the cartridge stays, and where no
-- transfer was left to start, none is, and the machine state is the next.
pub record IsStep (old : BusState) (e : Event) (new : BusState) : Type 0 where
  pub rom : new.memory.rom ≡ old.memory.rom
  pub starting : old.memory.starting ≡ false → new.memory.starting ≡ false
  pub next : old.memory.starting ≡ false → outside new ≡ next old.memory.rom (outside old) e
