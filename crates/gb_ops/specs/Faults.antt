-- The faults of an event, and the places that it fetches (own rules).
use Rattle.std.specs.Prelude.{ℕ, ◌+◌, ◌/◌, ◌%◌, Bool, true, false, ◌==◌, nat_lt, nat_le, ◌&&◌, ◌||◌, not, if◌then◌else◌, List, [], ◌∷◌, ◌++◌, map, slice_index, Option, Some, None}
use Rattle.gb_ops.specs.declared.registers.Processor.{Processor}
use Rattle.gb_ops.specs.declared.machine.Read.{Read}
use Rattle.gb_ops.specs.declared.machine.Read.TheVariants as read
use Rattle.gb_ops.specs.declared.machine.Write.{Write}
use Rattle.gb_ops.specs.declared.machine.Write.TheVariants as write
use Rattle.gb_ops.specs.declared.machine.Event.{Event}
use Rattle.gb_ops.specs.declared.machine.Event.TheVariants as event
use Rattle.gb_ops.specs.declared.machine.Faults.{Faults}
use Rattle.gb_ops.specs.declared.machine.Region.{Region}
use Rattle.gb_ops.specs.declared.machine.CodePlace.{CodePlace}
use Rattle.gb_ops.specs.declared.op.Row.{Row}
use Rattle.gb_ops.specs.Cartridge.{is_within, shown_bank, has_ram_or_clock}
use Rattle.gb_ops.specs.Table.{decoded}
use Rattle.gb_ops.specs.Effects.{read_of}
use Rattle.gb_ops.specs.Memory.{View, is_closed, wrote}
use Rattle.gb_ops.specs.Machine.{BusState, fetched, advanced, effect_at, length_of, second_address, third_address}

abbrev pub no_faults : Faults
no_faults = record { undefined_opcode = false; fetched_outside = false; stack_outside = false; ram_closed = false; transfer_met = false }

-- the faults of either
unfoldable pub either_faults : Faults → Faults → Faults
either_faults f g =
    record {
      undefined_opcode = f.undefined_opcode || g.undefined_opcode;
      fetched_outside = f.fetched_outside || g.fetched_outside;
      stack_outside = f.stack_outside || g.stack_outside;
      ram_closed = f.ram_closed || g.ram_closed;
      transfer_met = f.transfer_met || g.transfer_met;
    }

-- the cartridge's RAM or clock can't be reached: the gate is closed, or there is neither
unfoldable pub is_ram_closed : View → Bool
is_ram_closed m = not (m.storage.banks.gate && has_ram_or_clock m.rom)

-- a byte is read, written or fetched
unfoldable pub access_faults : View → ℕ → Faults
access_faults m a = record no_faults { ram_closed = is_within 0xA000 0xBFFF a && is_ram_closed m; transfer_met = is_closed m.storage a }

-- an instruction may lie in ROM, work RAM and high RAM
unfoldable pub is_code_address : ℕ → Bool
is_code_address a = nat_lt a 0x8000 || is_within 0xC000 0xDFFF a || is_within 0xFF80 0xFFFE a

-- a byte of an instruction is fetched
unfoldable pub fetch_faults : View → ℕ → Faults
fetch_faults m a = record (access_faults m a) { fetched_outside = not (is_code_address a) }

-- a byte is written; a page of cartridge RAM that is written to FF46 is read by the transfer
unfoldable pub write_faults : View → ℕ → ℕ → Faults
write_faults m a v =
    record (access_faults m a) {
      ram_closed = (is_within 0xA000 0xBFFF a || ((a == 0xFF46) && is_within 0xA0 0xBF v)) && is_ram_closed m;
    }

-- a byte of a push is written
unfoldable pub push_faults : Region → View → ℕ → ℕ → Faults
push_faults region m a v =
    record (write_faults m a v) { stack_outside = not (is_within region.first region.last a) }

unfoldable pub load_faults : View → Read → Faults
load_faults m read.Nothing = no_faults
load_faults m (read.Byte a) = access_faults m a
load_faults m (read.Word a) = either_faults (access_faults m a) (access_faults m ((a + 1) % 65536))

unfoldable pub store_faults : Region → View → Write → Faults
store_faults region m write.Nothing = no_faults
store_faults region m (write.Byte a v) = write_faults m a v
store_faults region m (write.Word a w) =
    either_faults (write_faults m a (w % 256)) (write_faults (wrote m a (w % 256)) ((a + 1) % 65536) (w / 256))
store_faults region m (write.Push sp w) =
    let high = (sp + 65535) % 65536 in
    either_faults
    (push_faults region m high (w / 256))
    (push_faults region (wrote m high (w / 256)) ((sp + 65534) % 65536) (w % 256))

abbrev pub address_where : Bool → ℕ → List ℕ
address_where true a = a ∷ []
address_where false a = []

-- where the bytes of the instruction at PC stand, its bytes given
unfoldable pub fetch_addresses : Processor → List ℕ → List ℕ
fetch_addresses p bytes =
    let length = length_of (slice_index bytes 0) in
    p.pc ∷ (address_where (nat_le 2 length) (second_address p) ++ address_where (nat_le 3 length) (third_address p))

abbrev pub all_fetch_faults : View → List ℕ → Faults
all_fetch_faults m [] = no_faults
all_fetch_faults m (a ∷ rest) = either_faults (fetch_faults m a) (all_fetch_faults m rest)

abbrev pub row_faults : Option Row → Region → BusState → List ℕ → Faults
row_faults None region s reads = record no_faults { undefined_opcode = true }
row_faults (Some row) region s reads =
    either_faults
    (load_faults s.memory (read_of row.op (advanced s.processor row)))
    (store_faults region s.memory (effect_at s row reads).write)

unfoldable pub run_faults : Region → BusState → List ℕ → List ℕ → Faults
run_faults region s fetch reads =
    let bytes = fetched s.memory s.processor fetch in
    either_faults
    (all_fetch_faults s.memory (fetch_addresses s.processor bytes))
    (row_faults (decoded bytes) region s reads)

-- the place of a byte; RAM has bank 0
unfoldable pub code_place : View → ℕ → CodePlace
code_place m a = record { address = a; bank = if nat_lt a 0x8000 then shown_bank m.rom m.storage.banks a else 0 }

-- the faults of an event that is possible
unfoldable pub event_faults : Region → BusState → Event → Faults
event_faults region s (event.Run fetch reads) = run_faults region s fetch reads
event_faults region s event.HaltStay = fetch_faults s.memory s.processor.pc
event_faults region s event.HaltBug = fetch_faults s.memory s.processor.pc
event_faults region s (event.Irq i) = store_faults region s.memory (write.Push s.processor.sp s.processor.pc)
event_faults region s (event.Wait n) = no_faults

-- the places that an event which is possible fetches, in their order
unfoldable pub event_places : BusState → Event → List CodePlace
event_places s (event.Run fetch reads) =
    map (code_place s.memory) (fetch_addresses s.processor (fetched s.memory s.processor fetch))
event_places s event.HaltStay = code_place s.memory s.processor.pc ∷ []
event_places s event.HaltBug = code_place s.memory s.processor.pc ∷ []
event_places s (event.Irq i) = []
event_places s (event.Wait n) = []
