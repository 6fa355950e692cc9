-- The accesses of a bus that an event makes, in their order, and its M-cycles.
use Rattle.std.specs.Prelude.{ℕ, ◌≡◌, ◌+◌, ◌/◌, ◌%◌, Bool, true, false, ◌==◌, nat_le, List, [], ◌∷◌, ◌++◌, slice_index, Option, Some, None, if◌then◌else◌}
use Rattle.gb_ops.specs.declared.registers.Processor.{Processor}
use Rattle.gb_ops.specs.declared.machine.Read.{Read}
use Rattle.gb_ops.specs.declared.machine.Read.TheVariants as read
use Rattle.gb_ops.specs.declared.machine.Write.{Write}
use Rattle.gb_ops.specs.declared.machine.Write.TheVariants as write
use Rattle.gb_ops.specs.declared.machine.Loaded.{Loaded}
use Rattle.gb_ops.specs.declared.machine.Event.{Event}
use Rattle.gb_ops.specs.declared.machine.Event.TheVariants as event
use Rattle.gb_ops.specs.declared.op.Row.{Row}
use Rattle.gb_ops.specs.Table.{decoded}
use Rattle.gb_ops.specs.Effects.{read_of}
use Rattle.gb_ops.specs.Machine.{BusState, fetched, loaded, advanced, length_of, second_address, third_address, cycles_of, effect_at}

-- an access of a bus, with the byte that it gave or took
pub data Access : Type 0 where
  Reads : ℕ → ℕ → Access
  Writes : ℕ → ℕ → Access
  Passes : ℕ → Access
  Acknowledges : ℕ → Access

-- one access after another leads from a bus to a bus
abbrev pub Joined : {S : Type 0} → (S → Access → S → Type 0) → S → List Access → S → Type 0
Joined does old [] new = new ≡ old
Joined {S} does old (a ∷ rest) new = (mid : S) × does old a mid × Joined does mid rest new

abbrev pub where_wanted : Bool → Access → List Access
where_wanted true a = a ∷ []
where_wanted false a = []

-- the reads of an instruction's bytes
unfoldable pub fetch_log : Processor → List ℕ → List Access
fetch_log p bytes =
    let length = length_of (slice_index bytes 0) in
    (Reads p.pc (slice_index bytes 0) ∷ where_wanted (nat_le 2 length) (Reads (second_address p) (slice_index bytes 1)))
    ++ where_wanted (nat_le 3 length) (Reads (third_address p) (slice_index bytes 2))

unfoldable pub load_log : Read → Loaded → List Access
load_log read.Nothing v = []
load_log (read.Byte address) v = Reads address v.low ∷ []
load_log (read.Word address) v = Reads address v.low ∷ Reads ((address + 1) % 65536) v.high ∷ []

unfoldable pub store_log : Write → List Access
store_log write.Nothing = []
store_log (write.Byte address v) = Writes address v ∷ []
store_log (write.Word address w) = Writes address (w % 256) ∷ Writes ((address + 1) % 65536) (w / 256) ∷ []
store_log (write.Push sp w) = Writes ((sp + 65535) % 65536) (w / 256) ∷ Writes ((sp + 65534) % 65536) (w % 256) ∷ []

-- the accesses of an instruction of the table behind its fetch
unfoldable pub execute_log : BusState → Row → List ℕ → List Access
execute_log s row reads =
    let p = advanced s.processor row in
    let effect = effect_at s row reads in
    load_log (read_of row.op p) (loaded s.memory (read_of row.op p) reads)
    ++ store_log effect.write
    ++ Passes (cycles_of row effect.is_taken) ∷ []

abbrev pub row_log : Option Row → BusState → List ℕ → List Access
row_log None s reads = Passes 1 ∷ []
row_log (Some row) s reads = execute_log s row reads

-- the M-cycles of an event
unfoldable pub executed_cycles : BusState → Row → List ℕ → ℕ
executed_cycles s row reads = cycles_of row (effect_at s row reads).is_taken

abbrev pub row_cycles : Option Row → BusState → List ℕ → ℕ
row_cycles None s reads = 1
row_cycles (Some row) s reads = executed_cycles s row reads

unfoldable pub event_cycles : BusState → Event → ℕ
event_cycles s (event.Run fetch reads) = row_cycles (decoded (fetched s.memory s.processor fetch)) s reads
event_cycles s event.HaltStay = 1
event_cycles s event.HaltBug = 1
event_cycles s (event.Irq i) = 5
event_cycles s (event.Wait n) = n

-- time passes once, as an event ends
abbrev pub pass_log : ℕ → List Access
pass_log n = if n == 0 then [] else Passes n ∷ []

-- the accesses of an event, in their order
unfoldable pub accesses_of : BusState → Event → List Access
accesses_of s (event.Run fetch reads) =
    fetch_log s.processor (fetched s.memory s.processor fetch)
    ++ row_log (decoded (fetched s.memory s.processor fetch)) s reads
accesses_of s event.HaltStay = Reads s.processor.pc 0x76 ∷ Passes 1 ∷ []
accesses_of s event.HaltBug = Reads s.processor.pc 0x76 ∷ Passes 1 ∷ []
accesses_of s (event.Irq i) = Acknowledges i ∷ store_log (write.Push s.processor.sp s.processor.pc) ++ Passes 5 ∷ []
accesses_of s (event.Wait n) = pass_log n
