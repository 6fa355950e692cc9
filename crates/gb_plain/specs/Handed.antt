-- How a bus gives the bytes that an event hands in (own).
use Rattle.std.specs.Prelude.{ℕ, ◌≡◌, ◌<◌, Bool, true, false, List, [], ◌∷◌, drop, nat_le, Some, bit_and, ◌%◌}
use Rattle.gb_ops.specs.declared.machine.Read.{Read}
use Rattle.gb_ops.specs.declared.machine.Event.{Event}
use Rattle.gb_ops.specs.declared.machine.Event.TheVariants as event
use Rattle.gb_ops.specs.declared.op.Row.{Row}
use Rattle.gb_ops.specs.declared.registers.Processor.{Processor}
use Rattle.gb_ops.specs.Accesses.{Access, event_cycles}
use Rattle.gb_ops.specs.Accesses as access
use Rattle.gb_ops.specs.Effects.{read_of}
use Rattle.gb_ops.specs.Machine as Machine
use Rattle.gb_ops.specs.Machine.{BusState, read_at, read_where, length_of, second_address, third_address, advanced}
use Rattle.gb_ops.specs.Memory.{View}
use Rattle.gb_ops.specs.Table.{decoded}
use Rattle.gb_cpu.specs.declared.step.Cpu.{Cpu}
use Rattle.gb_cpu.specs.declared.step.Stepped.{Stepped}
use Rattle.gb_cpu.specs.Choice.{IsChoice}
use Rattle.gb_plain.specs.Shown.{shown}
use Rattle.gb_plain.specs.declared.machine.PlainMachine.{PlainMachine}

abbrev pub view_of : PlainMachine → View
view_of m = shown m.state.rom m.state.machine m.is_starting

-- the free bytes that are left of an event
abbrev pub left : PlainMachine → List ℕ
left m = drop m.handed.taken m.handed.free

-- a read takes the first that is left, where it is free; no other access takes one
abbrev pub Takes : PlainMachine → Access → PlainMachine → Type 0
Takes old (access.Reads a v) new =
    (view_of new ≡ view_of old) × (v < 256) × (read_at (view_of old) a (left old) ≡ record { value = v; rest = left new })
Takes old _ new = Unit {0}

-- the free bytes that the fetches of an instruction leave
unfoldable pub left_by_fetches : View → Processor → List ℕ → List ℕ
left_by_fetches m p free =
    let first = read_at m p.pc free in
    let length = length_of first.value in
    let second = read_where (nat_le 2 length) m (second_address p) first.rest in
    (read_where (nat_le 3 length) m (third_address p) second.rest).rest

-- free bytes in one list give what those of an event give
pub record IsInOrder (m : View) (p : Processor) (fetch reads free : List ℕ) : Type 0 where
  pub fetches : Machine.fetched m p free ≡ Machine.fetched m p fetch
  pub loads : (what : Read) → Machine.loaded m what (left_by_fetches m p free) ≡ Machine.loaded m what reads

-- an instruction took its bytes from a list
pub record TookRun (s : BusState) (free fetch reads : List ℕ) : Type 0 where
  pub fetches : Machine.fetched s.memory s.processor free ≡ Machine.fetched s.memory s.processor fetch
  pub loads :
      (row : Row) → decoded (Machine.fetched s.memory s.processor fetch) ≡ Some row
      → Machine.loaded s.memory (read_of row.op (advanced s.processor row)) (left_by_fetches s.memory s.processor free)
      ≡ Machine.loaded s.memory (read_of row.op (advanced s.processor row)) reads
  pub three : Machine.is_bytes 3 fetch ≡ true
  pub two : Machine.is_bytes 2 reads ≡ true

abbrev pub Took : BusState → List ℕ → Event → Type 0
Took s free (event.Run fetch reads) = TookRun s free fetch reads
Took s free _ = Unit {0}

-- the processor between events
abbrev pub resting_cpu : Processor → Cpu
resting_cpu p = record { processor = p; is_waiting = false }

-- a step that took its free bytes from a list and was told of these interrupts
pub record IsStepWith (free : List ℕ) (pending : ℕ) (old : BusState) (made : Stepped) (new : BusState) : Type 0 where
  pub next : new ≡ Machine.next old made.event
  pub choice : IsChoice (resting_cpu old.processor) (bit_and pending (old.memory.storage.ie % 32)) old made.event
  pub cycles : made.cycles ≡ event_cycles old made.event
  pub took : Took old free made.event

-- the bytes of an event in the order of its reads: those that its fetches take, and then those of its other reads
abbrev pub ordered : Bool → Bool → Bool → ℕ → ℕ → ℕ → ℕ → ℕ → List ℕ
ordered false false false a b c low high = low ∷ high ∷ 0 ∷ 0 ∷ 0 ∷ []
ordered true false false a b c low high = a ∷ low ∷ high ∷ 0 ∷ 0 ∷ []
ordered false true false a b c low high = a ∷ low ∷ high ∷ 0 ∷ 0 ∷ []
ordered false false true a b c low high = a ∷ low ∷ high ∷ 0 ∷ 0 ∷ []
ordered true true false a b c low high = a ∷ b ∷ low ∷ high ∷ 0 ∷ []
ordered true false true a b c low high = a ∷ b ∷ low ∷ high ∷ 0 ∷ []
ordered false true true a b c low high = a ∷ b ∷ low ∷ high ∷ 0 ∷ []
ordered true true true a b c low high = a ∷ b ∷ c ∷ low ∷ high ∷ []

-- what an event led to, in n M-cycles, is the machine's next
pub record IsEvent (old : BusState) (e : Event) (n : ℕ) (new : BusState) : Type 0 where
  pub state : new ≡ Machine.next old e
  pub cycles : n ≡ event_cycles old e
