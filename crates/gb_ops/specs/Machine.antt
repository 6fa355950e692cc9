-- One event of the machine, in its five steps: fetch, reads, effect, writes, time
-- (CPU instruction set; Interrupts; halt).
use Rattle.std.specs.Prelude.{ℕ, ◌+◌, ◌*◌, ◌-◌, ◌%◌, ◌/◌, ◌^◌, Bool, true, false, ◌==◌, nat_lt, nat_le, ◌&&◌, ◌||◌, not, if◌then◌else◌, List, [], ◌∷◌, slice_index, length, drop, Option, Some, None}
use Rattle.std.specs.List.{list_all}
use Rattle.gb_ops.specs.declared.registers.Processor.{Processor}
use Rattle.gb_ops.specs.declared.registers.Ime.{Ime}
use Rattle.gb_ops.specs.declared.registers.Ime.TheVariants as ime
use Rattle.gb_ops.specs.declared.machine.Write.TheVariants as write
use Rattle.gb_ops.specs.declared.machine.Read.{Read}
use Rattle.gb_ops.specs.declared.machine.Read.TheVariants as read
use Rattle.gb_ops.specs.declared.machine.Loaded.{Loaded}
use Rattle.gb_ops.specs.declared.machine.Effect.{Effect}
use Rattle.gb_ops.specs.declared.machine.Event.{Event}
use Rattle.gb_ops.specs.declared.machine.Event.TheVariants as event
use Rattle.gb_ops.specs.declared.op.Op.{Op}
use Rattle.gb_ops.specs.declared.op.Op.TheVariants as op
use Rattle.gb_ops.specs.declared.op.Row.{Row}
use Rattle.gb_ops.specs.Table.{row_of, decoded}
use Rattle.gb_ops.specs.Memory.{View, is_free, byte_at, passed, stored}
use Rattle.gb_ops.specs.Effects.{read_of, effect_of, with_pc, with_sp}

-- the processor and what its bus shows, within an event
pub record BusState : Type 0 where
  pub processor : Processor
  pub memory : View

-- ---- reads

-- a byte that was read, and the free bytes that are left
pub record Reading : Type 0 where
  pub value : ℕ
  pub rest : List ℕ

-- a free read takes the next free byte
abbrev pub read_by : Bool → ℕ → List ℕ → Reading
read_by true fixed free = record { value = slice_index free 0; rest = drop 1 free }
read_by false fixed free = record { value = fixed; rest = free }

unfoldable pub read_at : View → ℕ → List ℕ → Reading
read_at m address free = read_by (is_free m address) (byte_at m address) free

-- the byte is read only if it is wanted
unfoldable pub read_where : Bool → View → ℕ → List ℕ → Reading
read_where true m address free = read_at m address free
read_where false m address free = record { value = 0; rest = free }

-- how many bytes an instruction has, by its first; an undefined opcode has one
unfoldable pub length_of : ℕ → ℕ
length_of opcode = elim (row_of opcode 0 0) [ None ↦ 1 | Some row ↦ row.length ]

-- under the HALT mark the first byte is read twice, so that PC moves by one less
abbrev pub mark_of : Processor → ℕ
mark_of p = if p.halt_mark then 1 else 0

-- where the second and the third byte of the instruction at PC stand
abbrev pub second_address : Processor → ℕ
second_address p = (p.pc + 1 - mark_of p) % 65536

abbrev pub third_address : Processor → ℕ
third_address p = (p.pc + 2 - mark_of p) % 65536

-- the bytes of the instruction at PC, three of them, 00 behind its length
unfoldable pub fetched : View → Processor → List ℕ → List ℕ
fetched m p free =
    let first = read_at m p.pc free in
    let length = length_of first.value in
    let second = read_where (nat_le 2 length) m (second_address p) first.rest in
    let third = read_where (nat_le 3 length) m (third_address p) second.rest in
    first.value ∷ second.value ∷ third.value ∷ []

-- what the reads of an instruction give
unfoldable pub loaded : View → Read → List ℕ → Loaded
loaded m read.Nothing free = record { low = 0; high = 0 }
loaded m (read.Byte address) free = record { low = (read_at m address free).value; high = 0 }
loaded m (read.Word address) free =
    let first = read_at m address free in
    record { low = first.value; high = (read_at m ((address + 1) % 65536) first.rest).value }

-- ---- one instruction

unfoldable pub ime_after : Ime → Ime
ime_after ime.Off = ime.Off
ime_after ime.Pending = ime.On
ime_after ime.On = ime.On

-- how far PC goes: STOP leaves it on the opcode (own)
unfoldable pub way_of : Op → ℕ → ℕ → ℕ
way_of op.Stop length mark = 0
way_of _ length mark = length - mark

-- an instruction was executed: pending interrupts become on, and no HALT mark is left
abbrev pub settled : Processor → Processor
settled p = record p { ime = ime_after p.ime; halt_mark = false }

-- the processor as an instruction begins its work, its bytes fetched
unfoldable pub advanced : Processor → Row → Processor
advanced p row = with_pc (settled p) ((p.pc + way_of row.op row.length (mark_of p)) % 65536)

-- the effect of a row, its bytes fetched
abbrev pub effect_at : BusState → Row → List ℕ → Effect
effect_at s row reads =
    let p = advanced s.processor row in
    let values = loaded s.memory (read_of row.op p) reads in
    effect_of row.op p values.low values.high

abbrev pub cycles_of : Row → Bool → ℕ
cycles_of row is_taken = if is_taken then row.cycles else row.cycles_not_taken

-- one instruction of the table
unfoldable pub executed : BusState → Row → List ℕ → BusState
executed s row reads =
    let effect = effect_at s row reads in
    record {
      processor = effect.processor;
      memory = passed (stored s.memory effect.write) (cycles_of row effect.is_taken);
    }

-- an undefined opcode locks the processor, PC on the opcode (own: 1 M-cycle)
unfoldable pub locked : BusState → BusState
locked s = record { processor = record (settled s.processor) { locked = true }; memory = passed s.memory 1 }

abbrev pub run_row : Option Row → BusState → List ℕ → BusState
run_row None s reads = locked s
run_row (Some row) s reads = executed s row reads

unfoldable pub run : BusState → List ℕ → List ℕ → BusState
run s fetch reads = run_row (decoded (fetched s.memory s.processor fetch)) s reads

-- ---- HALT's special cases and interrupts

-- interrupts become on, and PC stays on the HALT (own)
unfoldable pub halt_stay : BusState → BusState
halt_stay s = record { processor = record s.processor { ime = ime.On }; memory = passed s.memory 1 }

-- PC goes on, and the first byte of the next instruction will be read twice (own: 1 M-cycle)
unfoldable pub halt_bug : BusState → BusState
halt_bug s =
    record {
      processor = record s.processor { pc = (s.processor.pc + (1 - mark_of s.processor)) % 65536; halt_mark = true };
      memory = passed s.memory 1;
    }

-- the vector of interrupt i
abbrev pub vector : ℕ → ℕ
vector i = 0x40 + 8 * i

-- PC is pushed, and the handler begins with interrupts off
unfoldable pub dispatched : BusState → ℕ → BusState
dispatched s i =
    let p = s.processor in
    record {
      processor = record (with_pc (with_sp p ((p.sp + 65534) % 65536)) (vector i)) { ime = ime.Off };
      memory = passed (stored s.memory (write.Push p.sp p.pc)) 5;
    }

-- ---- events

-- the opcode at PC is HALT's; one that is free counts as it
abbrev pub has_halt : BusState → Bool
has_halt s = is_free s.memory s.processor.pc || (byte_at s.memory s.processor.pc == 0x76)

abbrev pub is_ime : Ime → Ime → Bool
is_ime ime.Off ime.Off = true
is_ime ime.Pending ime.Pending = true
is_ime ime.On ime.On = true
is_ime _ _ = false

-- IE has one of bits 0 to 4
abbrev pub has_enabled : BusState → Bool
has_enabled s = not (s.memory.storage.ie % 32 == 0)

-- IE has bit i
abbrev pub has_enabled_bit : BusState → ℕ → Bool
has_enabled_bit s i = s.memory.storage.ie / 2 ^ i % 2 == 1

abbrev pub is_running : BusState → Bool
is_running s = not s.processor.locked && not s.processor.stopped

-- n bytes
abbrev pub is_bytes : ℕ → List ℕ → Bool
is_bytes n xs = (length xs == n) && list_all (λ b. nat_lt b 256) xs

unfoldable pub is_possible : BusState → Event → Bool
is_possible s (event.Run fetch reads) = is_running s && is_bytes 3 fetch && is_bytes 2 reads
is_possible s event.HaltStay = is_running s && has_halt s && is_ime s.processor.ime ime.Pending && has_enabled s
is_possible s event.HaltBug = is_running s && has_halt s && is_ime s.processor.ime ime.Off && has_enabled s
is_possible s (event.Irq i) = is_running s && is_ime s.processor.ime ime.On && nat_lt i 5 && has_enabled_bit s i
is_possible s (event.Wait n) = true

abbrev pub waited : Bool → BusState → ℕ → BusState
waited true s n = record s { memory = passed s.memory n }
waited false s n = s

-- the state after an event that is possible; a locked or stopped machine changes no more
unfoldable pub happened : BusState → Event → BusState
happened s (event.Run fetch reads) = run s fetch reads
happened s event.HaltStay = halt_stay s
happened s event.HaltBug = halt_bug s
happened s (event.Irq i) = dispatched s i
happened s (event.Wait n) = waited (is_running s) s n

unfoldable pub only : Bool → BusState → BusState → BusState
only true s otherwise = s
only false s otherwise = otherwise

-- The state after an event. One that isn't possible changes nothing.
unfoldable pub next : BusState → Event → BusState
next s e = only (is_possible s e) (happened s e) s
