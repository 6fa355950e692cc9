-- An instruction of which nothing is told but its M-cycles: its event is some event.
use Rattle.std.specs.Prelude.{◌≡◌, ℕ, ◌<◌, ◌&&◌, ◌++◌, nat_le, Bool, true, false, List, [], ◌∷◌, Option}
use Rattle.gb_ops.specs.declared.machine.Event.{Event}
use Rattle.gb_ops.specs.declared.op.Row.{Row}
use Rattle.gb_ops.specs.declared.registers.Processor.{Processor}
use Rattle.gb_ops.specs.Accesses.{Access, Reads, Joined, where_wanted, row_log, row_cycles, accesses_of, event_cycles}
use Rattle.gb_ops.specs.Machine as Machine
use Rattle.gb_ops.specs.Machine.{length_of, second_address, third_address}
use Rattle.gb_ops.specs.Memory.{View, is_free}
use Rattle.gb_ops.specs.Play.{IsStep}
use Rattle.gb_ops.specs.Table.{decoded}
use Rattle.gb_cpu.specs.declared.step.Cpu.{Cpu}
use Rattle.gb_accesses.specs.Access.{Gave, row_free_reads, HasFreeBytes}
use Rattle.gb_accesses.specs.Plain.{IsPlain}
use Rattle.gb_cpu.specs.Choice.{IsChoice, is_idle, waits_after}
use Rattle.gb_cpu.specs.Step.{state}

-- an instruction comes next; no HALT mark is left, and interrupts don't wait
pub record IsReady (cpu : Cpu) : Type 0 where
  pub plain : IsPlain cpu.processor
  pub running : is_idle cpu ≡ false
  pub awake : cpu.is_waiting ≡ false

-- a row's instruction behind its fetch, of n M-cycles, leads from a processor and a bus to others
pub record IsRowRun {S : Type 0} (shows : S → View) (does : S → Access → S → Type 0) (row : Option Row) (p : Processor) (old : S) (n : ℕ) (q : Processor) (new : S) : Type 0 where
  pub reads : List ℕ
  pub leads : state q (shows new) ≡ Machine.run_row row (state p (shows old)) reads
  pub joined : Joined does old (row_log row (state p (shows old)) reads) new
  pub cycles : n ≡ row_cycles row (state p (shows old)) reads
  pub free : reads ≡ row_free_reads row (state p (shows old)) reads
  pub in_range : Machine.is_bytes 2 reads ≡ true

-- the instruction of an opcode that was read, of n M-cycles: its other bytes are read, and its row's instruction follows
pub record IsOpcodeRun {S : Type 0} (shows : S → View) (does : S → Access → S → Type 0) (opcode : ℕ) (p : Processor) (old : S) (n : ℕ) (q : Processor) (new : S) : Type 0 where
  pub second : ℕ
  pub third : ℕ
  pub is_second_free : Bool
  pub is_third_free : Bool
  pub mid : S
  pub view : shows mid ≡ shows old
  pub second_gave : Gave (nat_le 2 (length_of opcode)) (shows old) (second_address p) is_second_free second
  pub third_gave : Gave (nat_le 3 (length_of opcode)) (shows old) (third_address p) is_third_free third
  pub second_free : is_second_free ≡ (nat_le 2 (length_of opcode) && is_free (shows old) (second_address p))
  pub third_free : is_third_free ≡ (nat_le 3 (length_of opcode) && is_free (shows old) (third_address p))
  pub second_byte : second < 256
  pub third_byte : third < 256
  pub joined :
      Joined does old (where_wanted (nat_le 2 (length_of opcode)) (Reads (second_address p) second) ++ where_wanted (nat_le 3 (length_of opcode)) (Reads (third_address p) third)) mid
  pub runs : IsRowRun shows does (decoded (opcode ∷ second ∷ third ∷ [])) p mid n q new

-- the event of a step, of n M-cycles, leads from a processor and a bus that shares these interrupts to others
pub record IsSomeStep {S : Type 0} (shows : S → View) (does : S → Access → S → Type 0) (shared : ℕ) (cpu : Cpu) (old : S) (n : ℕ) (after : Cpu) (new : S) : Type 0 where
  pub event : Event
  pub machine : IsStep (state cpu.processor (shows old)) event (state after.processor (shows new))
  pub joined : Joined does old (accesses_of (state cpu.processor (shows old)) event) new
  pub choice : IsChoice cpu shared (state cpu.processor (shows old)) event
  pub cycles : n ≡ event_cycles (state cpu.processor (shows old)) event
  pub free : HasFreeBytes (state cpu.processor (shows old)) event
  pub waiting : after.is_waiting ≡ waits_after cpu (state cpu.processor (shows old)) event
