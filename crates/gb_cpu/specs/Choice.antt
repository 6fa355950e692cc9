use Rattle.std.specs.Prelude.{ℕ, ◌≡◌, ◌≢◌, ◌⊎◌, Bool, true, false, ◌||◌, ◌&&◌, ◌==◌, slice_index}
use Rattle.gb_ops.specs.declared.registers.Ime.TheVariants as ime
use Rattle.gb_ops.specs.declared.machine.Event.{Event}
use Rattle.gb_ops.specs.declared.machine.Event.TheVariants as event
use Rattle.gb_ops.specs.Machine.{BusState, fetched, has_halt}
use Rattle.gb_cpu.specs.declared.step.Cpu.{Cpu}

abbrev pub is_idle : Cpu → Bool
is_idle cpu = cpu.processor.locked || cpu.processor.stopped

abbrev pub waits : Cpu → ℕ → Bool
waits cpu shared = cpu.is_waiting && (shared == 0)

-- the event that a step chooses: a locked or stopped processor does nothing, a waiting one waits
-- until an interrupt is shared, a HALT with a shared interrupt is special where interrupts are not on. That what was read
-- at PC is a HALT's opcode, where the read was free too, is told by the event's accesses.
abbrev pub IsChoice : Cpu → ℕ → BusState → Event → Type 0
IsChoice cpu shared s (event.Run fetch reads) =
    (is_idle cpu ≡ false) × (waits cpu shared ≡ false)
    × (slice_index (fetched s.memory s.processor fetch) 0 ≡ 0x76 → shared ≢ 0 → cpu.processor.ime ≡ ime.On)
IsChoice cpu shared s event.HaltStay =
    (is_idle cpu ≡ false) × (waits cpu shared ≡ false) × (cpu.processor.ime ≡ ime.Pending) × (shared ≢ 0) × (has_halt s ≡ true)
IsChoice cpu shared s event.HaltBug =
    (is_idle cpu ≡ false) × (waits cpu shared ≡ false) × (cpu.processor.ime ≡ ime.Off) × (shared ≢ 0) × (has_halt s ≡ true)
IsChoice cpu shared s (event.Irq i) = ⊥
IsChoice cpu shared s (event.Wait n) =
    ((is_idle cpu ≡ true) × (n ≡ 0)) ⊎ ((is_idle cpu ≡ false) × (waits cpu shared ≡ true) × (n ≡ 1))

-- whether the processor waits after an event: behind a HALT, until an interrupt is shared
abbrev pub waits_after : Cpu → BusState → Event → Bool
waits_after cpu s (event.Run fetch reads) = slice_index (fetched s.memory s.processor fetch) 0 == 0x76
waits_after cpu s event.HaltStay = false
waits_after cpu s event.HaltBug = false
waits_after cpu s (event.Irq i) = false
waits_after cpu s (event.Wait n) = cpu.is_waiting
