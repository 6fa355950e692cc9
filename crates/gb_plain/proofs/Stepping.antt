-- A step of the processor between events, with what was handed in.
use Rattle.std.proofs.Common.{◌≡◌, ℕ, ◌%◌, Bool, true, false, List, refl, ap, ◌∙◌, bit_and, not, ◌&&◌, ◌||◌, nat_lt, if◌then◌else◌}
use Rattle.gb_ops.specs.declared.registers.Processor.{Processor}
use Rattle.gb_ops.specs.declared.machine.Event.{Event}
use Rattle.gb_ops.specs.declared.machine.Event.TheVariants as event
use Rattle.gb_ops.specs.declared.registers.Ime.TheVariants as ime
use Rattle.gb_ops.specs.Accesses.{Joined, accesses_of, event_cycles}
use Rattle.gb_ops.specs.Machine as Machine
use Rattle.gb_ops.specs.Machine.{BusState}
use Rattle.gb_ops.specs.Play.{IsStep, MState}
use Rattle.gb_cpu.specs.Below.gb_accesses.Access.{HasFreeBytes}
use Rattle.gb_cpu.specs.Choice.{IsChoice, is_idle}
use Rattle.gb_cpu.specs.Step.{state}
use Rattle.gb_cpu.specs.declared.step.Stepped.{Stepped}
use Rattle.gb_plain.proofs.Taking.{took}
use Rattle.gb_plain.specs.Handed.{view_of, left, Takes, resting_cpu, IsStepWith, IsEvent}
use Rattle.gb_plain.specs.Shown.{PlainState, bus, shown, resting}
use Rattle.gb_plain.specs.declared.machine.Handed.{Handed}
use Rattle.gb_plain.specs.declared.machine.PlainMachine.{PlainMachine}

-- a machine as an event begins
abbrev pub begun : PlainState → Handed → PlainMachine
begun s h = record { state = s; is_starting = false; handed = h }

at_rest : (q : Processor) (rom : List ℕ) (s : MState) (starting : Bool) (to : BusState) → starting ≡ false → state q (shown rom s starting) ≡ to → state q (resting rom s) ≡ to
at_rest q rom s starting to none is = rw none at is

pub stepped :
    (s : PlainState) (h : Handed) (p q : Processor) (new : PlainMachine) (made : Stepped)
    → p ≡ s.machine.processor
    → IsStep (state p (view_of (begun s h))) made.event (state q (view_of new))
    → state q (view_of new) ≡ Machine.next (state p (view_of (begun s h))) made.event
    → Joined Takes (begun s h) (accesses_of (state p (view_of (begun s h))) made.event) new
    → IsChoice (resting_cpu p) (bit_and h.pending (s.machine.storage.ie % 32)) (state p (view_of (begun s h))) made.event
    → made.cycles ≡ event_cycles (state p (view_of (begun s h))) made.event
    → HasFreeBytes (state p (view_of (begun s h))) made.event
    → IsStepWith (left (begun s h)) h.pending (bus s.rom s.machine) made (state q (resting new.state.rom new.state.machine))
stepped s h p q new made is step next joined choice cycles free =
    let old = state p (view_of (begun s h)) in
    let began = bus s.rom s.machine in
    record {
      next = at_rest q new.state.rom new.state.machine new.is_starting (Machine.next began made.event) (step.starting refl) (rw is at next);
      choice = rw is at choice;
      cycles = rw is at cycles;
      took = rw is at (took old made.event (begun s h) new refl free joined);
    }

not_idle : (locked stopped b c d : Bool) → (not locked && not stopped && b && c && d) ≡ true → (locked || stopped) ≡ false
not_idle true stopped b c d h = absurd (let bad : false ≡ true = h in cc)
not_idle false true b c d h = absurd (let bad : false ≡ true = h in cc)
not_idle false false b c d h = refl

chosen : (idle : Bool) (e : Event) (i : ℕ) → idle ≡ false → e ≡ (if idle then event.Wait 0 else event.Irq i) → e ≡ event.Irq i
chosen true e i h is = absurd (let bad : true ≡ false = h in cc)
chosen false e i h is = is

irq_is_chosen :
    (s : BusState) (e : Event) (i : ℕ) → Machine.is_possible s (event.Irq i) ≡ true
    → e ≡ (if is_idle (resting_cpu s.processor) then event.Wait 0 else event.Irq i) → e ≡ event.Irq i
unfolding Machine.is_possible
irq_is_chosen s e i possible is =
    chosen (s.processor.locked || s.processor.stopped) e i
    (not_idle s.processor.locked s.processor.stopped (Machine.is_ime s.processor.ime ime.On) (nat_lt i 5) (Machine.has_enabled_bit s i) possible)
    is

pub irq :
    (s : PlainState) (h : Handed) (p q : Processor) (new : PlainMachine) (made : Stepped) (i : ℕ)
    → Machine.is_possible (bus s.rom s.machine) (event.Irq i) ≡ true
    → p ≡ s.machine.processor
    → IsStep (state p (view_of (begun s h))) made.event (state q (view_of new))
    → state q (view_of new) ≡ Machine.next (state p (view_of (begun s h))) made.event
    → made.event ≡ (if is_idle (resting_cpu p) then event.Wait 0 else event.Irq i)
    → made.cycles ≡ event_cycles (state p (view_of (begun s h))) made.event
    → IsEvent (bus s.rom s.machine) (event.Irq i) made.cycles (state q (resting new.state.rom new.state.machine))
irq s h p q new made i possible is step next choice cycles =
    let began = bus s.rom s.machine in
    let e : made.event ≡ event.Irq i = irq_is_chosen began made.event i possible (rw is at choice) in
    record {
      state = at_rest q new.state.rom new.state.machine new.is_starting (Machine.next began made.event) (step.starting refl) (rw is at next) ∙ ap (λ x. Machine.next began x) e;
      cycles = (let n : made.cycles ≡ event_cycles began made.event = rw is at cycles in n) ∙ ap (λ x. event_cycles began x) e;
    }
