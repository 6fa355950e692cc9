-- A locked or stopped console stays as it is.
use Rattle.std.proofs.Common.{ℕ, ◌≡◌, ◌+◌, ◌%◌, ◌<◌, Bool, true, false, not, ◌&&◌, ◌||◌, refl, sym, ap, inl, inr, List, Option, Some, None, arith}
use Rattle.std.proofs.lemmas.Bool.{both_ways}
use Rattle.std.proofs.lemmas.Option.{none-some}
use Rattle.gb_ops.specs.declared.machine.Event.{Event}
use Rattle.gb_ops.specs.declared.machine.Event.TheVariants as event
use Rattle.gb_ops.specs.Machine.{BusState, waited, is_running, is_possible, happened, only}
use Rattle.gb_ops.specs.Machine as Machine
use Rattle.gb_ops.specs.Accesses.{accesses_of, event_cycles}
use Rattle.gb_ops.specs.Play.{MState, within, outside}
use Rattle.gb_ops.specs.Play as Play
use Rattle.gb_ops.specs.declared.registers.Processor.{Processor}
use Rattle.gb_cpu.specs.Below.gb_timer.declared.irqs.Keys.{Keys}
use Rattle.gb_cpu.specs.Below.gb_bus.Contents.{Contents}
use Rattle.gb_cpu.specs.declared.step.Cpu.{Cpu}
use Rattle.gb_cpu.specs.Choice.{IsChoice, is_idle}
use Rattle.gb_console.specs.Console.{ConsoleState, IsConsoleStep, IsChosen, interrupt, taken, rom_of, machine_of}

-- ---- a locked or stopped console

neither : (a b : Bool) → (a || b) ≡ true → (not a && not b) ≡ false
neither true b h = refl
neither false true h = refl
neither false false h = absurd (both_ways false refl h)

not_waited : (b : Bool) (s : BusState) (n : ℕ) → b ≡ false → waited b s n ≡ s
not_waited false s n h = refl
not_waited true s n h = absurd (both_ways true h refl)

next_idle : (rom : List ℕ) (s : MState) → (s.processor.locked || s.processor.stopped) ≡ true → Play.next rom s (event.Wait 0) ≡ s
unfolding Play.next Machine.next only is_possible happened within outside
next_idle rom s h = ap outside (not_waited (is_running (within rom s)) (within rom s) 0 (neither _ _ h))

idle_event : (cpu : Cpu) (shared : ℕ) (s : BusState) (e : Event) → is_idle cpu ≡ true → IsChoice cpu shared s e → e ≡ event.Wait 0
idle_event cpu shared s (event.Run fetch reads) h c = absurd (both_ways _ c.0 h)
idle_event cpu shared s event.HaltStay h c = absurd (both_ways _ c.0 h)
idle_event cpu shared s event.HaltBug h c = absurd (both_ways _ c.0 h)
idle_event cpu shared s (event.Irq i) h c = absurd c
idle_event cpu shared s (event.Wait n) h (inl w) = ap event.Wait w.1
idle_event cpu shared s (event.Wait n) h (inr w) = absurd (both_ways _ w.0 h)

no_interrupt : (cpu : Cpu) (c : Contents) → is_idle cpu ≡ true → interrupt cpu c ≡ None
unfolding interrupt
no_interrupt cpu c h = rw h refl

idle_chosen : (o : Option ℕ) (cpu : Cpu) (c : Contents) (e : Event) → o ≡ None → is_idle cpu ≡ true → IsChosen o cpu c e → e ≡ event.Wait 0
idle_chosen None cpu c e no_irq h chosen = idle_event cpu _ _ e h chosen
idle_chosen (Some i) cpu c e no_irq h chosen = absurd (none-some i (sym no_irq))

pub idle_waits : (old : ConsoleState) (keys : Keys) (seconds : ℕ) (e : Event) (new : ConsoleState) → IsConsoleStep old keys seconds e new → is_idle old.cpu ≡ true → e ≡ event.Wait 0
idle_waits old keys seconds e new s h = idle_chosen _ old.cpu (taken old keys seconds) e (no_interrupt old.cpu _ h) h s.choice

idle_machine : (old : ConsoleState) (keys : Keys) (seconds : ℕ) (e : Event) (new : ConsoleState) → IsConsoleStep old keys seconds e new → is_idle old.cpu ≡ true → machine_of new ≡ machine_of old
idle_machine old keys seconds e new s h =
    let stays : machine_of new ≡ Play.next (rom_of old) (machine_of old) (event.Wait 0) = rw (idle_waits old keys seconds e new s h) at s.machine in
    rw (next_idle _ (machine_of old) h) at stays

pub idle_stays : (old : ConsoleState) (keys : Keys) (seconds : ℕ) (e : Event) (new : ConsoleState) → IsConsoleStep old keys seconds e new → is_idle old.cpu ≡ true → is_idle new.cpu ≡ true
idle_stays old keys seconds e new s h =
    let same : machine_of new ≡ machine_of old = idle_machine old keys seconds e new s h in
    let idle : is_idle new.cpu ≡ is_idle old.cpu = ap (λ (m : MState). m.processor.locked || m.processor.stopped) same in
    rw idle h

abbrev console_of : Processor → Bool → Contents → ℕ → ConsoleState
console_of p w c n = record { cpu = record { processor = p; is_waiting = w }; contents = c; cycles = n }

same_parts : (p q : Processor) (v w : Bool) (c d : Contents) (m n : ℕ) → p ≡ q → v ≡ w → c ≡ d → m ≡ n → console_of p v c m ≡ console_of q w d n
same_parts p q v w c d m n hp hv hc hm = rw (hp, hv, hc, hm) refl

no_cycles : (m n : ℕ) → m < 17556 → n ≡ (m + 0) % 17556 → n ≡ m
no_cycles m n h is = omega arith

pub idle_same : (old : ConsoleState) (keys : Keys) (seconds : ℕ) (e : Event) (new : ConsoleState) → IsConsoleStep old keys seconds e new → old.cycles < 17556 → is_idle old.cpu ≡ true → new ≡ old
unfolding taken accesses_of event_cycles
idle_same old keys seconds e new s small h =
    let waits = idle_waits old keys seconds e new s h in
    let joined : new.contents ≡ taken old keys seconds = rw waits at s.joined in
    let contents : new.contents ≡ old.contents = rw h at joined in
    let waiting : new.cpu.is_waiting ≡ old.cpu.is_waiting = rw waits at s.waiting in
    let cycles : new.cycles ≡ (old.cycles + 0) % 17556 = rw waits at s.cycles in
    same_parts _ _ _ _ _ _ _ _ (ap (λ (m : MState). m.processor) (idle_machine old keys seconds e new s h)) waiting contents (no_cycles old.cycles new.cycles small cycles)
