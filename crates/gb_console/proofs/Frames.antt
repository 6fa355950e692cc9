-- A frame goes on only while M-cycles pass.
use Rattle.std.proofs.Common.{ℕ, zero, suc, ◌≡◌, ◌+◌, ◌%◌, ◌<◌, ◌≤◌, nat_le, Bool, true, false, ◌||◌, refl, inl, inr, Option, Some, None, arith}
use Rattle.std.proofs.lemmas.Bool.Decides.{nat_tests}
use Rattle.std.proofs.lemmas.Bool.{both_ways, false_from_ne_true}
use Rattle.std.proofs.lemmas.Option.{none-some}
use Rattle.gb_ops.specs.declared.machine.Event.{Event}
use Rattle.gb_ops.specs.declared.machine.Event.TheVariants as event
use Rattle.gb_ops.specs.Machine.{BusState, waited, is_running, is_possible, happened, only}
use Rattle.gb_ops.specs.Machine as Machine
use Rattle.gb_ops.specs.Accesses.{event_cycles}
use Rattle.gb_cpu.specs.Below.gb_timer.declared.irqs.Keys.{Keys}
use Rattle.gb_cpu.specs.Below.gb_bus.Contents.{Contents}
use Rattle.gb_cpu.specs.declared.step.Cpu.{Cpu}
use Rattle.gb_cpu.specs.Choice.{is_idle}
use Rattle.gb_console.specs.declared.frame.Ending.{Ending}
use Rattle.gb_console.specs.Console.{ConsoleState, IsChosen, shown}
use Rattle.gb_console.specs.Frame.{IsFrame, IsFrameStep, Goes, seconds_at, idle_ending, ending_by, ending_after}
use Rattle.gb_console.proofs.Cycles.{run_positive}
use Rattle.gb_console.proofs.Idle.{idle_stays}

-- ---- M-cycles

chosen_positive : (o : Option ℕ) (cpu : Cpu) (c : Contents) (s : BusState) (e : Event) → is_idle cpu ≡ false → IsChosen o cpu c e → 1 ≤ event_cycles s e
unfolding event_cycles
chosen_positive (Some i) cpu c s e h chosen = rw chosen (omega arith)
chosen_positive None cpu c s (event.Run fetch reads) h chosen = run_positive (Machine.fetched s.memory s.processor fetch) s reads
chosen_positive None cpu c s event.HaltStay h chosen = omega arith
chosen_positive None cpu c s event.HaltBug h chosen = omega arith
chosen_positive None cpu c s (event.Irq i) h chosen = omega arith
chosen_positive None cpu c s (event.Wait n) h (inl w) = absurd (both_ways _ h w.0)
chosen_positive None cpu c s (event.Wait n) h (inr w) = let one : n ≡ 1 = w.2 in omega arith

still : (l s p : Bool) → None ≡ ending_by l s p → (l ≡ false) × (s ≡ false) × (p ≡ false)
still true s p h = absurd (none-some _ h)
still false true p h = absurd (none-some _ h)
still false false true h = absurd (none-some _ h)
still false false false h = (refl, refl, refl)

not_passed : (a k n : ℕ) → 1 ≤ k → nat_le 17556 (a + k) ≡ false → n ≡ (a + k) % 17556 → (a < n) × (n < 17556)
not_passed a k n positive test is = grind (arith, nat_tests)

or_false : (a b : Bool) → a ≡ false → b ≡ false → (a || b) ≡ false
or_false a b ha hb = rw (ha, hb) refl

-- a step that doesn't end a frame passes M-cycles of it
pub forward : (old : ConsoleState) (keys : Keys) (seconds : ℕ) (new : ConsoleState) → IsFrameStep old keys seconds None new → (old.cycles < new.cycles) × (new.cycles < 17556)
unfolding ending_after
forward old keys seconds new f =
    let goes = still _ _ _ f.ending in
    let running : is_idle old.cpu ≡ false =
    false_from_ne_true _ (λ (idle : is_idle old.cpu ≡ true).
    both_ways _ (or_false _ _ goes.0 goes.1) (idle_stays old keys seconds f.event new f.step idle)) in
    not_passed old.cycles _ new.cycles (chosen_positive _ old.cpu _ (shown old) f.event running f.step.choice) goes.2 f.step.cycles

-- one more step that doesn't end it
pub goes_on : (old : ConsoleState) (keys : Keys) (seconds n passed : ℕ) (before new : ConsoleState)
    → Goes old keys seconds n before → passed ≡ seconds_at n seconds → IsFrameStep before keys passed None new → (m : ℕ) × Goes old keys seconds m new × (0 ≡ seconds_at m seconds)
goes_on old keys seconds n passed before new goes is f = (suc n, (before, goes, rw is at f), refl)

-- ---- frames of a locked or stopped console

pub ends_at_once : (old : ConsoleState) (keys : Keys) (seconds : ℕ) (new : ConsoleState) → is_idle old.cpu ≡ true → IsFrameStep old keys seconds None new → ⊥
unfolding ending_after
ends_at_once old keys seconds new h f =
    let goes = still _ _ _ f.ending in
    both_ways _ (or_false _ _ goes.0 goes.1) (idle_stays old keys seconds f.event new f.step h)

pub no_steps : (old : ConsoleState) (keys : Keys) (seconds n : ℕ) (last : ConsoleState) → is_idle old.cpu ≡ true → Goes old keys seconds n last → last ≡ old
no_steps old keys seconds zero last h goes = goes
no_steps old keys seconds (suc n) last h goes =
    let before_is : goes.0 ≡ old = no_steps old keys seconds n goes.0 h goes.1 in
    let f : IsFrameStep old keys (seconds_at n seconds) None last = rw before_is at goes.2 in
    absurd (ends_at_once old keys (seconds_at n seconds) last h f)

some_same : (x y : Ending) → Some x ≡ Some y → x ≡ y
some_same x y h = cc

ends_idle : (l s p : Bool) (end : Ending) → (l || s) ≡ true → Some end ≡ ending_by l s p → end ≡ idle_ending l
ends_idle true s p end h is = some_same _ _ is
ends_idle false true p end h is = some_same _ _ is
ends_idle false false p end h is = absurd (both_ways false refl h)

pub idle_frame : (old : ConsoleState) (keys : Keys) (seconds : ℕ) (end : Ending) (new : ConsoleState) → is_idle old.cpu ≡ true → new ≡ old → IsFrame old keys seconds end new → end ≡ idle_ending old.cpu.processor.locked
unfolding ending_after
idle_frame old keys seconds end new h same f =
    let idle : is_idle new.cpu ≡ true = rw same h in
    let kind : end ≡ idle_ending new.cpu.processor.locked = ends_idle _ _ _ end idle f.ends.ending in
    rw same at kind

-- a step that changes nothing where the console is locked or stopped, behind steps of its frame
pub idle_steps : (old : ConsoleState) (keys : Keys) (seconds n : ℕ) (last new : ConsoleState) → Goes old keys seconds n last → (is_idle last.cpu ≡ true → new ≡ last) → is_idle old.cpu ≡ true → new ≡ old
idle_steps old keys seconds n last new goes stays h =
    let last_is : last ≡ old = no_steps old keys seconds n last h goes in
    let idle : is_idle last.cpu ≡ true = rw last_is h in
    let same : new ≡ last = stays idle in
    rw last_is at same
