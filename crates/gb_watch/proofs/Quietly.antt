-- Steps without a fault.
use Rattle.std.proofs.Common.{◌≡◌, ℕ, zero, suc, ◌+◌, nat_le, Bool, true, false, if◌then◌else◌, refl, sym, ap, ◌∙◌, Option, Some, None}
use Rattle.gb_ops.specs.declared.machine.Event.{Event}
use Rattle.gb_ops.specs.declared.machine.Event.TheVariants as event
use Rattle.gb_ops.specs.declared.machine.Faults.{Faults}
use Rattle.gb_ops.specs.declared.machine.Region.{Region}
use Rattle.gb_ops.specs.declared.registers.Processor.{Processor}
use Rattle.gb_ops.specs.Accesses.{event_cycles}
use Rattle.gb_ops.specs.Faults.{no_faults, event_faults}
use Rattle.gb_ops.specs.Memory.{View}
use Rattle.gb_ops.specs.Machine.{BusState, is_possible}
use Rattle.gb_ops.specs.Play.{faults, faults_where, within}
use Rattle.gb_console.specs.Below.gb_timer.declared.irqs.Keys.{Keys}
use Rattle.gb_console.specs.Below.gb_timer.Joypad.{key_bits}
use Rattle.gb_console.specs.declared.frame.Ending.{Ending}
use Rattle.gb_console.specs.Console.{ConsoleState, IsConsoleStep, IsChosen, interrupt, taken, told, shown, rom_of, machine_of}
use Rattle.gb_console.specs.Frame.{IsFrameStep, IsPassing, Goes, Rests, ending_by, ending_after, seconds_at}
use Rattle.gb_console.proofs.Going.{no_irq, told_again, passing_step}
use Rattle.gb_faults.specs.Below.gb_cpu.Choice.{IsChoice, is_idle}
use Rattle.gb_faults.specs.Below.gb_cpu.Met.{HasMet}
use Rattle.gb_faults.specs.Below.gb_cpu.declared.step.Cpu.{Cpu}
use Rattle.gb_faults.specs.Below.gb_cpu.declared.step.Met.{Met}
use Rattle.gb_faults.specs.Below.gb_cpu.Below.gb_bus.Contents.{Contents}
use Rattle.gb_faults.specs.Below.gb_cpu.Below.gb_bus.Access.{shared}
use Rattle.gb_faults.specs.Below.gb_cpu.Step.{state}
use Rattle.gb_faults.specs.Limits.{limits_of}
use Rattle.gb_faults.specs.Meeting.{met_faults}
use Rattle.gb_faults.specs.Quiet.{IsQuiet}
use Rattle.gb_faults.proofs.Meeting.{met_faults_are}
use Rattle.gb_watch.specs.Ready.{IsSurelyReady}
use Rattle.gb_watch.specs.Watch.{faults_at, IsFaultlessStep, GoesFaultless}

-- ---- the faults of a console's events

within_shown : (s : ConsoleState) → s.contents.view.starting ≡ false → within (rom_of s) (machine_of s) ≡ shown s
unfolding within
within_shown s h =
    λ i. record { processor = s.cpu.processor; memory = record { rom = s.contents.view.rom; storage = s.contents.view.storage; starting = sym h i } }

by_possible : (b : Bool) (f : Faults) → b ≡ true → faults_where b f ≡ f
by_possible true f h = refl
by_possible false f h = absurd (let bad : false ≡ true = h in cc)

pub faults_shown : (region : Region) (s : ConsoleState) (e : Event) → s.contents.view.starting ≡ false → is_possible (shown s) e ≡ true → faults_at region s e ≡ event_faults region (shown s) e
unfolding faults
faults_shown region s e rests possible = rw (within_shown s rests) (by_possible (is_possible (shown s) e) (event_faults region (shown s) e) possible)

-- the faults that are computed by what an event met
pub faults_met : (region : Region) (s : ConsoleState) (e : Event) (met : Met) → s.contents.view.starting ≡ false → is_possible (shown s) e ≡ true → HasMet (shown s) e met
    → met_faults region (limits_of s.contents.view) s.cpu.processor e met ≡ faults_at region s e
faults_met region s e met rests possible h = met_faults_are region (shown s) e met h ∙ sym (faults_shown region s e rests possible)

pub faults_told : (region : Region) (s : ConsoleState) (e : Event) (met : Met) (limits : View) (p : Processor) (f : Faults) (m : Contents) → f ≡ met_faults region limits p e met → limits ≡ limits_of m.view
    → m ≡ s.contents → p ≡ s.cpu.processor → s.contents.view.starting ≡ false → is_possible (shown s) e ≡ true → HasMet (shown s) e met → f ≡ faults_at region s e
faults_told region s e met limits p f m is limits_are memory_is processor_is rests possible h =
    is ∙ ap (λ (l : View). met_faults region l p e met) (limits_are ∙ ap (λ (n : Contents). limits_of n.view) memory_is)
    ∙ ap (λ (q : Processor). met_faults region (limits_of s.contents.view) q e met) processor_is ∙ faults_met region s e met rests possible h

pub ending_told : (old : ConsoleState) (e : Event) (new : ConsoleState) (n : ℕ) (ends : Option Ending) → ends ≡ ending_by new.cpu.processor.locked new.cpu.processor.stopped (nat_le 17556 n)
    → n ≡ old.cycles + event_cycles (shown old) e → ends ≡ ending_after old e new
unfolding ending_after
ending_told old e new n ends is count = is ∙ ap (λ (k : ℕ). ending_by new.cpu.processor.locked new.cpu.processor.stopped (nat_le 17556 k)) count

none_where : (b : Bool) (f : Faults) → f ≡ no_faults → faults_where b f ≡ no_faults
none_where true f h = h
none_where false f h = refl

pub faultless_shown : (region : Region) (s : ConsoleState) (e : Event) → s.contents.view.starting ≡ false → event_faults region (shown s) e ≡ no_faults → faults_at region s e ≡ no_faults
unfolding faults
faultless_shown region s e rests h = rw (within_shown s rests) (none_where (is_possible (shown s) e) (event_faults region (shown s) e) h)

-- ---- an instruction that surely has none

quiet_choice : (cpu : Cpu) (n : ℕ) (s t : BusState) (region : Region) (e : Event) → IsChoice cpu n s e → IsQuiet region t → event_faults region t e ≡ no_faults
unfolding event_faults
quiet_choice cpu n s t region (event.Run fetch reads) choice q = q.runs fetch reads
quiet_choice cpu n s t region event.HaltStay choice q = q.halts
quiet_choice cpu n s t region event.HaltBug choice q = q.halts
quiet_choice cpu n s t region (event.Irq i) choice q = absurd choice
quiet_choice cpu n s t region (event.Wait m) choice q = refl

quiet_chosen : (o : Option ℕ) (cpu : Cpu) (c : Contents) (t : BusState) (region : Region) (e : Event) → o ≡ None → IsChosen o cpu c e → IsQuiet region t → event_faults region t e ≡ no_faults
quiet_chosen None cpu c t region e none choice q = quiet_choice cpu (shared c) (state cpu.processor c.view) t region e choice q
quiet_chosen (Some i) cpu c t region e none choice q = absurd (let bad : Some i ≡ None = none in cc)

taken_by : (b : Bool) (c : Contents) (keys : Keys) → c.pad.keys ≡ key_bits keys → (if b then c else told c keys 0) ≡ c
taken_by true c keys h = refl
taken_by false c keys h = told_again c keys h

taken_same : (s : ConsoleState) (keys : Keys) → s.contents.pad.keys ≡ key_bits keys → taken s keys 0 ≡ s.contents
unfolding taken
taken_same s keys h = taken_by (is_idle s.cpu) s.contents keys h

pub quiet_step : (region : Region) (old : ConsoleState) (keys : Keys) (e : Event) (new : ConsoleState) → IsSurelyReady region old keys → IsConsoleStep old keys 0 e new → faults_at region old e ≡ no_faults
quiet_step region old keys e new r step =
    let none : shared (taken old keys 0) ≡ 0 = ap shared (taken_same old keys r.ready.held) ∙ r.ready.unshared in
    faultless_shown region old e r.rests
    (quiet_chosen (interrupt old.cpu (taken old keys 0)) old.cpu (taken old keys 0) (shown old) region e (no_irq old.cpu (taken old keys 0) none) step.choice r.quiet)

pub quiet_passing : (region : Region) (old : ConsoleState) (keys : Keys) (passed : Bool) (ends : Option Ending) (new : ConsoleState) → IsSurelyReady region old keys → IsPassing old keys passed new
    → ends ≡ ending_by new.cpu.processor.locked new.cpu.processor.stopped passed → IsFaultlessStep region old keys 0 ends new
quiet_passing region old keys passed ends new r p is =
    let f : IsFrameStep old keys 0 ends new = passing_step old keys passed ends new p is in
    record { event = f.event; step = f.step; ending = f.ending; faultless = quiet_step region old keys f.event new r f.step }

-- ---- waits

wait_faultless : (region : Region) (s : ConsoleState) (n : ℕ) → faults_at region s (event.Wait n) ≡ no_faults
unfolding faults is_possible event_faults
wait_faultless region s n = refl

no_seconds : (n : ℕ) → seconds_at n 0 ≡ 0
no_seconds zero = refl
no_seconds (suc n) = refl

pub rests_go : (region : Region) (k : ℕ) (old : ConsoleState) (keys : Keys) (new : ConsoleState) → Rests old keys k new → GoesFaultless region old keys 0 k new
rests_go region zero old keys new r = r
rests_go region (suc k) old keys new r =
    (r.0, rests_go region k old keys r.0 r.1, rw (no_seconds k) (record { event = event.Wait 1; step = r.2; ending = r.3; faultless = wait_faultless region r.0 1 }))

-- ---- steps are steps of a frame

pub frame_step : (region : Region) (old : ConsoleState) (keys : Keys) (seconds : ℕ) (ends : Option Ending) (new : ConsoleState) → IsFaultlessStep region old keys seconds ends new → IsFrameStep old keys seconds ends new
frame_step region old keys seconds ends new f = record { event = f.event; step = f.step; ending = f.ending }

pub frame_goes : (region : Region) (old : ConsoleState) (keys : Keys) (seconds n : ℕ) (new : ConsoleState) → GoesFaultless region old keys seconds n new → Goes old keys seconds n new
frame_goes region old keys seconds zero new g = g
frame_goes region old keys seconds (suc n) new g = (g.0, frame_goes region old keys seconds n g.0 g.1, frame_step region g.0 keys (seconds_at n seconds) None new g.2)
