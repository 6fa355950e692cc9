-- Steps behind a frame's first: without seconds, with the same keys.
use Rattle.std.proofs.Common.{ℕ, zero, suc, ◌≡◌, ◌+◌, ◌-◌, ◌%◌, ◌<◌, ◌≤◌, nat_le, Bool, true, false, ◌||◌, not, ◌&&◌, if◌then◌else◌, refl, sym, ap, subst, ◌∙◌, inr, List, [], ◌∷◌, Option, Some, None, arith}
use Rattle.std.proofs.lemmas.Bool.{both_ways}
use Rattle.std.proofs.lemmas.Bool.Decides.{nat_tests}
use Rattle.gb_ops.specs.declared.machine.Event.{Event}
use Rattle.gb_ops.specs.declared.machine.Event.TheVariants as event
use Rattle.gb_ops.specs.Accesses.{Joined, Passes, accesses_of, event_cycles}
use Rattle.gb_ops.specs.Machine.{BusState, is_ime, is_running, is_possible, happened, only, waited}
use Rattle.gb_ops.specs.Machine as Machine
use Rattle.gb_ops.specs.Memory.{View, passed}
use Rattle.gb_ops.specs.Play.{MState, within, outside}
use Rattle.gb_ops.specs.Play as Play
use Rattle.gb_ops.specs.declared.registers.Ime.TheVariants as ime
use Rattle.gb_ops.specs.declared.registers.Processor.{Processor}
use Rattle.gb_cpu.specs.Below.gb_mbc.Clock.{ClockState, seconds_later}
use Rattle.gb_cpu.specs.Below.gb_mbc.Clock as Clock
use Rattle.gb_cpu.specs.Below.gb_timer.declared.irqs.Keys.{Keys}
use Rattle.gb_cpu.specs.Below.gb_timer.Interrupts.{next_irq, highest_pending}
use Rattle.gb_cpu.specs.Below.gb_timer.Joypad.{Pad, key_bits, is_requested}
use Rattle.gb_cpu.proofs.Below.gb_timer_laws.Holding.{unchanged}
use Rattle.gb_verify.specs.Below.gb_abs_memory.Sound.{IsRom}
use Rattle.gb_cpu.specs.Below.gb_bus.Contents.{Contents}
use Rattle.gb_cpu.specs.Below.gb_bus.Registers.{with_pad}
use Rattle.gb_cpu.specs.Below.gb_bus.Screen.{pictured}
use Rattle.gb_cpu.specs.Below.gb_bus.Access.{IsAccessed, shared, advanced}
use Rattle.gb_cpu.specs.Below.gb_bus.Waiting.{Waits}
use Rattle.gb_cpu.specs.declared.step.Cpu.{Cpu}
use Rattle.gb_cpu.specs.Choice.{IsChoice, is_idle}
use Rattle.gb_cpu.specs.Run as Run
use Rattle.gb_cpu.specs.Step.{state}
use Rattle.gb_console.specs.declared.frame.Ending.{Ending}
use Rattle.gb_console.specs.declared.frame.Ending.TheVariants as ending
use Rattle.gb_console.specs.Console.{ConsoleState, IsConsoleStep, IsChosen, IsReachable, interrupt, taken, told, shown, rom_of, machine_of}
use Rattle.gb_console.specs.Frame.{IsFrame, IsFrameStep, Goes, Rests, IsSomeStep, IsPassing, HasGoneOn, HasGone, seconds_at, ending_by, ending_after}
use Rattle.gb_console.proofs.Interrupts.{shared_irq}
use Rattle.gb_console.proofs.Stepping.{IsEvent, IsKept, step_of, step_keeps}
use Rattle.gb_console.proofs.Reaching.{next_reachable}
use Rattle.gb_console.proofs.Frames.{forward, ends_at_once, no_steps}

-- ---- told the same once more

same_pad : (c : Contents) (pad : Pad) → pad ≡ c.pad → with_pad c pad ≡ c
same_pad c pad e = rw (e, unchanged c.pad) refl

same_clock : (c : Contents) → record c { clock = Clock.advanced c.clock 0 } ≡ c
unfolding Clock.advanced seconds_later
same_clock c = refl

pub told_again : (c : Contents) (keys : Keys) → c.pad.keys ≡ key_bits keys → told c keys 0 ≡ c
told_again c keys h =
    let pad : record c.pad { keys = key_bits keys } ≡ c.pad = λ i. record c.pad { keys = sym h i } in
    ap (λ (d : Contents). record d { clock = Clock.advanced d.clock 0 }) (same_pad c _ pad) ∙ same_clock c

taken_again : (b : Bool) (c : Contents) (keys : Keys) → c.pad.keys ≡ key_bits keys → c ≡ (if b then c else told c keys 0)
taken_again true c keys h = refl
taken_again false c keys h = sym (told_again c keys h)

-- ---- no interrupt

none_of : (on : Bool) (n : ℕ) → n ≡ 0 → next_irq on n n ≡ None
unfolding next_irq highest_pending
none_of true n e = rw e refl
none_of false n e = refl

where_running : (b : Bool) (o : Option ℕ) → o ≡ None → (if b then None else o) ≡ None
where_running true o h = refl
where_running false o h = h

pub no_irq : (cpu : Cpu) (c : Contents) → shared c ≡ 0 → interrupt cpu c ≡ None
unfolding interrupt
no_irq cpu c h =
    where_running (is_idle cpu) _ (sym (shared_irq (is_ime cpu.processor.ime ime.On) c) ∙ none_of (is_ime cpu.processor.ime ime.On) (shared c) h)

-- ---- an instruction

abbrev console_of : Cpu → Contents → ℕ → ConsoleState
console_of cpu c cycles = record { cpu = cpu; contents = c; cycles = cycles }

chosen : (o : Option ℕ) (cpu : Cpu) (c : Contents) (e : Event) → o ≡ None → IsChoice cpu (shared c) (state cpu.processor c.view) e → IsChosen o cpu c e
chosen None cpu c e h choice = choice
chosen (Some i) cpu c e h choice = absurd (let bad : Some i ≡ None = h in cc)

step_once : (cpu after : Cpu) (c d : Contents) (cycles n later : ℕ) (keys : Keys)
    → Run.IsSomeStep (λ (m : Contents). m.view) IsAccessed (shared c) cpu c n after d
    → shared c ≡ 0 → c.pad.keys ≡ key_bits keys → c.view.starting ≡ false → later ≡ (cycles + n) % 17556
    → IsSomeStep (console_of cpu c cycles) keys n (console_of after d later)
step_once cpu after c d cycles n later keys s none held settled is =
    record {
      event = s.event;
      step =
          step_of (console_of cpu c cycles) keys 0 c s.event (console_of after d later) (taken_again (is_idle cpu) c keys held) settled
          (record {
            machine = s.machine;
            joined = s.joined;
            choice = chosen _ cpu c s.event (no_irq cpu c none) s.choice;
            free = s.free;
            waiting = s.waiting;
            cycles = is ∙ ap (λ (k : ℕ). (cycles + k) % 17556) s.cycles;
          });
      cycles = s.cycles;
    }

pub some_step : (cpu after : Cpu) (c b d : Contents) (cycles n later : ℕ) (keys : Keys) → b ≡ c
    → Run.IsSomeStep (λ (m : Contents). m.view) IsAccessed (shared b) cpu b n after d
    → shared c ≡ 0 → c.pad.keys ≡ key_bits keys → c.view.starting ≡ false → later ≡ (cycles + n) % 17556
    → IsSomeStep (console_of cpu c cycles) keys n (console_of after d later)
some_step cpu after c b d cycles n later keys e s none held settled is =
    step_once cpu after c d cycles n later keys (rw e at s) none held settled is

-- what it keeps
pub run_keeps : (cpu after : Cpu) (c b d : Contents) (n : ℕ) → b ≡ c
    → Run.IsSomeStep (λ (m : Contents). m.view) IsAccessed (shared b) cpu b n after d
    → IsKept (state cpu.processor c.view) → IsKept (state after.processor d.view)
run_keeps cpu after c b d n e s k =
    let here : IsKept (state cpu.processor b.view) = rw e k in
    step_keeps (state cpu.processor b.view) s.event (state after.processor d.view) s.machine here

-- ---- a wait of one M-cycle

running : (locked stopped : Bool) → (locked || stopped) ≡ false → (not locked && not stopped) ≡ true
running true stopped h = absurd (let bad : true ≡ false = h in cc)
running false true h = absurd (let bad : true ≡ false = h in cc)
running false false h = refl

waited_running : (b : Bool) (s : BusState) (n : ℕ) → b ≡ true → waited b s n ≡ record s { memory = passed s.memory n }
waited_running true s n h = refl
waited_running false s n h = absurd (let bad : false ≡ true = h in cc)

left_by : (b : Bool) (count : ℕ) → b ≡ false → (if b then 161 else count - 1) ≡ count - 1
left_by true count h = absurd (let bad : true ≡ false = h in cc)
left_by false count h = refl

waits_machine : (cpu : Cpu) (c : Contents) (n later : ℕ) → is_idle cpu ≡ false → c.view.starting ≡ false
    → machine_of (console_of cpu (advanced c 1) later) ≡ Play.next c.view.rom (machine_of (console_of cpu c n)) (event.Wait 1)
unfolding Play.next Machine.next only is_possible happened within outside advanced pictured passed
waits_machine cpu c n later goes settled =
    rw (waited_running _ (within c.view.rom (machine_of (console_of cpu c n))) 1 (running cpu.processor.locked cpu.processor.stopped goes))
    (ap (λ (k : ℕ). record { processor = cpu.processor; storage = record c.view.storage { count = k } }) (left_by c.view.starting c.view.storage.count settled))

same_taken : (cpu : Cpu) (c : Contents) (n : ℕ) (keys : Keys) → c.pad.keys ≡ key_bits keys → taken (console_of cpu c n) keys 0 ≡ c
unfolding taken
same_taken cpu c n keys held = sym (taken_again (is_idle cpu) c keys held)

wait_chosen : (cpu : Cpu) (m c : Contents) → m ≡ c → IsChosen (interrupt cpu c) cpu c (event.Wait 1) → IsChosen (interrupt cpu m) cpu m (event.Wait 1)
wait_chosen cpu m c e h = rw e h

wait_joined : (m c : Contents) → m ≡ c → Joined IsAccessed m (Passes 1 ∷ []) (advanced c 1)
wait_joined m c e = (advanced c 1, ap (λ (x : Contents). advanced x 1) (sym e), refl)

advanced_rom : (c : Contents) → (advanced c 1).view.rom ≡ c.view.rom
unfolding advanced pictured passed
advanced_rom c = refl

waits_step : (cpu : Cpu) (c : Contents) (n later : ℕ) (keys : Keys) → is_idle cpu ≡ false → cpu.is_waiting ≡ true → shared c ≡ 0
    → c.pad.keys ≡ key_bits keys → c.view.starting ≡ false → later ≡ (n + 1) % 17556
    → IsConsoleStep (console_of cpu c n) keys 0 (event.Wait 1) (console_of cpu (advanced c 1) later)
unfolding accesses_of event_cycles
waits_step cpu c n later keys goes waiting none held settled is =
    record {
      choice = wait_chosen cpu _ c (same_taken cpu c n keys held) (chosen _ cpu c (event.Wait 1) (no_irq cpu c none) (inr (goes, rw (waiting, none) refl, refl)));
      free = tt;
      cartridge = advanced_rom c;
      machine = waits_machine cpu c n later goes settled;
      joined = wait_joined _ c (same_taken cpu c n keys held);
      waiting = refl;
      cycles = is;
    }

-- ---- many of them

-- what a wait keeps
record IsKeeping (c d : Contents) : Type 0 where
  settled : d.view.starting ≡ false
  pad : d.pad ≡ c.pad

waits_keep : (n : ℕ) (c d : Contents) → c.view.starting ≡ false → Waits n c d → IsKeeping c d
unfolding advanced pictured passed
waits_keep zero c d settled w = rw w (record { settled = settled; pad = refl })
waits_keep (suc n) c d settled w =
    let before = waits_keep n c w.0 settled w.1 in
    rw (w.3) (record { settled = refl; pad = before.pad })

pub not_locked : (locked stopped : Bool) → (locked || stopped) ≡ false → None ≡ ending_by locked stopped false
not_locked true stopped h = absurd (let bad : true ≡ false = h in cc)
not_locked false true h = absurd (let bad : true ≡ false = h in cc)
not_locked false false h = refl

not_passed : (n : ℕ) → n + 1 < 17556 → nat_le 17556 (n + 1) ≡ false
not_passed n h = grind (arith, nat_tests)

waits_on : (cpu : Cpu) (c d : Contents) (n later : ℕ) (keys : Keys) → is_idle cpu ≡ false → cpu.is_waiting ≡ true → shared c ≡ 0
    → c.pad.keys ≡ key_bits keys → c.view.starting ≡ false → n + 1 < 17556 → later ≡ n + 1 → d ≡ advanced c 1
    → IsConsoleStep (console_of cpu c n) keys 0 (event.Wait 1) (console_of cpu d later)
waits_on cpu c d n later keys goes waiting none held settled small is e =
    rw e (waits_step cpu c n later keys goes waiting none held settled (omega (arith, is, small)))

waits_within : (cpu : Cpu) (c d : Contents) (n later : ℕ) → is_idle cpu ≡ false → n + 1 < 17556
    → None ≡ ending_after (console_of cpu c n) (event.Wait 1) (console_of cpu d later)
unfolding ending_after event_cycles
waits_within cpu c d n later goes small = rw (not_passed n small) (not_locked cpu.processor.locked cpu.processor.stopped goes)

no_seconds : (n : ℕ) → seconds_at n 0 ≡ 0
no_seconds zero = refl
no_seconds (suc n) = refl

pub waits_rest : (k : ℕ) (cpu : Cpu) (c d : Contents) (n later : ℕ) (keys : Keys) → is_idle cpu ≡ false → cpu.is_waiting ≡ true → shared c ≡ 0
    → c.pad.keys ≡ key_bits keys → c.view.starting ≡ false → n + k < 17556 → later ≡ n + k → Waits k c d
    → Rests (console_of cpu c n) keys k (console_of cpu d later)
waits_rest zero cpu c d n later keys goes waiting none held settled small is w =
    let e : later ≡ n = omega (arith, is) in rw (w, e) refl
waits_rest (suc k) cpu c d n later keys goes waiting none held settled small is w =
    let kept = waits_keep k c w.0 settled w.1 in
    let no : shared w.0 ≡ 0 = w.2 ∙ none in
    let still : w.0.pad.keys ≡ key_bits keys = ap (λ (p : Pad). p.keys) kept.pad ∙ held in
    let within : n + k + 1 < 17556 = omega (arith, small) in (
      console_of cpu w.0 (n + k),
      waits_rest k cpu c w.0 n (n + k) keys goes waiting none held settled (omega (arith, small)) refl w.1,
      waits_on cpu w.0 d (n + k) later keys goes waiting no still kept.settled within (omega (arith, is)) w.3,
      waits_within cpu w.0 d (n + k) later goes within,
    )

-- they are steps of a frame
pub rests_go : (k : ℕ) (old : ConsoleState) (keys : Keys) (new : ConsoleState) → Rests old keys k new → Goes old keys 0 k new
rests_go zero old keys new r = r
rests_go (suc k) old keys new r = (r.0, rests_go k old keys r.0 r.1, rw (no_seconds k) (record { event = event.Wait 1; step = r.2; ending = r.3 }))

pub rests_gone : (k : ℕ) (old : ConsoleState) (keys : Keys) (new : ConsoleState) → Rests old keys k new → HasGoneOn old keys new
rests_gone k old keys new r = record { steps = k; goes = rests_go k old keys new r }

-- ---- what steps keep

pub goes_cartridge : (old : ConsoleState) (keys : Keys) (seconds n : ℕ) (new : ConsoleState) → Goes old keys seconds n new → rom_of new ≡ rom_of old
goes_cartridge old keys seconds zero new h = rw h refl
goes_cartridge old keys seconds (suc n) new h = h.2.step.cartridge ∙ goes_cartridge old keys seconds n h.0 h.1

same_reachable : (new_rom rom : List ℕ) (t s : MState) → new_rom ≡ rom → t ≡ s → IsReachable rom s → IsReachable new_rom t
same_reachable new_rom rom t s h is r = rw (h, is) r

pub goes_reachable : (old : ConsoleState) (keys : Keys) (seconds n : ℕ) (new : ConsoleState) → Goes old keys seconds n new
    → IsReachable (rom_of old) (machine_of old) → IsReachable (rom_of new) (machine_of new)
goes_reachable old keys seconds zero new h r = rw h r
goes_reachable old keys seconds (suc n) new h r =
    let before = goes_reachable old keys seconds n h.0 h.1 r in
    same_reachable _ _ (machine_of new) _ h.2.step.cartridge h.2.step.machine (next_reachable (rom_of h.0) (machine_of h.0) h.2.event before)

-- a wait, and what it keeps
pub some_wait : (k : ℕ) (cpu : Cpu) (c b d : Contents) (n later : ℕ) (keys : Keys) → b ≡ c → is_idle cpu ≡ false → cpu.is_waiting ≡ true → shared c ≡ 0
    → c.pad.keys ≡ key_bits keys → c.view.starting ≡ false → n + k < 17556 → later ≡ n + k → Waits k b d
    → Rests (console_of cpu c n) keys k (console_of cpu d later)
some_wait k cpu c b d n later keys e goes waiting none held settled small is w =
    waits_rest k cpu c d n later keys goes waiting none held settled small is (rw e at w)

pub wait_keeps : (k : ℕ) (cpu : Cpu) (c b d : Contents) (n : ℕ) (keys : Keys) → b ≡ c → is_idle cpu ≡ false → cpu.is_waiting ≡ true → shared c ≡ 0
    → c.pad.keys ≡ key_bits keys → c.view.starting ≡ false → n + k < 17556 → Waits k b d
    → IsReachable c.view.rom (record { processor = cpu.processor; storage = c.view.storage }) → IsRom c.view.rom
    → (n + k < 17556) × (d.view.starting ≡ false) × IsReachable d.view.rom (record { processor = cpu.processor; storage = d.view.storage }) × IsRom d.view.rom
wait_keeps k cpu c b d n keys e goes waiting none held settled small w reached cartridge =
    let there : Waits k c d = rw e at w in
    let steps = rests_go k (console_of cpu c n) keys (console_of cpu d (n + k)) (waits_rest k cpu c d n (n + k) keys goes waiting none held settled small refl there) in
    let same : d.view.rom ≡ c.view.rom = goes_cartridge (console_of cpu c n) keys 0 k (console_of cpu d (n + k)) steps in (
      small,
      (waits_keep k c d settled there).settled,
      goes_reachable (console_of cpu c n) keys 0 k (console_of cpu d (n + k)) steps reached,
      subst IsRom (sym same) cartridge,
    )

-- ---- the steps of a frame

goes_forward : (old : ConsoleState) (keys : Keys) (n : ℕ) (new : ConsoleState) → Goes old keys 0 n new → old.cycles ≤ new.cycles
goes_forward old keys zero new h = let e : new ≡ old = h in rw e (omega arith)
goes_forward old keys (suc n) new h =
    let before = goes_forward old keys n h.0 h.1 in
    let last = forward h.0 keys (seconds_at n 0) new h.2 in
    omega (arith, before, last.0)

-- one step, and then more
pub step_forward : (old mid new : ConsoleState) (keys : Keys) (seconds : ℕ) → IsFrameStep old keys seconds None mid → HasGone mid keys None new → old.cycles < new.cycles
step_forward old mid new keys seconds f g =
    let first = forward old keys seconds mid f in
    let rest = goes_forward mid keys g.steps new g.goes in
    omega (arith, first.0, rest)

-- and a step that ends nothing is one of them
pub one_more : (old mid new : ConsoleState) (keys : Keys) → HasGoneOn old keys mid → IsFrameStep mid keys 0 None new → HasGoneOn old keys new
one_more old mid new keys h f = record { steps = suc h.steps; goes = (mid, h.goes, rw (no_seconds h.steps) f) }

goes_both : (old mid new : ConsoleState) (keys : Keys) (seconds n k : ℕ) → Goes old keys seconds (suc n) mid → Goes mid keys 0 k new → Goes old keys seconds (suc (n + k)) new
goes_both old mid new keys seconds n zero h g = let e : n + zero ≡ n = omega arith in rw (g, e) h
goes_both old mid new keys seconds n (suc k) h g =
    let e : n + suc k ≡ suc (n + k) = omega arith in
    rw e (g.0, goes_both old mid g.0 keys seconds n k h g.1, rw (no_seconds k) at g.2)

pub both_gone : (old mid new : ConsoleState) (keys : Keys) → HasGoneOn old keys mid → HasGoneOn mid keys new → HasGoneOn old keys new
both_gone old mid new keys h g = by h.steps h.goes
  where
    by : (n : ℕ) → Goes old keys 0 n mid → HasGoneOn old keys new
    by zero s = let e : mid ≡ old = s in rw e at g
    by (suc n) s = record { steps = suc (n + g.steps); goes = goes_both old mid new keys 0 n g.steps s g.goes }

-- a step of a frame, and then more of them
pub more_goes : (old before mid new : ConsoleState) (keys : Keys) (seconds n passed : ℕ)
    → Goes old keys seconds n before → passed ≡ seconds_at n seconds → IsFrameStep before keys passed None mid → HasGone mid keys None new
    → (m : ℕ) × Goes old keys seconds m new × (0 ≡ seconds_at m seconds)
more_goes old before mid new keys seconds n passed h is f g = (suc (n + g.steps), goes_both old mid new keys seconds n g.steps (before, h, rw is at f) g.goes, refl)

pub more_ends : (old before mid new : ConsoleState) (keys : Keys) (seconds n passed : ℕ) (end : Ending)
    → Goes old keys seconds n before → passed ≡ seconds_at n seconds → IsFrameStep before keys passed None mid → HasGone mid keys (Some end) new
    → IsFrame old keys seconds end new
more_ends old before mid new keys seconds n passed end h is f g =
    record {
      steps = suc (n + g.1.steps);
      last = g.0;
      goes = goes_both old mid g.0 keys seconds n g.1.steps (before, h, rw is at f) g.1.goes;
      ends = g.2;
    }

-- a frame that goes on is of a console that was running
pub goes_running : (old before mid : ConsoleState) (keys : Keys) (seconds n passed : ℕ)
    → Goes old keys seconds n before → passed ≡ seconds_at n seconds → IsFrameStep before keys passed None mid → is_idle old.cpu ≡ true → ⊥
goes_running old before mid keys seconds n passed h is f idle =
    let e : before ≡ old = no_steps old keys seconds n before idle h in
    ends_at_once old keys passed mid idle (rw e at f)

-- and still is
by_ending : (l s p : Bool) → None ≡ ending_by l s p → (l || s) ≡ false
by_ending true s p h = absurd (let bad : None ≡ Some ending.Locked = h in cc)
by_ending false true p h = absurd (let bad : None ≡ Some ending.Stopped = h in cc)
by_ending false false p h = refl

pub step_running : (old : ConsoleState) (keys : Keys) (seconds : ℕ) (new : ConsoleState) → IsFrameStep old keys seconds None new → is_idle new.cpu ≡ false
unfolding ending_after
step_running old keys seconds new f = by_ending _ _ _ f.ending

-- a step and how it ended the frame
pub frame_step : (old : ConsoleState) (keys : Keys) (n : ℕ) (ends : Option Ending) (new : ConsoleState) → IsSomeStep old keys n new
    → ends ≡ ending_by new.cpu.processor.locked new.cpu.processor.stopped (nat_le 17556 (old.cycles + n)) → IsFrameStep old keys 0 ends new
unfolding ending_after
frame_step old keys n ends new s is =
    record {
      event = s.event;
      step = s.step;
      ending = is ∙ ap (λ (k : ℕ). ending_by new.cpu.processor.locked new.cpu.processor.stopped (nat_le 17556 (old.cycles + k))) s.cycles;
    }

-- the same of an instruction that is ready
pub passing_step : (old : ConsoleState) (keys : Keys) (passed : Bool) (ends : Option Ending) (new : ConsoleState) → IsPassing old keys passed new
    → ends ≡ ending_by new.cpu.processor.locked new.cpu.processor.stopped passed → IsFrameStep old keys 0 ends new
passing_step old keys passed ends new p is =
    frame_step old keys p.cycles ends new p.step (is ∙ ap (λ (b : Bool). ending_by new.cpu.processor.locked new.cpu.processor.stopped b) p.reaches)
