-- What watching tells is what the machine's runs have.
use Rattle.std.proofs.Common.{◌≡◌, ℕ, zero, suc, ◌+◌, Bool, true, false, ◌||◌, refl, sym, ap, ◌∙◌, List, [], ◌∷◌, ◌++◌, length, arith}
use Rattle.std.proofs.lemmas.List.{length-append}
use Rattle.gb_ops.specs.declared.machine.Event.{Event}
use Rattle.gb_ops.specs.declared.machine.Faults.{Faults}
use Rattle.gb_ops.specs.declared.machine.Region.{Region}
use Rattle.gb_ops.specs.declared.registers.Processor.{Processor}
use Rattle.gb_ops.specs.Faults.{no_faults, either_faults, code_place}
use Rattle.gb_ops.specs.Memory.{View}
use Rattle.gb_ops.specs.Play.{MState, faults, next, play, within}
use Rattle.gb_console.specs.Below.gb_timer.declared.irqs.Keys.{Keys}
use Rattle.gb_console.specs.declared.frame.Ending.{Ending}
use Rattle.gb_console.specs.Console.{ConsoleState, IsConsoleStep, rom_of, machine_of}
use Rattle.gb_console.specs.Frame.{seconds_at}
use Rattle.gb_console.specs.Run.{IsPlayed}
use Rattle.gb_console.proofs.Running.{steps_more, steps_played}
use Rattle.gb_watch.specs.declared.sighting.Sighting.{Sighting}
use Rattle.gb_watch.specs.Watch.{faults_at, IsFaultyStep, IsFaultlessFrame, GoesFaultless, Watches}
use Rattle.gb_watch.specs.Played.{IsPlayedWell, IsPlayedFault, FaultlessFramesArePlayed, FaultyFramesArePlayed, FaultlessRunsArePlayed, CutRunsArePlayed, FaultyRunsArePlayed}

-- ---- faults of either

or_false : (b : Bool) → (b || false) ≡ b
or_false true = refl
or_false false = refl

pub either_none : (f : Faults) → either_faults f no_faults ≡ f
unfolding either_faults
either_none f = λ i. record {
  undefined_opcode = or_false f.undefined_opcode i;
  fetched_outside = or_false f.fetched_outside i;
  stack_outside = or_false f.stack_outside i;
  ram_closed = or_false f.ram_closed i;
  transfer_met = or_false f.transfer_met i;
}

none_either : (f : Faults) → either_faults no_faults f ≡ f
unfolding either_faults
none_either f = refl

neither : (a b : Bool) → (a || b) ≡ false → (a ≡ false) × (b ≡ false)
neither true b h = absurd (let bad : true ≡ false = h in cc)
neither false true h = absurd (let bad : true ≡ false = h in cc)
neither false false h = (refl, refl)

-- where either has none, both have none
pub both_none : (f g : Faults) → either_faults f g ≡ no_faults → (f ≡ no_faults) × (g ≡ no_faults)
unfolding either_faults
both_none f g h =
    let a = neither f.undefined_opcode g.undefined_opcode (ap (λ (x : Faults). x.undefined_opcode) h) in
    let b = neither f.fetched_outside g.fetched_outside (ap (λ (x : Faults). x.fetched_outside) h) in
    let c = neither f.stack_outside g.stack_outside (ap (λ (x : Faults). x.stack_outside) h) in
    let d = neither f.ram_closed g.ram_closed (ap (λ (x : Faults). x.ram_closed) h) in
    let e = neither f.transfer_met g.transfer_met (ap (λ (x : Faults). x.transfer_met) h) in (
      λ i. record { undefined_opcode = (a.0) i; fetched_outside = (b.0) i; stack_outside = (c.0) i; ram_closed = (d.0) i; transfer_met = (e.0) i },
      λ i. record { undefined_opcode = (a.1) i; fetched_outside = (b.1) i; stack_outside = (c.1) i; ram_closed = (d.1) i; transfer_met = (e.1) i },
    )

-- ---- one event more

-- behind events without a fault the faults are those of the last one
pub play_last : (rom : List ℕ) (region : Region) (events : List Event) (s : MState) (e : Event) → (play rom region s events).faults ≡ no_faults
    → (play rom region s (events ++ e ∷ [])).faults ≡ faults rom region (play rom region s events).state e
unfolding play
play_last rom region [] s e h = either_none (faults rom region s e)
play_last rom region (x ∷ events) s e h =
    let none = both_none (faults rom region s x) (play rom region (next rom s x) events).faults h in
    let rest = play_last rom region events (next rom s x) e none.1 in
    ap (λ (f : Faults). either_faults f (play rom region (next rom s x) (events ++ e ∷ [])).faults) none.0
    ∙ none_either (play rom region (next rom s x) (events ++ e ∷ [])).faults ∙ rest

-- the last event of a run without a fault has none
pub last_none : (rom : List ℕ) (region : Region) (events : List Event) (s : MState) (e : Event) → (play rom region s (events ++ e ∷ [])).faults ≡ no_faults
    → faults rom region (play rom region s events).state e ≡ no_faults
unfolding play
last_none rom region [] s e h = (both_none (faults rom region s e) no_faults h).0
last_none rom region (x ∷ events) s e h = last_none rom region events (next rom s x) e (both_none (faults rom region s x) (play rom region (next rom s x) (events ++ e ∷ [])).faults h).1

-- ---- steps without a fault

-- so many events, none of which has a fault
pub record IsCounted (region : Region) (old : ConsoleState) (n : ℕ) (new : ConsoleState) : Type 0 where
  pub events : List Event
  pub count : length events ≡ n
  pub well : IsPlayedWell region old events new

one_longer : (events : List Event) (e : Event) (n : ℕ) → length events ≡ n → length (events ++ e ∷ []) ≡ suc n
one_longer events e n h = omega (arith, h, length-append events (e ∷ []))

pub step_well : (region : Region) (old mid new : ConsoleState) (n : ℕ) (keys : Keys) (seconds : ℕ) (e : Event) → IsCounted region old n mid → IsConsoleStep mid keys seconds e new
    → faults_at region mid e ≡ no_faults → IsCounted region old (suc n) new
step_well region old mid new n keys seconds e c step none =
    let w = c.well in
    let played : IsPlayed old c.events mid = steps_played old mid w.inputs c.events w.steps in
    let last : (play (rom_of old) region (machine_of old) (c.events ++ e ∷ [])).faults ≡ faults (rom_of old) region (play (rom_of old) region (machine_of old) c.events).state e =
    play_last (rom_of old) region c.events (machine_of old) e w.faultless in
    record {
      events = c.events ++ e ∷ [];
      count = one_longer c.events e n c.count;
      well = record {
        inputs = w.inputs ++ (record { keys = keys; seconds = seconds }) ∷ [];
        steps = steps_more old mid new w.inputs c.events (record { keys = keys; seconds = seconds }) e w.steps step;
        faultless =
            last ∙ ap (λ (t : MState). faults (rom_of old) region t e) (sym (played.machine region))
            ∙ ap (λ (r : List ℕ). faults r region (machine_of mid) e) (sym played.cartridge) ∙ none;
      };
    }

nothing_played : (region : Region) (old : ConsoleState) → IsCounted region old 0 old
unfolding play
nothing_played region old = record { events = []; count = refl; well = record { inputs = []; steps = refl; faultless = refl } }

-- the same behind others
pub goes_well : (region : Region) (old start : ConsoleState) (m : ℕ) (keys : Keys) (seconds n : ℕ) (new : ConsoleState) → IsCounted region old m start → GoesFaultless region start keys seconds n new
    → IsCounted region old (m + n) new
goes_well region old start m keys seconds zero new c g =
    let e : new ≡ start = g in
    let k : m + zero ≡ m = omega arith in
    rw (e, k) c
goes_well region old start m keys seconds (suc n) new c g =
    let before = goes_well region old start m keys seconds n g.0 c g.1 in
    let k : m + suc n ≡ suc (m + n) = omega arith in
    rw k (step_well region old g.0 new (m + n) keys (seconds_at n seconds) g.2.event before g.2.step g.2.faultless)

-- with some number of events
pub record IsSomeWell (region : Region) (old new : ConsoleState) : Type 0 where
  pub number : ℕ
  pub counted : IsCounted region old number new

frame_well : (region : Region) (old start : ConsoleState) (keys : Keys) (seconds : ℕ) (end : Ending) (new : ConsoleState) → IsSomeWell region old start
    → IsFaultlessFrame region start keys seconds end new → IsSomeWell region old new
frame_well region old start keys seconds end new c f =
    record {
      number = suc (c.number + f.steps);
      counted =
          step_well region old f.last new (c.number + f.steps) keys (seconds_at f.steps seconds) f.ends.event
          (goes_well region old start c.number keys seconds f.steps f.last c.counted f.goes) f.ends.step f.ends.faultless;
    }

frames_well : (region : Region) (keys : ℕ → Keys) (seconds : ℕ → ℕ) (n : ℕ) (old new : ConsoleState) → Watches region keys seconds n old new → IsSomeWell region old new
frames_well region keys seconds zero old new w = let e : new ≡ old = w in rw e (record { number = 0; counted = nothing_played region old })
frames_well region keys seconds (suc n) old new w = frame_well region old w.0 (keys n) (seconds n) _ new (frames_well region keys seconds n old w.0 w.1) w.2

-- ---- a step with a fault

place_of_view : (m : View) (a : ℕ) → code_place m a ≡ code_place (record { rom = m.rom; storage = m.storage; starting = false }) a
unfolding code_place
place_of_view m a = refl

step_faulty : (region : Region) (old mid new : ConsoleState) (n : ℕ) (keys : Keys) (seconds : ℕ) (s : Sighting) → (c : IsCounted region old n mid) → IsFaultyStep region mid keys seconds s new
    → IsPlayedFault region old c.events s new
unfolding within code_place
step_faulty region old mid new n keys seconds s c f =
    let w = c.well in
    let played : IsPlayed old c.events mid = steps_played old mid w.inputs c.events w.steps in
    let last : (play (rom_of old) region (machine_of old) (c.events ++ s.event ∷ [])).faults ≡ faults (rom_of old) region (play (rom_of old) region (machine_of old) c.events).state s.event =
    play_last (rom_of old) region c.events (machine_of old) s.event w.faultless in
    record {
      last = mid;
      before = w;
      inputs = w.inputs ++ (record { keys = keys; seconds = seconds }) ∷ [];
      steps = steps_more old mid new w.inputs c.events (record { keys = keys; seconds = seconds }) s.event w.steps f.step;
      faults =
          last ∙ ap (λ (t : MState). faults (rom_of old) region t s.event) (sym (played.machine region))
          ∙ ap (λ (r : List ℕ). faults r region (machine_of mid) s.event) (sym played.cartridge) ∙ sym f.faults;
      processor = f.processor ∙ ap (λ (t : MState). t.processor) (played.machine region);
      place =
          f.place ∙ place_of_view (mid.contents.view) mid.cpu.processor.pc ∙ ap (λ (p : ℕ). code_place (within (rom_of mid) (machine_of mid)).memory p) (ap (λ (p : Processor). p.pc) (sym f.processor))
          ∙ ap (λ (r : List ℕ). code_place (within r (machine_of mid)).memory s.processor.pc) played.cartridge
          ∙ ap (λ (t : MState). code_place (within (rom_of old) t).memory s.processor.pc) (played.machine region);
    }

-- ---- the laws

pub faultless_frames : FaultlessFramesArePlayed
faultless_frames region old keys seconds end new f =
    let w = frame_well region old old keys seconds end new (record { number = 0; counted = nothing_played region old }) f in
    (w.counted.events, w.counted.well)

pub faulty_frames : FaultyFramesArePlayed
faulty_frames region old keys seconds s new f =
    let c = goes_well region old old 0 keys seconds s.number f.last (nothing_played region old) f.goes in
    let count : length c.events ≡ s.number = omega (arith, c.count) in
    (c.events, count, step_faulty region old f.last new (0 + s.number) keys (seconds_at s.number seconds) s c f.meets)

pub faulty_runs : FaultyRunsArePlayed
faulty_runs region keys seconds n old before s new w f =
    let a = frames_well region keys seconds n old before w in
    let c = goes_well region old before a.number (keys n) (seconds n) s.number f.last a.counted f.goes in
    (c.events, step_faulty region old f.last new (a.number + s.number) (keys n) (seconds_at s.number (seconds n)) s c f.meets)

pub faultless_runs : FaultlessRunsArePlayed
faultless_runs region keys seconds n old new w = let a = frames_well region keys seconds n old new w in (a.counted.events, a.counted.well)

pub cut_runs : CutRunsArePlayed
cut_runs region keys seconds n old before end new w f =
    let a = frame_well region old before (keys n) (seconds n) end new (frames_well region keys seconds n old before w) f in
    (a.counted.events, a.counted.well)
