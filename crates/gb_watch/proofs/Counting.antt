-- Steps of a frame, counted.
use Rattle.std.proofs.Common.{◌≡◌, ℕ, zero, suc, ◌+◌, ◌<◌, ◌≤◌, refl, sym, subst, ◌∙◌, List, Some, None, arith}
use Rattle.gb_ops.specs.declared.machine.Region.{Region}
use Rattle.gb_console.specs.Below.gb_timer.declared.irqs.Keys.{Keys}
use Rattle.gb_console.specs.declared.frame.Ending.{Ending}
use Rattle.gb_console.specs.Console.{ConsoleState, rom_of}
use Rattle.gb_console.specs.Frame.{Rests, seconds_at}
use Rattle.gb_console.proofs.Frames.{forward}
use Rattle.gb_faults.specs.declared.guard.Guard.{Guard}
use Rattle.gb_faults.specs.Quiet.{IsGuard}
use Rattle.gb_watch.specs.declared.sighting.Sighting.{Sighting}
use Rattle.gb_watch.specs.Ready.{HasGoneOn, HasEnded}
use Rattle.gb_watch.specs.Watch.{IsFaultlessStep, IsFaultyStep, IsFaultlessFrame, IsFaultyFrame, GoesFaultless}
use Rattle.gb_watch.proofs.Quietly.{frame_step, rests_go}

no_seconds : (n : ℕ) → seconds_at n 0 ≡ 0
no_seconds zero = refl
no_seconds (suc n) = refl

-- each step takes an M-cycle at least
pub step_forward : (region : Region) (old : ConsoleState) (keys : Keys) (seconds : ℕ) (new : ConsoleState) → IsFaultlessStep region old keys seconds None new → (old.cycles < new.cycles) × (new.cycles < 17556)
step_forward region old keys seconds new f = forward old keys seconds new (frame_step region old keys seconds None new f)

pub goes_count : (region : Region) (old : ConsoleState) (keys : Keys) (n : ℕ) (new : ConsoleState) → GoesFaultless region old keys 0 n new → old.cycles + n ≤ new.cycles
goes_count region old keys zero new g = let e : new ≡ old = g in rw e (omega arith)
goes_count region old keys (suc n) new g =
    let before = goes_count region old keys n g.0 g.1 in
    let last = step_forward region g.0 keys (seconds_at n 0) new g.2 in
    omega (arith, before, last.0)

pub goes_small : (region : Region) (old : ConsoleState) (keys : Keys) (n : ℕ) (new : ConsoleState) → old.cycles < 17556 → GoesFaultless region old keys 0 n new → new.cycles < 17556
goes_small region old keys zero new small g = let e : new ≡ old = g in rw e small
goes_small region old keys (suc n) new small g = (step_forward region g.0 keys (seconds_at n 0) new g.2).1

pub goes_rom : (region : Region) (old : ConsoleState) (keys : Keys) (seconds n : ℕ) (new : ConsoleState) → GoesFaultless region old keys seconds n new → rom_of new ≡ rom_of old
goes_rom region old keys seconds zero new g = let e : new ≡ old = g in rw e refl
goes_rom region old keys seconds (suc n) new g = g.2.step.cartridge ∙ goes_rom region old keys seconds n g.0 g.1

pub goes_both : (region : Region) (old mid new : ConsoleState) (keys : Keys) (seconds n k : ℕ) → GoesFaultless region old keys seconds (suc n) mid → GoesFaultless region mid keys 0 k new
    → GoesFaultless region old keys seconds (suc (n + k)) new
goes_both region old mid new keys seconds n zero h g = let e : n + zero ≡ n = omega arith in rw (g, e) h
goes_both region old mid new keys seconds n (suc k) h g =
    let e : n + suc k ≡ suc (n + k) = omega arith in
    rw e (g.0, goes_both region old mid g.0 keys seconds n k h g.1, rw (no_seconds k) at g.2)

-- ---- behind a frame's first step

pub begun : (region : Region) (old : ConsoleState) (keys : Keys) (number : ℕ) → HasGoneOn region old keys number number old
begun region old keys number = record { steps = 0; counted = omega arith; goes = refl }

pub one_more : (region : Region) (old mid new : ConsoleState) (keys : Keys) (number more : ℕ) → HasGoneOn region old keys number more mid → IsFaultlessStep region mid keys 0 None new
    → HasGoneOn region old keys number (more + 1) new
one_more region old mid new keys number more h f =
    record { steps = suc h.steps; counted = omega (arith, h.counted); goes = (mid, h.goes, rw (no_seconds h.steps) f) }

pub and_more : (region : Region) (old mid new : ConsoleState) (keys : Keys) (number more k : ℕ) → HasGoneOn region old keys number more mid → Rests mid keys k new
    → HasGoneOn region old keys number (more + k) new
and_more region old mid new keys number more k h r = by h.steps h.counted h.goes
  where
    g : GoesFaultless region mid keys 0 k new
    g = rests_go region k mid keys new r

    by : (n : ℕ) → more ≡ number + n → GoesFaultless region old keys 0 n mid → HasGoneOn region old keys number (more + k) new
    by zero e s = let is : mid ≡ old = s in record { steps = k; counted = omega (arith, e); goes = subst (λ (o : ConsoleState). GoesFaultless region o keys 0 k new) is g }
    by (suc n) e s = record { steps = suc (n + k); counted = omega (arith, e); goes = goes_both region old mid new keys 0 n k s g }

pub ended : (region : Region) (old mid new : ConsoleState) (keys : Keys) (number more : ℕ) (end : Ending) → HasGoneOn region old keys number more mid → IsFaultlessStep region mid keys 0 (Some end) new
    → HasEnded region old keys end new
ended region old mid new keys number more end h f = record { steps = h.steps; last = mid; goes = h.goes; ends = f }

-- ---- the steps of a frame

-- a step, and then those behind it
pub frame_more : (region : Region) (old before mid new : ConsoleState) (keys : Keys) (seconds passed number more : ℕ)
    → GoesFaultless region old keys seconds number before → passed ≡ seconds_at number seconds → IsFaultlessStep region before keys passed None mid → HasGoneOn region mid keys (number + 1) more new
    → GoesFaultless region old keys seconds more new × (0 ≡ seconds_at more seconds)
frame_more region old before mid new keys seconds passed number more goes is f h =
    let e : more ≡ suc (number + h.steps) = omega (arith, h.counted) in
    (rw e (goes_both region old mid new keys seconds number h.steps (before, goes, rw is at f) h.goes), rw e refl)

pub frame_ends : (region : Region) (old before mid new : ConsoleState) (keys : Keys) (seconds passed number : ℕ) (end : Ending)
    → GoesFaultless region old keys seconds number before → passed ≡ seconds_at number seconds → IsFaultlessStep region before keys passed None mid → HasEnded region mid keys end new
    → IsFaultlessFrame region old keys seconds end new
frame_ends region old before mid new keys seconds passed number end goes is f h =
    record {
      steps = suc (number + h.steps);
      last = h.last;
      goes = goes_both region old mid h.last keys seconds number h.steps (before, goes, rw is at f) h.goes;
      ends = h.ends;
    }

pub frame_at_once : (region : Region) (old before new : ConsoleState) (keys : Keys) (seconds passed number : ℕ) (end : Ending)
    → GoesFaultless region old keys seconds number before → passed ≡ seconds_at number seconds → IsFaultlessStep region before keys passed (Some end) new
    → IsFaultlessFrame region old keys seconds end new
frame_at_once region old before new keys seconds passed number end goes is f = record { steps = number; last = before; goes = goes; ends = rw is at f }

pub frame_faults : (region : Region) (old before new : ConsoleState) (keys : Keys) (seconds passed number : ℕ) (s : Sighting)
    → GoesFaultless region old keys seconds number before → passed ≡ seconds_at number seconds → (s.number ≡ number) → IsFaultyStep region before keys passed s new
    → IsFaultyFrame region old keys seconds s new
frame_faults region old before new keys seconds passed number s goes is same f =
    record {
      last = before;
      goes = subst (λ (n : ℕ). GoesFaultless region old keys seconds n before) (sym same) goes;
      meets = subst (λ (n : ℕ). IsFaultyStep region before keys (seconds_at n seconds) s new) (sym same) (subst (λ (p : ℕ). IsFaultyStep region before keys p s new) is f);
    }

pub same_guard : (a b : List ℕ) (g : Guard) → b ≡ a → IsGuard a g → IsGuard b g
same_guard a b g e h = subst (λ (r : List ℕ). IsGuard r g) (sym e) h
