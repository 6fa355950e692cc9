-- Steps one after another are a run of the machine.
use Rattle.std.proofs.Common.{ℕ, ◌≡◌, ◌+◌, ◌<◌, ◌≤◌, refl, ◌∙◌, List, [], ◌∷◌, ◌++◌, length, take, get_or, take_all}
use Rattle.std.proofs.lemmas.List.{take_more}
use Rattle.gb_ops.specs.declared.machine.Event.{Event}
use Rattle.gb_ops.specs.declared.machine.Region.{Region}
use Rattle.gb_ops.specs.Play.{MState, next, play}
use Rattle.gb_console.specs.declared.run.Input.{Input}
use Rattle.gb_console.specs.Console.{ConsoleState, IsConsoleStep, rom_of, machine_of}
use Rattle.gb_console.specs.Run.{Steps, IsPlayed, IsRun}

-- ---- their states

played_more : (rom other : List ℕ) (region : Region) (s t : MState) (e : Event) (events : List Event) → other ≡ rom → t ≡ next rom s e
    → (play other region t events).state ≡ (play rom region s (e ∷ events)).state
unfolding play
played_more rom other region s t e events same is = rw (same, is) refl

pub steps_played : (old new : ConsoleState) (inputs : List Input) (events : List Event) → Steps old inputs events new → IsPlayed old events new
unfolding play
steps_played old new [] [] h = record { cartridge = rw h refl; machine = λ region. rw h refl }
steps_played old new [] (e ∷ events) h = absurd h
steps_played old new (x ∷ inputs) [] h = absurd h
steps_played old new (x ∷ inputs) (e ∷ events) h =
    let rest = steps_played h.0 new inputs events h.2 in
    record {
      cartridge = rest.cartridge ∙ h.1.cartridge;
      machine = λ region. rest.machine region ∙ played_more (rom_of old) (rom_of h.0) region (machine_of old) (machine_of h.0) e events h.1.cartridge h.1.machine;
    }

-- ---- one step more

pub steps_more : (old mid new : ConsoleState) (inputs : List Input) (events : List Event) (x : Input) (e : Event)
    → Steps old inputs events mid → IsConsoleStep mid x.keys x.seconds e new → Steps old (inputs ++ x ∷ []) (events ++ e ∷ []) new
steps_more old mid new [] [] x e h step = (new, rw h at step, refl)
steps_more old mid new [] (d ∷ events) x e h step = absurd h
steps_more old mid new (y ∷ inputs) [] x e h step = absurd h
steps_more old mid new (y ∷ inputs) (d ∷ events) x e h step = (h.0, h.1, steps_more h.0 mid new inputs events x e h.2 step)

pub steps_on : (old mid new : ConsoleState) (inputs : List Input) (i : ℕ) (d : Input) (e : Event) → i < length inputs
    → (events : List Event) × Steps old (take i inputs) events mid → IsConsoleStep mid (get_or inputs i d).keys (get_or inputs i d).seconds e new
    → (events : List Event) × Steps old (take (i + 1) inputs) events new
steps_on old mid new inputs i d e within h step =
    rw (take_more inputs i d within) (h.0 ++ e ∷ [], steps_more old mid new (take i inputs) h.0 (get_or inputs i d) e h.1 step)

pub run_of : (old new : ConsoleState) (inputs : List Input) (i : ℕ) → length inputs ≤ i
    → (events : List Event) × Steps old (take i inputs) events new → IsRun old inputs new
run_of old new inputs i all h =
    let steps : Steps old inputs h.0 new = rw (take_all i inputs all) at h.1 in
    record { events = h.0; steps = steps; played = steps_played old new inputs h.0 steps }
