-- Runs of the machine, one after another.
use Rattle.std.proofs.Common.{◌≡◌, ℕ, Bool, true, false, ◌||◌, refl, ap, ◌∙◌, List, [], ◌∷◌, ◌++◌}
use Rattle.gb_ops.specs.declared.machine.Event.{Event}
use Rattle.gb_ops.specs.declared.machine.Faults.{Faults}
use Rattle.gb_ops.specs.declared.machine.Region.{Region}
use Rattle.gb_ops.specs.Faults.{no_faults, either_faults}
use Rattle.gb_ops.specs.Play.{MState, faults, next, play}

neither : (a b : Bool) → (a || b) ≡ false → (a ≡ false) × (b ≡ false)
neither true b h = absurd (let bad : true ≡ false = h in cc)
neither false true h = absurd (let bad : true ≡ false = h in cc)
neither false false h = (refl, refl)

-- where either has none, both have none
both_none : (f g : Faults) → either_faults f g ≡ no_faults → (f ≡ no_faults) × (g ≡ no_faults)
unfolding either_faults
both_none f g h =
    let a = neither f.undefined_opcode g.undefined_opcode (ap (λ (x : Faults). x.undefined_opcode) h) in
    let b = neither f.fetched_outside g.fetched_outside (ap (λ (x : Faults). x.fetched_outside) h) in
    let c = neither f.stack_outside g.stack_outside (ap (λ (x : Faults). x.stack_outside) h) in
    let d = neither f.ram_closed g.ram_closed (ap (λ (x : Faults). x.ram_closed) h) in
    let e = neither f.transfer_met g.transfer_met (ap (λ (x : Faults). x.transfer_met) h) in (
      λ i. record { undefined_opcode = (a.0) i; fetched_outside = (b.0) i; stack_outside = (c.0) i; ram_closed = (d.0) i; transfer_met = (e.0) i },
      λ i. record { undefined_opcode = (a.1) i; fetched_outside = (b.1) i; stack_outside = (c.1) i; ram_closed = (d.1) i; transfer_met = (e.1) i },
    )

none_either : (f : Faults) → either_faults no_faults f ≡ f
unfolding either_faults
none_either f = refl

both_are : (f g : Faults) → f ≡ no_faults → g ≡ no_faults → either_faults f g ≡ no_faults
both_are f g a b = ap (λ (x : Faults). either_faults x g) a ∙ none_either g ∙ b

-- where a run and then another one lead
pub state_both : (rom : List ℕ) (region : Region) (first second : List Event) (s : MState)
    → (play rom region s (first ++ second)).state ≡ (play rom region (play rom region s first).state second).state
unfolding play
state_both rom region [] second s = refl
state_both rom region (e ∷ first) second s = state_both rom region first second (next rom s e)

-- behind a run without a fault the faults are those of the second
pub faults_both : (rom : List ℕ) (region : Region) (first second : List Event) (s : MState) → (play rom region s first).faults ≡ no_faults
    → (play rom region s (first ++ second)).faults ≡ (play rom region (play rom region s first).state second).faults
unfolding play
faults_both rom region [] second s h = refl
faults_both rom region (e ∷ first) second s h =
    let none = both_none (faults rom region s e) (play rom region (next rom s e) first).faults h in
    ap (λ (f : Faults). either_faults f (play rom region (next rom s e) (first ++ second)).faults) none.0
    ∙ none_either (play rom region (next rom s e) (first ++ second)).faults ∙ faults_both rom region first second (next rom s e) none.1

-- the first event of a run without a fault has none
pub first_none : (rom : List ℕ) (region : Region) (e : Event) (events : List Event) (s : MState) → (play rom region s (e ∷ events)).faults ≡ no_faults → faults rom region s e ≡ no_faults
unfolding play
first_none rom region e events s h = (both_none (faults rom region s e) (play rom region (next rom s e) events).faults h).0

-- an event without a fault is such a run
pub one_none : (rom : List ℕ) (region : Region) (e : Event) (s : MState) → faults rom region s e ≡ no_faults → (play rom region s (e ∷ [])).faults ≡ no_faults
unfolding play
one_none rom region e s h = both_are (faults rom region s e) no_faults h refl

pub one_state : (rom : List ℕ) (region : Region) (e : Event) (s : MState) → next rom s e ≡ (play rom region s (e ∷ [])).state
unfolding play
one_state rom region e s = refl

pub none_faults : (rom : List ℕ) (region : Region) (s : MState) → (play rom region s []).faults ≡ no_faults
unfolding play
none_faults rom region s = refl

pub none_state : (rom : List ℕ) (region : Region) (s : MState) → s ≡ (play rom region s []).state
unfolding play
none_state rom region s = refl
