-- Every list of events, calls and returns among them.
use Rattle.std.proofs.Common.{◌≡◌, ℕ, false, List, [], ◌∷◌, refl}
use Rattle.std.specs.List.{All}
use Rattle.std.proofs.lemmas.List.Elements.{All-append, All-nil}
use Rattle.gb_ops.specs.declared.machine.Event.{Event}
use Rattle.gb_ops.specs.Faults.{no_faults, either_faults}
use Rattle.gb_ops.specs.Play.{MState, next, play}
use Rattle.gb_successors.specs.Below.gb_abs.Meaning.{Activation}
use Rattle.gb_successors.specs.Below.gb_domain.Certificate.{Certificate}
use Rattle.gb_calls.specs.Below.gb_states.WholeRules.{IsCertificate}
use Rattle.gb_successors.specs.Places.{IsCertified}
use Rattle.gb_rules.specs.Safety.{IsMeant, IsSafeEvent}
use Rattle.gb_rules.specs.Frames.{IsStanding}
use Rattle.gb_rules.proofs.StandingLaws.{IsStanding-event}
pub use Rattle.gb_rules.proofs.StandingLaws.{IsStanding-start}

-- a machine that stands is neither locked nor stopped
pub IsStanding-running : (rom : List ℕ) (cert : Certificate) (s : MState) → IsStanding rom cert s → (s.processor.locked ≡ false) × (s.processor.stopped ≡ false)
IsStanding-running rom cert s k = let core = k.stands.meant.at.means.parts.core in (core.locked, core.stopped)

-- each event, from each state that a node of a procedure means
pub record AreEventsSafe (rom : List ℕ) (cert : Certificate) : Type 0 where
  pub gives : (procedure : ℕ) (entry : Activation) (base : ℕ) (s : MState) (e : Event) → IsMeant rom cert procedure entry base s → IsSafeEvent rom cert procedure entry base s e

-- a run has no fault, fetches certified places, and leads to a state in which the machine stands
pub record IsSafeRun (rom : List ℕ) (cert : Certificate) (s : MState) (events : List Event) : Type 0 where
  pub faults : (play rom cert.region s events).faults ≡ no_faults
  pub places : All (IsCertified rom cert) (play rom cert.region s events).places
  pub standing : IsStanding rom cert (play rom cert.region s events).state

-- every list of events, from a state in which the machine stands
pub run_safe : (rom : List ℕ) (cert : Certificate) (s : MState) (events : List Event) → IsCertificate cert → AreEventsSafe rom cert → IsStanding rom cert s
    → IsSafeRun rom cert s events
unfolding play either_faults
run_safe rom cert s [] certificate safe k = record { faults = refl; places = All-nil _; standing = k }
run_safe rom cert s (e ∷ events) certificate safe k =
    let first = safe.gives k.procedure k.entry k.base s e k.stands.meant in
    let after = IsStanding-event rom cert k.frames k.procedure k.entry k.base s e certificate k.stands first in
    let rest = run_safe rom cert (next rom s e) events certificate safe after in
    record {
      faults = rw (first.faults, rest.faults) refl;
      places = All-append (IsCertified rom cert) _ _ first.places rest.places;
      standing = rest.standing;
    }
