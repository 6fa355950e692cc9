-- Lists of events that are played, up to the first event with a fault (own).
use Rattle.std.specs.Prelude.{◌≡◌, ◌≢◌, ◌↔◌, ℕ, List, [], ◌∷◌, ◌++◌, length, replicate}
use Rattle.gb_ops.specs.declared.machine.Event.{Event}
use Rattle.gb_ops.specs.declared.machine.Region.{Region}
use Rattle.gb_ops.specs.Faults.{no_faults, code_place}
use Rattle.gb_ops.specs.Play.{MState, IsStart, faults, play, within}
use Rattle.gb_events.specs.declared.list.Repeated.{Repeated}
use Rattle.gb_events.specs.declared.play.FaultyEvent.{FaultyEvent}
use Rattle.gb_events.specs.declared.play.Replayed.{Replayed}
use Rattle.gb_events.specs.declared.play.Replayed.TheVariants as replayed

-- the events of a list: each of its events as often as it is counted, one after another
unfoldable pub events_of : List Repeated → List Event
events_of [] = []
events_of (item ∷ items) = replicate item.count item.event ++ events_of items

-- power-up with zeros in work RAM and high RAM
pub record IsCleared (rom : List ℕ) (s : MState) : Type 0 where
  pub start : IsStart rom s
  pub work : s.storage.work ≡ replicate 8192 0
  pub high : s.storage.high ≡ replicate 127 0

-- all of some events: the machine's run over them has no fault, and leaves the machine where it is
pub record IsWholeReplay (rom : List ℕ) (region : Region) (old : MState) (events : List Event) (number : ℕ) (new : MState) : Type 0 where
  pub number_is : number ≡ length events
  pub faultless : (play rom region old events).faults ≡ no_faults
  pub state : new ≡ (play rom region old events).state

-- The first of some events with a fault: the run over those before it has none, and leaves the machine where it is; what is told are
-- exactly the faults that the event has there, and where the processor is.
pub record IsFaultyReplay (rom : List ℕ) (region : Region) (old : MState) (events : List Event) (told : FaultyEvent) (new : MState) : Type 0 where
  pub before : List Event
  pub after : List Event
  pub events_are : events ≡ before ++ told.event ∷ after
  pub reached : IsWholeReplay rom region old before told.number new
  pub faults : told.faults ≡ faults rom region new told.event
  pub faulty : told.faults ≢ no_faults
  pub place : told.place ≡ code_place (within rom new).memory new.processor.pc

abbrev pub IsReplay : List ℕ → Region → MState → List Event → Replayed → MState → Type 0
IsReplay rom region old events (replayed.Whole number) new = IsWholeReplay rom region old events number new
IsReplay rom region old events (replayed.Faulty told) new = IsFaultyReplay rom region old events told new

-- what is told is whole exactly where the machine's run over all events has no fault
abbrev pub WholeReplaysAreFaultless : Type 0
WholeReplaysAreFaultless =
    (rom : List ℕ) (region : Region) (old : MState) (events : List Event) (told : Replayed) (new : MState) → IsReplay rom region old events told new
    → (told ≡ replayed.Whole (length events)) ↔ ((play rom region old events).faults ≡ no_faults)
