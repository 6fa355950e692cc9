-- Cartridges for which some certificate is right, and lists of events (own).
use Rattle.std.specs.Prelude.{◌≡◌, ◌≤◌, ℕ, List, length, slice_index}
use Rattle.gb_ops.specs.declared.machine.Event.{Event}
use Rattle.gb_ops.specs.declared.machine.Region.{Region}
use Rattle.gb_ops.specs.Play.{MState, IsStart}
use Rattle.gb_header.specs.Header.{IsCartridge}
use Rattle.gb_hunt.specs.Below.gb_watch.Verified.{IsVerifiedFor}
use Rattle.gb_events.specs.Replay.{IsReplay}
use Rattle.gb_events.specs.declared.play.Replayed.{Replayed}
use Rattle.gb_events.specs.declared.play.Replayed.TheVariants as replayed

-- where some certificate with a region is right for a cartridge, any events are played whole from power-up
abbrev pub VerifiedReplaysAreWhole : Type 0
VerifiedReplaysAreWhole =
    (rom : List ℕ) (region : Region) (start : MState) (events : List Event) (told : Replayed) (new : MState) → IsCartridge rom → ((i : ℕ) → slice_index rom i ≤ 255)
    → IsVerifiedFor rom region → IsStart rom start → IsReplay rom region start events told new → told ≡ replayed.Whole (length events)
