-- What is written for the file of a cartridge on which a list of events is played.
use Rattle.std.specs.Prelude.{◌≡◌, ℕ, List, length, Option, ◌⊎◌}
use Rattle.gb_ops.specs.declared.machine.Region.{Region}
use Rattle.gb_ops.specs.Play.{MState}
use Rattle.gb_header.specs.Header.{IsCartridge, IsLowestFault}
use Rattle.gb_text.specs.Sink.{Gains}
use Rattle.gb_text.specs.Text.{GainsBeginning}
use Rattle.gb_text.specs.Cartridge.{cartridge_text}
use Rattle.gb_hunt.specs.Below.gb_printed.Commands.{IsBegunFault}
use Rattle.gb_hunt.specs.Below.gb_watch.Verified.{IsVerifiedFor}
use Rattle.gb_events.specs.Line.{replay_text}
use Rattle.gb_events.specs.Replay.{events_of, IsCleared, IsReplay}
use Rattle.gb_events.specs.declared.files.ReplayOutcome.{ReplayOutcome}
use Rattle.gb_events.specs.declared.files.ReplayOutcome.TheVariants as outcome
use Rattle.gb_events.specs.declared.list.Repeated.{Repeated}
use Rattle.gb_events.specs.declared.play.Replayed.{Replayed}
use Rattle.gb_events.specs.declared.play.Replayed.TheVariants as replayed

-- a cartridge, and a list's run from power-up with zeros in RAM; it is whole where some certificate with the region is right for the cartridge
pub record IsReplayedFile (file : List ℕ) (list : List Repeated) (region : Region) (told : Replayed) : Type 0 where
  pub cartridge : IsCartridge file
  pub start : MState
  pub cleared : IsCleared file start
  pub new : MState
  pub replay : IsReplay file region start (events_of list) told new
  pub verified : IsVerifiedFor file region → told ≡ replayed.Whole (length (events_of list))

-- such a run, and a sink that gained its line
pub record IsWrittenReplay (file : List ℕ) (list : List Repeated) (region : Region) (told : Replayed) (before after : Option (List ℕ)) : Type 0 where
  pub run : IsReplayedFile file list region told
  pub text : Gains before (replay_text told) after

-- such a run, and a sink that gained a beginning of its line
pub record IsBegunReplay (file : List ℕ) (list : List Repeated) (region : Region) (before after : Option (List ℕ)) : Type 0 where
  pub told : Replayed
  pub run : IsReplayedFile file list region told
  pub text : GainsBeginning before (replay_text told) after

-- what was written, by the outcome: where memory ran out, nothing
abbrev pub IsReplayWritten : ReplayOutcome → List ℕ → List Repeated → Region → Option (List ℕ) → Option (List ℕ) → Type 0
IsReplayWritten (outcome.Told told) file list region before after = IsWrittenReplay file list region told before after
IsReplayWritten (outcome.NoCartridge fault) file list region before after = IsLowestFault file fault × Gains before (cartridge_text fault) after
IsReplayWritten outcome.NoMemory file list region before after = IsCartridge file × (after ≡ before)

-- a beginning of what is to be written
abbrev pub IsReplayBegun : List ℕ → List Repeated → Region → Option (List ℕ) → Option (List ℕ) → Type 0
IsReplayBegun file list region before after = IsBegunFault file before after ⊎ IsBegunReplay file list region before after
