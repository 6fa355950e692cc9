-- What is written for the file of a watched cartridge.
use Rattle.std.specs.Prelude.{◌≡◌, ℕ, List, Option, Some, None, ◌⊎◌}
use Rattle.gb_ops.specs.declared.machine.Region.{Region}
use Rattle.gb_text.specs.Sink.{Gains}
use Rattle.gb_text.specs.Below.gb_header.Header.{IsCartridge, IsLowestFault}
use Rattle.gb_text.specs.Cartridge.{cartridge_text}
use Rattle.gb_printed.specs.Below.gb_console.Console.{ConsoleState, at_power_up, rom_of}
use Rattle.gb_printed.specs.Below.gb_console.declared.frame.Ending.TheVariants as ending
use Rattle.gb_printed.specs.Below.gb_watch.Verified.{IsVerifiedFor}
use Rattle.gb_printed.specs.Below.gb_watch.declared.sighting.Watched.TheVariants as watched
use Rattle.gb_printed.specs.Commands.{IsBegunFault}
use Rattle.gb_witness.specs.Witness.{IsWrittenWatch, IsBegunWatch}
use Rattle.gb_witness.specs.declared.files.WatchOutcome.{WatchOutcome}
use Rattle.gb_witness.specs.declared.files.WatchOutcome.TheVariants as outcome
use Rattle.gb_witness.specs.declared.witness.WatchedRun.{WatchedRun}

-- a cartridge, and a watched run of its console from power-up, whose line was written; it is whole where some certificate with the
-- region is right for the cartridge in the console
pub record IsWatchedFile (file script : List ℕ) (frames : ℕ) (region : Region) (told : WatchedRun) (before after : Option (List ℕ)) : Type 0 where
  pub cartridge : IsCartridge file
  pub new : ConsoleState
  pub written : IsWrittenWatch region script frames (at_power_up file) told new before after
  pub verified : IsVerifiedFor (rom_of (at_power_up file)) region → told.watched ≡ watched.Ended ending.Whole

-- the same, and a beginning of its line
pub record IsBegunWatchedFile (file script : List ℕ) (frames : ℕ) (region : Region) (before after : Option (List ℕ)) : Type 0 where
  pub cartridge : IsCartridge file
  pub new : ConsoleState
  pub begun : IsBegunWatch region script frames (at_power_up file) new before after

-- what was written, by the outcome: where memory ran out, nothing
abbrev pub IsWatchWritten : WatchOutcome → List ℕ → List ℕ → ℕ → Region → Option (List ℕ) → Option (List ℕ) → Type 0
IsWatchWritten (outcome.Told told) file script frames region before after = IsWatchedFile file script frames region told before after
IsWatchWritten (outcome.NoCartridge fault) file script frames region before after = IsLowestFault file fault × Gains before (cartridge_text fault) after
IsWatchWritten outcome.NoMemory file script frames region before after = IsCartridge file × (after ≡ before)

-- a beginning of what is to be written
abbrev pub IsWatchBegun : List ℕ → List ℕ → ℕ → Region → Option (List ℕ) → Option (List ℕ) → Type 0
IsWatchBegun file script frames region before after = IsBegunFault file before after ⊎ IsBegunWatchedFile file script frames region before after
