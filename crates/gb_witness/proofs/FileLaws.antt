-- What reading a cartridge's file says of the line that is written for it.
use Rattle.std.proofs.Common.{◌≡◌, ℕ, List, Option, Ok, inr, sym, ◌∙◌, ap, subst}
use Rattle.gb_ops.specs.declared.machine.Region.{Region}
use Rattle.gb_text.specs.Below.gb_header.Header.{IsCartridge}
use Rattle.gb_text.specs.Below.gb_header.Header as Header
use Rattle.gb_printed.specs.Below.gb_console.Console.{ConsoleState, at_power_up, rom_of}
use Rattle.gb_printed.specs.Below.gb_console.declared.frame.Ending.TheVariants as ending
use Rattle.gb_printed.specs.Below.gb_watch.Verified.{IsVerifiedFor}
use Rattle.gb_printed.specs.Below.gb_watch.declared.sighting.Watched.TheVariants as watched
use Rattle.gb_printed.proofs.Files.{parsed_same}
use Rattle.gb_witness.specs.Witness.{IsWrittenWatch, IsBegunWatch}
use Rattle.gb_witness.specs.Files.{IsWatchedFile, IsWatchBegun}
use Rattle.gb_witness.specs.declared.witness.WatchedRun.{WatchedRun}

pub watched_file : (file parsed script : List ℕ) (frames : ℕ) (region : Region) (s new : ConsoleState) (told : WatchedRun) (before after : Option (List ℕ)) → Ok parsed ≡ Header.parsed file
    → IsCartridge file → s ≡ at_power_up parsed → IsWrittenWatch region script frames s told new before after
    → (IsVerifiedFor (rom_of s) region → told.watched ≡ watched.Ended ending.Whole) → IsWatchedFile file script frames region told before after
watched_file file parsed script frames region s new told before after h cartridge start written verified =
    let same : s ≡ at_power_up file = start ∙ ap at_power_up (parsed_same file parsed h).0 in
    record {
      cartridge = cartridge;
      new = new;
      written = subst (λ (x : ConsoleState). IsWrittenWatch region script frames x told new before after) same written;
      verified = λ v. verified (subst (λ (x : ConsoleState). IsVerifiedFor (rom_of x) region) (sym same) v);
    }

pub begun_file : (file parsed script : List ℕ) (frames : ℕ) (region : Region) (s new : ConsoleState) (before after : Option (List ℕ)) → Ok parsed ≡ Header.parsed file
    → IsCartridge file → s ≡ at_power_up parsed → IsBegunWatch region script frames s new before after → IsWatchBegun file script frames region before after
begun_file file parsed script frames region s new before after h cartridge start begun =
    inr (record {
      cartridge = cartridge;
      new = new;
      begun = subst (λ (x : ConsoleState). IsBegunWatch region script frames x new before after) (start ∙ ap at_power_up (parsed_same file parsed h).0) begun;
    })
