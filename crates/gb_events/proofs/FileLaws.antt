-- What reading a cartridge's file says of the line that is written for it.
use Rattle.std.proofs.Common.{◌≡◌, ℕ, List, Option, Ok, inr, subst}
use Rattle.gb_ops.specs.declared.machine.Region.{Region}
use Rattle.gb_header.specs.Header as Header
use Rattle.gb_text.specs.Sink.{Gains}
use Rattle.gb_text.specs.Text.{GainsBeginning}
use Rattle.gb_hunt.proofs.Parsing.{parsed_is}
use Rattle.gb_events.specs.Files.{IsReplayedFile, IsWrittenReplay, IsReplayBegun}
use Rattle.gb_events.specs.Line.{replay_text}
use Rattle.gb_events.specs.declared.list.Repeated.{Repeated}
use Rattle.gb_events.specs.declared.play.Replayed.{Replayed}

same_file : (file parsed : List ℕ) (list : List Repeated) (region : Region) (told : Replayed) → Ok parsed ≡ Header.parsed file → IsReplayedFile parsed list region told → IsReplayedFile file list region told
same_file file parsed list region told h run = subst (λ (x : List ℕ). IsReplayedFile x list region told) (parsed_is file parsed h) run

pub replayed_file : (file parsed : List ℕ) (list : List Repeated) (region : Region) (told : Replayed) (before after : Option (List ℕ)) → Ok parsed ≡ Header.parsed file → IsReplayedFile parsed list region told
    → Gains before (replay_text told) after → IsWrittenReplay file list region told before after
replayed_file file parsed list region told before after h run text = record { run = same_file file parsed list region told h run; text = text }

pub begun_file : (file parsed : List ℕ) (list : List Repeated) (region : Region) (told : Replayed) (before after : Option (List ℕ)) → Ok parsed ≡ Header.parsed file → IsReplayedFile parsed list region told
    → GainsBeginning before (replay_text told) after → IsReplayBegun file list region before after
begun_file file parsed list region told before after h run text = inr (record { told = told; run = same_file file parsed list region told h run; text = text })
