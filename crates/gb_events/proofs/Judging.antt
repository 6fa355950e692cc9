-- Where a certificate with the region is right, no event of a list has a fault.
use Rattle.std.proofs.Common.{◌≡◌, ◌≤◌, ℕ, List, length, slice_index, subst}
use Rattle.gb_ops.specs.declared.machine.Event.{Event}
use Rattle.gb_ops.specs.declared.machine.Region.{Region}
use Rattle.gb_ops.specs.Faults.{no_faults}
use Rattle.gb_ops.specs.Play.{MState, IsStart, play}
use Rattle.gb_header.specs.Header.{IsCartridge}
use Rattle.gb_header.proofs.Laws.{rom_banks-cartridge, rom_size-cartridge}
use Rattle.gb_hunt.specs.Below.gb_console.Below.gb_verify.Headline.{IsSafe}
use Rattle.gb_hunt.specs.Below.gb_console.Below.gb_verify.Below.gb_abs_memory.Sound.{IsRom}
use Rattle.gb_hunt.specs.Below.gb_watch.Verified.{IsVerifiedFor}
use Rattle.gb_hunt.proofs.Below.gb_console_laws.Below.gb_verify_laws.RunLaws.{IsSafe-right}
use Rattle.gb_events.specs.Replay.{IsReplay}
use Rattle.gb_events.specs.Verified.{VerifiedReplaysAreWhole}
use Rattle.gb_events.specs.declared.play.Replayed.{Replayed}
use Rattle.gb_events.specs.declared.play.Replayed.TheVariants as replayed
use Rattle.gb_events.proofs.Replaying.{whole_are_faultless}

is_rom : (rom : List ℕ) → IsCartridge rom → ((i : ℕ) → slice_index rom i ≤ 255) → IsRom rom
is_rom rom c bytes =
    record {
      size = record { exponent = slice_index rom 0x148; small = rom_size-cartridge rom c; power = rom_banks-cartridge rom c };
      bytes = bytes;
    }

pub verified_whole : VerifiedReplaysAreWhole
verified_whole rom region start events told new cartridge bytes v is_start replay =
    let safe : IsSafe rom v.certificate = IsSafe-right rom v.certificate (is_rom rom cartridge bytes) v.rules v.right in
    let none : (play rom region start events).faults ≡ no_faults =
    subst (λ (g : Region). (play rom g start events).faults ≡ no_faults) v.region_is (safe.faults start events is_start) in
    (whole_are_faultless rom region start events told new replay).1 none
