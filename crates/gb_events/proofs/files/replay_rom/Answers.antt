use Rattle.std.proofs.Common.{◌≡◌, ◌≤◌, ℕ, List, length, slice_index, subst}
use Rattle.gb_events.specs.Replay.{events_of, IsReplay}
use Rattle.gb_events.proofs.Judging.{verified_whole}
use Rattle.gb_events.proofs.files.replay_rom.Goals as goal

pub returns : goal.returns
returns c =
    let replay : IsReplay c.args.rom.now c.args.region c.in_ok-machine.machine.state.machine (events_of c.args.list.now) c.play_events.result c.play_events.new.machine.state.machine =
    subst (λ (x : List ℕ). IsReplay x c.args.region c.in_ok-machine.machine.state.machine (events_of c.args.list.now) c.play_events.result c.play_events.new.machine.state.machine) c.in_ok-machine.ensures.rom
    c.play_events.ensures.replay in
    record {
      cartridge = c.bytes.ensures.cartridge;
      start = c.in_ok-machine.machine.state.machine;
      cleared = c.in_ok-machine.ensures.cleared;
      new = c.play_events.new.machine.state.machine;
      replay = replay;
      verified =
          λ v. verified_whole c.args.rom.now c.args.region c.in_ok-machine.machine.state.machine (events_of c.args.list.now) c.play_events.result c.play_events.new.machine.state.machine c.bytes.ensures.cartridge
          (subst (λ (xs : List ℕ). (i : ℕ) → slice_index xs i ≤ 255) c.bytes.ensures.bytes c.are_bytes.ensures) v c.in_ok-machine.ensures.cleared.start replay;
    }
