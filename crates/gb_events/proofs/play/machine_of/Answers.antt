use Rattle.std.proofs.Common.{◌≡◌, ap}
use Rattle.gb_plain.specs.Shown.{PlainState}
use Rattle.gb_events.proofs.Replaying.{cleared}
use Rattle.gb_events.proofs.play.machine_of.Goals as goal

pub returns-clause-cleared : goal.returns-clause-cleared
returns-clause-cleared c =
    cleared c.in_ok-state.state.rom c.args.rom.now c.new.result.state.machine c.in_ok-state.state.machine c.in_ok-state.ensures.rom (ap (λ (s : PlainState). s.machine) c.new.ensures) c.in_ok-state.ensures.start
    c.in_ok-state.ensures.work c.in_ok-state.ensures.high
