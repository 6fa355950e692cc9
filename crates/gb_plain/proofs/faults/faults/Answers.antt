use Rattle.std.proofs.Common.{sym, ◌∙◌}
use Rattle.gb_plain.proofs.Meeting.{faults_met}
use Rattle.gb_plain.proofs.faults.faults.Goals as goal

pub returns : goal.returns
returns c =
    faults_met c.args.state.now.rom c.args.region c.args.state.now.machine c.args.event c.met-met.result c.limits.result c.processor.result c.event_faults.result
    c.event_faults.ensures c.limits.ensures c.processor.ensures c.met-met.ensures (sym c.is_possible.ensures ∙ c.if-not-is_possible.false)
