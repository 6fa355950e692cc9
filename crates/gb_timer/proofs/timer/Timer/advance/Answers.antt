use Rattle.std.proofs.Common.{◌∙◌}
use Rattle.gb_timer.proofs.Ticking.{advanced_is, overflows_is}
use Rattle.gb_timer.proofs.timer.Timer.advance.Goals as goal

pub returns-clause-state_by_cycles : goal.returns-clause-state_by_cycles
returns-clause-state_by_cycles c = c.pass.ensures.state ∙ advanced_is _ _ c.pass.ensures.range

pub returns-clause-overflows_by_cycles : goal.returns-clause-overflows_by_cycles
returns-clause-overflows_by_cycles c = c.pass.ensures.overflows ∙ overflows_is _ _ c.pass.ensures.range
