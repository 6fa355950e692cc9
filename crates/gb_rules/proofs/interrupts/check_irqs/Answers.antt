use Rattle.gb_rules.proofs.InterruptLaws.{check_irqs_safe}
use Rattle.gb_rules.proofs.interrupts.check_irqs.Goals as goal

pub returns-clause-safe : goal.returns-clause-safe
returns-clause-safe c = λ right. check_irqs_safe c.args.rom.now c.args.cert.now c.args.i _ c.holds_bytes.ensures c.region-region.ensures.rules c.provided_at.ensures right
