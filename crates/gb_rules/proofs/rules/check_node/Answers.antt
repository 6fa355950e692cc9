use Rattle.gb_rules.proofs.AnswerLaws.{check_node_safe}
use Rattle.gb_rules.proofs.rules.check_node.Goals as goal

pub returns-clause-safe : goal.returns-clause-safe
returns-clause-safe c = check_node_safe c.args.rom.now c.args.cert.now c.args.i _ c.holds_bytes.ensures c.region-region.ensures.rules c.lowest_reason.ensures
