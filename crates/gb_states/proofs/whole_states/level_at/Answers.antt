use Rattle.gb_states.proofs.LevelLaws.{level_told}
use Rattle.gb_states.proofs.whole_states.level_at.Goals as goal

pub returns-then-level-facts : goal.returns-then-level-facts
returns-then-level-facts c =
    level_told c.args.facts c.args.test c.args.bytes.now c.from_le_bytes-level.result c.in-len5-up.len_at_least c.if-present-eq0.true c.if-declared-eq2.true c.if-fills-eq0.true
    c.if-is_none.ensures c.from_le_bytes-level.ensures c.if-level-gt0.true c.if-level-facts.true
