use Rattle.gb_abs_effects.proofs.RangeLaws.{transfer_inhabited}
use Rattle.gb_abs_effects.proofs.transfer.transfer_in.Goals as goal

pub returns-clause-inhabited : goal.returns-clause-inhabited
returns-clause-inhabited c = transfer_inhabited _ _ _ _ _ _ _ _ c.apply.ensures c.holds_bytes.ensures.numbers c.holds_bytes.ensures.word
