use Rattle.gb_domain.proofs.ValueLaws.{SaysOfLowBits-own, IsStrided-val}
use Rattle.gb_domain.proofs.values.interval_of.Goals as goal

pub returns-clause-meaning : goal.returns-clause-meaning
returns-clause-meaning c = SaysOfLowBits-own c.args.val

pub returns-clause-strided : goal.returns-clause-strided
returns-clause-strided c = IsStrided-val c.args.val
