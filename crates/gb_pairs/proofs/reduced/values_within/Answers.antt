use Rattle.gb_pairs.proofs.StrideLaws.{plain_values}
use Rattle.gb_pairs.proofs.reduced.values_within.Goals as goal

pub returns-then-val-eq0 : goal.returns-then-val-eq0
returns-then-val-eq0 c = plain_values c.args.lo c.args.hi c.args.val c.requires c.if-val-eq0.true
