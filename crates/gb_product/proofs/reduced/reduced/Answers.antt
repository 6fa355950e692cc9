use Rattle.gb_product.proofs.reduced.reduced.Goals as goal
use Rattle.gb_product.proofs.ReducedLaws.{reduced_to_cuts}

pub returns-then-reduce-clause-kept : goal.returns-then-reduce-clause-kept
returns-then-reduce-clause-kept c = reduced_to_cuts _ _ _ _ _ _ c.if-reduce.ensures.exact
