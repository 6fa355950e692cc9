use Rattle.std.proofs.Common.{sym}
use Rattle.gb_pairs.proofs.CutLaws.{reduced_cuts}
use Rattle.gb_pairs.proofs.KeptLaws.{reduced_kept}
use Rattle.gb_pairs.proofs.reduced.reduce.Goals as goal

pub returns-clause-cuts : goal.returns-clause-cuts
returns-clause-cuts c = reduced_cuts _ _ _ _ (sym c.reduce_by_need.ensures.exact)

pub returns-clause-kept : goal.returns-clause-kept
returns-clause-kept c = λ may_be. reduced_kept may_be _ _ _ _ (sym c.reduce_by_need.ensures.exact)
