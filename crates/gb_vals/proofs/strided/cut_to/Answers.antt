use Rattle.gb_vals.proofs.CuttingLaws.{cut_to_keeps, cut_to_inhabited, cut_to_origin}
use Rattle.gb_vals.proofs.strided.cut_to.Goals as goal

pub returns-clause-keeps : goal.returns-clause-keeps
returns-clause-keeps c = cut_to_keeps _ _ _ c.least_to_greatest.ensures

pub returns-clause-inhabited : goal.returns-clause-inhabited
returns-clause-inhabited c = cut_to_inhabited _ _ _ c.least_to_greatest.ensures

pub returns-clause-kept : goal.returns-clause-kept
returns-clause-kept c = cut_to_origin _ _ _ c.least_to_greatest.ensures
