use Rattle.gb_vals.proofs.AluLaws.{alu_inhabited}
use Rattle.gb_vals.proofs.OriginLaws.{alu_kept}
use Rattle.gb_vals.proofs.alu.alu.Goals as goal

pub returns-clause-inhabited : goal.returns-clause-inhabited
returns-clause-inhabited c = alu_inhabited _ _ _ _ _ c.outcome_of.ensures

pub returns-clause-kept : goal.returns-clause-kept
returns-clause-kept c = alu_kept _ _ _ _ _ c.outcome_of.ensures
