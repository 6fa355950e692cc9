use Rattle.gb_vals.proofs.AluLaws.{alu_itself_inhabited}
use Rattle.gb_vals.proofs.OriginLaws.{alu_itself_kept}
use Rattle.gb_vals.proofs.alu.alu_itself.Goals as goal

pub returns-clause-inhabited : goal.returns-clause-inhabited
returns-clause-inhabited c = alu_itself_inhabited _ _ _ _ c.outcome_of_itself.ensures

pub returns-clause-kept : goal.returns-clause-kept
returns-clause-kept c = alu_itself_kept _ _ _ _ c.outcome_of_itself.ensures
