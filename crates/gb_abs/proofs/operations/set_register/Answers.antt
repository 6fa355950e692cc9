use Rattle.gb_abs.proofs.OperationLaws.{set_register_inhabited}
use Rattle.gb_abs.proofs.operations.set_register.Goals as goal

pub returns-clause-inhabited : goal.returns-clause-inhabited
returns-clause-inhabited c = λ val core. set_register_inhabited _ _ _ _ c.put_register.ensures val core
