use Rattle.gb_abs.proofs.OperationLaws.{with_value_inhabited}
use Rattle.gb_abs.proofs.operations.with_value.Goals as goal

pub returns-clause-inhabited : goal.returns-clause-inhabited
returns-clause-inhabited c = λ core. with_value_inhabited _ _ _ _ c.bounds_narrowed.ensures c.ranges.value.fits core
