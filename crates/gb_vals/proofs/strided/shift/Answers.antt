use Rattle.gb_vals.proofs.CuttingLaws.{swap_inhabited}
use Rattle.gb_vals.proofs.strided.shift.Goals as goal

pub returns-in-Swap-clause-inhabited : goal.returns-in-Swap-clause-inhabited
returns-in-Swap-clause-inhabited c = λ is flags. swap_inhabited _ _ _ c.swap.ensures is (c.shift-outcome.ensures.inhabited is flags)
