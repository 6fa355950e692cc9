use Rattle.std.proofs.Common.{arith}
use Rattle.gb_rows.proofs.first_near.Goals as goal

pub returns-clause-few : goal.returns-clause-few
returns-clause-few g c = λ few. c.count_near.ensures.asked 16 (omega arith)

pub returns-clause-most : goal.returns-clause-most
returns-clause-most g c = λ few. c.count_near.ensures.asked 21 (omega arith)
