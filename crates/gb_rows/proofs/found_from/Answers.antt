use Rattle.std.proofs.Common.{arith}
use Rattle.gb_rows.proofs.Halving.{counts-found}
use Rattle.gb_rows.proofs.found_from.Goals as goal

pub returns-clause-found : goal.returns-clause-found
returns-clause-found g c = counts-found (g.R.Rows.keys c.args.rows.now) (c.args.procedure, c.args.address) c.args.first c.count_near-after.result c.requires.first c.count_near-after.ensures.count

pub returns-clause-few : goal.returns-clause-few
returns-clause-few g c = λ few. c.count_near-after.ensures.asked 16 (omega arith)

pub returns-clause-most : goal.returns-clause-most
returns-clause-most g c = λ few. c.count_near-after.ensures.asked 21 (omega arith)
