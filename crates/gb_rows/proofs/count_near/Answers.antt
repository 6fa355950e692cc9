use Rattle.gb_rows.proofs.Doubling.{near-asked}
use Rattle.gb_rows.proofs.count_near.Goals as goal

pub returns-clause-asked : goal.returns-clause-asked
returns-clause-asked g c = λ bits few. near-asked (g.R.Rows.keys c.args.rows.now) c.bracket-low.result.0 c.bracket-low.result.1 (g.R.Rows.asked c.args.rows.now) (g.R.Rows.asked c.bracket-low.new.rows) (g.R.Rows.asked c.count_between.new.rows) bits c.bracket-low.ensures.between.within (c.bracket-low.ensures.asked bits few) (c.count_between.ensures.asked bits) few
