use Rattle.std.proofs.Common.{◌≡◌, ◌-◌}
use Rattle.gb_rows.specs.Rows.{IsBetween}
use Rattle.gb_rows.proofs.Halving.{Halving}
use Rattle.gb_rows.proofs.count_between.Given as goal

abbrev pub invariant-loop-low : goal.invariant-loop-low
invariant-loop-low g l = record {
  same : g.R.Rows.keys l.rows ≡ g.R.Rows.keys l.fn.rows;
  between : IsBetween (g.R.Rows.keys l.fn.rows) l.with_targets l.target l.low l.high;
  half : Halving (l.to - l.from) (g.R.Rows.asked l.fn.rows) (g.R.Rows.asked l.rows) (l.high - l.low);
}

abbrev pub decreases-loop-low : goal.decreases-loop-low
decreases-loop-low g l = l.high - l.low
