use Rattle.std.proofs.Common.{◌≡◌, ◌≤◌, ◌-◌}
use Rattle.std.specs.Prelude.{length}
use Rattle.gb_rows.specs.Rows.{IsBetween}
use Rattle.gb_rows.proofs.Doubling.{Doubling}
use Rattle.gb_rows.proofs.bracket.Given as goal

abbrev pub invariant-loop-probe : goal.invariant-loop-probe
invariant-loop-probe g l = record {
  same : g.R.Rows.keys l.rows ≡ g.R.Rows.keys l.fn.rows;
  above : l.low ≤ l.probe;
  between : IsBetween (g.R.Rows.keys l.fn.rows) l.with_targets l.target l.low l.high;
  doubles : Doubling (length (g.R.Rows.keys l.fn.rows)) (g.R.Rows.asked l.fn.rows) (g.R.Rows.asked l.rows) l.probe l.step l.high;
}

abbrev pub decreases-loop-probe : goal.decreases-loop-probe
decreases-loop-probe g l = l.high - l.probe
