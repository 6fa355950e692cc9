use Rattle.std.proofs.Common.{◌≡◌, drop}
use Rattle.gb_calls.specs.Calls.{with_kept}
use Rattle.gb_calls.proofs.entering.put_kept.Given as goal

abbrev pub invariant-loop-number : goal.invariant-loop-number
invariant-loop-number l = record {
  same : l.entered ≡ record l.fn.entered { cells = l.entered.cells };
  left : with_kept l.program l.rules l.state l.number (drop l.number l.kept.items) l.entered.cells ≡ with_kept l.program l.rules l.state 0 l.kept.items l.fn.entered.cells;
}
