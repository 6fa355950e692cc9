use Rattle.std.proofs.Common.{◌≡◌, ◌+◌, ◌-◌}
use Rattle.gb_copies.specs.Sides.{least_from}
use Rattle.gb_copies.specs.Fitting.{fits}
use Rattle.gb_copies.proofs.fitting.least.Given as goal

abbrev pub invariant-loop-number : goal.invariant-loop-number
invariant-loop-number l =
    least_from (fits l.fn.kind l.fn.window l.fn.places) (l.fn.last + 1 - l.fn.first) l.fn.first
    ≡ least_from (fits l.fn.kind l.fn.window l.fn.places) (l.fn.last + 1 - l.number) l.number
