use Rattle.std.proofs.Common.{◌≡◌, ◌+◌, ◌-◌}
use Rattle.gb_copies.specs.Sides.{greatest_from}
use Rattle.gb_copies.specs.Fitting.{fits}
use Rattle.gb_copies.proofs.fitting.greatest.Given as goal

abbrev pub invariant-loop-number : goal.invariant-loop-number
invariant-loop-number l =
    greatest_from (fits l.fn.kind l.fn.window l.fn.places) (l.fn.last + 1 - l.fn.first) l.fn.last
    ≡ greatest_from (fits l.fn.kind l.fn.window l.fn.places) (l.number + 1 - l.fn.first) l.number
