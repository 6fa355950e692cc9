use Rattle.std.proofs.Common.{◌≡◌, ◌+◌, ◌-◌}
use Rattle.gb_copies.specs.Sides.{is_left, least_from}
use Rattle.gb_copies.proofs.sides.least.Given as goal

abbrev pub invariant-loop-value : goal.invariant-loop-value
invariant-loop-value l =
    least_from (is_left l.fn.mask l.fn.wanted l.fn.values) (l.fn.values.hi + 1 - l.fn.values.lo) l.fn.values.lo
    ≡ least_from (is_left l.fn.mask l.fn.wanted l.fn.values) (l.fn.values.hi + 1 - l.value) l.value
