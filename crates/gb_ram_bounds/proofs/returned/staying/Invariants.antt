use Rattle.std.proofs.Common.{◌≡◌, ◌+◌, ◌-◌, drop}
use Rattle.gb_ram_bounds.specs.Returned.{staying}
use Rattle.gb_ram_bounds.proofs.returned.staying.Given as goal

abbrev pub invariant-loop-number : goal.invariant-loop-number
invariant-loop-number l =
    staying l.fn.ranges l.fn.exit l.fn.cells l.fn.facts l.fn.in_exit l.fn.in_caller
    ≡ l.number + staying l.fn.ranges l.fn.exit l.fn.cells (drop l.number l.fn.facts) (l.fn.in_exit - l.number) (l.fn.in_caller - l.number)
