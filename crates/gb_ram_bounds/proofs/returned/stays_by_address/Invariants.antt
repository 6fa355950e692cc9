use Rattle.std.proofs.Common.{◌≡◌, ◌+◌, ◌-◌}
use Rattle.gb_ram_bounds.specs.Addresses.{each_of}
use Rattle.gb_ram_bounds.specs.Returned.{stays_at}
use Rattle.gb_ram_bounds.proofs.returned.stays_by_address.Given as goal

abbrev pub invariant-loop-address : goal.invariant-loop-address
invariant-loop-address l =
    each_of (stays_at l.fn.ranges l.fn.exit l.fn.cells l.fn.in_exit l.fn.in_caller l.fn.fact) (l.fn.fact.last + 1 - l.fn.fact.first) l.fn.fact.first
    ≡ each_of (stays_at l.fn.ranges l.fn.exit l.fn.cells l.fn.in_exit l.fn.in_caller l.fn.fact) (l.fn.fact.last + 1 - l.address) l.address
