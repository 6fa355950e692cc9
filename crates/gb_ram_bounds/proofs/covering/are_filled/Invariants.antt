use Rattle.std.proofs.Common.{◌≡◌, ◌+◌, ◌-◌}
use Rattle.gb_ram_bounds.specs.Addresses.{each_of}
use Rattle.gb_ram_bounds.specs.Covering.{is_filled_at}
use Rattle.gb_ram_bounds.proofs.covering.are_filled.Given as goal

abbrev pub invariant-loop-address : goal.invariant-loop-address
invariant-loop-address l =
    each_of (is_filled_at l.fn.facts l.fn.cells l.fn.fills l.fn.pointers l.fn.kept l.fn.fill) (l.fn.stretch.last + 1 - l.fn.stretch.first) l.fn.stretch.first
    ≡ each_of (is_filled_at l.fn.facts l.fn.cells l.fn.fills l.fn.pointers l.fn.kept l.fn.fill) (l.fn.stretch.last + 1 - l.address) l.address
