use Rattle.std.proofs.Common.{◌≡◌, ◌+◌, ◌-◌}
use Rattle.std.specs.Prelude.{min, max}
use Rattle.gb_ram_bounds.specs.Addresses.{is_in, some_of}
use Rattle.gb_ram_bounds.proofs.fills.is_touched.Given as goal

abbrev pub invariant-loop-address : goal.invariant-loop-address
invariant-loop-address l =
    some_of (is_in l.fn.stored) (min l.fn.fill.last l.fn.stored.last + 1 - max l.fn.fill.first l.fn.stored.first) (max l.fn.fill.first l.fn.stored.first)
    ≡ some_of (is_in l.fn.stored) (min l.fn.fill.last l.fn.stored.last + 1 - l.address) l.address
