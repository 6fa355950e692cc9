use Rattle.std.proofs.Common.{◌≡◌, ◌+◌, ◌-◌}
use Rattle.std.specs.Prelude.{min, max}
use Rattle.gb_ram_bounds.specs.Addresses.{some_of}
use Rattle.gb_ram_bounds.specs.Facts.{is_met_at}
use Rattle.gb_ram_bounds.proofs.facts.meets.Given as goal

abbrev pub invariant-loop-address : goal.invariant-loop-address
invariant-loop-address l =
    some_of (is_met_at l.fn.fact l.fn.stored) (min l.fn.fact.last l.fn.stored.last + 1 - max l.fn.fact.first l.fn.stored.first) (max l.fn.fact.first l.fn.stored.first)
    ≡ some_of (is_met_at l.fn.fact l.fn.stored) (min l.fn.fact.last l.fn.stored.last + 1 - l.address) l.address
