use Rattle.std.proofs.Common.{◌≡◌, ◌++◌, drop, map}
use Rattle.gb_ram_bounds.specs.Fills.{filled}
use Rattle.gb_summaries.proofs.stores.fills_stored.Given as goal

abbrev pub invariant-loop-fill : goal.invariant-loop-fill
invariant-loop-fill l =
    l.fills.items ++ map (filled l.fn.cells l.fn.store.addresses l.fn.store.through l.fn.store.value) (drop l.fill-index l.fill-items)
    ≡ map (filled l.fn.cells l.fn.store.addresses l.fn.store.through l.fn.store.value) l.fill-items
