use Rattle.std.proofs.Common.{◌≡◌, ◌≤◌, ◌++◌, drop, length}
use Rattle.std.specs.List.{filter}
use Rattle.gb_ram_bounds.specs.Returned.{lies_in_one}
use Rattle.gb_summaries.proofs.returning.exit_fills.Given as goal

abbrev pub invariant-loop-fill : goal.invariant-loop-fill
invariant-loop-fill l =
    (l.left.items ++ filter (lies_in_one l.fn.ranges) (drop l.fill-index l.fn.fills) ≡ filter (lies_in_one l.fn.ranges) l.fn.fills)
    × (length l.left.items ≤ l.fill-index)
