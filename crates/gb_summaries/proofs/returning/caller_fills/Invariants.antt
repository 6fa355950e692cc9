use Rattle.std.proofs.Common.{◌≡◌, ◌≤◌, ◌++◌, drop, length}
use Rattle.std.specs.List.{filter_map}
use Rattle.gb_ram_bounds.specs.Returned.{left_of_caller}
use Rattle.gb_summaries.proofs.returning.caller_fills.Given as goal

abbrev pub invariant-loop-fill : goal.invariant-loop-fill
invariant-loop-fill l =
    (l.left.items ++ filter_map (left_of_caller l.fn.ranges l.fn.kept l.fn.pointers) (drop l.fill-index l.fn.fills)
    ≡ filter_map (left_of_caller l.fn.ranges l.fn.kept l.fn.pointers) l.fn.fills)
    × (length l.left.items ≤ l.fill-index)
