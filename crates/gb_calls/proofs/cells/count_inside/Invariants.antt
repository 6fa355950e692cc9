use Rattle.std.proofs.Common.{◌≡◌, ◌≤◌, ◌+◌, drop, length}
use Rattle.std.specs.List.{filter}
use Rattle.gb_calls.specs.Resuming.{is_in_ranges}
use Rattle.gb_calls.proofs.cells.count_inside.Given as goal

abbrev pub invariant-loop-cell : goal.invariant-loop-cell
invariant-loop-cell l =
    (l.count + length (filter (is_in_ranges l.fn.ranges) (drop l.cell-index l.fn.cells)) ≡ length (filter (is_in_ranges l.fn.ranges) l.fn.cells))
    × (l.count ≤ l.cell-index)
