use Rattle.std.proofs.Common.{◌≡◌, ◌++◌, drop}
use Rattle.std.specs.List.{filter}
use Rattle.gb_calls.specs.Resuming.{is_out_of_ranges}
use Rattle.gb_calls.proofs.cells.outside.Given as goal

abbrev pub invariant-loop-cell : goal.invariant-loop-cell
invariant-loop-cell l =
    l.kept.items ++ filter (is_out_of_ranges l.ranges) (drop l.cell-index l.cells) ≡ filter (is_out_of_ranges l.ranges) l.cells
