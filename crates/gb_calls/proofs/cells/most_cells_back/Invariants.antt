use Rattle.std.proofs.Common.{◌≡◌, ◌≤◌, length, take, drop}
use Rattle.std.specs.List.{filter}
use Rattle.gb_calls.specs.Resuming.{is_in_ranges, is_out_of_ranges, merged}
use Rattle.gb_calls.specs.Told.{cell_back}
use Rattle.gb_calls.proofs.CellLaws.{written}
use Rattle.gb_calls.proofs.cells.most_cells_back.Given as goal

abbrev pub invariant-loop-cell : goal.invariant-loop-cell
invariant-loop-cell l = record {
  few : length l.cells.items ≤ 64;
  left : take 64 (merged (written (cell_back l.caller.program.now l.caller.is_whole l.caller.kept.now.items l.caller.state.now) (is_in_ranges l.ranges) (drop l.cell-index l.exit)) l.cells.items)
      ≡ take 64 (merged (written (cell_back l.caller.program.now l.caller.is_whole l.caller.kept.now.items l.caller.state.now) (is_in_ranges l.ranges) l.exit) (filter (is_out_of_ranges l.ranges) l.caller.state.now.cells));
}
