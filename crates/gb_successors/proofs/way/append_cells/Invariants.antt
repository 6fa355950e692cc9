use Rattle.std.proofs.Common.{◌≡◌, ◌+◌, ◌++◌, length, take}
use Rattle.gb_successors.proofs.way.append_cells.Given as goal

abbrev pub invariant-loop-cell : goal.invariant-loop-cell
invariant-loop-cell l = record {
  count : length l.state.cells ≡ length l.fn.state.cells + l.cell-index;
  same : l.state ≡ record l.fn.state { cells = l.fn.state.cells ++ take l.cell-index l.cells };
}
