use Rattle.std.proofs.Common.{◌≡◌, ◌+◌, ◌++◌, length, map, take}
use Rattle.gb_product.specs.Below.gb_abs.Origins.{cell_without_origin}
use Rattle.gb_calls.proofs.entering.append_cells.Given as goal

abbrev pub invariant-loop-cell : goal.invariant-loop-cell
invariant-loop-cell l = record {
  count : length l.state.cells ≡ length l.fn.state.cells + l.cell-index;
  same : l.state ≡ record l.fn.state { cells = l.fn.state.cells ++ map cell_without_origin (take l.cell-index l.cells) };
}
