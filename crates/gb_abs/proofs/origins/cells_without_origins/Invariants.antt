use Rattle.std.proofs.Common.{◌≡◌, map, take}
use Rattle.arrayvec.specs.ArrayVec.{array_vec_len}
use Rattle.gb_abs.specs.Origins.{cell_without_origin}
use Rattle.gb_abs.proofs.origins.cells_without_origins.Given as goal

abbrev pub invariant-loop-cell : goal.invariant-loop-cell
invariant-loop-cell l = record {
  count : array_vec_len l.plain ≡ l.cell-index;
  cells : l.plain.items ≡ map cell_without_origin (take l.cell-index l.cells);
}
