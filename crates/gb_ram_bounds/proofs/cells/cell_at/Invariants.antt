use Rattle.std.proofs.Common.{◌≡◌, drop}
use Rattle.gb_ram_bounds.specs.Cells.{cell_at}
use Rattle.gb_ram_bounds.proofs.cells.cell_at.Given as goal

abbrev pub invariant-loop-cell : goal.invariant-loop-cell
invariant-loop-cell l = cell_at l.fn.cells l.fn.address ≡ cell_at (drop l.cell-index l.fn.cells) l.fn.address
