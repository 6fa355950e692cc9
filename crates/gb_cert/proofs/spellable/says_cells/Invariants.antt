use Rattle.std.proofs.Common.{◌≡◌, true, take}
use Rattle.std.specs.List.{list_all}
use Rattle.gb_cert.specs.Written.{says_cell}
use Rattle.gb_cert.proofs.spellable.says_cells.Given as goal

abbrev pub invariant-loop-cell : goal.invariant-loop-cell
invariant-loop-cell l = list_all (says_cell l.version) (take l.cell-index l.cells) ≡ true
