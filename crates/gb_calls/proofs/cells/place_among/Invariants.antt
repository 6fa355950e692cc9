use Rattle.std.proofs.Common.{◌≡◌, ◌++◌, take, drop}
use Rattle.gb_calls.specs.Resuming.{inserted}
use Rattle.gb_calls.proofs.cells.place_among.Given as goal

abbrev pub invariant-loop-place : goal.invariant-loop-place
invariant-loop-place l = take l.place l.cells ++ inserted l.cell (drop l.place l.cells) ≡ inserted l.cell l.cells
