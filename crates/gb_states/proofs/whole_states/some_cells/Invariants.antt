use Rattle.std.proofs.Common.{◌≡◌, ◌-◌}
use Rattle.arrayvec.specs.ArrayVec.{array_vec_len}
use Rattle.gb_fields.specs.Format.{several}
use Rattle.gb_domain.specs.Rules.{after_cell}
use Rattle.gb_states.specs.WholeReading.{cell_at}
use Rattle.gb_states.proofs.Several.{with_front}
use Rattle.gb_states.proofs.whole_states.some_cells.Given as goal

abbrev pub invariant-loop : goal.invariant-loop
invariant-loop l = record {
  count : array_vec_len l.cells ≡ l.counter;
  read : with_front l.cells.items (several (cell_at l.kept l.region) after_cell l.least (l.count - l.counter) l.rest) ≡ several (cell_at l.kept l.region) after_cell 0 l.count l.bytes;
}
