use Rattle.std.proofs.Common.{◌≡◌, ◌-◌}
use Rattle.gb_states.specs.Below.gb_fields.Format.{several}
use Rattle.gb_cert.specs.Skipping.{skipped}
use Rattle.gb_domain.specs.Rules.{after_cell}
use Rattle.gb_states.specs.Forms.{cell_by}
use Rattle.gb_cert.proofs.walk.skip_some_cells.Given as goal

abbrev pub invariant-loop : goal.invariant-loop
invariant-loop l = skipped (several (cell_by l.form l.region) after_cell l.least (l.count - l.counter)) l.rest ≡ skipped (several (cell_by l.form l.region) after_cell 0 l.count) l.bytes
