use Rattle.std.proofs.Common.{◌-◌}
use Rattle.gb_fields.specs.Format.{several}
use Rattle.gb_domain.specs.Rules.{after_cell}
use Rattle.gb_states.specs.Forms.{cell_by}
use Rattle.gb_cert_place.specs.Standing.{Passed}
use Rattle.gb_cert_place.proofs.WalkLaws.{Leads}
use Rattle.gb_cert_place.proofs.walk.walk_some_cells.Given as goal

abbrev pub invariant-loop-index : goal.invariant-loop-index
invariant-loop-index l = (Leads (several (cell_by l.form l.region) after_cell 0 l.count) l.bytes (several (cell_by l.form l.region) after_cell l.least (l.count - l.index)) l.rest) × Passed (cell_by l.form l.region) after_cell 0 l.bytes l.index l.least l.rest
