use Rattle.std.proofs.Common.{true, ◌==◌}
use Rattle.gb_states.specs.Rules.{is_after}
use Rattle.gb_cert.specs.Places.{form_if}
use Rattle.gb_states.specs.WholeReading.{procedure_by}
use Rattle.gb_states.specs.WholeSpelling as spelled
use Rattle.gb_cert.proofs.Marking.{MarkedWay}
use Rattle.gb_cert.proofs.parse.place_procedures.Given as goal

abbrev pub invariant-loop : goal.invariant-loop
invariant-loop l = MarkedWay (procedure_by (l.head.version == 4) l.head.version l.facts l.head.region l.head.nodes) is_after (form_if (l.head.version == 4)) (spelled.procedure_by (l.head.version == 4) l.head.version l.head.region) l.bytes true l.head.procedures l.start l.is_main l.counter l.rest l.places.items l.forms.items
