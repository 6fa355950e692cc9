use Rattle.std.proofs.Common.{◌≡◌, ◌-◌, ◌==◌, true}
use Rattle.arrayvec.specs.ArrayVec.{array_vec_len}
use Rattle.gb_fields.specs.Format.{several}
use Rattle.gb_states.specs.Rules.{is_after}
use Rattle.gb_cert.specs.Places.{form_if}
use Rattle.gb_states.specs.WholeReading.{procedure_by}
use Rattle.gb_cert_place.specs.Standing.{Passed}
use Rattle.gb_cert_place.proofs.WalkLaws.{Leads, Tells}
use Rattle.gb_cert_place.proofs.walk.walk_procedures.Given as goal

abbrev pub invariant-loop-number : goal.invariant-loop-number
invariant-loop-number l = record {
  count : array_vec_len l.forms ≡ l.number;
  leads : Leads (several (procedure_by (l.head.version == 4) l.head.version l.facts l.head.region l.head.nodes) is_after true l.head.procedures) l.bytes (several (procedure_by (l.head.version == 4) l.head.version l.facts l.head.region l.head.nodes) is_after l.is_main (l.head.procedures - l.number)) l.rest;
  passed : Passed (procedure_by (l.head.version == 4) l.head.version l.facts l.head.region l.head.nodes) is_after true l.bytes l.number l.is_main l.rest;
  tells : Tells (form_if (l.head.version == 4)) (several (procedure_by (l.head.version == 4) l.head.version l.facts l.head.region l.head.nodes) is_after true l.head.procedures) l.bytes (several (procedure_by (l.head.version == 4) l.head.version l.facts l.head.region l.head.nodes) is_after l.is_main (l.head.procedures - l.number)) l.rest l.forms.items;
}
