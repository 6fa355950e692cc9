use Rattle.std.proofs.Common.{◌-◌, ◌==◌}
use Rattle.gb_fields.specs.Format.{several}
use Rattle.gb_states.specs.Rules.{key}
use Rattle.gb_states.specs.WholeRules.{form_in}
use Rattle.gb_states.specs.WholeReading.{node_by}
use Rattle.gb_cert_place.specs.Standing.{Passed}
use Rattle.gb_cert_place.proofs.WalkLaws.{Leads}
use Rattle.gb_cert_place.proofs.walk.walk_nodes.Given as goal

abbrev pub invariant-loop-number : goal.invariant-loop-number
invariant-loop-number l =
    (Leads (several (node_by (l.head.version == 4) l.head.version l.facts (form_in l.forms) l.head.region l.head.procedures) key (0, 0) l.head.nodes) l.bytes (several (node_by (l.head.version == 4) l.head.version l.facts (form_in l.forms) l.head.region l.head.procedures) key l.before (l.head.nodes - l.number)) l.rest)
    × Passed (node_by (l.head.version == 4) l.head.version l.facts (form_in l.forms) l.head.region l.head.procedures) key (0, 0) l.bytes l.number l.before l.rest
