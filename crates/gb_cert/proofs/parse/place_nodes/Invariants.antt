use Rattle.std.proofs.Common.{◌==◌}
use Rattle.gb_states.specs.Rules.{key}
use Rattle.gb_states.specs.WholeRules.{form_in}
use Rattle.gb_states.specs.WholeReading.{node_by}
use Rattle.gb_states.specs.WholeSpelling as spelled
use Rattle.gb_cert.proofs.Placing.{UnderWay}
use Rattle.gb_cert.proofs.parse.place_nodes.Given as goal

abbrev pub invariant-loop : goal.invariant-loop
invariant-loop l = UnderWay (node_by (l.head.version == 4) l.head.version l.facts (form_in l.forms) l.head.region l.head.procedures) key (spelled.node_by (l.head.version == 4) l.head.version l.head.region (form_in l.forms)) l.bytes (0, 0) l.head.nodes l.start l.before l.counter l.rest l.places.items
