use Rattle.std.proofs.Common.{◌==◌}
use Rattle.std.proofs.lemmas.Result.{err_from_is_err_and}
use Rattle.gb_fields.specs.Format.{several}
use Rattle.gb_fields.specs.Reading.{head_in}
use Rattle.gb_states.specs.Rules.{key}
use Rattle.gb_states.specs.WholeRules.{form_in}
use Rattle.gb_states.specs.WholeReading.{node_by, nodes_at}
use Rattle.gb_cert_place.specs.declared.block.Part.TheVariants as part
use Rattle.gb_cert_place.specs.Standing.{NonePassed, OneMorePassed, InNode, InNodes, AtNode}
use Rattle.gb_cert_place.proofs.WholeFieldsAreLocal.{IsLocal-node_by}
use Rattle.gb_cert_place.proofs.WalkLaws.{leads_start, Stopped-unmapped, leads_by, leads_end, leads_done}
use Rattle.gb_cert_place.proofs.StandingLaws.{stops_within_part}
use Rattle.gb_cert_place.proofs.walk.walk_nodes.Goals as goal

pub returns-in_err-key-clause-reads : goal.returns-in_err-key-clause-reads
unfolding nodes_at
returns-in_err-key-clause-reads c =
    let p = err_from_is_err_and c.from_residual.result c.from_residual.ensures.1 in
    rw (p.1, p.2) (leads_end (node_by (c.args.head.version == 4) c.args.head.version c.args.facts (form_in c.args.forms.now) c.args.head.region c.args.head.procedures) key (several (node_by (c.args.head.version == 4) c.args.head.version c.args.facts (form_in c.args.forms.now) c.args.head.region c.args.head.procedures) key (0, 0) c.args.head.nodes) c.args.bytes.now c.loop-number.before c.args.head.nodes c.loop-number.number c.loop-number.rest.now c.in_err-key.field-0.0 c.loop-number-test.true
    (Stopped-unmapped key ((node_by (c.args.head.version == 4) c.args.head.version c.args.facts (form_in c.args.forms.now) c.args.head.region c.args.head.procedures) c.loop-number.before) c.loop-number.rest.now c.in_err-key.field-0.0 c.in_err-key.ensures.reads) c.loop-number.invariant.0)

pub loop-number-preserved : goal.loop-number-preserved
loop-number-preserved c = (
  leads_by (node_by (c.args.head.version == 4) c.args.head.version c.args.facts (form_in c.args.forms.now) c.args.head.region c.args.head.procedures) key (IsLocal-node_by (c.args.head.version == 4) c.args.head.version c.args.facts (form_in c.args.forms.now) c.args.head.region c.args.head.procedures) (several (node_by (c.args.head.version == 4) c.args.head.version c.args.facts (form_in c.args.forms.now) c.args.head.region c.args.head.procedures) key (0, 0) c.args.head.nodes) c.args.bytes.now c.loop-number.before c.in_ok-key.key c.args.head.nodes c.loop-number.number c.loop-number.rest.now c.in_ok-key.after.now c.loop-number-test.true c.in_ok-key.ensures.reads c.loop-number.invariant.0,
  OneMorePassed c.loop-number.invariant.1 c.in_ok-key.ensures.reads,
)

pub returns-clause-reads : goal.returns-clause-reads
unfolding nodes_at
returns-clause-reads c = leads_done (node_by (c.args.head.version == 4) c.args.head.version c.args.facts (form_in c.args.forms.now) c.args.head.region c.args.head.procedures) key (several (node_by (c.args.head.version == 4) c.args.head.version c.args.facts (form_in c.args.forms.now) c.args.head.region c.args.head.procedures) key (0, 0) c.args.head.nodes) c.args.bytes.now c.loop-number.before c.args.head.nodes c.loop-number.number c.loop-number.rest.now c.loop-number-test.false c.loop-number.invariant.0

pub returns-in_err-key-clause-block : goal.returns-in_err-key-clause-block
returns-in_err-key-clause-block c =
    let p = err_from_is_err_and c.from_residual.result c.from_residual.ensures.1 in
    rw (p.1, p.2) (stops_within_part (part.Node c.loop-number.number) (InNode (head_in c.args.head) c.args.facts c.args.forms.now c.loop-number.before c.loop-number.rest.now) (InNodes (head_in c.args.head) c.args.facts c.args.forms.now c.args.bytes.now) c.in_err-key.field-0.0
    (λ b rest a. AtNode c.loop-number-test.true c.loop-number.invariant.1 a) c.in_err-key.ensures.block)

pub loop-number-init : goal.loop-number-init
loop-number-init c = (leads_start (node_by (c.args.head.version == 4) c.args.head.version c.args.facts (form_in c.args.forms.now) c.args.head.region c.args.head.procedures) key (0, 0) c.args.head.nodes c.args.bytes.now, NonePassed)
