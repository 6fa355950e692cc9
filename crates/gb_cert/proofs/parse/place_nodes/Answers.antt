use Rattle.std.proofs.Common.{◌==◌, arith}
use Rattle.std.proofs.lemmas.Result.{err_from_is_err_and}
use Rattle.gb_states.specs.Rules.{key}
use Rattle.gb_states.specs.WholeRules.{form_in, IsNodeBy}
use Rattle.gb_states.specs.WholeReading.{node_by, nodes_at}
use Rattle.gb_states.specs.WholeSpelling as spelled
use Rattle.gb_cert.proofs.Placing.{way-begins, way-on, way-ends, way-done}
use Rattle.gb_cert.proofs.WholeCertificateLaws.{IsFormat-node_by}
use Rattle.gb_cert.proofs.parse.place_nodes.Goals as goal

pub loop-init : goal.loop-init
loop-init c = rw c.in_ok-places.ensures.items (way-begins (node_by (c.args.head.version == 4) c.args.head.version c.args.facts (form_in c.args.forms.now) c.args.head.region c.args.head.procedures) key (spelled.node_by (c.args.head.version == 4) c.args.head.version c.args.head.region (form_in c.args.forms.now)) c.args.bytes.now (0, 0) c.args.head.nodes c.args.start.now c.requires.left)

pub returns-in_err-key : goal.returns-in_err-key
unfolding nodes_at
returns-in_err-key c =
    let p = err_from_is_err_and c.from_residual-in_err-key.result c.from_residual-in_err-key.ensures.1 in
    rw (p.1, p.2) (λ m. way-ends (node_by (c.args.head.version == 4) c.args.head.version c.args.facts (form_in c.args.forms.now) c.args.head.region c.args.head.procedures) key (spelled.node_by (c.args.head.version == 4) c.args.head.version c.args.head.region (form_in c.args.forms.now)) c.args.bytes.now (0, 0) c.args.head.nodes c.args.start.now c.loop.before c.loop.counter c.loop.rest.now c.loop.places.items c.in_err-key.field-0.0 c.loop-test.true c.in_err-key.ensures c.loop.invariant)

pub loop-preserved : goal.loop-preserved
loop-preserved c =
    rw c.in_ok-push.ensures.items (way-on (node_by (c.args.head.version == 4) c.args.head.version c.args.facts (form_in c.args.forms.now) c.args.head.region c.args.head.procedures) key (spelled.node_by (c.args.head.version == 4) c.args.head.version c.args.head.region (form_in c.args.forms.now)) (IsNodeBy (c.args.head.version == 4) c.args.head.version c.args.facts (form_in c.args.forms.now) c.args.head.region c.args.head.procedures) c.args.bytes.now (0, 0) c.args.head.nodes c.args.start.now c.loop.before c.in_ok-key.key c.loop.counter c.loop.rest.now c.in_ok-key.after.now c.loop.places.items
    (IsFormat-node_by (c.args.head.version == 4) c.args.head.version c.args.facts (form_in c.args.forms.now) c.args.head.region c.args.head.procedures c.loop.before (omega arith) c.requires.few c.requires.procedures) (λ i. omega (arith, c.type_inv.bytes i)) c.loop-test.true c.in_ok-key.ensures c.loop.invariant)

pub returns : goal.returns
unfolding nodes_at
returns c = way-done (node_by (c.args.head.version == 4) c.args.head.version c.args.facts (form_in c.args.forms.now) c.args.head.region c.args.head.procedures) key (spelled.node_by (c.args.head.version == 4) c.args.head.version c.args.head.region (form_in c.args.forms.now)) c.args.bytes.now (0, 0) c.args.head.nodes c.args.start.now c.loop.before c.loop.counter c.loop.rest.now c.loop.places.items c.loop-test.false c.loop.invariant
