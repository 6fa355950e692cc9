use Rattle.std.proofs.Common.{◌≡◌, ◌==◌, refl, subst}
use Rattle.std.proofs.lemmas.Result.{err_from_is_err_and}
use Rattle.gb_fields.specs.Reading.{head_in}
use Rattle.gb_states.specs.Forms.{form_by}
use Rattle.gb_cert_place.specs.declared.block.Block.TheVariants as block
use Rattle.gb_cert_place.specs.declared.block.Part.TheVariants as part
use Rattle.gb_cert_place.specs.Standing.{Of, InState, InNode, AtKey, AtBank, BehindBank}
use Rattle.gb_cert_place.proofs.BlockLaws.{no_key, no_bank}
use Rattle.gb_cert_place.proofs.NodeLaws.{stop_in_key, stop_in_bank, stop_in_state, in_same_state}
use Rattle.gb_cert_place.proofs.StandingLaws.{stops_in_front, stops_within_part}
use Rattle.gb_cert_place.proofs.walk.walk_node.Goals as goal

pub stopped-requires : goal.stopped-requires
stopped-requires c = no_key c.args.head.version c.args.head.procedures c.args.before c.args.bytes.now c.in-Err.fault c.in-Err.ensures

pub returns-in-Err-clause-reads : goal.returns-in-Err-clause-reads
returns-in-Err-clause-reads c = stop_in_key c.args.head.version c.args.facts c.args.forms.now c.args.head.region c.args.head.procedures c.args.before c.args.bytes.now c.stopped.result c.stopped.ensures.place

pub returns-in-Err-clause-block : goal.returns-in-Err-clause-block
returns-in-Err-clause-block c =
    stops_in_front (Of (part.Node c.args.number) (InNode (head_in c.args.head) c.args.facts c.args.forms.now c.args.before c.args.bytes.now)) (part.Node c.args.number) (block.Key c.args.head.version c.args.head.procedures c.args.before) c.args.bytes.now c.stopped.result c.stopped.ensures.part c.stopped.ensures.block c.stopped.ensures.before c.stopped.ensures.place (refl, AtKey)

pub stopped-requires-in-Err-word_between : goal.stopped-requires-in-Err-word_between
stopped-requires-in-Err-word_between c = no_bank c.in-Ok.x.1.now c.in-Err-word_between.fault c.in-Err-word_between.ensures

pub returns-in-Err-word_between-clause-reads : goal.returns-in-Err-word_between-clause-reads
returns-in-Err-word_between-clause-reads c = stop_in_bank c.args.head.version c.args.facts c.args.forms.now c.args.head.region c.args.head.procedures c.args.before c.args.bytes.now c.in-Ok.x.0 c.in-Ok.x.1.now c.stopped-in-Err-word_between.result c.in-Ok.ensures c.stopped-in-Err-word_between.ensures.place

pub returns-in-Err-word_between-clause-block : goal.returns-in-Err-word_between-clause-block
returns-in-Err-word_between-clause-block c =
    stops_in_front (Of (part.Node c.args.number) (InNode (head_in c.args.head) c.args.facts c.args.forms.now c.args.before c.args.bytes.now)) (part.Node c.args.number) block.Bank c.in-Ok.x.1.now c.stopped-in-Err-word_between.result c.stopped-in-Err-word_between.ensures.part c.stopped-in-Err-word_between.ensures.block c.stopped-in-Err-word_between.ensures.before c.stopped-in-Err-word_between.ensures.place
    (refl, AtBank c.in-Ok.ensures)

pub returns-in_err-rest-clause-reads : goal.returns-in_err-rest-clause-reads
returns-in_err-rest-clause-reads c =
    let p = err_from_is_err_and c.from_residual.result c.from_residual.ensures.1 in
    rw (p.1, p.2) (stop_in_state c.args.head.version c.args.facts c.args.forms.now c.args.head.region c.args.head.procedures c.args.before c.args.bytes.now c.in-Ok.x.0 c.in-Ok.x.1.now c.in-Ok-word_between._bank c.in-Ok-word_between.after.now c.of-form.result c.role_of.result c.form_in.result c.in_err-rest.field-0.0 c.in-Ok.ensures c.in-Ok-word_between.ensures c.form_in.ensures c.of-form.ensures c.role_of.ensures c.in_err-rest.ensures.reads)

pub returns-in_err-rest-clause-block : goal.returns-in_err-rest-clause-block
returns-in_err-rest-clause-block c =
    let p = err_from_is_err_and c.from_residual.result c.from_residual.ensures.1 in
    let form = subst (λ n. c.of-form.result ≡ form_by (c.args.head.version == 4) c.args.head.version c.args.facts n) c.form_in.ensures c.of-form.ensures in
    rw (p.1, p.2) (stops_within_part (part.Node c.args.number) (InState c.of-form.result c.role_of.result c.args.head.region c.in-Ok-word_between.after.now) (Of (part.Node c.args.number) (InNode (head_in c.args.head) c.args.facts c.args.forms.now c.args.before c.args.bytes.now)) c.in_err-rest.field-0.0
    (λ b rest a. (refl, BehindBank c.in-Ok.ensures c.in-Ok-word_between.ensures (in_same_state c.of-form.result _ c.role_of.result _ c.args.head.region c.in-Ok-word_between.after.now b rest form c.role_of.ensures a))) c.in_err-rest.ensures.block)
