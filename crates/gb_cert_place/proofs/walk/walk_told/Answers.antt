use Rattle.std.proofs.Common.{refl, ◌∙◌, ap}
use Rattle.gb_domain.specs.declared.rules.Rules.{Rules}
use Rattle.gb_states.specs.declared.form.Form.TheVariants.{Older}
use Rattle.gb_cert_place.specs.declared.block.Block.TheVariants as block
use Rattle.gb_cert_place.specs.Standing.{Of, InTold, AtTold, AtToldWhole}
use Rattle.gb_cert_place.proofs.BlockLaws.{no_told_whole}
use Rattle.gb_cert_place.proofs.PartLaws.{stop_in_told, stop_in_told_whole}
use Rattle.gb_cert_place.proofs.StandingLaws.{stops_in_front}
use Rattle.gb_cert_place.proofs.walk.walk_told.Goals as goal

pub returns-in-Err-clause-reads : goal.returns-in-Err-clause-reads
returns-in-Err-clause-reads c = stop_in_told c.args.form c.args.stack c.args.may_be_aside c.args.test c.args.bytes.now c.stopped.result (c.in-Older.is ∙ ap (λ (r : Rules). Older r) c.in-Extended.is) c.stopped.ensures.place

pub returns-in-Err-clause-block : goal.returns-in-Err-clause-block
returns-in-Err-clause-block c =
    stops_in_front (Of c.args.part (InTold c.args.form c.args.stack c.args.may_be_aside c.args.test c.args.bytes.now)) c.args.part (block.Told c.args.stack.region c.args.test) c.args.bytes.now c.stopped.result c.stopped.ensures.part c.stopped.ensures.block c.stopped.ensures.before c.stopped.ensures.place
    (refl, AtTold (c.in-Older.is ∙ ap (λ (r : Rules). Older r) c.in-Extended.is))

pub returns-in-Err-told_at-clause-reads : goal.returns-in-Err-told_at-clause-reads
returns-in-Err-told_at-clause-reads c = stop_in_told_whole c.args.form c.in-Fourth.facts c.in-Fourth.field-1 c.args.stack c.args.may_be_aside c.args.test c.args.bytes.now c.stopped-in-Err-told_at.result c.in-Fourth.is c.stopped-in-Err-told_at.ensures.place

pub returns-in-Err-told_at-clause-block : goal.returns-in-Err-told_at-clause-block
returns-in-Err-told_at-clause-block c =
    stops_in_front (Of c.args.part (InTold c.args.form c.args.stack c.args.may_be_aside c.args.test c.args.bytes.now)) c.args.part (block.ToldWhole c.in-Fourth.facts c.args.stack c.args.may_be_aside c.args.test) c.args.bytes.now c.stopped-in-Err-told_at.result c.stopped-in-Err-told_at.ensures.part c.stopped-in-Err-told_at.ensures.block c.stopped-in-Err-told_at.ensures.before c.stopped-in-Err-told_at.ensures.place
    (refl, AtToldWhole c.in-Fourth.is)

pub stopped-requires-in-Err-told_at : goal.stopped-requires-in-Err-told_at
stopped-requires-in-Err-told_at c = no_told_whole c.in-Fourth.facts c.args.stack c.args.may_be_aside c.args.test c.args.bytes.now c.in-Err-told_at.fault c.in-Err-told_at.ensures
