use Rattle.std.proofs.Common.{◌≡◌, Ok, refl, sym, ◌∙◌, ap, subst}
use Rattle.std.proofs.lemmas.Result.{err_from_is_err_and}
use Rattle.gb_fields.specs.Limits.{unit}
use Rattle.gb_fields.specs.Reading.{times}
use Rattle.gb_states.specs.Reading.{item_count_at}
use Rattle.gb_cert_place.specs.declared.block.Block.TheVariants as block
use Rattle.gb_cert_place.specs.Standing.{Of, InItems, AmongItems, AtItemCount, BehindItemCount}
use Rattle.gb_cert_place.proofs.PartLaws.{stop_in_item_count, in_items}
use Rattle.gb_cert_place.proofs.StandingLaws.{stops_in_front, stops_within_part}
use Rattle.gb_cert_place.proofs.walk.walk_items.Goals as goal

pub returns-in-Err-clause-reads : goal.returns-in-Err-clause-reads
returns-in-Err-clause-reads c = stop_in_item_count c.args.form c.args.role c.args.stack_set c.args.bytes.now c.rules_in-rules.result c.stopped.result c.rules_in-rules.ensures c.stopped.ensures.place

pub returns-in_err-end-in-Ok-clause-reads : goal.returns-in_err-end-in-Ok-clause-reads
returns-in_err-end-in-Ok-clause-reads c =
    let p = err_from_is_err_and c.from_residual.result c.from_residual.ensures.1 in
    rw (p.1, p.2) (in_items c.args.form c.args.role c.args.stack_set c.args.bytes.now c.rules_in-rules.result c.in-Ok.count c.item_bytes-items.result c.in-Ok.rest.now c.in_err-end-in-Ok.field-0.0 c.rules_in-rules.ensures c.in-Ok.ensures.exact c.item_bytes-items.ensures c.in_err-end-in-Ok.ensures.reads)

pub returns-in-Err-clause-block : goal.returns-in-Err-clause-block
returns-in-Err-clause-block c =
    stops_in_front (Of c.args.part (InItems c.args.form c.args.role c.args.stack_set c.args.bytes.now)) c.args.part (block.ItemCount c.rules_in-rules.result c.args.role c.args.stack_set) c.args.bytes.now c.stopped.result c.stopped.ensures.part c.stopped.ensures.block c.stopped.ensures.before c.stopped.ensures.place
    (refl, subst (λ r. InItems c.args.form c.args.role c.args.stack_set c.args.bytes.now (block.ItemCount r c.args.role c.args.stack_set) c.args.bytes.now) (sym c.rules_in-rules.ensures) AtItemCount)

pub returns-in_err-end-in-Ok-clause-block : goal.returns-in_err-end-in-Ok-clause-block
returns-in_err-end-in-Ok-clause-block c =
    let p = err_from_is_err_and c.from_residual.result c.from_residual.ensures.1 in
    let read = subst (λ r. item_count_at r c.args.role c.args.stack_set c.args.bytes.now ≡ Ok (c.in-Ok.count, c.in-Ok.rest.now)) c.rules_in-rules.ensures c.in-Ok.ensures.exact in
    let size = c.item_bytes-items.ensures ∙ ap (λ r. times (unit r) c.in-Ok.count) c.rules_in-rules.ensures in
    rw (p.1, p.2) (stops_within_part c.args.part (AmongItems c.args.form c.item_bytes-items.result c.in-Ok.rest.now) (Of c.args.part (InItems c.args.form c.args.role c.args.stack_set c.args.bytes.now)) c.in_err-end-in-Ok.field-0.0 (λ b rest a. (refl, BehindItemCount read (subst (λ n. AmongItems c.args.form n c.in-Ok.rest.now b rest) size a))) c.in_err-end-in-Ok.ensures.block)
