use Rattle.std.proofs.Common.{◌≡◌, ℕ, Ok, refl, sym, ◌∙◌, ap, subst}
use Rattle.std.proofs.lemmas.Result.{err_from_is_err_and}
use Rattle.gb_domain.specs.Limits.{cell_room}
use Rattle.gb_fields.specs.Reading.{count_within}
use Rattle.gb_cert_place.specs.declared.block.Block.TheVariants as block
use Rattle.gb_cert_place.specs.Standing.{Of, InCells, AmongCells, AtCellCount, BehindCellCount}
use Rattle.gb_cert_place.proofs.PartLaws.{stop_in_cell_count, in_cells}
use Rattle.gb_cert_place.proofs.StandingLaws.{stops_in_front, stops_within_part}
use Rattle.gb_cert_place.proofs.walk.walk_cells.Goals as goal

pub returns-in-Err-clause-reads : goal.returns-in-Err-clause-reads
returns-in-Err-clause-reads c = stop_in_cell_count c.args.form c.args.region c.args.bytes.now c.rules_in-rules.result c.stopped.result c.rules_in-rules.ensures c.stopped.ensures.place

pub returns-in_err-end-in-Ok-clause-reads : goal.returns-in_err-end-in-Ok-clause-reads
returns-in_err-end-in-Ok-clause-reads c =
    let p = err_from_is_err_and c.from_residual.result c.from_residual.ensures.1 in
    rw (p.1, p.2) (in_cells c.args.form c.args.region c.args.bytes.now c.cell_limit.result c.in-Ok.count c.in-Ok.rest.now c.in_err-end-in-Ok.field-0.0 (c.cell_limit.ensures.exact ∙ ap cell_room c.rules_in-rules.ensures) c.in-Ok.ensures c.in_err-end-in-Ok.ensures.reads)

pub returns-in-Err-clause-block : goal.returns-in-Err-clause-block
returns-in-Err-clause-block c =
    stops_in_front (Of c.args.part (InCells c.args.form c.args.region c.args.bytes.now)) c.args.part (block.CellCount c.rules_in-rules.result) c.args.bytes.now c.stopped.result c.stopped.ensures.part c.stopped.ensures.block c.stopped.ensures.before c.stopped.ensures.place
    (refl, subst (λ r. InCells c.args.form c.args.region c.args.bytes.now (block.CellCount r) c.args.bytes.now) (sym c.rules_in-rules.ensures) AtCellCount)

pub returns-in_err-end-in-Ok-clause-block : goal.returns-in_err-end-in-Ok-clause-block
returns-in_err-end-in-Ok-clause-block c =
    let p = err_from_is_err_and c.from_residual.result c.from_residual.ensures.1 in
    let read = subst (λ (n : ℕ). count_within n c.args.bytes.now ≡ Ok (c.in-Ok.count, c.in-Ok.rest.now)) (c.cell_limit.ensures.exact ∙ ap cell_room c.rules_in-rules.ensures) c.in-Ok.ensures in
    rw (p.1, p.2) (stops_within_part c.args.part (AmongCells c.args.form c.args.region c.in-Ok.count c.in-Ok.rest.now) (Of c.args.part (InCells c.args.form c.args.region c.args.bytes.now)) c.in_err-end-in-Ok.field-0.0 (λ b rest a. (refl, BehindCellCount read a)) c.in_err-end-in-Ok.ensures.block)
