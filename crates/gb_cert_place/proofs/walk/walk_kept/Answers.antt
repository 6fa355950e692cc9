use Rattle.std.proofs.Common.{◌≡◌, ℕ, Ok, refl, subst}
use Rattle.std.proofs.lemmas.Result.{err_from_is_err_and}
use Rattle.gb_fields.specs.Reading.{count_within}
use Rattle.gb_cert_place.specs.declared.block.Block.TheVariants as block
use Rattle.gb_cert_place.specs.Standing.{Of, InKept, AmongKept, AtKeptCount, BehindKeptCount}
use Rattle.gb_cert_place.proofs.NamedLaws.{stop_in_kept_count}
use Rattle.gb_cert_place.proofs.StandingLaws.{stops_in_front, stops_within_part}
use Rattle.gb_cert_place.proofs.walk.walk_kept.Goals as goal

pub returns-in-Err-clause-reads : goal.returns-in-Err-clause-reads
returns-in-Err-clause-reads c = stop_in_kept_count c.args.is_main c.args.region c.args.bytes.now c.stopped.result c.stopped.ensures.place

pub returns-in-Err-clause-block : goal.returns-in-Err-clause-block
returns-in-Err-clause-block c = stops_in_front (Of c.args.part (InKept c.args.is_main c.args.region c.args.bytes.now)) c.args.part (block.KeptCount c.args.is_main) c.args.bytes.now c.stopped.result c.stopped.ensures.part c.stopped.ensures.block c.stopped.ensures.before c.stopped.ensures.place (refl, AtKeptCount)

pub returns-in_err-end-in-Ok-clause-block : goal.returns-in_err-end-in-Ok-clause-block
returns-in_err-end-in-Ok-clause-block c =
    let p = err_from_is_err_and c.from_residual.result c.from_residual.ensures.1 in
    rw (p.1, p.2) (stops_within_part c.args.part (AmongKept c.args.region c.in-Ok.count c.in-Ok.rest.now) (Of c.args.part (InKept c.args.is_main c.args.region c.args.bytes.now)) c.in_err-end-in-Ok.field-0.0
    (λ b rest a. (refl, BehindKeptCount (subst (λ (n : ℕ). count_within n c.args.bytes.now ≡ Ok (c.in-Ok.count, c.in-Ok.rest.now)) c.kept_room.ensures.exact c.in-Ok.ensures) a)) c.in_err-end-in-Ok.ensures.block)
