use Rattle.std.proofs.Common.{refl}
use Rattle.gb_fields.specs.Format.{several}
use Rattle.gb_states.specs.Forms.{val_by}
use Rattle.gb_cert_place.specs.declared.block.Block.TheVariants as block
use Rattle.gb_cert_place.specs.Standing.{NonePassed, Of, AmongItems, AtItem}
use Rattle.gb_cert_place.proofs.WholeFieldsAreLocal.{IsLocal-val_by}
use Rattle.gb_cert_place.proofs.BlockLaws.{no_item, stopped-item}
use Rattle.gb_cert_place.proofs.WalkLaws.{leads_start, leads_on, leads_end, leads_done}
use Rattle.gb_cert_place.proofs.StandingLaws.{stops_in_front, passed_on}
use Rattle.gb_cert_place.proofs.walk.walk_some_items.Goals as goal

pub stopped-requires : goal.stopped-requires
stopped-requires c = no_item c.args.form c.loop-index.index c.loop-index.rest.now c.in-Err.fault c.in-Err.ensures

pub returns-in-Err-clause-reads : goal.returns-in-Err-clause-reads
returns-in-Err-clause-reads c =
    leads_end (λ (s : Unit {0}). val_by c.args.form) (λ v. tt) (several (λ (s : Unit {0}). val_by c.args.form) (λ v. tt) tt c.args.count) c.args.bytes.now tt c.args.count c.loop-index.index c.loop-index.rest.now c.stopped.result c.loop-index-test.true
    (stopped-item c.args.form c.loop-index.index c.loop-index.rest.now c.stopped.result c.stopped.ensures.place) c.loop-index.invariant.0

pub loop-index-preserved : goal.loop-index-preserved
loop-index-preserved c = (
  leads_on (λ (s : Unit {0}). val_by c.args.form) (λ v. tt) (λ (s : Unit {0}). IsLocal-val_by c.args.form) (several (λ (s : Unit {0}). val_by c.args.form) (λ v. tt) tt c.args.count) c.args.bytes.now tt c.args.count c.loop-index.index c.loop-index.rest.now c.in-Ok._item c.in-Ok.after.now c.loop-index-test.true c.in-Ok.ensures c.loop-index.invariant.0,
  passed_on (λ (s : Unit {0}). val_by c.args.form) (λ v. tt) tt c.args.bytes.now c.loop-index.index tt c.loop-index.rest.now c.in-Ok._item c.in-Ok.after.now c.in-Ok.ensures c.loop-index.invariant.1,
)

pub returns-clause-reads : goal.returns-clause-reads
returns-clause-reads c = leads_done (λ (s : Unit {0}). val_by c.args.form) (λ v. tt) (several (λ (s : Unit {0}). val_by c.args.form) (λ v. tt) tt c.args.count) c.args.bytes.now tt c.args.count c.loop-index.index c.loop-index.rest.now c.loop-index-test.false c.loop-index.invariant.0

pub returns-in-Err-clause-block : goal.returns-in-Err-clause-block
returns-in-Err-clause-block c =
    stops_in_front (Of c.args.part (AmongItems c.args.form c.args.count c.args.bytes.now)) c.args.part (block.Item c.args.form c.loop-index.index) c.loop-index.rest.now c.stopped.result c.stopped.ensures.part c.stopped.ensures.block c.stopped.ensures.before c.stopped.ensures.place
    (refl, AtItem c.loop-index-test.true c.loop-index.invariant.1)

pub loop-index-init : goal.loop-index-init
loop-index-init c = (leads_start (λ (s : Unit {0}). val_by c.args.form) (λ v. tt) tt c.args.count c.args.bytes.now, NonePassed)
