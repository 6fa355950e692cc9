use Rattle.std.proofs.Common.{refl}
use Rattle.gb_fields.specs.Format.{several}
use Rattle.gb_states.specs.WholeRules.{after_address}
use Rattle.gb_states.specs.WholeReading.{free_address_at}
use Rattle.gb_cert_place.specs.declared.block.Block.TheVariants as block
use Rattle.gb_cert_place.specs.Standing.{NonePassed, Of, AmongKept, AtKept}
use Rattle.gb_cert_place.proofs.WholeFieldsAreLocal.{IsLocal-free_address}
use Rattle.gb_cert_place.proofs.BlockLaws.{no_kept, stopped-kept}
use Rattle.gb_cert_place.proofs.WalkLaws.{leads_start, leads_on, leads_end, leads_done}
use Rattle.gb_cert_place.proofs.StandingLaws.{stops_in_front, passed_on}
use Rattle.gb_cert_place.proofs.walk.walk_some_kept.Goals as goal

pub stopped-requires : goal.stopped-requires
stopped-requires c = no_kept c.loop-index.index c.args.region c.loop-index.least c.loop-index.rest.now c.in-Err.fault c.in-Err.ensures

pub returns-in-Err-clause-reads : goal.returns-in-Err-clause-reads
returns-in-Err-clause-reads c =
    leads_end (free_address_at c.args.region) after_address (several (free_address_at c.args.region) after_address 0 c.args.count) c.args.bytes.now c.loop-index.least c.args.count c.loop-index.index c.loop-index.rest.now c.stopped.result c.loop-index-test.true
    (stopped-kept c.loop-index.index c.args.region c.loop-index.least c.loop-index.rest.now c.stopped.result c.stopped.ensures.place) c.loop-index.invariant.0

pub loop-index-preserved : goal.loop-index-preserved
loop-index-preserved c = (
  leads_on (free_address_at c.args.region) after_address (IsLocal-free_address c.args.region) (several (free_address_at c.args.region) after_address 0 c.args.count) c.args.bytes.now c.loop-index.least c.args.count c.loop-index.index c.loop-index.rest.now c.in-Ok.address c.in-Ok.after.now c.loop-index-test.true c.in-Ok.ensures c.loop-index.invariant.0,
  passed_on (free_address_at c.args.region) after_address 0 c.args.bytes.now c.loop-index.index c.loop-index.least c.loop-index.rest.now c.in-Ok.address c.in-Ok.after.now c.in-Ok.ensures c.loop-index.invariant.1,
)

pub returns-clause-reads : goal.returns-clause-reads
returns-clause-reads c = leads_done (free_address_at c.args.region) after_address (several (free_address_at c.args.region) after_address 0 c.args.count) c.args.bytes.now c.loop-index.least c.args.count c.loop-index.index c.loop-index.rest.now c.loop-index-test.false c.loop-index.invariant.0

pub returns-in-Err-clause-block : goal.returns-in-Err-clause-block
returns-in-Err-clause-block c =
    stops_in_front (Of c.args.part (AmongKept c.args.region c.args.count c.args.bytes.now)) c.args.part (block.KeptAddress c.loop-index.index c.args.region c.loop-index.least) c.loop-index.rest.now c.stopped.result c.stopped.ensures.part c.stopped.ensures.block c.stopped.ensures.before c.stopped.ensures.place
    (refl, AtKept c.loop-index-test.true c.loop-index.invariant.1)

pub loop-index-init : goal.loop-index-init
loop-index-init c = (leads_start (free_address_at c.args.region) after_address 0 c.args.count c.args.bytes.now, NonePassed)
