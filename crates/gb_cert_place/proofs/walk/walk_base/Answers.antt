use Rattle.std.proofs.Common.{refl, sym, ◌∙◌}
use Rattle.gb_fields.specs.Rules.{any_rules_of}
use Rattle.gb_cert_place.specs.declared.block.Block.TheVariants as block
use Rattle.gb_cert_place.specs.Standing.{Of, InBase, AtBase}
use Rattle.gb_cert_place.proofs.PartLaws.{stop_in_base}
use Rattle.gb_cert_place.proofs.StandingLaws.{stops_in_front}
use Rattle.gb_cert_place.proofs.walk.walk_base.Goals as goal

pub returns-in-Err-clause-reads : goal.returns-in-Err-clause-reads
returns-in-Err-clause-reads c = stop_in_base c.args.version c.args.is_main c.args.region c.args.bytes.now c.stopped.result (sym c.any_rules_of.ensures ∙ c.in-Extended.is) c.stopped.ensures.place

pub returns-in-Err-clause-block : goal.returns-in-Err-clause-block
returns-in-Err-clause-block c =
    stops_in_front (Of c.args.part (InBase (any_rules_of c.args.version) c.args.is_main c.args.region c.args.bytes.now)) c.args.part (block.Base c.args.is_main c.args.region) c.args.bytes.now c.stopped.result c.stopped.ensures.part c.stopped.ensures.block c.stopped.ensures.before c.stopped.ensures.place
    (refl, AtBase (sym c.any_rules_of.ensures ∙ c.in-Extended.is))
