use Rattle.std.proofs.Common.{Bool, refl, subst}
use Rattle.std.proofs.lemmas.Result.{err_from_is_err_and}
use Rattle.gb_domain.specs.declared.places.StackBytes.{StackBytes}
use Rattle.gb_states.specs.WholeRules.{may_be_aside}
use Rattle.gb_cert_place.specs.declared.block.Block.TheVariants as block
use Rattle.gb_cert_place.specs.Standing.{Of, InItems, InLists, InState, AtCore, BehindCore, BehindItems}
use Rattle.gb_cert_place.proofs.PartLaws.{stop_in_core, stop_in_items, stop_in_lists, state_passed}
use Rattle.gb_cert_place.proofs.StandingLaws.{stops_in_front, stops_within_part}
use Rattle.gb_cert_place.proofs.walk.walk_state.Goals as goal

pub returns-in-Err-clause-reads : goal.returns-in-Err-clause-reads
returns-in-Err-clause-reads c = stop_in_core c.args.form c.args.role c.args.region c.args.bytes.now c.stopped.result c.stopped.ensures.place

pub returns-in_err-count-in-Ok-clause-reads : goal.returns-in_err-count-in-Ok-clause-reads
returns-in_err-count-in-Ok-clause-reads c =
    let p = err_from_is_err_and c.from_residual.result c.from_residual.ensures.1 in
    rw (p.1, p.2) (stop_in_items c.args.form c.args.role c.args.region c.args.bytes.now c.in-Ok.core c.in-Ok.rest.now c.in_err-count-in-Ok.field-0.0 c.in-Ok.ensures c.in_err-count-in-Ok.ensures.reads)

pub returns-in_err-end-in-Ok-clause-reads : goal.returns-in_err-end-in-Ok-clause-reads
returns-in_err-end-in-Ok-clause-reads c =
    let p = err_from_is_err_and c.from_residual-in_err-end-in-Ok.result c.from_residual-in_err-end-in-Ok.ensures.1 in
    rw (p.1, p.2) (stop_in_lists c.args.form c.args.role c.args.region c.args.bytes.now c.in-Ok.core c.in-Ok.rest.now c.in_ok-count-in-Ok.count c.in_ok-count-in-Ok.rest.now c.stack_by-stack.result c.may_be_aside-aside.result c.in_err-end-in-Ok.field-0.0 c.in-Ok.ensures c.in_ok-count-in-Ok.ensures.reads c.stack_by-stack.ensures c.may_be_aside-aside.ensures c.in_err-end-in-Ok.ensures.reads)

pub returns-in-Err-clause-block : goal.returns-in-Err-clause-block
returns-in-Err-clause-block c = stops_in_front (Of c.args.part (InState c.args.form c.args.role c.args.region c.args.bytes.now)) c.args.part (block.Core c.args.form c.args.role) c.args.bytes.now c.stopped.result c.stopped.ensures.part c.stopped.ensures.block c.stopped.ensures.before c.stopped.ensures.place (refl, AtCore)

pub returns-in_err-count-in-Ok-clause-block : goal.returns-in_err-count-in-Ok-clause-block
returns-in_err-count-in-Ok-clause-block c =
    let p = err_from_is_err_and c.from_residual.result c.from_residual.ensures.1 in
    rw (p.1, p.2) (stops_within_part c.args.part (InItems c.args.form c.args.role c.in-Ok.core.0.stack_set c.in-Ok.rest.now) (Of c.args.part (InState c.args.form c.args.role c.args.region c.args.bytes.now)) c.in_err-count-in-Ok.field-0.0 (λ b rest a. (refl, BehindCore c.in-Ok.ensures a)) c.in_err-count-in-Ok.ensures.block)

pub returns-in_err-end-in-Ok-clause-block : goal.returns-in_err-end-in-Ok-clause-block
returns-in_err-end-in-Ok-clause-block c =
    let p = err_from_is_err_and c.from_residual-in_err-end-in-Ok.result c.from_residual-in_err-end-in-Ok.ensures.1 in
    rw (p.1, p.2) (stops_within_part c.args.part (InLists c.args.form c.stack_by-stack.result c.may_be_aside-aside.result c.in-Ok.core.1 c.in_ok-count-in-Ok.rest.now) (Of c.args.part (InState c.args.form c.args.role c.args.region c.args.bytes.now)) c.in_err-end-in-Ok.field-0.0
    (λ b rest a. (refl, BehindItems c.in-Ok.ensures c.in_ok-count-in-Ok.ensures.reads (subst (λ (k : StackBytes). InLists c.args.form k (may_be_aside c.args.role c.in-Ok.core.0) c.in-Ok.core.1 c.in_ok-count-in-Ok.rest.now b rest) c.stack_by-stack.ensures (subst (λ (d : Bool). InLists c.args.form c.stack_by-stack.result d c.in-Ok.core.1 c.in_ok-count-in-Ok.rest.now b rest) c.may_be_aside-aside.ensures a)))) c.in_err-end-in-Ok.ensures.block)

pub returns-in_ok-end-in-Ok-clause-reads : goal.returns-in_ok-end-in-Ok-clause-reads
returns-in_ok-end-in-Ok-clause-reads c =
    state_passed c.args.form c.args.role c.args.region c.args.bytes.now c.in-Ok.core c.in-Ok.rest.now c.in_ok-count-in-Ok.count c.in_ok-count-in-Ok.rest.now c.in_ok-end-in-Ok.end.now c.stack_by-stack.result c.may_be_aside-aside.result c.in-Ok.ensures c.in_ok-count-in-Ok.ensures.reads c.stack_by-stack.ensures c.may_be_aside-aside.ensures c.in_ok-end-in-Ok.ensures.reads
