use Rattle.std.proofs.Common.{◌≡◌, false, subst, sym, ◌∙◌}
use Rattle.std.specs.List.{list_any}
use Rattle.std.proofs.lemmas.Result.{err_from_is_err_and}
use Rattle.gb_domain.specs.declared.rules.Rules.{Rules}
use Rattle.gb_cert.specs.Written.{has_half_need, say_base}
use Rattle.gb_cert.proofs.Refusing.{spellable, fault-exits, fault-nodes}
use Rattle.gb_cert.proofs.spellable.check.Goals as goal

pub returns-in_err-check_exits-clause-fault : goal.returns-in_err-check_exits-clause-fault
returns-in_err-check_exits-clause-fault c =
    let p = err_from_is_err_and c.from_residual.result c.from_residual.ensures.1 in
    rw (p.1, p.2) (fault-exits c.args.plan.now c.in_err-check_exits.field-0.0 c.in_err-check_exits.ensures.fault)

pub returns-in_err-check_nodes-clause-fault : goal.returns-in_err-check_nodes-clause-fault
returns-in_err-check_nodes-clause-fault c =
    let p = err_from_is_err_and c.from_residual-in_err-check_nodes.result c.from_residual-in_err-check_nodes.ensures.1 in
    rw (p.1, p.2) (fault-nodes c.args.plan.now c.in_err-check_nodes.field-0.0 c.in_err-check_nodes.ensures.fault)

pub returns-clause-spelled : goal.returns-clause-spelled
returns-clause-spelled c =
    spellable c.args.plan.now
    (subst (λ (r : Rules). say_base r c.args.plan.now.region c.args.plan.now.procedures.now ≡ false) c.rules-rules.ensures (sym c.say_base.ensures ∙ c.if-say_base.false))
    (subst (λ (r : Rules). list_any (has_half_need r) c.args.plan.now.procedures.now ≡ false) c.rules-rules.ensures (sym c.is_one_half_need.ensures ∙ c.if-is_one_half_need.false))
    c.in_ok-check_exits.ensures.spelled
    c.in_ok-check_nodes.ensures.spelled
