use Rattle.std.proofs.Common.{◌≡◌, ◌==◌, ℕ, ◌∙◌, sym, ap}
use Rattle.gb_domain.specs.Types.{ProcedureParts}
use Rattle.gb_cert.specs.Borrowed.{procedure_in}
use Rattle.gb_cert.proofs.ProcedureLending.{front-right, form_at, exit-right, exit-found}
use Rattle.gb_cert.proofs.procedure.ProcedureRef.lent_exit.Goals as goal

pub unreachable-requires : goal.unreachable-requires
unreachable-requires c =
    let i = c.self.inside in
    front-right (i.version == 4) i.version i.facts i.is_main i.region i.body.now (procedure_in (i.version == 4) i.version i.facts i.is_main i.entry i.region i.body.now) c.in_default.field-0 c.self.invariant (rw (← c.of-rules.ensures) c.in_default.ensures)

pub unreachable-requires-in_default-exit : goal.unreachable-requires-in_default-exit
unreachable-requires-in_default-exit c =
    let i = c.self.inside in
    let base : c.base.result ≡ (procedure_in (i.version == 4) i.version i.facts i.is_main i.entry i.region i.body.now).base = c.base.ensures ∙ sym (ap (λ (p : ProcedureParts). p.base) c.self.view_is) in
    exit-right (i.version == 4) i.version i.facts i.is_main i.region i.body.now c.in-Ok.rest.now (procedure_in (i.version == 4) i.version i.facts i.is_main i.entry i.region i.body.now) c.in_default-exit.field-0 c.self.invariant (rw (← c.of-rules.ensures) c.in-Ok.ensures) (ap (λ (n : ℕ). form_at (i.version == 4) i.version i.facts n i.is_main i.region c.in-Ok.rest.now) (sym base) ∙ c.in_default-exit.ensures)

pub exit_lent-requires-clause-fit : goal.exit_lent-requires-clause-fit
exit_lent-requires-clause-fit c =
    let i = c.self.inside in
    let base : c.base.result ≡ (procedure_in (i.version == 4) i.version i.facts i.is_main i.entry i.region i.body.now).base = c.base.ensures ∙ sym (ap (λ (p : ProcedureParts). p.base) c.self.view_is) in
    (exit-found (i.version == 4) i.version i.facts i.is_main i.region i.body.now c.in-Ok.rest.now (procedure_in (i.version == 4) i.version i.facts i.is_main i.entry i.region i.body.now) c.in-Ok-exit.form c.in-Ok-exit.rest.now c.self.invariant (rw (← c.of-rules.ensures) c.in-Ok.ensures) (ap (λ (n : ℕ). form_at (i.version == 4) i.version i.facts n i.is_main i.region c.in-Ok.rest.now) (sym base) ∙ c.in-Ok-exit.ensures)).fit

pub exit_lent-requires-clause-right : goal.exit_lent-requires-clause-right
exit_lent-requires-clause-right c =
    let i = c.self.inside in
    let base : c.base.result ≡ (procedure_in (i.version == 4) i.version i.facts i.is_main i.entry i.region i.body.now).base = c.base.ensures ∙ sym (ap (λ (p : ProcedureParts). p.base) c.self.view_is) in
    (exit-found (i.version == 4) i.version i.facts i.is_main i.region i.body.now c.in-Ok.rest.now (procedure_in (i.version == 4) i.version i.facts i.is_main i.entry i.region i.body.now) c.in-Ok-exit.form c.in-Ok-exit.rest.now c.self.invariant (rw (← c.of-rules.ensures) c.in-Ok.ensures) (ap (λ (n : ℕ). form_at (i.version == 4) i.version i.facts n i.is_main i.region c.in-Ok.rest.now) (sym base) ∙ c.in-Ok-exit.ensures)).right

pub returns : goal.returns
returns c =
    let i = c.self.inside in
    let base : c.base.result ≡ (procedure_in (i.version == 4) i.version i.facts i.is_main i.entry i.region i.body.now).base = c.base.ensures ∙ sym (ap (λ (p : ProcedureParts). p.base) c.self.view_is) in
    c.exit_lent.ensures ∙ ((exit-found (i.version == 4) i.version i.facts i.is_main i.region i.body.now c.in-Ok.rest.now (procedure_in (i.version == 4) i.version i.facts i.is_main i.entry i.region i.body.now) c.in-Ok-exit.form c.in-Ok-exit.rest.now c.self.invariant (rw (← c.of-rules.ensures) c.in-Ok.ensures) (ap (λ (n : ℕ). form_at (i.version == 4) i.version i.facts n i.is_main i.region c.in-Ok.rest.now) (sym base) ∙ c.in-Ok-exit.ensures)).exit ∙ ap (λ (p : ProcedureParts). p.exit) c.self.view_is)
