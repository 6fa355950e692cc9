use Rattle.std.proofs.Common.{◌≡◌, Bool, false, ◌==◌, subst, sym, ◌∙◌}
use Rattle.gb_cert.specs.Borrowed.{procedure_in, BodyStands}
use Rattle.gb_cert.proofs.ProcedureLending.{front-right, names-right, names-read, older-names, unequal}
use Rattle.gb_cert.proofs.procedure.ProcedureRef.kept.Goals as goal

pub unreachable-requires : goal.unreachable-requires
unreachable-requires c =
    let i = c.self.inside in
    front-right (i.version == 4) i.version i.facts i.is_main i.region i.body.now (procedure_in (i.version == 4) i.version i.facts i.is_main i.entry i.region i.body.now) c.in_default.field-0 c.self.invariant (rw (← c.of-rules.ensures) c.in_default.ensures)

pub unreachable-requires-in-Err : goal.unreachable-requires-in-Err
unreachable-requires-in-Err c =
    let i = c.self.inside in
    names-right (i.version == 4) i.version i.facts i.is_main i.region i.body.now c.in-Ok.rest.now (procedure_in (i.version == 4) i.version i.facts i.is_main i.entry i.region i.body.now) c.in-Err.field-0 c.self.invariant (rw (← c.of-rules.ensures) c.in-Ok.ensures) c.in-Err.ensures

pub returns : goal.returns
returns c =
    let i = c.self.inside in
    rw (← c.self.view_is) (names-read (i.version == 4) i.version i.facts i.is_main i.region i.body.now c.in-Ok.rest.now (procedure_in (i.version == 4) i.version i.facts i.is_main i.entry i.region i.body.now) c.in-Ok-names_by.kept.items _ _ c.self.invariant (rw (← c.of-rules.ensures) c.in-Ok.ensures) c.in-Ok-names_by.ensures).kept_is

pub returns-then-self-ne4 : goal.returns-then-self-ne4
returns-then-self-ne4 c =
    let i = c.self.inside in
    let older : (i.version == 4) ≡ false = unequal i.version c.if-self-ne4.true in
    let stands = subst (λ (b : Bool). BodyStands b i.version i.facts i.is_main i.region i.body.now (procedure_in (i.version == 4) i.version i.facts i.is_main i.entry i.region i.body.now)) older c.self.invariant in
    rw (← c.self.view_is) (c.new.ensures ∙ sym (older-names i.version i.facts i.is_main i.region i.body.now (procedure_in (i.version == 4) i.version i.facts i.is_main i.entry i.region i.body.now) stands))
