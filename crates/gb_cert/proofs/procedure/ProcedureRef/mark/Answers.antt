use Rattle.std.proofs.Common.{◌==◌}
use Rattle.gb_cert.specs.Borrowed.{procedure_in}
use Rattle.gb_cert.proofs.ProcedureLending.{front-right, names-right, names-read}
use Rattle.gb_cert.proofs.procedure.ProcedureRef.mark.Goals as goal

pub unreachable-requires : goal.unreachable-requires
unreachable-requires c =
    let i = c.self.inside in
    front-right (i.version == 4) i.version i.facts i.is_main i.region i.body.now (procedure_in (i.version == 4) i.version i.facts i.is_main i.entry i.region i.body.now) c.in_default.field-0 c.self.invariant (rw (← c.of-rules.ensures) c.in_default.ensures)

pub unreachable-requires-in-Err : goal.unreachable-requires-in-Err
unreachable-requires-in-Err c =
    let i = c.self.inside in
    names-right (i.version == 4) i.version i.facts i.is_main i.region i.body.now c.in-Ok.rest.now (procedure_in (i.version == 4) i.version i.facts i.is_main i.entry i.region i.body.now) c.in-Err.field-0 c.self.invariant (rw (← c.of-rules.ensures) c.in-Ok.ensures) c.in-Err.ensures

pub returns : goal.returns
returns c =
    let i = c.self.inside in
    rw (← c.self.view_is) (names-read (i.version == 4) i.version i.facts i.is_main i.region i.body.now c.in-Ok.rest.now (procedure_in (i.version == 4) i.version i.facts i.is_main i.entry i.region i.body.now) _ c.in-Ok-names_by.mark _ c.self.invariant (rw (← c.of-rules.ensures) c.in-Ok.ensures) c.in-Ok-names_by.ensures).mark_is
