use Rattle.std.proofs.Common.{◌==◌, ◌∙◌, sym}
use Rattle.gb_cert.specs.Borrowed.{procedure_in}
use Rattle.gb_cert.proofs.ProcedureLending.{usual-base}
use Rattle.gb_cert.proofs.procedure.ProcedureRef.base.Goals as goal

pub returns-in-Simple : goal.returns-in-Simple
returns-in-Simple c =
    let i = c.self.inside in
    rw (← c.self.view_is) (c.usual_base.ensures ∙ usual-base (i.version == 4) i.version i.facts i.is_main i.region i.body.now (procedure_in (i.version == 4) i.version i.facts i.is_main i.entry i.region i.body.now) c.self.invariant (sym c.of.ensures ∙ c.in-Simple.is))
