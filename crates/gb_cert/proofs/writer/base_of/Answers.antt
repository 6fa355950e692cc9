use Rattle.gb_cert.proofs.Written.{form_there}
use Rattle.gb_cert.proofs.writer.base_of.Goals as goal

pub returns-in-Some : goal.returns-in-Some
returns-in-Some c = form_there c.args.procedures.now c.args.number c.in-Some.procedure.now c.in-Some.ensures.lookup.3.0 c.in-Some.ensures.lookup.1
