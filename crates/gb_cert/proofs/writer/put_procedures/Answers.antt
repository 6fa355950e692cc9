use Rattle.gb_cert.specs.Written.{returns_with, has_unsayable}
use Rattle.gb_cert.proofs.Refusing.{none_at}
use Rattle.gb_cert.proofs.writer.put_procedures.Goals as goal

pub put_procedure-requires-clause-said : goal.put_procedure-requires-clause-said
put_procedure-requires-clause-said c =
    none_at (returns_with (has_unsayable c.args.version)) c.args.procedures.now c.loop-procedure.procedure-index c.procedure-item.result c.procedure-item.is c.loop-procedure-test.true c.requires.said
