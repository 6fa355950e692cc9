use Rattle.gb_verify.proofs.FileLaws.{on_err}
use Rattle.gb_verify.proofs.UpgradeLaws.{procedure_cut}
use Rattle.gb_verify.proofs.upgrade.put_procedures.Goals as goal

pub returns-in_err-put_procedure-clause-beginning : goal.returns-in_err-put_procedure-clause-beginning
returns-in_err-put_procedure-clause-beginning g c =
    on_err c.from_residual.result (procedure_cut _ _ _ _ _ _ c.loop-i.i c.procedure.result c.procedure.ensures c.loop-i.invariant.remains c.in_err-put_procedure.ensures.beginning)
