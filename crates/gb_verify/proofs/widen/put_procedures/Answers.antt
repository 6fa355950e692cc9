use Rattle.gb_verify.proofs.FileLaws.{on_err}
use Rattle.gb_verify.proofs.WidenedText.{cut, procedure_at, procedure_narrow, taken}
use Rattle.gb_verify.proofs.widen.put_procedures.Goals as goal

pub put_procedure-requires-clause-narrow : goal.put_procedure-requires-clause-narrow
put_procedure-requires-clause-narrow g c = procedure_narrow c.args.cert.now c.loop-i.i c.procedure.result c.requires.certificate c.requires.simple c.procedure.ensures

pub returns-in_err-put_procedure-clause-beginning : goal.returns-in_err-put_procedure-clause-beginning
returns-in_err-put_procedure-clause-beginning g c =
    on_err c.from_residual.result (cut _ _ _ _ _ _ c.loop-i.i _ (procedure_at c.args.cert.now.procedures c.loop-i.i c.procedure.result c.procedure.ensures) c.loop-i.invariant.remains c.in_err-put_procedure.ensures.beginning)

pub loop-i-preserved : goal.loop-i-preserved
loop-i-preserved g c = record {
  works = c.in_ok-put_procedure.ensures.failed;
  remains = taken _ _ _ _ _ _ c.loop-i.i _ (procedure_at c.args.cert.now.procedures c.loop-i.i c.procedure.result c.procedure.ensures) c.loop-i.invariant.remains c.in_ok-put_procedure.ensures.whole;
}
