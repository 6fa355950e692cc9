use Rattle.std.proofs.Common.{◌≤◌, length, arith}
use Rattle.gb_watch.proofs.Below.gb_verify_laws.FileLaws.{on_err}
use Rattle.gb_printed.specs.Show.{procedure_lines}
use Rattle.gb_printed.proofs.ShowLaws.{line_cut, lines_taken}
use Rattle.gb_printed.proofs.show.put_procedures.Goals as goal

pub returns-in_err-put_procedure-clause-beginning : goal.returns-in_err-put_procedure-clause-beginning
returns-in_err-put_procedure-clause-beginning g c =
    on_err c.from_residual.result (line_cut (procedure_lines c.args.rules) _ _ _ _ _ c.loop-i.i c.procedure.result c.procedure.ensures c.loop-i.invariant.remains
    c.in_err-put_procedure.ensures.beginning)

pub returns-clause-whole : goal.returns-clause-whole
returns-clause-whole g c =
    let past : length c.args.cert.now.procedures ≤ c.loop-i.i = omega (arith, c.procedures-i-end.ensures) in
    lines_taken (procedure_lines c.args.rules) _ _ _ c.args.cert.now.procedures c.loop-i.i past c.loop-i.invariant.remains
