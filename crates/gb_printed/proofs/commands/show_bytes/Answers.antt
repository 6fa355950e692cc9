use Rattle.std.proofs.Common.{◌∙◌, subst}
use Rattle.gb_text.specs.Text.{GainsBeginning}
use Rattle.gb_printed.specs.Show.{show_text}
use Rattle.gb_watch.proofs.Below.gb_verify_laws.FileLaws.{on_err, fault_begins}
use Rattle.gb_printed.proofs.commands.show_bytes.Goals as goal

pub returns-in_err-put_all-in-Err-clause-beginning : goal.returns-in_err-put_all-in-Err-clause-beginning
returns-in_err-put_all-in-Err-clause-beginning g c =
    let line_is = c.as_slice.ensures ∙ c.certificate_line.ensures in
    on_err c.from_residual-in_err-put_all-in-Err.result (fault_begins show_text _ _ c.args.file.now c.in-Err.fault c.in-Err.ensures.exact
    (subst (λ t. GainsBeginning (g.W.Sink.contents c.args.out.now) t (g.W.Sink.contents c.put_all.new.out)) line_is c.in_err-put_all-in-Err.ensures.beginning))
