use Rattle.std.proofs.Common.{◌∙◌, subst, List, ℕ}
use Rattle.gb_events.specs.Sinks.{GainsBeginning}
use Rattle.gb_program.specs.Fourth.{fourth_text}
use Rattle.gb_events.proofs.Below.gb_verify_laws.FileLaws.{on_err, fault_begins}
use Rattle.gb_program.proofs.FourthFileLaws.{fourth_same}
use Rattle.gb_program.proofs.fourth.upgrade_whole.Goals as goal

pub returns-in_err-put_all-in-Err-clause-beginning : goal.returns-in_err-put_all-in-Err-clause-beginning
returns-in_err-put_all-in-Err-clause-beginning g c =
    let line_is = c.as_slice.ensures ∙ c.certificate_line.ensures in
    on_err c.from_residual-in_err-put_all-in-Err.result (fault_begins fourth_text _ _ c.args.cert.now c.in-Err.fault c.in-Err.ensures.exact
    (subst (λ (t : List ℕ). GainsBeginning (g.W.Sink.contents c.args.out.now) t (g.W.Sink.contents c.put_all.new.out)) line_is c.in_err-put_all-in-Err.ensures.beginning))

pub returns-in_ok-put_certificate-in-Ok-clause-same : goal.returns-in_ok-put_certificate-in-Ok-clause-same
returns-in_ok-put_certificate-in-Ok-clause-same g c = λ other spells version.
    fourth_same _ _ c.args.cert.now c.in-Ok.cert other spells (c.in-Ok.ensures.only other spells) version c.in_ok-put_certificate-in-Ok.ensures.whole

pub returns-in_ok-put_certificate-in-Ok-clause-upgraded : goal.returns-in_ok-put_certificate-in-Ok-clause-upgraded
returns-in_ok-put_certificate-in-Ok-clause-upgraded g c = record { certificate = c.in-Ok.cert; spelled = c.in-Ok.ensures.found; gained = c.in_ok-put_certificate-in-Ok.ensures.whole }
