use Rattle.std.proofs.Common.{◌∙◌, subst}
use Rattle.gb_text.specs.Text.{GainsBeginning}
use Rattle.gb_verify.specs.Upgrade.{text_in}
use Rattle.gb_verify.proofs.FileLaws.{on_err, fault_begins}
use Rattle.gb_verify.proofs.UpgradeLaws.{upgrade_gained, upgrade_same}
use Rattle.gb_verify.proofs.upgrade.upgrade_bytes.Goals as goal

pub returns-in_err-put_all-in-Err-clause-beginning : goal.returns-in_err-put_all-in-Err-clause-beginning
returns-in_err-put_all-in-Err-clause-beginning g c =
    let line_is = c.as_slice.ensures ∙ c.certificate_line.ensures in
    on_err c.from_residual-in_err-put_all-in-Err.result (fault_begins (text_in c.args.to) _ _ c.args.cert.now c.in-Err.fault c.in-Err.ensures.exact
    (subst (λ t. GainsBeginning (g.W.Sink.contents c.args.out.now) t (g.W.Sink.contents c.put_all.new.out)) line_is c.in_err-put_all-in-Err.ensures.beginning))

pub returns-in_ok-put_certificate-in-Ok-clause-same : goal.returns-in_ok-put_certificate-in-Ok-clause-same
returns-in_ok-put_certificate-in-Ok-clause-same g c = λ other spells version.
    upgrade_same c.args.to _ _ c.args.cert.now c.in-Ok.cert other spells (c.in-Ok.ensures.only other spells) version c.in_ok-put_certificate-in-Ok.ensures.whole

pub returns-in_ok-put_certificate-in-Ok-clause-upgraded : goal.returns-in_ok-put_certificate-in-Ok-clause-upgraded
returns-in_ok-put_certificate-in-Ok-clause-upgraded g c = upgrade_gained c.args.to _ _ c.args.cert.now c.in-Ok.cert c.in-Ok.ensures.found c.in_ok-put_certificate-in-Ok.ensures.whole
