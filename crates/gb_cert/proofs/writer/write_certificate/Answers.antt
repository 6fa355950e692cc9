use Rattle.std.proofs.lemmas.Result.{err_from_is_err_and}
use Rattle.gb_cert.proofs.Written.{refused_by}
use Rattle.gb_cert.proofs.writer.write_certificate.Goals as goal

pub returns-in_err-put_certificate-clause-complete :
    goal.returns-in_err-put_certificate-clause-complete
returns-in_err-put_certificate-clause-complete c =
    let p = err_from_is_err_and c.from_residual-in_err-put_certificate.result c.from_residual-in_err-put_certificate.ensures.1 in
    rw (p.1, p.2) (λ h. refused_by c.args.plan.now c.in_err-put_certificate.field-0.0 h c.in_err-put_certificate.ensures.fault)

pub returns-in_err-check-clause-complete : goal.returns-in_err-check-clause-complete
returns-in_err-check-clause-complete c =
    let p = err_from_is_err_and c.from_residual.result c.from_residual.ensures.1 in
    rw (p.1, p.2) (λ h. refused_by c.args.plan.now c.in_err-check.field-0.0 h c.in_err-check.ensures.fault)
