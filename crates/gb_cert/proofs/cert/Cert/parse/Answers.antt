use Rattle.std.proofs.Common.{sym, ◌∙◌, arith}
use Rattle.std.proofs.lemmas.Result.{err_from_is_err_and}
use Rattle.gb_cert.proofs.WholeCertificateLaws.{found, again}
use Rattle.gb_cert.proofs.cert.Cert.parse.Goals as goal

pub returns-in_err-cert-clause-only : goal.returns-in_err-cert-clause-only
returns-in_err-cert-clause-only c = λ cert s.
    let p = err_from_is_err_and c.from_residual.result c.from_residual.ensures.1 in
    rw (p.1, p.2) (λ m. sym (again c.args.bytes.now cert s) ∙ c.in_err-cert.ensures m)

pub returns-clause-found : goal.returns-clause-found
returns-clause-found c = found c.args.bytes.now c.in_ok-cert.cert (λ i. omega (arith, c.type_inv.bytes i)) c.in_ok-cert.ensures

pub returns-clause-only : goal.returns-clause-only
returns-clause-only c = λ cert s. sym (again c.args.bytes.now cert s) ∙ c.in_ok-cert.ensures
