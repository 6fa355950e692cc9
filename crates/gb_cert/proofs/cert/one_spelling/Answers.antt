use Rattle.gb_cert.proofs.WholeCertificateLaws.{one_certificate}
use Rattle.gb_cert.proofs.cert.one_spelling.Goals as goal

pub returns-clause-certificate : goal.returns-clause-certificate
returns-clause-certificate c = one_certificate
