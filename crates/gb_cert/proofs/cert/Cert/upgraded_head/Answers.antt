use Rattle.gb_cert.specs.Places.{certificate_in}
use Rattle.gb_cert.proofs.OlderBodies.{upgraded}
use Rattle.gb_cert.proofs.cert.Cert.upgraded_head.Goals as goal

pub returns-clause-certificate : goal.returns-clause-certificate
returns-clause-certificate c = rw (← c.self.view_is) (upgraded (certificate_in c.self.inside.bytes.now) c.self.invariant.spells.is_certificate (rw c.self.view_is c.requires))
