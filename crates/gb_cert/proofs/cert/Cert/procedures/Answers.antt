use Rattle.std.proofs.Common.{◌≤◌, ◌==◌, length, arith}
use Rattle.gb_cert.specs.Places.{certificate_in}
use Rattle.gb_cert.proofs.Placing.{at-length}
use Rattle.gb_cert.proofs.Lending.{limit-most}
use Rattle.gb_cert.proofs.cert.Cert.procedures.Goals as goal

pub overflow_cast-result : goal.overflow_cast-result
overflow_cast-result c =
    let k = at-length _ _ _ _ _ c.self.invariant.procedures_at in
    let cert = certificate_in c.self.inside.bytes.now in
    let few : length cert.procedures ≤ 65535 = limit-most (cert.version == 4) (length cert.procedures) c.self.invariant.spells.is_certificate.procedure_count in
    omega arith

pub returns : goal.returns
returns c =
    let k = at-length _ _ _ _ _ c.self.invariant.procedures_at in
    cc
