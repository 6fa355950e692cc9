use Rattle.std.proofs.Common.{refl}
use Rattle.gb_verify.proofs.AnswerLaws.{IsAnswer-header_fault, IsAnswer-certificate_fault, IsAnswer-verdict, IsVerified-accepted, parsed_same}
use Rattle.gb_verify.proofs.verify.examine.Goals as goal

pub returns-in-Err-clause-answer : goal.returns-in-Err-clause-answer
returns-in-Err-clause-answer c = IsAnswer-header_fault c.args.rom.now c.args.cert.now c.in-Err.fault c.in-Err.ensures.exact

pub returns-in-Ok-parse-clause-answer : goal.returns-in-Ok-parse-clause-answer
returns-in-Ok-parse-clause-answer c =
    IsAnswer-verdict c.args.rom.now c.args.cert.now c.in-Ok.rom c.in-Ok-parse.cert c.check.result c.in-Ok.ensures.exact c.in-Ok-parse.ensures.exact c.check.ensures.verdict

pub returns-in-Ok-parse-clause-verified : goal.returns-in-Ok-parse-clause-verified
returns-in-Ok-parse-clause-verified c =
    IsVerified-accepted c.args.rom.now c.args.cert.now c.in-Ok.rom c.in-Ok-parse.cert c.check.result
    (parsed_same c.args.rom.now c.in-Ok.rom c.in-Ok.ensures.exact)
    (c.in-Ok.ensures.accepts.0 refl)
    c.in-Ok-parse.ensures.found c.check.ensures.exact c.check.ensures.safe

pub returns-in-Err-parse-clause-answer : goal.returns-in-Err-parse-clause-answer
returns-in-Err-parse-clause-answer c =
    IsAnswer-certificate_fault c.args.rom.now c.args.cert.now c.in-Ok.rom c.in-Err-parse.fault c.in-Ok.ensures.exact c.in-Err-parse.ensures.exact
