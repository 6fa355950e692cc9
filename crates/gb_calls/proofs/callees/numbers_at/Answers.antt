use Rattle.gb_calls.proofs.NumberLaws.{among-all}
use Rattle.gb_calls.proofs.callees.numbers_at.Goals as goal

pub returns-then-version-eq4 : goal.returns-then-version-eq4
returns-then-version-eq4 c = c.find_procedures-found.ensures.found.among

pub returns-else-version-eq4 : goal.returns-else-version-eq4
returns-else-version-eq4 c = among-all c.args.cert.now c.args.address c.procedures.result c.procedures.ensures
