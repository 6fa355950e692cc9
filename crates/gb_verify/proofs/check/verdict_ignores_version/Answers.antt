use Rattle.gb_verify.proofs.VerdictLaws.{verdict_of-versions}
use Rattle.gb_verify.proofs.check.verdict_ignores_version.Goals as goal

pub returns : goal.returns
returns c = verdict_of-versions
