use Rattle.std.proofs.Common.{sym, subst}
use Rattle.gb_verify.specs.Verdict.{IsVerdict}
use Rattle.gb_verify.proofs.VerdictLaws.{IsVerdict-verdict_of}
use Rattle.gb_verify.proofs.RunLaws.{check_safe}
use Rattle.gb_verify.proofs.check.check.Goals as goal

pub returns-clause-exact : goal.returns-clause-exact
returns-clause-exact c =
    subst (IsVerdict c.args.rom.now c.args.cert.now) (sym c.verdict.ensures) (IsVerdict-verdict_of c.args.rom.now c.args.cert.now)

pub returns-clause-safe : goal.returns-clause-safe
returns-clause-safe c = check_safe c.args.rom.now c.args.cert.now _ c.holds_bytes.ensures c.region-region.ensures.rules (returns-clause-exact c)
