use Rattle.std.proofs.Common.{◌≡◌, drop}
use Rattle.gb_rules.specs.Procedures.{stack_of}
use Rattle.gb_verify.specs.Verdict.{verdict_from}
use Rattle.gb_verify.proofs.check.verdict.Given as goal

abbrev pub invariant-loop-i : goal.invariant-loop-i
invariant-loop-i l =
    (verdict_from l.rom l.cert l.i (drop l.i l.cert.nodes) ≡ verdict_from l.rom l.cert 0 l.cert.nodes)
    × (l.stack ≡ stack_of l.cert l.procedure)
