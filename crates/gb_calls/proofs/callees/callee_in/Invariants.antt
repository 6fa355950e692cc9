use Rattle.std.proofs.Common.{◌≡◌, drop}
use Rattle.gb_calls.specs.Calls.{entry_from, entry_behind_main}
use Rattle.gb_calls.proofs.callees.callee_in.Given as goal

abbrev pub invariant-loop-i : goal.invariant-loop-i
invariant-loop-i l =
    entry_from l.program l.cert l.setting l.address l.state l.i (drop l.i l.cert.procedures)
    ≡ entry_behind_main l.program l.cert l.setting l.address l.state l.cert.procedures
