use Rattle.std.proofs.Common.{◌≡◌, false, take}
use Rattle.std.specs.List.{list_any}
use Rattle.gb_cert.specs.Written.{has_half_need}
use Rattle.gb_cert.proofs.spellable.is_one_half_need.Given as goal

abbrev pub invariant-loop-procedure : goal.invariant-loop-procedure
invariant-loop-procedure l = list_any (has_half_need l.rules) (take l.procedure-index l.procedures) ≡ false
