use Rattle.std.proofs.Common.{◌≡◌, false, take}
use Rattle.std.specs.List.{list_any}
use Rattle.gb_cert.specs.Written.{says_base}
use Rattle.gb_cert.proofs.spellable.is_one_base.Given as goal

abbrev pub invariant-loop-procedure : goal.invariant-loop-procedure
invariant-loop-procedure l = list_any (says_base l.rules false l.region) (take l.procedure-index l.procedures) ≡ false
