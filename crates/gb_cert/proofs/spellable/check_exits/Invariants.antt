use Rattle.std.proofs.Common.{◌≡◌, false, take}
use Rattle.std.specs.List.{list_any}
use Rattle.gb_cert.specs.Written.{returns_with, is_unspellable}
use Rattle.gb_cert.proofs.spellable.check_exits.Given as goal

abbrev pub invariant-loop-procedure : goal.invariant-loop-procedure
invariant-loop-procedure l = list_any (returns_with (is_unspellable l.version)) (take l.procedure-index l.procedures) ≡ false
