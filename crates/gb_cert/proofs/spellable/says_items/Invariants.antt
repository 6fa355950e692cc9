use Rattle.std.proofs.Common.{◌≡◌, true, take}
use Rattle.std.specs.List.{list_all}
use Rattle.gb_cert.specs.Written.{says}
use Rattle.gb_cert.proofs.spellable.says_items.Given as goal

abbrev pub invariant-loop-item : goal.invariant-loop-item
invariant-loop-item l = list_all (says l.version) (take l.item-index l.items) ≡ true
