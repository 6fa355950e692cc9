use Rattle.std.proofs.Common.{◌≡◌, false, take}
use Rattle.std.specs.List.{list_any}
use Rattle.gb_cert.specs.Written.{stands_with, is_unspellable}
use Rattle.gb_cert.proofs.spellable.check_nodes.Given as goal

abbrev pub invariant-loop-node : goal.invariant-loop-node
invariant-loop-node l = list_any (stands_with (is_unspellable l.version)) (take l.node-index l.nodes) ≡ false
