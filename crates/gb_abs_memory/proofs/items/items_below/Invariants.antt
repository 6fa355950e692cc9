use Rattle.std.proofs.Common.{◌≡◌, ◌++◌, drop}
use Rattle.gb_abs_memory.specs.Items.{items_below}
use Rattle.gb_abs_memory.proofs.items.items_below.Given as goal

abbrev pub invariant-loop-item : goal.invariant-loop-item
invariant-loop-item l = l.items.items ++ items_below l.top l.span l.val (drop l.item-index l.held) ≡ items_below l.base l.span l.val l.held
