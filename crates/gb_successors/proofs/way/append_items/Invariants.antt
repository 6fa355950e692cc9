use Rattle.std.proofs.Common.{◌≡◌, ◌+◌, ◌++◌, length, take}
use Rattle.gb_successors.proofs.way.append_items.Given as goal

abbrev pub invariant-loop-item : goal.invariant-loop-item
invariant-loop-item l = record {
  count : length l.state.items ≡ length l.fn.state.items + l.item-index;
  same : l.state ≡ record l.fn.state { items = l.fn.state.items ++ take l.item-index l.items };
}
