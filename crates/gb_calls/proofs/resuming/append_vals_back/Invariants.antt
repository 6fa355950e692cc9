use Rattle.std.proofs.Common.{◌≡◌, ◌+◌, ◌++◌, length, map, take}
use Rattle.gb_calls.specs.Told.{val_back}
use Rattle.gb_calls.proofs.resuming.append_vals_back.Given as goal

abbrev pub invariant-loop-item : goal.invariant-loop-item
invariant-loop-item l = record {
  count : length l.state.items ≡ length l.fn.state.items + l.item-index;
  same : l.state ≡ record l.fn.state { items = l.fn.state.items ++ map (val_back l.fn.caller.program.now l.fn.caller.is_whole l.fn.caller.kept.now.items l.fn.caller.state.now) (take l.item-index l.items) };
}
