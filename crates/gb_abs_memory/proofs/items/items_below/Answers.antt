use Rattle.std.proofs.Common.{arith}
use Rattle.gb_abs_memory.proofs.ItemLaws.{items_room}
use Rattle.gb_abs_memory.proofs.items.items_below.Goals as goal

pub push-requires : goal.push-requires
push-requires c = (
  omega arith,
  items_room c.loop-item.top c.args.base c.args.span c.args.val c.loop-item.items.items c.args.held.now c.loop-item.item-index
      c.loop-item.invariant c.loop-item-test.true c.requires,
)
