use Rattle.std.proofs.Common.{◌≤◌, length, ap, arith}
use Rattle.gb_abs.specs.Cells.{widened_at}
use Rattle.gb_abs.proofs.WideningLaws.{mapped_room}
use Rattle.gb_abs.proofs.cells.widened_or_same.Goals as goal

pub push-requires : goal.push-requires
push-requires c =
    let same = ap length c.cells-cell-items.ensures.cells in
    let few = c.cells-cell-items.ensures.few in
    let most : length c.cells-cell-items.result.now ≤ 64 = omega arith in (
      omega arith,
      mapped_room (widened_at c.args.is_whole c.args.span c.args.val) c.loop-cell.cells.items c.cells-cell-items.result.now c.loop-cell.cell-index
          c.loop-cell.invariant c.loop-cell-test.true most,
    )
