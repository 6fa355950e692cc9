use Rattle.std.proofs.Common.{◌+◌, ◌≤◌, [], length, sym, ◌∙◌, ap, arith}
use Rattle.std.specs.List.{filter}
use Rattle.gb_domain.specs.declared.types.Cell.{Cell}
use Rattle.gb_abs.specs.Cells.{is_outside}
use Rattle.gb_abs.proofs.CellLaws.{blank, length-where, room_left}
use Rattle.gb_abs.proofs.cells.dropped.Goals as goal

pub push-requires : goal.push-requires
push-requires c =
    let room : length {A = Cell} [] + length (filter (is_outside c.args.first c.args.last) c.cells-cell-items.result.now) ≤ 64 =
    let fewer = length-where (is_outside c.args.first c.args.last) c.cells-cell-items.result.now in
    let same = ap length c.cells-cell-items.ensures.cells in
    let few = c.cells-cell-items.ensures.few in
    omega arith in (
      omega arith,
      room_left (is_outside c.args.first c.args.last) c.loop-cell.cells.items c.cells-cell-items.result.now [] c.loop-cell.cell-index blank
          c.loop-cell.invariant c.loop-cell-test.true (sym c.is_outside.ensures ∙ c.if-is_outside.true) room,
    )
