use Rattle.std.proofs.Common.{◌≡◌, ◌+◌, ◌≤◌, true, false, cond, [], length, get_or, sym, ◌∙◌, ap, arith}
use Rattle.std.specs.List.{filter}
use Rattle.gb_domain.specs.declared.types.Cell.{Cell}
use Rattle.gb_product.proofs.Below.gb_abs_laws.CellLaws.{blank, length-where, room_left}
use Rattle.gb_calls.specs.Resuming.{is_in_ranges, is_out_of_ranges}
use Rattle.gb_calls.proofs.cells.outside.Goals as goal

pub push-requires : goal.push-requires
push-requires c =
    let out = is_out_of_ranges c.args.ranges.now in
    let room : length {A = Cell} [] + length (filter out c.args.cells.now) ≤ 64 = (let fewer = length-where out c.args.cells.now in omega arith) in
    let apart : is_in_ranges c.args.ranges.now (get_or c.args.cells.now c.loop-cell.cell-index blank) ≡ false =
    sym c.is_in_ranges.ensures ∙ c.if-not-is_in_ranges.true in (
      omega arith,
      room_left out c.loop-cell.kept.items c.args.cells.now [] c.loop-cell.cell-index blank
          c.loop-cell.invariant c.loop-cell-test.true (ap (λ b. cond b false true) apart) room,
    )
