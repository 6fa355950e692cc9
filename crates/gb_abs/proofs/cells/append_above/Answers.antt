use Rattle.std.proofs.Common.{◌≡◌, true, get_or, arith}
use Rattle.std.proofs.lemmas.Bool.Decides.{nat_tests}
use Rattle.gb_abs.specs.Cells.{is_above}
use Rattle.gb_abs.proofs.CellLaws.{blank, room_left}
use Rattle.gb_abs.proofs.cells.append_above.Goals as goal

pub push-requires : goal.push-requires
push-requires c =
    let passes : is_above c.args.address (get_or c.args.from.now c.loop-cell.cell-index blank) ≡ true = (let h = c.if-cell-address.true in grind (arith, nat_tests)) in (
      omega arith,
      room_left (is_above c.args.address) c.loop-cell.cells.items c.args.from.now c.args.cells.now.items c.loop-cell.cell-index blank
          c.loop-cell.invariant c.loop-cell-test.true passes c.requires,
    )
