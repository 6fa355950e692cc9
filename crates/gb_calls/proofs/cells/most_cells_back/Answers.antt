use Rattle.std.proofs.Common.{◌≡◌, ◌+◌, ◌≤◌, length, take, drop, get_or, sym, ◌∙◌, ap, arith, length-take, take_all}
use Rattle.std.proofs.lemmas.List.{drop_all}
use Rattle.std.specs.List.{filter}
use Rattle.arrayvec.specs.ArrayVec.{ArrayVec}
use Rattle.gb_domain.specs.declared.types.Cell.{Cell}
use Rattle.gb_product.proofs.Below.gb_abs_laws.CellLaws.{blank, length-where}
use Rattle.gb_calls.specs.Resuming.{is_in_ranges, is_out_of_ranges, inserted, merged}
use Rattle.gb_calls.specs.Told.{cell_back}
use Rattle.gb_calls.proofs.CellLaws.{written, merged-put, merged-passed}
use Rattle.gb_calls.proofs.cells.most_cells_back.Goals as goal
use Rattle.gb_calls.proofs.cells.most_cells_back.Goals.{then-is_in_ranges, else-is_in_ranges}

pub loop-cell-init : goal.loop-cell-init
loop-cell-init c =
    let given = cell_back c.args.caller.now.program.now c.args.caller.now.is_whole c.args.caller.now.kept.now.items c.args.caller.now.state.now in
    let out = is_out_of_ranges c.args.ranges.now in
    let held = c.args.caller.now.state.now.cells in
    let fewer = length-where out held in
    let room : length held ≤ 64 = c.cells.ensures.few in
    let is : c.outside-cells.result.items ≡ filter out held = rw c.cells.ensures.cells at c.outside-cells.ensures in
    let same = ap length is in
    record {
      few = omega arith;
      left = ap (λ xs. take 64 (merged (written given (is_in_ranges c.args.ranges.now) c.args.exit.now) xs)) is;
    }

pub loop-cell-preserved : goal.loop-cell-preserved
loop-cell-preserved c =
    let given = cell_back c.args.caller.now.program.now c.args.caller.now.is_whole c.args.caller.now.kept.now.items c.args.caller.now.state.now in
    let test = is_in_ranges c.args.ranges.now in
    let exit = c.args.exit.now in
    let i = c.loop-cell.cell-index in
    let held = c.loop-cell.cells.items in
    elim c.if-is_in_ranges.branch [
      | then-is_in_ranges w ↦
          let put = inserted (given (get_or exit i blank)) held in
          let is : c.if-is_in_ranges.cells.items ≡ take 64 put =
          ap (λ (v : ArrayVec Cell). v.items) w.cells-is ∙ w.put.ensures ∙ ap (λ x. take 64 (inserted x held)) w.cell_back.ensures in
          let same = ap length is in
          let most = length-take 64 put in
          record {
            few = omega arith;
            left = ap (λ xs. take 64 (merged (written given test (drop (i + 1) exit)) xs)) is
                ∙ merged-put given test exit held i blank c.loop-cell-test.true (sym c.is_in_ranges.ensures ∙ w.if-is_in_ranges.true)
                ∙ c.loop-cell.invariant.left;
          }
      | else-is_in_ranges w ↦
          let is : c.if-is_in_ranges.cells.items ≡ held = ap (λ (v : ArrayVec Cell). v.items) w.cells-is in
          let same = ap length is in
          record {
            few = omega arith;
            left = ap (λ xs. take 64 (merged (written given test (drop (i + 1) exit)) xs)) is
                ∙ merged-passed given test exit held i blank c.loop-cell-test.true (sym c.is_in_ranges.ensures ∙ w.if-is_in_ranges.false)
                ∙ c.loop-cell.invariant.left;
          }
    ]

pub returns : goal.returns
returns c =
    let given = cell_back c.args.caller.now.program.now c.args.caller.now.is_whole c.args.caller.now.kept.now.items c.args.caller.now.state.now in
    let held = c.loop-cell.cells.items in
    sym (take_all 64 held c.loop-cell.invariant.few)
    ∙ ap (λ xs. take 64 (merged (written given (is_in_ranges c.args.ranges.now) xs) held)) (sym (drop_all c.loop-cell.cell-index c.args.exit.now c.loop-cell-test.false))
    ∙ c.loop-cell.invariant.left
