use Rattle.std.proofs.Common.{◌≡◌, ◌≤◌, length, insert, ◌∙◌, ap}
use Rattle.gb_calls.specs.Resuming.{inserted}
use Rattle.gb_calls.proofs.CellLaws.{put-inside, put-behind}
use Rattle.gb_calls.proofs.cells.put.Goals as goal

pub returns-then-place-lt-CELLS : goal.returns-then-place-lt-CELLS
returns-then-place-lt-CELLS c =
    let xs = c.args.cells.now.items in
    let place = c.place_among-place.result in
    let is : inserted c.args.cell xs ≡ insert xs place c.args.cell = rw c.as_slice.ensures.value at c.place_among-place.ensures.place in
    let within : place ≤ length xs = rw c.as_slice.ensures.value at c.place_among-place.ensures.within in
    c.insert.ensures.items ∙ ap (λ ys. insert ys place c.args.cell) c.truncate.ensures.items ∙ put-inside c.args.cell xs place is c.if-place-lt-CELLS.true within

pub returns-else-place-lt-CELLS : goal.returns-else-place-lt-CELLS
returns-else-place-lt-CELLS c =
    let xs = c.args.cells.now.items in
    let place = c.place_among-place.result in
    let is : inserted c.args.cell xs ≡ insert xs place c.args.cell = rw c.as_slice.ensures.value at c.place_among-place.ensures.place in
    let within : place ≤ length xs = rw c.as_slice.ensures.value at c.place_among-place.ensures.within in
    let few : length xs ≤ 64 = rw c.as_slice.ensures.value at c.as_slice.ensures.fits in
    put-behind c.args.cell xs place is c.if-place-lt-CELLS.false within few
