use Rattle.std.proofs.Common.{◌∙◌, ◌++◌, ap, ℕ, List}
use Rattle.gb_program.proofs.FourthText.{cells_text, more}
use Rattle.gb_program.proofs.fourth_spelled.push_cells.Goals as goal

pub returns-clause-text : goal.returns-clause-text
returns-clause-text c =
    let text = cells_text c.args.state.now.cells c.cell_count.result c.cells.result.now c.requires.older.cells c.cell_count.ensures (c.cells.ensures.older c.requires.older.cells) in
    more _ _ _ _ _ c.push.ensures.text c.push-2.ensures.text ∙ ap (λ (t : List ℕ). c.args.out.now.items ++ t) text
