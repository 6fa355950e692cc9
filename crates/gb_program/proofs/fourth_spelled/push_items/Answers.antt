use Rattle.std.proofs.Common.{◌∙◌, ◌++◌, ◌∷◌, [], ap, ℕ, List}
use Rattle.gb_program.proofs.FourthText.{items_text, more}
use Rattle.gb_program.proofs.fourth_spelled.push_items.Goals as goal

pub returns-clause-text : goal.returns-clause-text
returns-clause-text c =
    let old : List ℕ = c.args.out.now.items in
    let count : List ℕ = c.item_count.result ∷ [] in
    let below : List ℕ = c.below_items.result.now in
    let text = items_text c.args.is_entered c.args.state.now.items c.item_count.result below c.items.result.now c.requires.older.items c.item_count.ensures c.below_items.ensures.text (c.items.ensures.older c.requires.older.items) in
    more old _ _ (count ++ below) c.items.result.now (more old _ _ count below c.push.ensures.text c.push-2.ensures.text) c.push-3.ensures.text ∙ ap (λ (t : List ℕ). old ++ t) text
