use Rattle.std.proofs.Common.{◌∙◌, ◌++◌, ◌∷◌, ap, ℕ, List}
use Rattle.gb_domain.specs.declared.relations.Relations.{Relations}
use Rattle.gb_command_line.specs.Below.gb_verify.Below.gb_states.RelationSpelling as told
use Rattle.gb_program.proofs.FourthText.{state_text, more}
use Rattle.gb_program.proofs.fourth_spelled.push_state.Goals as goal

pub returns : goal.returns
returns c = λ region base free.
    let core = c.push.ensures.text ∙ ap (λ (t : List ℕ). c.args.out.now.items ++ t) c.core_bytes.ensures in
    let said = c.push_told.ensures.text ∙ ap (λ (r : Relations). c.push_items.new.out.items ++ (told.present_number (told.present_in r) ∷ 0 ∷ told.parts r)) c.relations.ensures in
    more _ _ _ _ _ (more _ _ _ _ _ (more _ _ _ _ _ core c.push_items.ensures.text) said) c.push_cells.ensures.text
    ∙ ap (λ (t : List ℕ). c.args.out.now.items ++ t) (state_text region base c.args.is_entered c.args.state.now free c.requires.older.silent)
