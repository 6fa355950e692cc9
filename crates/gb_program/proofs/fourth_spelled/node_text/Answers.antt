use Rattle.std.proofs.Common.{◌∙◌, ap, subst, sym}
use Rattle.gb_command_line.specs.Below.gb_verify.Below.gb_states.Numbers.{word}
use Rattle.gb_program.specs.Fourth.{has_return_word, IsFree}
use Rattle.gb_program.proofs.FourthText.{node_is, more}
use Rattle.gb_program.proofs.fourth_spelled.node_text.Goals as goal

pub returns : goal.returns
returns c = λ region form_of free.
    more _ _ _ _ _ (more _ _ _ _ _ (more _ _ _ _ _ c.push.ensures.text c.push-2.ensures.text) c.push-3.ensures.text) (c.push_state.ensures region (form_of c.args.number).base (subst (IsFree region) (sym c.lent.ensures) free))
    ∙ node_is region form_of c.args.rules c.args.node.now c.args.number _ _ _ _ _ _ c.new-text.ensures c.word.ensures (c.word-2.ensures ∙ ap word c.address.ensures) (c.word-3.ensures ∙ ap word c.bank.ensures) c.lent.ensures
    (c.has_return_word-is_entered.ensures ∙ ap (has_return_word c.args.rules) c.procedure.ensures)
