use Rattle.std.proofs.Common.{◌∙◌, ap}
use Rattle.gb_command_line.specs.Below.gb_verify.Below.gb_states.Numbers.{word}
use Rattle.gb_program.proofs.FourthText.{procedure_is, more}
use Rattle.gb_program.proofs.fourth_spelled.procedure_text.Goals as goal

pub returns : goal.returns
returns c = λ region free.
    more _ _ _ _ _ (more _ _ _ _ _ (more _ _ _ _ _ (more _ _ _ _ _ (more _ _ _ _ _ c.push.ensures.text c.push-2.ensures.text) c.push-3.ensures.text) c.push_declared.ensures.text) c.push-4.ensures.text) (c.push_exit.ensures region c.args.procedure.now.base free)
    ∙ procedure_is region c.args.rules c.args.is_main c.args.procedure.now c.args.entry c.need.result _ _ _ _ c.new-text.ensures c.quad.ensures (c.word.ensures ∙ ap word c.base.ensures) c.word-2.ensures c.need.ensures c.requires.kept c.requires.mark
