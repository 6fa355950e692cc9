use Rattle.std.proofs.Common.{◌∙◌, ◌++◌, ◌∷◌, [], ap, subst, sym, ℕ, List}
use Rattle.std.specs.Prelude.{IfSome}
use Rattle.gb_program.specs.Fourth.{IsFree}
use Rattle.gb_program.proofs.FourthText.{exit_none, exit_some, more}
use Rattle.gb_program.proofs.fourth_spelled.push_exit.Goals as goal

pub returns-in-None : goal.returns-in-None
returns-in-None c = λ region base free. c.push.ensures.text ∙ ap (λ (t : List ℕ). c.args.out.now.items ++ t) (exit_none region base c.args.procedure.now.exit c.in-None.ensures)

pub returns-in-Some : goal.returns-in-Some
returns-in-Some c = λ region base free.
    more c.args.out.now.items _ _ (1 ∷ []) _ c.push-in-Some.ensures.text (c.push_state.ensures region base (subst (λ o. IfSome o (IsFree region)) (sym c.in-Some.ensures) free)) ∙ ap (λ (t : List ℕ). c.args.out.now.items ++ t) (exit_some region base c.args.procedure.now.exit c.in-Some.state c.in-Some.ensures)
