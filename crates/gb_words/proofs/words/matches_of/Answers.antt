use Rattle.std.proofs.Common.{◌≡◌, true, map, subst}
use Rattle.clap.specs.Words.{App, FailsBy, fault_of, is_simple_and_free}
use Rattle.gb_words.proofs.words.matches_of.Goals as goal

pub returns-clause-kinds : goal.returns-clause-kinds
returns-clause-kinds c =
    subst (λ (app : App). is_simple_and_free app ≡ true → FailsBy (fault_of app (map (λ word. word.now) c.args.words.now)) c.try_get_matches_from.result)
    c.in_ok-program_command.ensures.0 c.try_get_matches_from.ensures.kinds
