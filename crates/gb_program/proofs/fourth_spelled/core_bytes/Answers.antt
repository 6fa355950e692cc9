use Rattle.std.proofs.Common.{◌∙◌, ap}
use Rattle.gb_domain.specs.declared.types.Ctl.{Ctl}
use Rattle.gb_domain.specs.declared.types.Core.{Core}
use Rattle.gb_domain.specs.RelationRules.{compared}
use Rattle.gb_command_line.specs.Below.gb_verify.Below.gb_states.WholeSpelling as whole
use Rattle.gb_program.specs.Fourth.{fourth_ctl}
use Rattle.gb_program.proofs.FourthText.{core_text}
use Rattle.gb_program.proofs.fourth_spelled.core_bytes.Goals as goal

pub returns : goal.returns
returns c =
    let core = c.args.state.now.core in
    core_text core (compared c.args.state.now.relations.byte.test) c.older_core-core.result _ _ _ c.requires c.older_core-core.ensures
    (c.bank_bounds-first.ensures.first ∙ ap (λ (k : Core). (fourth_ctl k.ctl).bank_lo) c.known_core.ensures)
    (c.bank_bounds-first.ensures.last ∙ ap (λ (k : Core). (fourth_ctl k.ctl).bank_hi) c.known_core.ensures)
    (c.kept_number.ensures ∙ ap (λ (k : Core). whole.kept_number k.ctl.kept) c.known_core.ensures)
