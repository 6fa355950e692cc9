use Rattle.std.proofs.Common.{ℕ, refl, sym, ap, ◌∙◌, Option, None}
use Rattle.gb_domain.specs.RelationRules.{test_alone}
use Rattle.gb_product.specs.Covering.{covers_relations}
use Rattle.gb_product.proofs.NothingLaws.{nothing_covered}
use Rattle.gb_calls.proofs.covering.covers_test.Goals as goal

pub returns-in-None : goal.returns-in-None
returns-in-None c =
    let program = c.args.program.now in
    let cells = c.args.states.now.lists.now.cells in
    let said = c.args.states.now.summary.now in
    let registers = c.args.states.now.core.now.registers in
    let relations = c.args.states.now.relations.now in
    let words = c.holds_words.ensures in
    sym (ap (λ (test : Option ℕ). covers_relations program registers cells said relations (test_alone test)) c.in-None.is ∙ nothing_covered program registers cells said relations (test_alone None) refl words.bc words.de words.hl)
