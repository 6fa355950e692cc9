use Rattle.std.proofs.Common.{◌≡◌, ◌∙◌, ◌++◌, ◌∷◌, [], List, ℕ, ap, refl, length}
use Rattle.gb_domain.specs.Types.{Node}
use Rattle.gb_ops.specs.declared.machine.Region.{Region}
use Rattle.gb_command_line.specs.Below.gb_verify.Below.gb_states.Numbers.{word, quad}
use Rattle.gb_command_line.specs.Below.gb_verify.Widened.{widened}
use Rattle.gb_program.specs.Fourth.{grouped}
use Rattle.gb_program.proofs.FourthLaws.{count_is, head_is}
use Rattle.gb_program.proofs.FourthText.{two_bytes, four_bytes}
use Rattle.gb_program.proofs.fourth.head.Goals as goal

pub returns : goal.returns
returns c =
    let first = two_bytes _ _ c.word-first.ensures in
    let last = two_bytes _ _ c.word-last.ensures in
    let procedures = two_bytes _ _ c.word-procedures.ensures in
    let nodes = four_bytes _ _ c.quad-nodes.ensures in
    head_is c.args.cert.now _ _ _ _ c.procedures.result c.node_count.result c.requires.older
    (first ∙ ap (λ (r : Region). word r.first) c.region-region.ensures.region) (last ∙ ap (λ (r : Region). word r.last) c.region-region.ensures.region)
    procedures (count_is c.args.cert.now c.args.numbers.now c.procedures.result c.requires.certificate c.procedures.ensures c.requires.numbers c.requires.all)
    nodes (c.node_count.ensures ∙ ap (λ (l : List ℕ). length (grouped 0 (widened c.args.cert.now).nodes l)) c.requires.numbers)
