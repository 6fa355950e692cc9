use Rattle.std.proofs.Common.{◌≡◌, ◌∙◌, ◌<◌, length, slice_get, Some, subst, sym}
use Rattle.gb_program.proofs.FourthLaws.{entry_is, entry_within}
use Rattle.gb_program.proofs.fourth_order.entry_address.Goals as goal

pub node-requires : goal.node-requires
node-requires c = subst (λ i. i < length c.args.cert.now.nodes) (sym c.entry.ensures) (entry_within c.args.cert.now c.args.number c.procedure.result c.requires.certificate c.procedure.ensures)

pub returns : goal.returns
returns c =
    c.address.ensures
    ∙ entry_is c.args.cert.now c.args.number c.procedure.result c.node.result c.procedure.ensures (subst (λ i. slice_get c.args.cert.now.nodes i ≡ Some c.node.result) c.entry.ensures c.node.ensures)
