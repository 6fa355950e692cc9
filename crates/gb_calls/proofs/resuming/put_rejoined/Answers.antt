use Rattle.std.proofs.Common.{◌≡◌, sym, ◌∙◌}
use Rattle.gb_product.specs.Below.gb_relations.Returned.{returned}
use Rattle.gb_product.specs.Held.{held_relations}
use Rattle.gb_calls.specs.Resuming.{given_addresses, kept_by, core_back}
use Rattle.gb_calls.proofs.ResumingLaws.{too_deep}
use Rattle.gb_calls.proofs.resuming.put_rejoined.Goals as goal

pub returns-then-are_too_many-clause-exact : goal.returns-then-are_too_many-clause-exact
returns-then-are_too_many-clause-exact c =
    let caller = c.args.caller.now in
    let program = caller.program.now in
    let names = caller.kept.now.items in
    let s = caller.state.now in
    let x = c.args.exit.now in
    let given : c.as_slice-addresses.result.now ≡ given_addresses names x.cells =
    c.as_slice-addresses.ensures.value ∙ (rw c.cells.ensures.cells at c.given_addresses-given.ensures) in
    let known : c.held_relations-known.result ≡ held_relations c.args.waiting s.relations = rw c.relations.ensures at c.held_relations-known.ensures in
    let kept : c.kept_by-kept.result ≡ kept_by c.args.ranges.now c.as_slice-addresses.result.now (held_relations c.args.waiting s.relations) x.core =
    rw (known, c.core.ensures) at c.kept_by-kept.ensures in
    let core : c.core_back-core.result ≡ core_back program caller.is_whole names s x.core = rw c.core-2.ensures at c.core_back-core.ensures in
    let relations : c.returned-relations.result ≡ returned c.kept_by-kept.result s.core.registers (held_relations c.args.waiting s.relations) x.relations =
    rw (known, c.relations-2.ensures, c.core-3.ensures) at c.returned-relations.ensures.exact in
    too_deep program c.args.entered.now c.read_by-read.result caller.is_whole c.args.waiting c.args.count c.args.ranges.now names c.as_slice-addresses.result.now s x c.kept_by-kept.result c.core_back-core.result c.returned-relations.result
    _ c.cells_back-cells.result.items c.summary_back-summary.result _ given kept core relations
    (rw c.cells-2.ensures.cells at c.cells_back-cells.ensures) c.summary_back-summary.ensures (rw c.as_slice-2.ensures.value at c.read_by-read.ensures) (sym c.if-not-reduce.ensures.exact) (rw c.as_slice-3.ensures.value at (sym c.in-Some.is ∙ c.reduced_controller-cut.ensures.exact)) (rw (c.items.ensures.items, c.items-2.ensures.items) at (c.are_too_many.ensures.many c.if-are_too_many.true))
