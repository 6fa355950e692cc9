use Rattle.std.proofs.Common.{◌≡◌, ◌∙◌, ◌++◌, rules}
use Rattle.gb_program.proofs.FourthLaws.{order_is}
use Rattle.gb_program.proofs.fourth_order.order.Goals as goal

pub returns-clause-exact : goal.returns-clause-exact
returns-clause-exact c =
    let all : c.try_extend_from_slice.new.self.items ≡ c.push.new.self.items ++ c.as_slice.result.now = search rules in
    order_is c.args.cert.now _ _ _ _ c.new-numbers.ensures c.push.ensures.items (c.as_slice.ensures.value ∙ c.sorted.ensures.exact) all
