use Rattle.std.proofs.Common.{arith}
use Rattle.gb_cert.proofs.state.StateRef.item_count.Goals as goal

pub overflow_cast-result : goal.overflow_cast-result
overflow_cast-result c = omega (arith, c.items.ensures.long, c.items.ensures.few)

pub returns : goal.returns
returns c = omega (arith, c.items.ensures.long)
