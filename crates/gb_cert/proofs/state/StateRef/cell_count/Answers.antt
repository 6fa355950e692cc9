use Rattle.std.proofs.Common.{arith}
use Rattle.gb_cert.proofs.state.StateRef.cell_count.Goals as goal

pub overflow_cast-result : goal.overflow_cast-result
overflow_cast-result c = omega (arith, c.cells.ensures.long, c.cells.ensures.few)

pub returns : goal.returns
returns c = omega (arith, c.cells.ensures.long)
