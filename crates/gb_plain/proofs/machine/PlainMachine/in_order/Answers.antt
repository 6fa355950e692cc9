use Rattle.gb_plain.proofs.Ordering.{in_order_is}
use Rattle.gb_plain.proofs.machine.PlainMachine.in_order.Goals as goal

pub returns : goal.returns
returns c =
    rw (
      c.ordered.ensures,
      c.is_free-first.ensures,
      c.is_free_where-second.ensures,
      c.is_free_where-third.ensures,
      c.second_address.ensures,
      c.third_address.ensures,
      c.length_of-length.ensures,
      c.fetched.ensures,
      c.processor-processor.ensures,
    )
    (in_order_is _ _ _ _ c.requires.three c.requires.two)
