use Rattle.std.proofs.Common.{arith}
use Rattle.gb_program.proofs.FourthLaws.{place_end, place_here, place_on}
use Rattle.gb_program.proofs.fourth_order.place.Goals as goal

pub returns-then-address-entry_address-clause-exact : goal.returns-then-address-entry_address-clause-exact
returns-then-address-entry_address-clause-exact c = place_here _ c.args.address c.loop-i.i c.entry_address.result _ c.args.numbers.now c.loop-i.invariant c.loop-i-test.true c.entry_address.ensures c.if-address-entry_address.true

pub loop-i-preserved : goal.loop-i-preserved
loop-i-preserved c = place_on _ c.args.address c.loop-i.i c.entry_address.result _ c.args.numbers.now c.loop-i.invariant c.loop-i-test.true c.entry_address.ensures c.if-address-entry_address.false

pub returns-clause-exact : goal.returns-clause-exact
returns-clause-exact c = place_end _ c.args.address c.loop-i.i c.args.numbers.now c.loop-i.invariant (omega (arith, c.loop-i-test.false, c.loop-i.auto.i-end))
