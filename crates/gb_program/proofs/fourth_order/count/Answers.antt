use Rattle.std.proofs.Common.{◌≡◌, ◌∙◌, refl, arith}
use Rattle.gb_program.specs.Fourth.{nodes_of}
use Rattle.gb_program.proofs.FourthLaws.{counted_other, counted_own}
use Rattle.gb_program.proofs.fourth_order.count.Goals.{then-procedure-number, else-procedure-number}
use Rattle.gb_program.proofs.fourth_order.count.Goals as goal

pub loop-i-init : goal.loop-i-init
unfolding nodes_of
loop-i-init c = record { exact = refl; few = omega arith }

pub loop-i-preserved : goal.loop-i-preserved
loop-i-preserved c = elim c.if-procedure-number.branch [
  | then-procedure-number w ↦ record {
    exact = w.count-is ∙ counted_own c.args.cert.now c.args.number c.loop-i.i c.loop-i.count c.procedure.result c.node.result c.node.ensures c.procedure.ensures w.if-procedure-number.true c.loop-i.invariant.exact;
    few = omega (arith, w.count-is, c.loop-i.invariant.few);
  }
  | else-procedure-number w ↦ record {
    exact = w.count-is ∙ counted_other c.args.cert.now c.args.number c.loop-i.i c.loop-i.count c.procedure.result c.node.result c.node.ensures c.procedure.ensures w.if-procedure-number.false c.loop-i.invariant.exact;
    few = omega (arith, w.count-is, c.loop-i.invariant.few);
  }
]
