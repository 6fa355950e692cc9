use Rattle.std.proofs.Common.{◌≡◌, ◌∙◌, ◌<◌, arith, length, refl, subst, sym, ap, ℕ, List, rules}
use Rattle.gb_program.specs.Fourth.{AreNumbers, sorted}
use Rattle.gb_program.proofs.FourthLaws.{inserted, sorted_next}
use Rattle.gb_program.proofs.fourth_order.sorted.Goals as goal

pub loop-number-init : goal.loop-number-init
unfolding sorted
loop-number-init c = record {
  exact = c.new-numbers.ensures;
  numbers = subst (λ (l : List ℕ). AreNumbers (length c.args.cert.now.procedures) l) (sym c.new-numbers.ensures) tt;
  long = omega (arith, ap (λ (l : List ℕ). length l) c.new-numbers.ensures);
}

pub loop-number-preserved : goal.loop-number-preserved
loop-number-preserved c = record {
  exact = sorted_next _ c.loop-number.number c.entry_address.result c.place-place.result c.loop-number.numbers.items _ (omega (arith, c.loop-number.invariant.long)) c.loop-number.invariant.exact c.insert.ensures.items (search rules) c.entry_address.ensures;
  numbers = subst (λ (l : List ℕ). AreNumbers (length c.args.cert.now.procedures) l) (sym c.insert.ensures.items) (inserted _ _ _ _ c.loop-number.invariant.numbers (omega (arith, c.loop-number-test.true, c.procedures-number-end.ensures)));
  long = omega (arith, c.insert.ensures.len, c.loop-number.invariant.long);
}
