use Rattle.std.proofs.Common.{◌≡◌, ◌∙◌, ℕ, ◌+◌, ◌-◌, ◌*◌, ◌/◌, ◌≤◌, ◌<◌, List, true, false, subst, refl, Some, arith}
use Rattle.std.specs.Prelude.{slice_get}
use Rattle.gb_rows.specs.Rows.{is_counted}
use Rattle.gb_rows.proofs.Halving.{between-up, between-down, halving-begins, halving-on}
use Rattle.gb_rows.proofs.count_between.Goals as goal

pub loop-low-init : goal.loop-low-init
loop-low-init g c = record {
  same = refl;
  between = c.requires.between;
  half = halving-begins (c.args.to - c.args.from) (g.R.Rows.asked c.args.rows.now);
}

pub loop-low-preserved-then-is_counted : goal.loop-low-preserved-then-is_counted
loop-low-preserved-then-is_counted g c =
    let at = subst (λ (keys : List (ℕ × ℕ)). slice_get keys (c.loop-low.low + (c.loop-low.high - c.loop-low.low) / 2) ≡ Some c.key-key.result) c.loop-low.invariant.same c.key-key.ensures.key in
    let told : is_counted c.args.with_targets c.args.target c.key-key.result ≡ true = cc (c.is_counted.ensures, c.if-is_counted.true) in
    let lt : c.loop-low.low < c.loop-low.high = c.loop-low-test.true in
    let inside : c.loop-low.low + (c.loop-low.high - c.loop-low.low) / 2 < c.loop-low.high = omega arith in
    let some : 0 < c.loop-low.high - c.loop-low.low = omega arith in
    let half : 2 * (c.loop-low.high - (c.loop-low.low + (c.loop-low.high - c.loop-low.low) / 2 + 1)) ≤ c.loop-low.high - c.loop-low.low = omega arith in
    record {
      same = c.key-key.ensures.same ∙ c.loop-low.invariant.same;
      between = between-up (g.R.Rows.keys c.args.rows.now) c.args.with_targets c.args.target c.loop-low.low c.loop-low.high (c.loop-low.low + (c.loop-low.high - c.loop-low.low) / 2) c.key-key.result c.requires.order inside at told c.loop-low.invariant.between;
      half = halving-on (c.args.to - c.args.from) (g.R.Rows.asked c.args.rows.now) (g.R.Rows.asked c.loop-low.rows) (g.R.Rows.asked c.key-key.new.self) (c.loop-low.high - c.loop-low.low) (c.loop-low.high - (c.loop-low.low + (c.loop-low.high - c.loop-low.low) / 2 + 1)) some half c.key-key.ensures.asked c.loop-low.invariant.half;
    }

pub loop-low-preserved : goal.loop-low-preserved
loop-low-preserved g c =
    let at = subst (λ (keys : List (ℕ × ℕ)). slice_get keys (c.loop-low.low + (c.loop-low.high - c.loop-low.low) / 2) ≡ Some c.key-key.result) c.loop-low.invariant.same c.key-key.ensures.key in
    let told : is_counted c.args.with_targets c.args.target c.key-key.result ≡ false = cc (c.is_counted.ensures, c.if-is_counted.false) in
    let lt : c.loop-low.low < c.loop-low.high = c.loop-low-test.true in
    let above : c.loop-low.low ≤ c.loop-low.low + (c.loop-low.high - c.loop-low.low) / 2 = omega arith in
    let inside : c.loop-low.low + (c.loop-low.high - c.loop-low.low) / 2 < c.loop-low.high = omega arith in
    let some : 0 < c.loop-low.high - c.loop-low.low = omega arith in
    let half : 2 * (c.loop-low.low + (c.loop-low.high - c.loop-low.low) / 2 - c.loop-low.low) ≤ c.loop-low.high - c.loop-low.low = omega arith in
    record {
      same = c.key-key.ensures.same ∙ c.loop-low.invariant.same;
      between = between-down (g.R.Rows.keys c.args.rows.now) c.args.with_targets c.args.target c.loop-low.low c.loop-low.high (c.loop-low.low + (c.loop-low.high - c.loop-low.low) / 2) c.key-key.result c.requires.order above inside at told c.loop-low.invariant.between;
      half = halving-on (c.args.to - c.args.from) (g.R.Rows.asked c.args.rows.now) (g.R.Rows.asked c.loop-low.rows) (g.R.Rows.asked c.key-key.new.self) (c.loop-low.high - c.loop-low.low) (c.loop-low.low + (c.loop-low.high - c.loop-low.low) / 2 - c.loop-low.low) some half c.key-key.ensures.asked c.loop-low.invariant.half;
    }
