use Rattle.std.proofs.Common.{◌≡◌, ◌∙◌, ℕ, ◌<◌, List, length, true, false, subst, refl, Some, arith}
use Rattle.std.specs.Prelude.{slice_get}
use Rattle.gb_rows.specs.Rows.{is_counted}
use Rattle.gb_rows.proofs.Halving.{between-all, between-up, between-down}
use Rattle.gb_rows.proofs.Doubling.{doubling-begins, doubling-up, doubling-down, step-on, probe-on}
use Rattle.gb_rows.proofs.bracket.Goals as goal

pub loop-probe-init : goal.loop-probe-init
loop-probe-init g c = record {
  same = refl;
  above = omega arith;
  between = between-all (g.R.Rows.keys c.args.rows.now) c.args.with_targets c.args.target c.len-high.result c.len-high.ensures;
  doubles = doubling-begins (length (g.R.Rows.keys c.args.rows.now)) (g.R.Rows.asked c.args.rows.now) c.args.near c.len-high.result;
}

pub loop-probe-preserved-then-is_counted : goal.loop-probe-preserved-then-is_counted
loop-probe-preserved-then-is_counted g c =
    let at = subst (λ (keys : List (ℕ × ℕ)). slice_get keys c.loop-probe.probe ≡ Some c.key-key.result) c.loop-probe.invariant.same c.key-key.ensures.key in
    let fits : c.loop-probe.high < 4294967296 = omega (arith, c.loop-probe.invariant.between.within, c.len-high.ensures, c.len-high.type_inv) in
    let told : is_counted c.args.with_targets c.args.target c.key-key.result ≡ true = cc (c.is_counted.ensures, c.if-is_counted.true) in
    record {
      same = c.key-key.ensures.same ∙ c.loop-probe.invariant.same;
      above = omega arith;
      between = between-up (g.R.Rows.keys c.args.rows.now) c.args.with_targets c.args.target c.loop-probe.low c.loop-probe.high c.loop-probe.probe c.key-key.result c.requires c.loop-probe-test.true at told c.loop-probe.invariant.between;
      doubles = doubling-up (length (g.R.Rows.keys c.args.rows.now)) (g.R.Rows.asked c.args.rows.now) (g.R.Rows.asked c.loop-probe.rows) (g.R.Rows.asked c.key-key.new.self) c.loop-probe.probe c.loop-probe.step c.loop-probe.high c.saturating_add-probe.result c.saturating_add-step.result c.loop-probe-test.true c.loop-probe.invariant.between.within c.key-key.ensures.asked
          (probe-on c.loop-probe.probe c.loop-probe.step c.loop-probe.high c.saturating_add-probe.result c.saturating_add-probe.ensures fits) (step-on c.loop-probe.step c.saturating_mul.result c.saturating_add-step.result c.saturating_mul.ensures c.saturating_add-step.ensures) c.loop-probe.invariant.doubles;
    }

pub loop-probe-preserved : goal.loop-probe-preserved
loop-probe-preserved g c =
    let at = subst (λ (keys : List (ℕ × ℕ)). slice_get keys c.loop-probe.probe ≡ Some c.key-key.result) c.loop-probe.invariant.same c.key-key.ensures.key in
    let told : is_counted c.args.with_targets c.args.target c.key-key.result ≡ false = cc (c.is_counted.ensures, c.if-is_counted.false) in
    record {
      same = c.key-key.ensures.same ∙ c.loop-probe.invariant.same;
      above = c.loop-probe.invariant.above;
      between = between-down (g.R.Rows.keys c.args.rows.now) c.args.with_targets c.args.target c.loop-probe.low c.loop-probe.high c.loop-probe.probe c.key-key.result c.requires c.loop-probe.invariant.above c.loop-probe-test.true at told c.loop-probe.invariant.between;
      doubles = doubling-down (length (g.R.Rows.keys c.args.rows.now)) (g.R.Rows.asked c.args.rows.now) (g.R.Rows.asked c.loop-probe.rows) (g.R.Rows.asked c.key-key.new.self) c.loop-probe.probe c.loop-probe.step c.loop-probe.high c.loop-probe-test.true c.loop-probe.invariant.between.within c.key-key.ensures.asked c.loop-probe.invariant.doubles;
    }
