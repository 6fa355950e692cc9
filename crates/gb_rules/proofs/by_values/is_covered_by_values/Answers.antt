use Rattle.std.proofs.Common.{◌≡◌, ℕ, Bool, sym, ap, arith}
use Rattle.gb_successors.specs.Below.gb_domain.declared.types.Val.{Val}
use Rattle.gb_rules.specs.Covered.{with_parts, is_value_covered, is_covered_by_values, count_of, known_of}
use Rattle.gb_rules.proofs.CoveredLaws.{all_from-more, all_from-stopped}
use Rattle.gb_rules.proofs.by_values.is_covered_by_values.Goals as goal

pub returns-in-None : goal.returns-in-None
unfolding is_covered_by_values
returns-in-None c =
    let val = known_of c.args.parted (with_parts c.args.states.now.core.now c.args.states.now.relations.now c.args.states.now.summary.now c.args.states.now.lists.now) in
    let test : ℕ → Bool = is_value_covered c.args.nodes.now.program.now c.args.nodes.now.rules c.args.nodes.now.entered c.args.nodes.now.cert.now.nodes c.args.nodes.now.procedure c.args.nodes.now.address (with_parts c.args.states.now.core.now c.args.states.now.relations.now c.args.states.now.summary.now c.args.states.now.lists.now) c.args.parted in
    let is : val ≡ c.known_of-known.result = sym c.known_of-known.ensures in
    let low : val.lo ≡ c.known_of-known.result.lo = ap (λ (v : Val). v.lo) is in
    let high : val.hi ≡ c.known_of-known.result.hi = ap (λ (v : Val). v.hi) is in
    sym (all_from-stopped test val.lo (count_of val) c.loop-value.value (omega arith) (omega arith) (sym c.in-None.ensures.covered))

pub loop-value-preserved : goal.loop-value-preserved
loop-value-preserved c =
    let val = known_of c.args.parted (with_parts c.args.states.now.core.now c.args.states.now.relations.now c.args.states.now.summary.now c.args.states.now.lists.now) in
    let test : ℕ → Bool = is_value_covered c.args.nodes.now.program.now c.args.nodes.now.rules c.args.nodes.now.entered c.args.nodes.now.cert.now.nodes c.args.nodes.now.procedure c.args.nodes.now.address (with_parts c.args.states.now.core.now c.args.states.now.relations.now c.args.states.now.summary.now c.args.states.now.lists.now) c.args.parted in
    let is : val ≡ c.known_of-known.result = sym c.known_of-known.ensures in
    let low : val.lo ≡ c.known_of-known.result.lo = ap (λ (v : Val). v.lo) is in
    record {
      least = c.in-Some.ensures.inside.0;
      most = c.in-Some.ensures.inside.1;
      passed = all_from-more test val.lo c.loop-value.value (omega arith) c.loop-value.invariant.passed (sym c.in-Some.ensures.covered);
    }
