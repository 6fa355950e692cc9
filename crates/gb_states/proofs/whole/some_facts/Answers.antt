use Rattle.std.proofs.lemmas.Result.{err_from_is_err_and}
use Rattle.gb_fields.specs.Format.{several}
use Rattle.gb_states.specs.WholeReading.{fact_at}
use Rattle.gb_states.proofs.Several.{goes_on, ends, is_done}
use Rattle.gb_states.proofs.whole.some_facts.Goals as goal

pub returns-in_err-fact : goal.returns-in_err-fact
returns-in_err-fact c =
    let p = err_from_is_err_and c.from_residual-in_err-fact.result c.from_residual-in_err-fact.ensures.1 in
    rw (p.1, p.2) (λ m. ends (λ (s : Unit {0}). fact_at c.args.region) (λ f. tt) c.loop.facts.items tt c.args.count c.loop.counter c.loop.rest.now c.in_err-fact.field-0.0 (several (λ (s : Unit {0}). fact_at c.args.region) (λ f. tt) tt c.args.count c.args.bytes.now) c.loop-test.true c.in_err-fact.ensures c.loop.invariant)

pub loop-preserved : goal.loop-preserved
loop-preserved c = rw c.in_ok-push.ensures.items (goes_on (λ (s : Unit {0}). fact_at c.args.region) (λ f. tt) c.loop.facts.items tt c.args.count c.loop.counter c.loop.rest.now c.in_ok-fact.fact c.in_ok-fact.after.now (several (λ (s : Unit {0}). fact_at c.args.region) (λ f. tt) tt c.args.count c.args.bytes.now) c.loop-test.true c.in_ok-fact.ensures c.loop.invariant)

pub returns : goal.returns
returns c = is_done (λ (s : Unit {0}). fact_at c.args.region) (λ f. tt) c.loop.facts.items tt c.args.count c.loop.counter c.loop.rest.now (several (λ (s : Unit {0}). fact_at c.args.region) (λ f. tt) tt c.args.count c.args.bytes.now) c.loop-test.false c.loop.invariant
