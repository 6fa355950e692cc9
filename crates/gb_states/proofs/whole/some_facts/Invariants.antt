use Rattle.std.proofs.Common.{◌≡◌, ◌-◌}
use Rattle.gb_fields.specs.Format.{several}
use Rattle.gb_states.specs.WholeReading.{fact_at}
use Rattle.gb_states.proofs.Several.{with_front}
use Rattle.gb_states.proofs.whole.some_facts.Given as goal

abbrev pub invariant-loop : goal.invariant-loop
invariant-loop l = with_front l.facts.items (several {S = Unit {0}} (λ s. fact_at l.region) (λ f. tt) tt (l.count - l.counter) l.rest) ≡ several {S = Unit {0}} (λ s. fact_at l.region) (λ f. tt) tt l.count l.bytes
