use Rattle.std.proofs.Common.{◌-◌}
use Rattle.gb_fields.specs.Format.{several}
use Rattle.gb_states.specs.WholeReading.{fact_at}
use Rattle.gb_cert_place.specs.Standing.{Passed}
use Rattle.gb_cert_place.proofs.WalkLaws.{Leads}
use Rattle.gb_cert_place.proofs.walk.walk_some_facts.Given as goal

abbrev pub invariant-loop-index : goal.invariant-loop-index
invariant-loop-index l = (Leads (several (λ (s : Unit {0}). fact_at l.region) (λ f. tt) tt l.count) l.bytes (several (λ (s : Unit {0}). fact_at l.region) (λ f. tt) tt (l.count - l.index)) l.rest) × Passed (λ (s : Unit {0}). fact_at l.region) (λ f. tt) tt l.bytes l.index tt l.rest
