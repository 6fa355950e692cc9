use Rattle.std.proofs.Common.{◌-◌}
use Rattle.gb_fields.specs.Format.{several}
use Rattle.gb_states.specs.WholeRules.{after_address}
use Rattle.gb_states.specs.WholeReading.{free_address_at}
use Rattle.gb_cert_place.specs.Standing.{Passed}
use Rattle.gb_cert_place.proofs.WalkLaws.{Leads}
use Rattle.gb_cert_place.proofs.walk.walk_some_kept.Given as goal

abbrev pub invariant-loop-index : goal.invariant-loop-index
invariant-loop-index l = (Leads (several (free_address_at l.region) after_address 0 l.count) l.bytes (several (free_address_at l.region) after_address l.least (l.count - l.index)) l.rest) × Passed (free_address_at l.region) after_address 0 l.bytes l.index l.least l.rest
