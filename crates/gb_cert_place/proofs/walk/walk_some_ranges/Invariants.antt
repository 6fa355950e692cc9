use Rattle.std.proofs.Common.{◌-◌}
use Rattle.gb_fields.specs.Format.{several}
use Rattle.gb_states.specs.Rules.{after_range}
use Rattle.gb_states.specs.Reading.{range_at}
use Rattle.gb_cert_place.specs.Standing.{Passed}
use Rattle.gb_cert_place.proofs.WalkLaws.{Leads}
use Rattle.gb_cert_place.proofs.walk.walk_some_ranges.Given as goal

abbrev pub invariant-loop-index : goal.invariant-loop-index
invariant-loop-index l = (Leads (several (range_at l.region) after_range 0 l.count) l.bytes (several (range_at l.region) after_range l.least (l.count - l.index)) l.rest) × Passed (range_at l.region) after_range 0 l.bytes l.index l.least l.rest
