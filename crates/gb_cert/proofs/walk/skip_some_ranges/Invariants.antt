use Rattle.std.proofs.Common.{◌≡◌, ◌-◌}
use Rattle.gb_states.specs.Below.gb_fields.Format.{several}
use Rattle.gb_cert.specs.Skipping.{skipped}
use Rattle.gb_states.specs.Rules.{after_range}
use Rattle.gb_states.specs.Reading.{range_at}
use Rattle.gb_cert.proofs.walk.skip_some_ranges.Given as goal

abbrev pub invariant-loop : goal.invariant-loop
invariant-loop l = skipped (several (range_at l.region) after_range l.least (l.count - l.counter)) l.rest ≡ skipped (several (range_at l.region) after_range 0 l.count) l.bytes
