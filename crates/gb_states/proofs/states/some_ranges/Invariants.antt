use Rattle.std.proofs.Common.{◌≡◌, ◌-◌}
use Rattle.arrayvec.specs.ArrayVec.{array_vec_len}
use Rattle.gb_fields.specs.Format.{several}
use Rattle.gb_states.specs.Rules.{after_range}
use Rattle.gb_states.specs.Reading.{range_at}
use Rattle.gb_states.proofs.Several.{with_front}
use Rattle.gb_states.proofs.states.some_ranges.Given as goal

abbrev pub invariant-loop : goal.invariant-loop
invariant-loop l = record {
  count : array_vec_len l.ranges ≡ l.counter;
  read : with_front l.ranges.items (several (range_at l.region) after_range l.least (l.count - l.counter) l.rest) ≡ several (range_at l.region) after_range 0 l.count l.bytes;
}
