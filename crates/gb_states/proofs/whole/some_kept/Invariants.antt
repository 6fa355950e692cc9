use Rattle.std.proofs.Common.{◌≡◌, ◌-◌}
use Rattle.arrayvec.specs.ArrayVec.{array_vec_len}
use Rattle.gb_fields.specs.Format.{several}
use Rattle.gb_states.specs.WholeRules.{after_address}
use Rattle.gb_states.specs.WholeReading.{free_address_at}
use Rattle.gb_states.proofs.Several.{with_front}
use Rattle.gb_states.proofs.whole.some_kept.Given as goal

abbrev pub invariant-loop : goal.invariant-loop
invariant-loop l = record {
  count : array_vec_len l.kept ≡ l.counter;
  read : with_front l.kept.items (several (free_address_at l.region) after_address l.least (l.count - l.counter) l.rest) ≡ several (free_address_at l.region) after_address 0 l.count l.bytes;
}
