use Rattle.std.proofs.Common.{◌≡◌, ◌-◌}
use Rattle.arrayvec.specs.ArrayVec.{array_vec_len}
use Rattle.gb_fields.specs.Format.{several}
use Rattle.gb_states.specs.WholeReading.{fill_at}
use Rattle.gb_states.proofs.Several.{with_front}
use Rattle.gb_states.proofs.whole.some_fills.Given as goal

abbrev pub invariant-loop : goal.invariant-loop
invariant-loop l = record {
  count : array_vec_len l.fills ≡ l.counter;
  read : with_front l.fills.items (several {S = Unit {0}} (λ s. fill_at l.region) (λ f. tt) tt (l.count - l.counter) l.rest) ≡ several {S = Unit {0}} (λ s. fill_at l.region) (λ f. tt) tt l.count l.bytes;
}
