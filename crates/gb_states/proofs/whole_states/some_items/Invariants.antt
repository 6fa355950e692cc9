use Rattle.std.proofs.Common.{◌≡◌, ◌-◌}
use Rattle.arrayvec.specs.ArrayVec.{array_vec_len}
use Rattle.gb_fields.specs.Format.{several}
use Rattle.gb_states.specs.WholeReading.{val_at}
use Rattle.gb_states.proofs.Several.{with_front}
use Rattle.gb_states.proofs.whole_states.some_items.Given as goal

abbrev pub invariant-loop : goal.invariant-loop
invariant-loop l = record {
  count : array_vec_len l.items ≡ l.counter;
  read : with_front l.items.items (several {S = Unit {0}} (λ s. val_at l.kept) (λ v. tt) tt (l.count - l.counter) l.rest) ≡ several {S = Unit {0}} (λ s. val_at l.kept) (λ v. tt) tt l.count l.bytes;
}
