use Rattle.std.proofs.Common.{◌≡◌, ◌-◌}
use Rattle.gb_states.specs.Below.gb_fields.Format.{several}
use Rattle.gb_cert.specs.Skipping.{skipped}
use Rattle.gb_states.specs.Forms.{val_by}
use Rattle.gb_cert.proofs.walk.skip_some_items.Given as goal

abbrev pub invariant-loop : goal.invariant-loop
invariant-loop l = skipped (several {S = Unit {0}} (λ s. val_by l.form) (λ v. tt) tt (l.count - l.counter)) l.rest ≡ skipped (several {S = Unit {0}} (λ s. val_by l.form) (λ v. tt) tt l.count) l.bytes
