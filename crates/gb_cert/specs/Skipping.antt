-- Reading that keeps no value.
use Rattle.std.specs.Prelude.{ℕ, List, length, Option, Result, Ok, Err}
use Rattle.gb_domain.specs.declared.types.Val.{Val}
use Rattle.gb_domain.specs.Types.{AbsState}
use Rattle.gb_states.specs.declared.form.ProcedureForm.{ProcedureForm}
use Rattle.gb_states.specs.Below.gb_fields.declared.fault.CertFault.{CertFault}
use Rattle.gb_states.specs.Below.gb_fields.Format.{Read, go_on}

-- the bytes behind a field
abbrev pub skipped : {X : Type 0} → Read X → List ℕ → Result (List ℕ) CertFault
skipped r bytes = go_on (r bytes) (λ x rest. Ok rest)

-- what follows bytes that are left
abbrev pub past : {Y : Type 0} → Result (List ℕ) CertFault → (List ℕ → Result Y CertFault) → Result Y CertFault
past (Ok rest) f = f rest
past (Err e) f = Err e

-- the form of a procedure with this base, which names these
abbrev pub form_named : ℕ → (List ℕ × ℕ) × Option AbsState → ProcedureForm
form_named base n = record { kept = length n.0.0; base = base }

-- so many bytes of the stack
abbrev pub count_items : List Val → ℕ
count_items items = length items
