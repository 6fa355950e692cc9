-- How values, cells and states are read by the version (own format).
use Rattle.std.specs.Prelude.{ℕ, ◌<◌, ◌≤◌, Bool, true, false, List, Option}
use Rattle.gb_ops.specs.declared.machine.Region.{Region}
use Rattle.gb_domain.specs.declared.types.Val.{Val}
use Rattle.gb_domain.specs.declared.types.Cell.{Cell}
use Rattle.gb_domain.specs.Limits.{rules_of}
use Rattle.gb_domain.specs.Types.{AbsState}
use Rattle.gb_fields.specs.Format.{Read, several}
use Rattle.gb_states.specs.declared.form.Form.{Form}
use Rattle.gb_states.specs.declared.form.Form.TheVariants.{Older, Fourth}
use Rattle.gb_states.specs.declared.form.ProcedureForm.{ProcedureForm}
use Rattle.gb_states.specs.declared.role.Role.{Role}
use Rattle.gb_states.specs.Reading as simple
use Rattle.gb_states.specs.Reading.{Tested}
use Rattle.gb_states.specs.WholeReading as whole
use Rattle.gb_states.specs.Rules.{IsState}
use Rattle.gb_states.specs.Spelling as simple_spelled
use Rattle.gb_states.specs.WholeSpelling as spelled
use Rattle.gb_states.specs.WholeRules.{IsStateIn, may_be_aside}

-- of a procedure of this form, in a certificate of this version that has so many facts
abbrev pub form_by : Bool → ℕ → ℕ → ProcedureForm → Form
form_by true version facts form = Fourth facts form
form_by false version facts form = Older (rules_of version)

abbrev pub is_fourth : Form → Bool
is_fourth (Older rules) = false
is_fourth (Fourth facts form) = true

-- There are no more facts and addresses to be kept than a certificate can have.
abbrev pub IsFit : Form → Type 0
IsFit (Older rules) = Unit {0}
IsFit (Fourth facts form) = (facts < 65536) × (form.kept ≤ 16)

abbrev pub val_by : Form → Read Val
val_by (Older rules) = simple.val_at rules
val_by (Fourth facts form) = whole.val_at form.kept

abbrev pub cell_by : Form → Region → ℕ → Read Cell
cell_by (Older rules) region least = simple.cell_at rules region least
cell_by (Fourth facts form) region least = whole.cell_at form.kept region least

-- so many bytes of the stack
abbrev pub vals_by : Form → ℕ → Read (List Val)
vals_by form count = several {S = Unit {0}} (λ s. val_by form) (λ v. tt) tt count

abbrev pub state_by : Form → Role → Region → Read AbsState
state_by (Older rules) role region = simple.state_at rules role region
state_by (Fourth facts form) role region = whole.state_at facts form role region

abbrev pub IsStateBy : Form → Role → Region → AbsState → Type 0
IsStateBy (Older rules) role region s = IsState rules role region s
IsStateBy (Fourth facts form) role region s = IsStateIn facts form role region s

-- its one spelling
abbrev pub spelled_by : Form → Region → AbsState → List ℕ
spelled_by (Older rules) region s = simple_spelled.state rules s
spelled_by (Fourth facts form) region s = spelled.state region form.base s

-- of a core that is passed over, in version 4: whether the stack is set, whether it may be put aside, and the test
abbrev pub passed : Role → Tested → Bool × (Bool × Option ℕ)
passed role k = (k.0.stack_set, (may_be_aside role k.0, k.1))
