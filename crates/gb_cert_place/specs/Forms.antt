-- How the parts of states and of procedures are read by the version (own format).
use Rattle.std.specs.Prelude.{ℕ, Bool, true, false, List, Option}
use Rattle.gb_ops.specs.declared.machine.Region.{Region}
use Rattle.gb_domain.specs.declared.places.StackBytes.{StackBytes}
use Rattle.gb_domain.specs.declared.types.Val.{Val}
use Rattle.gb_domain.specs.declared.types.Cell.{Cell}
use Rattle.gb_domain.specs.declared.types.Range.{Range}
use Rattle.gb_domain.specs.declared.relations.Relations.{Relations}
use Rattle.gb_domain.specs.declared.rules.Rules.{Rules}
use Rattle.gb_domain.specs.declared.rules.Rules.TheVariants.{Extended}
use Rattle.gb_domain.specs.Limits.{rules_of}
use Rattle.gb_domain.specs.Summaries.{SummaryParts}
use Rattle.gb_domain.specs.Types.{AbsState}
use Rattle.gb_fields.specs.Format.{Read, both, followed}
use Rattle.gb_fields.specs.Rules.{any_rules_by}
use Rattle.gb_fields.specs.Reading.{base_at, need_at}
use Rattle.gb_states.specs.declared.form.ProcedureForm.{ProcedureForm}
use Rattle.gb_states.specs.declared.form.Form.{Form}
use Rattle.gb_states.specs.declared.form.Form.TheVariants.{Older, Fourth}
use Rattle.gb_states.specs.declared.role.Role.{Role}
use Rattle.gb_states.specs.RelationReading.{no_items, relations_by}
use Rattle.gb_states.specs.WholeRules.{stack_bytes, no_form}
use Rattle.gb_states.specs.Reading as simple
use Rattle.gb_states.specs.Reading.{Tested, ranges_at}
use Rattle.gb_states.specs.WholeReading as whole
use Rattle.gb_states.specs.WholeReading.{named_at}
use Rattle.gb_cert.specs.Skipping.{form_named}

-- ---- states

-- by which rules a state's items and cells are counted
abbrev pub rules_in : Form → Rules
rules_in (Older rules) = rules
rules_in (Fourth facts form) = Extended

-- a core, and the test that stands in it
abbrev pub core_by : Form → Role → Read Tested
core_by (Older rules) role = simple.core_at rules role
core_by (Fourth facts form) role = whole.core_at form.kept role

-- bytes of the stack behind their count
abbrev pub items_by : Form → Role → Bool → Read (List Val)
items_by (Older rules) role stack_set = simple.items_at rules role stack_set
items_by (Fourth facts form) role stack_set = whole.items_at form.kept role stack_set

-- cells behind their count
abbrev pub cells_by : Form → Region → Read (List Cell)
cells_by (Older rules) region = simple.cells_at rules region
cells_by (Fourth facts form) region = whole.cells_at form.kept region

-- what is known of several parts together, and in version 4 what is said of the whole program
abbrev pub Told : Form → Type 0
Told (Older rules) = Relations
Told (Fourth facts form) = Relations × SummaryParts

-- in a state with this stack and this test, whose stack may be put aside or not
abbrev pub told_by : (form : Form) → StackBytes → Bool → Option ℕ → Read (Told form)
told_by (Older rules) k may_be_aside test = relations_by rules k.region test
told_by (Fourth facts form) k may_be_aside test = whole.told_at facts k may_be_aside test

-- the stack of a state that has so many items, which versions 1 to 3 don't name
abbrev pub stack_by : Form → Role → Region → ℕ → StackBytes
stack_by (Older rules) role region count = no_items region
stack_by (Fourth facts form) role region count = stack_bytes form role region count

-- ---- procedures, of version 4 or not

-- what is behind a procedure's ranges: its exit, in version 4 behind addresses to be kept and a mark
abbrev pub Ending : Bool → Type 0
Ending true = (List ℕ × ℕ) × Option AbsState
Ending false = Option AbsState

-- in a certificate of this version and so many facts, in a procedure with this base
abbrev pub ending_by : (fourth : Bool) → ℕ → ℕ → Bool → Region → ℕ → Read (Ending fourth)
ending_by true version facts is_main region base = named_at facts base is_main region
ending_by false version facts is_main region base = simple.exit_at (rules_of version) is_main region

-- what the spelling of the procedure's states depends on: versions 1 to 3 ask for nothing
abbrev pub ending_form : (fourth : Bool) → ℕ → Ending fourth → ProcedureForm
ending_form true base named = form_named base named
ending_form false base exit = no_form

-- a need, ranges, and what is behind these
abbrev pub Needed : Bool → Type 0
Needed fourth = ℕ × (List Range × Ending fourth)

-- these, by the rules of the version
abbrev pub needed_by : (fourth : Bool) → ℕ → ℕ → Bool → Region → ℕ → Read (Needed fourth)
needed_by fourth version facts is_main region base = both (need_at (any_rules_by fourth version) is_main region) (both (ranges_at (any_rules_by fourth version) is_main region) (ending_by fourth version facts is_main region base))

abbrev pub needed_form : (fourth : Bool) → ℕ → Needed fourth → ProcedureForm
needed_form fourth base needed = ending_form fourth base needed.1.1

-- the base, which versions 1 to 3 don't ask for
abbrev pub base_if : Bool → ℕ → ℕ
base_if true base = base
base_if false base = 0

abbrev pub Body : Bool → Type 0
Body fourth = ℕ × Needed fourth

-- all of a procedure but its entry
abbrev pub body_by : (fourth : Bool) → ℕ → ℕ → Bool → Region → Read (Body fourth)
body_by fourth version facts is_main region = followed (base_at (any_rules_by fourth version) is_main region) (λ base. needed_by fourth version facts is_main region (base_if fourth base))

abbrev pub body_form : (fourth : Bool) → Body fourth → ProcedureForm
body_form fourth body = needed_form fourth (base_if fourth body.0) body.1
