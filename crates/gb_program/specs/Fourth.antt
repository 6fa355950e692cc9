-- A certificate of version 1, 2 or 3 in version 4 of the format (own).
use Rattle.std.specs.Prelude.{IfSome, ℕ, zero, suc, ◌+◌, ◌-◌, ◌/◌, ◌==◌, ◌≤◌, ◌<◌, ◌≡◌, nat_le, Bool, true, false, not, if◌then◌else◌, List, [], ◌∷◌, ◌++◌, length, map, take, slice_get, Option, Some, None, option_map}
use Rattle.std.specs.List.{AllByRecursion, insert, list_all}
use Rattle.gb_ops.specs.declared.machine.Region.{Region}
use Rattle.gb_domain.specs.declared.types.Ctl.{Ctl}
use Rattle.gb_domain.specs.declared.rules.Rules.{Rules}
use Rattle.gb_domain.specs.declared.rules.Rules.TheVariants.{Simple, Extended}
use Rattle.gb_domain.specs.Types.{AbsState, ProcedureParts, Node}
use Rattle.gb_domain.specs.Certificate.{Certificate}
use Rattle.gb_domain.specs.Areas.{is_free_byte}
use Rattle.gb_command_line.specs.Below.gb_verify.Below.gb_states.Rules.{is_core_sayable, is_sayable, is_cell_sayable, is_silent}
use Rattle.gb_command_line.specs.Below.gb_verify.Below.gb_states.WholeRules.{entry_in, procedure_forms, form_in}
use Rattle.gb_command_line.specs.Below.gb_verify.Below.gb_states.declared.form.ProcedureForm.{ProcedureForm}
use Rattle.gb_command_line.specs.Below.gb_verify.Below.gb_states.WholeSpelling as whole
use Rattle.gb_command_line.specs.Below.gb_verify.Widened.{below_items, widened_node, widened_procedure, widened}

-- ---- states

abbrev pub bank_by : Bool → Ctl → Ctl
bank_by true c = c
bank_by false c = record c { bank_lo = 0; bank_hi = 511 }

-- In version 4 the bank's low byte and its ninth bit have bounds each of its own. Bounds whose ends differ in the ninth bit become
-- those of any bank.
unfoldable pub fourth_ctl : Ctl → Ctl
fourth_ctl c = bank_by (c.bank_lo / 256 == c.bank_hi / 256) c

-- All else stays. Of the controller's registers all are kept or none is: for all, version 3 writes 1 and version 4 five bits.
abbrev pub fourth_state : AbsState → AbsState
fourth_state s = record s { core = record s.core { ctl = fourth_ctl s.core.ctl } }

-- ---- the order of procedures

-- the address at which the procedure with this number begins
abbrev pub entry_address : Certificate → ℕ → ℕ
entry_address c number = entry_in c.nodes (slice_get c.procedures number)

-- how many at the front begin at this address or at a lower one
unfoldable pub place : (ℕ → ℕ) → ℕ → List ℕ → ℕ
place begins address [] = 0
place begins address (n ∷ ns) = if nat_le (begins n) address then suc (place begins address ns) else 0

-- The procedures 1 to this one, by the addresses at which they begin: each goes after those that begin at its address or at a lower one,
-- so those of one address stay as they stood.
unfoldable pub sorted : (ℕ → ℕ) → ℕ → List ℕ
sorted begins zero = []
sorted begins (suc n) = insert (sorted begins n) (place begins (begins (suc n)) (sorted begins n)) (suc n)

-- main, and then the others
unfoldable pub order : Certificate → List ℕ
order c = 0 ∷ sorted (entry_address c) (length c.procedures - 1)

-- ---- nodes

-- under a new number of its procedure
abbrev pub fourth_node : ℕ → Node → Node
fourth_node number n = record n { procedure = number; state = fourth_state n.state }

abbrev pub where_own : Bool → Node → List Node → List Node
where_own true n ns = n ∷ ns
where_own false n ns = ns

-- the nodes of the procedure with this number
unfoldable pub nodes_of : ℕ → List Node → List Node
nodes_of number [] = []
nodes_of number (n ∷ ns) = where_own (n.procedure == number) n (nodes_of number ns)

-- The nodes of these procedures, one procedure after another. Their new numbers count from this one on.
unfoldable pub grouped : ℕ → List Node → List ℕ → List Node
grouped number nodes [] = []
grouped number nodes (old ∷ olds) = map (fourth_node number) (nodes_of old nodes) ++ grouped (suc number) nodes olds

-- ---- procedures

-- with a new number of its entry; it keeps no cell, and its mark is 0
abbrev pub fourth_procedure : ℕ → ProcedureParts → ProcedureParts
fourth_procedure entry p = record p { entry = entry; exit = option_map fourth_state p.exit }

-- Its entry stands after so many nodes of other procedures, and after those of its own that stood before it.
abbrev pub new_entry : List Node → ℕ → ℕ → ProcedureParts → ℕ
new_entry nodes before number p = before + length (nodes_of number (take p.entry nodes))

abbrev pub listed : Option ProcedureParts → List ProcedureParts
listed None = []
listed (Some p) = p ∷ []

-- the procedure with this number, if there is one; its nodes come after so many others
abbrev pub placed_one : Certificate → ℕ → ℕ → List ProcedureParts
placed_one c before number = listed (option_map (λ p. fourth_procedure (new_entry c.nodes before number p) p) (slice_get c.procedures number))

-- these procedures, one after another
unfoldable pub placed : Certificate → ℕ → List ℕ → List ProcedureParts
placed c before [] = []
placed c before (number ∷ numbers) = placed_one c before number ++ placed c (before + length (nodes_of number c.nodes)) numbers

-- ---- certificates

abbrev pub fourth_by : Bool → Certificate → Certificate
fourth_by true c = c
fourth_by false c = record c { version = 4; procedures = placed c 0 (order c); nodes = grouped 0 c.nodes (order c) }

-- The same region, procedures and nodes, and no facts, in version 4; one of version 4 is what it is.
abbrev pub fourth : Certificate → Certificate
fourth c = fourth_by (c.version == 4) c

-- by way of version 3, its bytes
abbrev pub fourth_text : Certificate → List ℕ
fourth_text c = whole.spelling (fourth (widened c))

-- what the spelling of a state depends on, by the new number of its procedure
abbrev pub fourth_forms : Certificate → ℕ → ProcedureForm
fourth_forms c = form_in (procedure_forms (fourth (widened c)).procedures)

-- ---- by way of version 3, part by part

-- Version 3 puts the return word below the items of a node of version 1 or 2, unless it is main's.
abbrev pub has_return_word : Rules → ℕ → Bool
has_return_word Simple number = not (number == 0)
has_return_word Extended number = false

abbrev pub widened_node_by : Rules → Node → Node
widened_node_by Simple n = widened_node n
widened_node_by Extended n = n

abbrev pub widened_procedure_by : Rules → Bool → ProcedureParts → ProcedureParts
widened_procedure_by Simple is_main p = widened_procedure is_main p
widened_procedure_by Extended is_main p = p

-- A state of values that versions 1 to 3 can say, which says nothing of the whole program; its items can be counted, with a return word
-- below them or not.
pub record IsOlder (is_entered : Bool) (s : AbsState) : Type 0 where
  pub core : is_core_sayable Extended s.core ≡ true
  pub items : list_all (is_sayable Extended) s.items ≡ true
  pub cells : list_all (is_cell_sayable Extended) s.cells ≡ true
  pub silent : is_silent s.summary ≡ true
  pub room : length (below_items is_entered ++ s.items) ≤ 255

-- An address where the one byte is lies outside this stack region, as it does in versions 1 to 3.
abbrev pub IsFree : Region → AbsState → Type 0
IsFree region s = IfSome s.relations.byte.address (λ a. is_free_byte region a ≡ true)

-- What is added to a text, whatever the stack region and the procedure's base: a state that stands for this one, an exit, a node, a
-- procedure.
abbrev pub AddsState : List ℕ → List ℕ → AbsState → AbsState → Type 0
AddsState old new s t = (region : Region) (base : ℕ) → IsFree region s → new ≡ old ++ whole.state region base t

abbrev pub AddsExit : List ℕ → List ℕ → Option AbsState → Type 0
AddsExit old new o = (region : Region) (base : ℕ) → IfSome o (IsFree region) → new ≡ old ++ whole.exit region base (option_map fourth_state o)

abbrev pub IsNodeText : List ℕ → AbsState → Node → Type 0
IsNodeText text s n = (region : Region) (form_of : ℕ → ProcedureForm) → IsFree region s → text ≡ whole.node region form_of n

abbrev pub IsProcedureText : List ℕ → Option AbsState → ProcedureParts → Type 0
IsProcedureText text o p = (region : Region) → IfSome o (IsFree region) → text ≡ whole.procedure region p

-- numbers of so many procedures
abbrev pub AreNumbers : ℕ → List ℕ → Type 0
AreNumbers count numbers = AllByRecursion (λ n. n < count) numbers
