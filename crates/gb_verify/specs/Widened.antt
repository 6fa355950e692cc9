-- A certificate of version 1 or 2 in version 3 of the format (own).
use Rattle.std.specs.Prelude.{◌≡◌, ◌==◌, ◌≤◌, ℕ, ◌+◌, Bool, true, false, not, List, [], ◌∷◌, ◌++◌, length, map, Some, min}
use Rattle.gb_rules.specs.Below.gb_domain.declared.types.Origin.TheVariants.{ReturnHigh, ReturnLow}
use Rattle.gb_rules.specs.Below.gb_domain.declared.types.Val.{Val}
use Rattle.gb_rules.specs.Below.gb_domain.declared.rules.Rules.{Rules}
use Rattle.gb_rules.specs.Below.gb_domain.declared.rules.Rules.TheVariants.{Simple, Extended}
use Rattle.gb_rules.specs.Below.gb_domain.Types.{AbsState, ProcedureParts, Node}
use Rattle.gb_rules.specs.Below.gb_domain.Certificate.{Certificate}
use Rattle.gb_rules.specs.Below.gb_domain.Limits.{rules_of}
use Rattle.gb_rules.specs.Below.gb_domain.RelationRules.{is_test_alone}
use Rattle.gb_rules.specs.Below.gb_states.Rules.{is_core_sayable, is_sayable, is_cell_sayable}
use Rattle.std.specs.List.{list_all}

-- the word that was pushed as the procedure was entered, its high byte first
abbrev pub return_word : List Val
return_word = record { lo = 0; hi = 255; low_bits = 0; origin = Some ReturnHigh } ∷ record { lo = 0; hi = 255; low_bits = 0; origin = Some ReturnLow } ∷ []

-- In version 3 it lies below the other items of a procedure that was entered.
abbrev pub below_items : Bool → List Val
below_items true = return_word
below_items false = []

abbrev pub above_return_word : Bool → AbsState → AbsState
above_return_word is_entered s = record s { items = below_items is_entered ++ s.items }

-- main was never entered
unfoldable pub widened_node : Node → Node
widened_node n = record n { state = above_return_word (not (n.procedure == 0)) n.state }

-- a procedure other than main needs its return word too; no procedure needs more than 8,192 bytes
abbrev pub widened_need : ℕ → ℕ
widened_need need = min 8192 (need + 2)

-- In version 3 main declares no ranges. Bases stay: main's is the region's end, and of the others none is said.
unfoldable pub widened_procedure : Bool → ProcedureParts → ProcedureParts
widened_procedure true p = record p { ranges = [] }
widened_procedure false p = record p { need = widened_need p.need }

-- only the first procedure is main
abbrev pub widened_procedures : List ProcedureParts → List ProcedureParts
widened_procedures [] = []
widened_procedures (p ∷ ps) = widened_procedure true p ∷ map (widened_procedure false) ps

abbrev pub widened_by : Rules → Certificate → Certificate
widened_by Simple c = record c { version = 3; procedures = widened_procedures c.procedures; nodes = map widened_node c.nodes }
widened_by Extended c = c

-- the same region, procedures and nodes, in version 3; one of version 3 is what it is
abbrev pub widened : Certificate → Certificate
widened c = widened_by (rules_of c.version) c

-- A state is such as versions 1 and 2 have: of at most 16 words, of values that these can say, and of whose parts nothing but a test of A
-- is known together.
pub record IsNarrow (s : AbsState) : Type 0 where
  pub items : length s.items ≤ 32
  pub relations : is_test_alone s.relations ≡ true
  pub core : is_core_sayable Extended s.core ≡ true
  pub items_sayable : list_all (is_sayable Extended) s.items ≡ true
  pub cells_sayable : list_all (is_cell_sayable Extended) s.cells ≡ true
