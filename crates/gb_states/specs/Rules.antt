-- Which certificates there are (own format).
use Rattle.std.specs.Prelude.{◌≡◌, ℕ, ◌+◌, ◌≤◌, ◌<◌, Bool, true, false, ◌&&◌, ◌||◌, not, ◌==◌, List, [], ◌∷◌, length, slice_get, Option, Some, None, IfSome, is_some, if◌then◌else◌}
use Rattle.std.specs.List.{AllByRecursion, list_all}
use Rattle.gb_ops.specs.declared.machine.Region.{Region}
use Rattle.gb_ops.specs.declared.registers.Registers.{Registers}
use Rattle.gb_domain.specs.declared.types.Origin.{Origin}
use Rattle.gb_domain.specs.declared.types.Origin.TheVariants.{ReturnHigh, ReturnLow, Kept, MarkHigh, MarkLow}
use Rattle.gb_domain.specs.declared.types.Val.{Val}
use Rattle.gb_domain.specs.declared.types.KeptBanks.{KeptBanks}
use Rattle.gb_domain.specs.declared.types.Core.{Core}
use Rattle.gb_domain.specs.declared.types.Cell.{Cell}
use Rattle.gb_domain.specs.declared.types.Range.{Range}
use Rattle.gb_domain.specs.declared.rules.Rules.{Rules}
use Rattle.gb_domain.specs.declared.rules.Rules.TheVariants.{Simple, Extended}
use Rattle.gb_domain.specs.declared.relations.Relations.{Relations}
use Rattle.gb_states.specs.declared.role.Role.{Role}
use Rattle.gb_states.specs.declared.role.Role.TheVariants as role
pub use Rattle.gb_fields.specs.Rules.{size, fits, is_base_of, is_whole, is_from, is_version}
use Rattle.gb_domain.specs.Limits.{rules_of, item_room, cell_room}
use Rattle.gb_domain.specs.RelationRules.{IsRelations, is_test_alone}
use Rattle.gb_states.specs.Links.{are_linked}
pub use Rattle.gb_domain.specs.Silent.{is_unshadowed, is_silent}
use Rattle.gb_fields.specs.Limits.{procedure_limit, node_limit, range_room}
use Rattle.gb_domain.specs.Areas.{is_area, meets, is_free_byte, IsRegion}
use Rattle.gb_domain.specs.Rules.{IsChain, IsVal, IsCore, IsCell, after_cell}
use Rattle.gb_domain.specs.Types.{AbsState, ProcedureParts, Node, are_all_kept, is_some_kept}
use Rattle.gb_domain.specs.Certificate.{Certificate}

-- ---- ranges

-- A range is an area of RAM outside the region, from the least address on.
pub record IsRange (region : Region) (least : ℕ) (r : Range) : Type 0 where
  pub order : least ≤ r.first
  pub area : is_area r.first r.last ≡ true
  pub apart : meets region r.first r.last ≡ false

-- the least address of the next
abbrev pub after_range : Range → ℕ
after_range r = r.last + 1

-- ---- states

-- what a node's state is for
abbrev pub role_of : ℕ → Role
role_of procedure = if procedure == 0 then role.Main else role.Other

-- Main may not have set its stack yet.
abbrev pub needs_stack : Role → Bool
needs_stack role.Main = false
needs_stack role.Other = true
needs_stack role.Exit = true

-- By the rules of versions 1 and 2 a procedure returns with nothing pushed.
abbrev pub may_have_items : Rules → Role → Bool
may_have_items rules role.Main = true
may_have_items rules role.Other = true
may_have_items Simple role.Exit = false
may_have_items Extended role.Exit = true

-- so many items may be there
abbrev pub may_be_pushed : Rules → Role → Bool → ℕ → Bool
may_be_pushed rules role stack_set count = may_have_items rules role && stack_set || count == 0

-- a byte of the word that was pushed as the procedure was entered
abbrev pub is_return_origin : Option Origin → Bool
is_return_origin (Some ReturnHigh) = true
is_return_origin (Some ReturnLow) = true
is_return_origin _ = false

-- a byte that a procedure names to be kept, or one of its mark: versions 1 to 3 have no number for it
abbrev pub is_declared_origin : Option Origin → Bool
is_declared_origin (Some (Kept i)) = true
is_declared_origin (Some MarkHigh) = true
is_declared_origin (Some MarkLow) = true
is_declared_origin _ = false

-- By the rules of versions 1 and 2 nothing is a copy of the return word.
abbrev pub may_be_of : Rules → Option Origin → Bool
may_be_of Simple o = not (is_return_origin o || is_declared_origin o)
may_be_of Extended o = not (is_declared_origin o)

-- By these rules the value can be said: it is a copy of what there is, and no low bits are known.
abbrev pub is_sayable : Rules → Val → Bool
is_sayable rules v = may_be_of rules v.origin && v.low_bits == 0

abbrev pub are_sayable : Rules → Registers Val → Bool
are_sayable rules s = is_sayable rules s.a && (is_sayable rules s.b && (is_sayable rules s.c && (is_sayable rules s.d && (is_sayable rules s.e && (is_sayable rules s.h && is_sayable rules s.l)))))

-- Versions 1 to 3 have one byte for what is kept of the controller.
abbrev pub is_all_or_none : KeptBanks → Bool
is_all_or_none k = are_all_kept k || not (is_some_kept k)

abbrev pub is_core_sayable : Rules → Core → Bool
is_core_sayable rules c = is_all_or_none c.ctl.kept && (is_sayable rules c.ie && are_sayable rules c.registers)

abbrev pub is_cell_sayable : Rules → Cell → Bool
is_cell_sayable rules c = is_sayable rules c.val

-- what is kept and each value are; versions 1 to 3 have no field for what a state says that is about the whole program: it says nothing
abbrev pub is_state_sayable : Rules → AbsState → Bool
is_state_sayable rules s = is_core_sayable rules s.core && (list_all (is_sayable rules) s.items && (list_all (is_cell_sayable rules) s.cells && is_silent s.summary))

-- By the rules of versions 1 and 2 nothing is known of several parts together but a test of A. In version 3 links have no base and no
-- width, and read no memory.
abbrev pub may_be_known : Rules → Relations → Bool
may_be_known Simple r = is_test_alone r
may_be_known Extended r = are_linked false r.pairs

-- A state's parts are such, there are no items without a stack, its items can be counted, and the cells are in order of address.
pub record IsState (rules : Rules) (role : Role) (region : Region) (s : AbsState) : Type 0 where
  pub core : IsCore s.core
  pub stack : (s.core.stack_set || not (needs_stack role)) ≡ true
  pub pushed : may_be_pushed rules role s.core.stack_set (length s.items) ≡ true
  pub items : AllByRecursion IsVal s.items
  pub whole : is_whole rules (length s.items) ≡ true
  pub item_count : length s.items ≤ item_room rules
  pub cells : IsChain (IsCell region) after_cell 0 s.cells
  pub cell_count : length s.cells ≤ cell_room rules
  pub relations : IsRelations (is_free_byte region) (is_free_byte region) s.relations
  pub known : may_be_known rules s.relations ≡ true
  pub sayable : is_state_sayable rules s ≡ true

-- ---- procedures and nodes

-- A procedure begins at one of so many nodes. Main doesn't return. Versions 1 to 3 have no field for addresses to be kept, and none
-- for a mark.
pub record IsProcedure (rules : Rules) (region : Region) (nodes : ℕ) (is_main : Bool) (p : ProcedureParts) : Type 0 where
  pub entry : p.entry < nodes
  pub base : is_base_of rules is_main region p.base ≡ true
  pub need : p.need ≤ 8192
  pub whole : is_whole rules p.need ≡ true
  pub room : fits is_main region p.need ≡ true
  pub ranges : IsChain (IsRange region) after_range 0 p.ranges
  pub range_count : length p.ranges ≤ range_room rules is_main
  pub kept : p.kept ≡ []
  pub mark : p.mark ≡ 0
  pub exit : IfSome p.exit (IsState rules role.Exit region)
  pub main : (is_main && is_some p.exit) ≡ false

-- only the first procedure is main
abbrev pub is_after : ProcedureParts → Bool
is_after p = false

-- where a node belongs: its procedure and its address
abbrev pub key : Node → ℕ × ℕ
key n = (n.procedure, n.address)

-- A node belongs to one of so many procedures, and comes after the key before it or has the same.
pub record IsNode (rules : Rules) (region : Region) (procedures : ℕ) (before : ℕ × ℕ) (n : Node) : Type 0 where
  pub procedure : n.procedure < procedures
  pub order : is_from before (key n) ≡ true
  pub address : n.address < 65536
  pub bank : n.bank ≤ 511
  pub state : IsState rules (role_of n.procedure) region n.state

abbrev pub is_of : ℕ → Option Node → Bool
is_of number None = false
is_of number (Some n) = n.procedure == number

-- Each procedure's entry is one of its own nodes; the first of the procedures has this number.
unfoldable pub have_entries : ℕ → List ProcedureParts → List Node → Bool
have_entries number [] nodes = true
have_entries number (p ∷ ps) nodes = is_of number (slice_get nodes p.entry) && have_entries (number + 1) ps nodes

-- ---- certificates

-- Versions 1 to 3 have no facts.
pub record IsCertificate (c : Certificate) : Type 0 where
  pub version : is_version c.version ≡ true
  pub region : IsRegion c.region
  pub whole : is_whole (rules_of c.version) (size c.region) ≡ true
  pub some_procedure : 0 < length c.procedures
  pub procedure_count : length c.procedures ≤ procedure_limit
  pub some_node : 0 < length c.nodes
  pub node_count : length c.nodes ≤ node_limit c.version
  pub procedures : IsChain (IsProcedure (rules_of c.version) c.region (length c.nodes)) is_after true c.procedures
  pub nodes : IsChain (IsNode (rules_of c.version) c.region (length c.procedures)) key (0, 0) c.nodes
  pub entries : have_entries 0 c.procedures c.nodes ≡ true
  pub facts : c.facts ≡ []
