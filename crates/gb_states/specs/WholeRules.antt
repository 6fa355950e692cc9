-- Which values, facts, fills and shadows there are in version 4, which speaks of whole programs, and which certificates of any version (own format).
use Rattle.std.specs.Prelude.{◌≡◌, ℕ, zero, suc, ◌+◌, ◌-◌, ◌%◌, ◌≤◌, ◌<◌, Bool, true, false, not, ◌&&◌, ◌||◌, ◌==◌, nat_le, nat_lt, List, [], length, map, slice_get, slice_index_or, if◌then◌else◌, Option, Some, None, IfSome, is_some}
use Rattle.std.specs.List.{AllByRecursion}
use Rattle.gb_ops.specs.declared.machine.Region.{Region}
use Rattle.gb_ops.specs.declared.op.Register.{Register}
use Rattle.gb_ops.specs.Registers.{get}
use Rattle.gb_states.specs.declared.role.Role.{Role}
use Rattle.gb_states.specs.declared.role.Role.TheVariants as role
use Rattle.gb_states.specs.declared.form.ProcedureForm.{ProcedureForm}
use Rattle.gb_domain.specs.declared.interval.StridedInterval.{StridedInterval}
use Rattle.gb_domain.specs.declared.pairs.Bounds.{Bounds}
use Rattle.gb_domain.specs.declared.places.StackBytes.{StackBytes}
use Rattle.gb_domain.specs.declared.types.Origin.{Origin}
use Rattle.gb_domain.specs.declared.types.Origin.TheVariants.{Kept}
use Rattle.gb_domain.specs.declared.types.Val.{Val}
use Rattle.gb_domain.specs.declared.types.ImeSet.{ImeSet}
use Rattle.gb_domain.specs.declared.types.Core.{Core}
use Rattle.gb_domain.specs.declared.types.Cell.{Cell}
use Rattle.gb_domain.specs.declared.rules.Rules.TheVariants.{Extended}
use Rattle.gb_domain.specs.declared.summary.Fact.{Fact}
use Rattle.gb_domain.specs.declared.summary.Fill.{Fill}
use Rattle.gb_domain.specs.declared.summary.Shadows.{Shadows}
use Rattle.gb_domain.specs.declared.summary.BankShadows.{BankShadows}
use Rattle.gb_domain.specs.Summaries.{SummaryParts}
use Rattle.gb_domain.specs.Areas.{is_area, meets, is_free_byte, is_place_at, IsRegion}
use Rattle.gb_domain.specs.Rules.{IsChain, IsVal, IsFlg, IsCtl, may_be_any, after_cell}
use Rattle.gb_domain.specs.RelationRules.{IsRelations}
use Rattle.gb_domain.specs.Limits.{rules_of, cell_room}
use Rattle.gb_domain.specs.Certificate.{Certificate}
use Rattle.gb_domain.specs.Types.{AbsState, ProcedureParts, Node}
use Rattle.gb_fields.specs.Limits.{node_limit, range_room, item_limit, procedure_limit_by, fact_limit, fill_limit, kept_room, namesake_limit}
use Rattle.gb_fields.specs.Rules.{is_any_version, any_rules_of}
use Rattle.gb_states.specs.Links.{are_linked}
use Rattle.gb_states.specs.Rules.{size, is_whole, is_unshadowed, needs_stack, may_be_pushed, IsRange, after_range, role_of, fits, is_base_of, is_from, is_after, key, IsProcedure, IsNode, have_entries}

-- ---- values

-- how many addresses a procedure must name to be kept, for a value to be of this origin
abbrev pub kept_for : Option Origin → ℕ
kept_for (Some (Kept i)) = i + 1
kept_for _ = 0

-- of a procedure that names so many
abbrev pub is_origin_in : ℕ → Option Origin → Bool
is_origin_in kept o = nat_le (kept_for o) kept

-- A value, and its origin is one of what there is.
pub record IsValIn (kept : ℕ) (v : Val) : Type 0 where
  pub val : IsVal v
  pub origin : is_origin_in kept v.origin ≡ true

-- ---- facts and fills

-- an interval as a value without an origin
abbrev pub value_of : StridedInterval → Val
value_of s = record { lo = s.lo; hi = s.hi; low_bits = s.count; origin = None }

-- From the first to the last there are addresses of RAM outside the region.
pub record IsStretch (region : Region) (first last : ℕ) : Type 0 where
  pub area : is_area first last ≡ true
  pub apart : meets region first last ≡ false

-- some byte is left out
abbrev pub says_something : ℕ → ℕ → Bool
says_something lo hi = not (lo == 0 && hi == 255)

-- Its steps lead from the first address to the last.
abbrev pub is_stepped : ℕ → ℕ → ℕ → Bool
is_stepped first last step = not (step == 0) && (last - first) % step == 0

pub record IsFact (region : Region) (f : Fact) : Type 0 where
  pub stretch : IsStretch region f.first f.last
  pub stepped : is_stepped f.first f.last f.step ≡ true
  pub step : f.step < 256
  pub value : IsVal (value_of f.value)
  pub says : says_something f.value.lo f.value.hi ≡ true

-- A fill's end is a pointer and a distance of 16 bits.
pub record IsFill (region : Region) (f : Fill) : Type 0 where
  pub stretch : IsStretch region f.first f.last
  pub order : f.lo ≤ f.hi
  pub hi : f.hi < 256
  pub says : says_something f.lo f.hi ≡ true
  pub end : IfSome f.end (λ e. e.offset < 65536)

-- There is a level or a fill.
abbrev pub is_said : ℕ → ℕ → Bool
is_said level count = not (level == 0 && count == 0)

-- The first facts hold, of so many, or there are fills.
pub record AreLevels (facts : ℕ) (region : Region) (p : ℕ × List Fill) : Type 0 where
  pub level : p.0 ≤ facts
  pub few : length p.1 ≤ fill_limit
  pub said : is_said p.0 (length p.1) ≡ true
  pub each : AllByRecursion (IsFill region) p.1

-- ---- shadows

-- An address among the places lies in RAM and outside the region.
abbrev pub AreShadowsIn : Region → Shadows → Type 0
AreShadowsIn region s = IfSome s.address (λ a. is_free_byte region a ≡ true)

-- There is a place of one of the two windows.
pub record AreBankShadows (region : Region) (b : BankShadows) : Type 0 where
  pub first : AreShadowsIn region b.first
  pub second : AreShadowsIn region b.second
  pub some : (is_unshadowed b.first && is_unshadowed b.second) ≡ false

-- ---- what a state says that is about the whole program

-- bounds of a word, in order
pub record IsWithin (b : Bounds) : Type 0 where
  pub order : b.first ≤ b.last
  pub last : b.last < 65536

-- The stack is put aside only where it may be.
pub record IsSummary (facts : ℕ) (region : Region) (may_be_aside : Bool) (s : SummaryParts) : Type 0 where
  pub level : s.level ≤ facts
  pub few : length s.fills ≤ fill_limit
  pub fills : AllByRecursion (IsFill region) s.fills
  pub first : AreShadowsIn region s.shadows.first
  pub second : AreShadowsIn region s.shadows.second
  pub aside : IfSome s.aside IsWithin
  pub may : (may_be_aside || not (is_some s.aside)) ≡ true

-- ---- what a procedure names

-- an address of RAM outside the region, from the least one on
pub record IsFreeFrom (region : Region) (least address : ℕ) : Type 0 where
  pub order : least ≤ address
  pub free : is_free_byte region address ≡ true

-- the least address of the next
abbrev pub after_address : ℕ → ℕ
after_address address = address + 1

-- Main names none.
pub record AreKept (is_main : Bool) (region : Region) (addresses : List ℕ) : Type 0 where
  pub few : length addresses ≤ kept_room is_main
  pub chain : IsChain (IsFreeFrom region) after_address 0 addresses

-- ---- what a certificate says

pub record AreFacts (region : Region) (facts : List Fact) : Type 0 where
  pub few : length facts ≤ fact_limit
  pub each : AllByRecursion (IsFact region) facts

-- ---- states

-- The interrupts are off for sure.
abbrev pub is_off_alone : ImeSet → Bool
is_off_alone i = i.off && not (i.pending || i.on)

-- The stack may be put aside: not at an exit, and only while it is set and the interrupts are off.
abbrev pub may_be_aside : Role → Core → Bool
may_be_aside role.Main core = core.stack_set && is_off_alone core.ime
may_be_aside role.Other core = core.stack_set && is_off_alone core.ime
may_be_aside role.Exit core = false

-- a core's parts, and its values are of what there is
pub record IsCoreIn (kept : ℕ) (c : Core) : Type 0 where
  pub ime : may_be_any c.ime ≡ true
  pub bound : c.bound ≤ 161
  pub ctl : IsCtl c.ctl
  pub flags : IsFlg c.flags
  pub ie : IsValIn kept c.ie
  pub registers : (r : Register) → IsValIn kept (get r c.registers)

-- a byte of RAM outside the region, from the least address on
pub record IsCellIn (kept : ℕ) (region : Region) (least : ℕ) (c : Cell) : Type 0 where
  pub address : IsFreeFrom region least c.address
  pub val : IsValIn kept c.val

-- how many of its items a state may name as a place: an exit names none
abbrev pub named_items : Role → ℕ → ℕ
named_items role.Main count = count
named_items role.Other count = count
named_items role.Exit count = 0

-- the base from which items are counted: where it isn't known they are counted from the region's end
unfoldable pub item_base : ℕ → Region → ℕ
item_base base region = if base == 0 then (region.last + 1) % 65536 else base

-- the stack of a state that has so many items
abbrev pub stack_bytes : ProcedureForm → Role → Region → ℕ → StackBytes
stack_bytes form role region count = record { region = region; base = item_base form.base region; count = named_items role count }

-- A state of a procedure of this form, in a certificate of so many facts. The one byte may be held by one of its items, and links may
-- have a base and a width.
pub record IsStateIn (facts : ℕ) (form : ProcedureForm) (role : Role) (region : Region) (s : AbsState) : Type 0 where
  pub core : IsCoreIn form.kept s.core
  pub stack : (s.core.stack_set || not (needs_stack role)) ≡ true
  pub pushed : may_be_pushed Extended role s.core.stack_set (length s.items) ≡ true
  pub items : AllByRecursion (IsValIn form.kept) s.items
  pub item_count : length s.items ≤ item_limit Extended
  pub cells : IsChain (IsCellIn form.kept region) after_cell 0 s.cells
  pub cell_count : length s.cells ≤ cell_room Extended
  pub relations : IsRelations (is_place_at (stack_bytes form role region (length s.items))) (is_free_byte region) s.relations
  pub linked : are_linked true s.relations.pairs ≡ true
  pub summary : IsSummary facts region (may_be_aside role s.core) s.summary

-- ---- procedures and nodes

-- how the states of a procedure are spelled
abbrev pub procedure_form : ProcedureParts → ProcedureForm
procedure_form p = record { kept = length p.kept; base = p.base }

abbrev pub procedure_forms : List ProcedureParts → List ProcedureForm
procedure_forms procedures = map procedure_form procedures

-- it stands where there is no procedure
abbrev pub no_form : ProcedureForm
no_form = record { kept = 0; base = 0 }

-- of the procedure with this number
abbrev pub form_in : List ProcedureForm → ℕ → ProcedureForm
form_in forms number = slice_index_or forms number no_form

-- A procedure of a certificate of so many facts begins at one of so many nodes. Main doesn't return. How the procedures stand in
-- order is asked of all of them at once.
pub record IsProcedureIn (facts : ℕ) (region : Region) (nodes : ℕ) (is_main : Bool) (p : ProcedureParts) : Type 0 where
  pub entry : p.entry < nodes
  pub base : is_base_of Extended is_main region p.base ≡ true
  pub need : p.need ≤ 8192
  pub room : fits is_main region p.need ≡ true
  pub ranges : IsChain (IsRange region) after_range 0 p.ranges
  pub range_count : length p.ranges ≤ range_room Extended is_main
  pub kept : AreKept is_main region p.kept
  pub mark : p.mark < 256
  pub exit : IfSome p.exit (IsStateIn facts (procedure_form p) role.Exit region)
  pub main : (is_main && is_some p.exit) ≡ false

-- A node belongs to one of so many procedures, of which each has such a form, and comes after the key before it or has the same.
pub record IsNodeIn (facts : ℕ) (form_of : ℕ → ProcedureForm) (region : Region) (procedures : ℕ) (before : ℕ × ℕ) (n : Node) : Type 0 where
  pub procedure : n.procedure < procedures
  pub order : is_from before (key n) ≡ true
  pub address : n.address < 65536
  pub bank : n.bank ≤ 511
  pub state : IsStateIn facts (form_of n.procedure) (role_of n.procedure) region n.state

-- ---- the order of procedures

-- a node's address, 0 where there is none
abbrev pub address_in : Option Node → ℕ
address_in None = 0
address_in (Some n) = n.address

-- where a procedure begins
abbrev pub entry_in : List Node → Option ProcedureParts → ℕ
entry_in nodes None = 0
entry_in nodes (Some p) = address_in (slice_get nodes p.entry)

-- Behind main no procedure begins at a lower address than the one before it.
abbrev pub is_in_order : List ProcedureParts → List Node → ℕ → Bool
is_in_order procedures nodes number = nat_lt number 2 || nat_le (entry_in nodes (slice_get procedures (number - 1))) (entry_in nodes (slice_get procedures number))

-- Of those that begin at one address there are so many.
abbrev pub is_uncrowded : List ProcedureParts → List Node → ℕ → Bool
is_uncrowded procedures nodes number = nat_le number namesake_limit || not (entry_in nodes (slice_get procedures number) == entry_in nodes (slice_get procedures (number - namesake_limit)))

-- So it is for so many procedures from this number on.
unfoldable pub are_in_order : List ProcedureParts → List Node → ℕ → ℕ → Bool
are_in_order procedures nodes number zero = true
are_in_order procedures nodes number (suc count) = is_uncrowded procedures nodes number && (is_in_order procedures nodes number && are_in_order procedures nodes (number + 1) count)

-- Versions 1 to 3 have their procedures in any order.
abbrev pub in_order_by : Bool → List ProcedureParts → List Node → Bool
in_order_by true procedures nodes = are_in_order procedures nodes 0 (length procedures)
in_order_by false procedures nodes = true

-- ---- certificates of any version

-- Versions 1 to 3 have no facts.
abbrev pub AreFactsBy : Bool → Region → List Fact → Type 0
AreFactsBy true region facts = AreFacts region facts
AreFactsBy false region facts = facts ≡ []

abbrev pub IsProcedureBy : Bool → ℕ → ℕ → Region → ℕ → Bool → ProcedureParts → Type 0
IsProcedureBy true version facts region nodes is_main p = IsProcedureIn facts region nodes is_main p
IsProcedureBy false version facts region nodes is_main p = IsProcedure (rules_of version) region nodes is_main p

abbrev pub IsNodeBy : Bool → ℕ → ℕ → (ℕ → ProcedureForm) → Region → ℕ → ℕ × ℕ → Node → Type 0
IsNodeBy true version facts form_of region procedures before n = IsNodeIn facts form_of region procedures before n
IsNodeBy false version facts form_of region procedures before n = IsNode (rules_of version) region procedures before n

-- A certificate of version 1, 2, 3 or 4.
pub record IsCertificate (c : Certificate) : Type 0 where
  pub version : is_any_version c.version ≡ true
  pub region : IsRegion c.region
  pub whole : is_whole (any_rules_of c.version) (size c.region) ≡ true
  pub some_procedure : 0 < length c.procedures
  pub procedure_count : length c.procedures ≤ procedure_limit_by (c.version == 4)
  pub some_node : 0 < length c.nodes
  pub node_count : length c.nodes ≤ node_limit c.version
  pub facts : AreFactsBy (c.version == 4) c.region c.facts
  pub procedures : IsChain (IsProcedureBy (c.version == 4) c.version (length c.facts) c.region (length c.nodes)) is_after true c.procedures
  pub nodes : IsChain (IsNodeBy (c.version == 4) c.version (length c.facts) (form_in (procedure_forms c.procedures)) c.region (length c.procedures)) key (0, 0) c.nodes
  pub entries : have_entries 0 c.procedures c.nodes ≡ true
  pub order : in_order_by (c.version == 4) c.procedures c.nodes ≡ true
