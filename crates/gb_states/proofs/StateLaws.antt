-- States, procedures and nodes: what is read is spelled so, and what is spelled so is read.
use Rattle.std.proofs.Common.{◌≡◌, ℕ, ◌*◌, ◌/◌, ◌%◌, ◌<◌, ◌≤◌, Bool, true, false, ◌&&◌, ◌||◌, ◌==◌, nat_le, nat_lt, List, [], ◌∷◌, ◌++◌, length, Option, Some, None, refl, sym, ◌∙◌, ap, arith}
use Rattle.std.specs.Prelude.{not, IfSome, is_some}
use Rattle.std.specs.List.{AllByRecursion, list_all}
use Rattle.std.proofs.lemmas.Bool.Decides.{nat_tests}
use Rattle.gb_ops.specs.declared.machine.Region.{Region}
use Rattle.gb_fields.specs.declared.fault.CertFault.TheVariants as fault
use Rattle.gb_domain.specs.declared.types.Val.{Val}
use Rattle.gb_domain.specs.declared.types.Cell.{Cell}
use Rattle.gb_domain.specs.declared.types.Range.{Range}
use Rattle.gb_states.specs.declared.role.Role.{Role}
use Rattle.gb_states.specs.declared.role.Role.TheVariants as role
use Rattle.gb_domain.specs.declared.rules.Rules.{Rules}
use Rattle.gb_domain.specs.declared.rules.Rules.TheVariants.{Simple, Extended}
use Rattle.gb_domain.specs.declared.relations.Relations.{Relations}
use Rattle.gb_domain.specs.Limits.{rules_of, item_room, cell_room}
use Rattle.gb_domain.specs.RelationRules.{compared}
use Rattle.gb_fields.specs.Limits.{node_limit_by, node_limit, range_room, unit, item_limit, need_limit}
use Rattle.gb_fields.specs.Rules.{main_base, usual_base, is_base}
use Rattle.gb_domain.specs.Types.{AbsState, ProcedureParts, Node}
use Rattle.gb_domain.specs.Summaries.{SummaryParts}
use Rattle.gb_fields.specs.Format.{both, followed, optional, byte}
use Rattle.gb_domain.specs.Areas.{is_area, meets, is_free_byte}
use Rattle.gb_domain.specs.Rules.{IsChain, IsVal, IsCell, after_cell}
use Rattle.gb_states.specs.Rules.{IsRange, IsState, IsProcedure, IsNode, after_range, role_of, may_have_items, may_be_pushed, is_sayable, is_core_sayable, is_cell_sayable, is_silent, fits, is_base_of, is_whole, key, is_from}
use Rattle.gb_fields.specs.Reading.{is_between, word, word_between, node_number, count_within, yes_no, may_return, returns_at, is_below, entry_at, base_at, times, need_at, key_at}
use Rattle.gb_states.specs.Reading.{Tested, core_at, val_at, item_count_at, items_at, is_free, to_cell, cell_at, cells_at, to_state, state_at, to_range, range_at, ranges_at, exit_at, Body, body_at, to_procedure, procedure_at, to_node, node_at}
use Rattle.gb_states.specs.RelationReading.{relations_by}
use Rattle.gb_states.specs.Spelling as spelled
use Rattle.gb_states.specs.RelationSpelling as told
use Rattle.gb_states.proofs.Formats.{IsFormat, IsFormat-byte, IsFormat-both, IsFormat-followed, IsFormat-checked, IsFormat-onto, IsFormat-mapped, IsFormat-as, IsFormat-spelled, IsFormat-optional, IsFormat-nothing, IsFormat-counted, IsFormat-multiple, spelled_option, is_there, all_of_chain, chain_of_all, all_parts, parts_all, chain_parts, parts_chain}
use Rattle.gb_states.proofs.FieldLaws.{le_is, is_le, and_both, both_and, within, is_within, same, is_same, area_small, spelled_byte, spelled_flag, node_numbers, IsFormat-node_number, IsFormat-word, IsFormat-word_between, IsFormat-count_within, IsFormat-yes_no, IsValFor, IsFormat-val, IsCoreFor, spelled_core, IsFormat-core}
use Rattle.gb_states.proofs.RelationLaws.{IsToldBy, told-compares, told-relations, told-known, is-told, compared-small, IsFormat-relations_by}
use Rattle.gb_states.proofs.SummaryLaws.{silent-is}

pub not_is : (b : Bool) → not b ≡ true → b ≡ false
not_is true h = cc
not_is false h = refl

pub is_not : (b : Bool) → b ≡ false → not b ≡ true
is_not b h = rw h refl

pub lt_is : (a b : ℕ) → nat_lt a b ≡ true → a < b
lt_is a b h = grind (arith, nat_tests)

pub is_lt : (a b : ℕ) → a < b → nat_lt a b ≡ true
is_lt a b h = grind (arith, nat_tests)

-- ---- items and cells

pub some_unit : (rules : Rules) → 0 < unit rules
unfolding unit
some_unit Simple = omega arith
some_unit Extended = omega arith

pub whole_is : (rules : Rules) (n : ℕ) → is_whole rules n ≡ true → n % unit rules ≡ 0
whole_is rules n h = same (n % unit rules) 0 h

is_whole_of : (rules : Rules) (n : ℕ) → n % unit rules ≡ 0 → is_whole rules n ≡ true
is_whole_of rules n h = rw h refl

pub record AreItems (rules : Rules) (role : Role) (stack_set : Bool) (items : List Val) : Type 0 where
  pub pushed : may_be_pushed rules role stack_set (length items) ≡ true
  pub whole : is_whole rules (length items) ≡ true
  pub few : length items ≤ item_room rules
  pub each : AllByRecursion IsVal items
  pub sayable : list_all (is_sayable rules) items ≡ true

-- Counted in units there are none where there are none.
none-counted : (rules : Rules) (n : ℕ) → n % unit rules ≡ 0 → (n / unit rules == 0) ≡ (n == 0)
unfolding unit
none-counted Simple n h = grind (arith, nat_tests)
none-counted Extended n h = ap (λ m. m == 0) (div_by_one n)
  where
    div_by_one : (n : ℕ) → n / 1 ≡ n
    div_by_one n = omega arith

pushed-counted : (rules : Rules) (role : Role) (stack_set : Bool) (n : ℕ) → n % unit rules ≡ 0 → may_be_pushed rules role stack_set (n / unit rules) ≡ may_be_pushed rules role stack_set n
pushed-counted rules role stack_set n h = ap (λ (none : Bool). may_have_items rules role && stack_set || none) (none-counted rules n h)

few-counted : (rules : Rules) (n : ℕ) → n % unit rules ≡ 0 → n / unit rules ≤ item_limit rules → n ≤ item_room rules
unfolding unit item_limit item_room
few-counted Simple n h few = omega arith
few-counted Extended n h few = omega arith

counted-few : (rules : Rules) (n : ℕ) → n ≤ item_room rules → n / unit rules ≤ item_limit rules
unfolding unit item_limit item_room
counted-few Simple n few = omega arith
counted-few Extended n few = omega arith

abbrev AreCounted : Rules → Role → Bool → List Val → Type 0
AreCounted rules role stack_set items =
    ((length items / unit rules ≤ item_limit rules) × (may_be_pushed rules role stack_set (length items / unit rules) ≡ true)) × ((length items % unit rules ≡ 0) × IsChain {S = Unit {0}} (λ s. IsValFor rules) (λ v. tt) tt items)

items-are : (rules : Rules) (role : Role) (stack_set : Bool) (items : List Val) → AreCounted rules role stack_set items → AreItems rules role stack_set items
items-are rules role stack_set items h =
    let each = all_parts IsVal (is_sayable rules) items (all_of_chain (IsValFor rules) items h.1.1) in
    record {
      pushed = sym (pushed-counted rules role stack_set (length items) h.1.0) ∙ h.0.1;
      whole = is_whole_of rules (length items) h.1.0;
      few = few-counted rules (length items) h.1.0 h.0.0;
      each = each.0;
      sayable = each.1;
    }

are-items : (rules : Rules) (role : Role) (stack_set : Bool) (items : List Val) → AreItems rules role stack_set items → AreCounted rules role stack_set items
are-items rules role stack_set items h =
    let whole = whole_is rules (length items) h.whole in
    ((counted-few rules (length items) h.few, pushed-counted rules role stack_set (length items) whole ∙ h.pushed), (whole, chain_of_all (IsValFor rules) items (parts_all IsVal (is_sayable rules) items h.each h.sayable)))

item_limit_small : (rules : Rules) → item_limit rules < 256
unfolding item_limit
item_limit_small Simple = omega arith
item_limit_small Extended = omega arith

abbrev IsItemCount : Rules → Role → Bool → ℕ → Type 0
IsItemCount rules role stack_set n = (n ≤ item_limit rules) × (may_be_pushed rules role stack_set n ≡ true)

pub IsFormat-item_count : (rules : Rules) (role : Role) (stack_set : Bool) → IsFormat (item_count_at rules role stack_set) spelled_byte (IsItemCount rules role stack_set)
unfolding item_count_at
IsFormat-item_count rules role stack_set =
    IsFormat-checked fault.Field (may_be_pushed rules role stack_set) (count_within (item_limit rules)) spelled_byte (λ n. n ≤ item_limit rules) (IsFormat-count_within (item_limit rules) (item_limit_small rules))

IsFormat-items : (rules : Rules) (role : Role) (stack_set : Bool) → IsFormat (items_at rules role stack_set) (spelled.items rules) (AreItems rules role stack_set)
unfolding items_at
IsFormat-items rules role stack_set =
    IsFormat-as (items_at rules role stack_set) (spelled.items rules) (AreCounted rules role stack_set) (AreItems rules role stack_set) (items-are rules role stack_set) (are-items rules role stack_set)
    (IsFormat-multiple {S = Unit {0}} (unit rules) (some_unit rules) (item_count_at rules role stack_set) spelled_byte (IsItemCount rules role stack_set) (λ s. val_at rules) (λ v. tt) spelled.val (λ s. IsValFor rules) tt
    (IsFormat-item_count rules role stack_set)
    (λ s. IsFormat-val rules))

from_cell : Cell → ℕ × Val
from_cell c = (c.address, c.val)

abbrev IsCellFor : Rules → Region → ℕ → Cell → Type 0
IsCellFor rules region least c = IsCell region least c × (is_cell_sayable rules c ≡ true)

abbrev IsCellPair : Rules → Region → ℕ → Cell → Type 0
IsCellPair rules region least c = (((c.address < 65536) × (is_free_byte region c.address ≡ true)) × (nat_le least c.address ≡ true)) × IsValFor rules c.val

cell-is : (rules : Rules) (region : Region) (least : ℕ) (c : Cell) → IsCellPair rules region least c → IsCellFor rules region least c
cell-is rules region least c h =
    let a = and_both (is_area c.address c.address) (not (meets region c.address c.address)) h.0.0.1 in
    (record { order = le_is least c.address h.0.1; area = a.0; apart = not_is (meets region c.address c.address) a.1; val = h.1.0 }, h.1.1)

is-cell : (rules : Rules) (region : Region) (least : ℕ) (c : Cell) → IsCellFor rules region least c → IsCellPair rules region least c
is-cell rules region least c h =
    let small = area_small c.address c.address h.0.area in
    (((small.0, both_and (is_area c.address c.address) (not (meets region c.address c.address)) h.0.area (is_not (meets region c.address c.address) h.0.apart)), is_le least c.address h.0.order), (h.0.val, h.1))

IsFormat-cell : (rules : Rules) (region : Region) (least : ℕ) → IsFormat (cell_at rules region least) spelled.cell (IsCellFor rules region least)
unfolding cell_at from_cell spelled.cell
IsFormat-cell rules region least =
    IsFormat-as (cell_at rules region least) spelled.cell (IsCellPair rules region least) (IsCellFor rules region least) (cell-is rules region least) (is-cell rules region least)
    (IsFormat-mapped to_cell from_cell _ _ _ (λ x h. refl) (λ y h. refl)
    (IsFormat-both _ _ _ _ _ _ (IsFormat-checked fault.Order (nat_le least) _ _ _ (IsFormat-checked fault.Field (is_free_byte region) word spelled.word (λ a. a < 65536) IsFormat-word)) (IsFormat-val rules)))

pub record AreCells (rules : Rules) (region : Region) (cells : List Cell) : Type 0 where
  pub few : length cells ≤ cell_room rules
  pub chain : IsChain (IsCell region) after_cell 0 cells
  pub sayable : list_all (is_cell_sayable rules) cells ≡ true

cell_room_small : (rules : Rules) → cell_room rules < 256
unfolding cell_room
cell_room_small Simple = omega arith
cell_room_small Extended = omega arith

abbrev AreCellsFor : Rules → Region → List Cell → Type 0
AreCellsFor rules region cells = (length cells ≤ cell_room rules) × IsChain (IsCellFor rules region) after_cell 0 cells

cells-are : (rules : Rules) (region : Region) (cells : List Cell) → AreCellsFor rules region cells → AreCells rules region cells
cells-are rules region cells h = let k = chain_parts (IsCell region) (is_cell_sayable rules) after_cell 0 cells h.1 in record { few = h.0; chain = k.0; sayable = k.1 }

are-cells : (rules : Rules) (region : Region) (cells : List Cell) → AreCells rules region cells → AreCellsFor rules region cells
are-cells rules region cells h = (h.few, parts_chain (IsCell region) (is_cell_sayable rules) after_cell 0 cells h.chain h.sayable)

IsFormat-cells : (rules : Rules) (region : Region) → IsFormat (cells_at rules region) (spelled.counted spelled.cell) (AreCells rules region)
unfolding cells_at
IsFormat-cells rules region =
    IsFormat-as (cells_at rules region) (spelled.counted spelled.cell) (AreCellsFor rules region) (AreCells rules region) (cells-are rules region) (are-cells rules region)
    (IsFormat-counted (count_within (cell_room rules)) spelled_byte (λ n. n ≤ cell_room rules) (cell_at rules region) after_cell spelled.cell (IsCellFor rules region) 0 (IsFormat-count_within (cell_room rules) (cell_room_small rules)) (IsFormat-cell rules region))

-- ---- states

abbrev Parts : Type 0
Parts = Tested × (List Val × (Relations × List Cell))

from_state : AbsState → Parts
from_state s = ((s.core, compared s.relations.byte.test), (s.items, (s.relations, s.cells)))

abbrev spelled_state : Rules → Parts → List ℕ
spelled_state rules p = spelled_core p.0 ++ (spelled.items rules p.1.0 ++ (told.relations_by rules p.1.1.0 ++ spelled.counted spelled.cell p.1.1.1))

abbrev AreParts : Rules → Role → Region → Parts → Type 0
AreParts rules role region p = IsCoreFor rules role p.0 × (AreItems rules role p.0.0.stack_set p.1.0 × (IsToldBy rules region p.0.1 p.1.1.0 × AreCells rules region p.1.1.1))

state-there : (rules : Rules) (role : Role) (region : Region) (p : Parts) → AreParts rules role region p → (from_state (to_state p) ≡ p) × IsState rules role region (to_state p)
unfolding from_state
state-there rules role region p h = (
  ap (λ (o : Option ℕ). (let q : Parts = ((p.0.0, o), p.1) in q)) (told-compares rules region p.0.1 p.1.1.0 h.1.1.0),
  record {
    core = h.0.core;
    stack = h.0.stack;
    pushed = h.1.0.pushed;
    items = h.1.0.each;
    whole = h.1.0.whole;
    item_count = h.1.0.few;
    cells = h.1.1.1.chain;
    cell_count = h.1.1.1.few;
    relations = told-relations rules region p.0.1 p.1.1.0 h.0.test h.1.1.0;
    known = told-known rules region p.0.1 p.1.1.0 h.1.1.0;
    sayable = both_and _ _ h.0.sayable (both_and _ _ h.1.0.sayable (both_and _ _ h.1.1.1.sayable refl));
  },
)

state-again : (rules : Rules) (role : Role) (region : Region) (s : AbsState) → IsState rules role region s → AreParts rules role region (from_state s) × (to_state (from_state s) ≡ s)
unfolding from_state
state-again rules role region s h =
    let t = and_both (is_core_sayable rules s.core) (list_all (is_sayable rules) s.items && (list_all (is_cell_sayable rules) s.cells && is_silent s.summary)) h.sayable in
    let u = and_both (list_all (is_sayable rules) s.items) (list_all (is_cell_sayable rules) s.cells && is_silent s.summary) t.1 in
    let w = and_both (list_all (is_cell_sayable rules) s.cells) (is_silent s.summary) u.1 in (
      (
        record { core = h.core; stack = h.stack; sayable = t.0; test = compared-small s.relations.byte.test h.relations.byte.test },
        (
          record { pushed = h.pushed; whole = h.whole; few = h.item_count; each = h.items; sayable = u.0 },
          (is-told rules region s.relations h.relations h.known, record { few = h.cell_count; chain = h.cells; sayable = w.0 }),
        ),
      ),
      ap (λ (m : SummaryParts). record s { summary = m }) (sym (silent-is s.summary w.1)),
    )

pub IsFormat-state : (rules : Rules) (role : Role) (region : Region) → IsFormat (state_at rules role region) (spelled.state rules) (IsState rules role region)
unfolding state_at from_state spelled.state
IsFormat-state rules role region =
    IsFormat-onto to_state from_state _ (spelled_state rules) (AreParts rules role region) (IsState rules role region) (state-there rules role region) (state-again rules role region)
    (IsFormat-followed (core_at rules role) (λ k. both (items_at rules role k.0.stack_set) (both (relations_by rules region k.1) (cells_at rules region))) spelled_core (λ k p. spelled.items rules p.0 ++ (told.relations_by rules p.1.0 ++ spelled.counted spelled.cell p.1.1)) (IsCoreFor rules role)
    (λ k p. AreItems rules role k.0.stack_set p.0 × (IsToldBy rules region k.1 p.1.0 × AreCells rules region p.1.1)) (IsFormat-core rules role)
    (λ k h. IsFormat-both (items_at rules role k.0.stack_set) (both (relations_by rules region k.1) (cells_at rules region)) (spelled.items rules) (λ p. told.relations_by rules p.0 ++ spelled.counted spelled.cell p.1) (AreItems rules role k.0.stack_set) (λ p. IsToldBy rules region k.1 p.0 × AreCells rules region p.1) (IsFormat-items rules role k.0.stack_set)
    (IsFormat-both (relations_by rules region k.1) (cells_at rules region) (told.relations_by rules) (spelled.counted spelled.cell) (IsToldBy rules region k.1) (AreCells rules region) (IsFormat-relations_by rules region k.1 h.test) (IsFormat-cells rules region))))

-- ---- procedures

from_range : Range → ℕ × ℕ
from_range r = (r.first, r.last)

abbrev IsRangePair : Region → ℕ → Range → Type 0
IsRangePair region least r = (((r.first < 65536) × (nat_le least r.first ≡ true)) × (r.last < 65536)) × (is_free region (r.first, r.last) ≡ true)

range-is : (region : Region) (least : ℕ) (r : Range) → IsRangePair region least r → IsRange region least r
range-is region least r h =
    let a = and_both (is_area r.first r.last) (not (meets region r.first r.last)) h.1 in
    record { order = le_is least r.first h.0.0.1; area = a.0; apart = not_is (meets region r.first r.last) a.1 }

is-range : (region : Region) (least : ℕ) (r : Range) → IsRange region least r → IsRangePair region least r
is-range region least r h =
    let small = area_small r.first r.last h.area in
    (((small.0, is_le least r.first h.order), small.1), both_and (is_area r.first r.last) (not (meets region r.first r.last)) h.area (is_not (meets region r.first r.last) h.apart))

IsFormat-range : (region : Region) (least : ℕ) → IsFormat (range_at region least) spelled.range (IsRange region least)
unfolding range_at from_range spelled.range
IsFormat-range region least =
    IsFormat-as (range_at region least) spelled.range (IsRangePair region least) (IsRange region least) (range-is region least) (is-range region least)
    (IsFormat-mapped to_range from_range _ _ _ (λ x h. refl) (λ y h. refl)
    (IsFormat-checked fault.Field (is_free region) _ _ _ (IsFormat-both _ word _ _ _ _ (IsFormat-checked fault.Order (nat_le least) word spelled.word (λ a. a < 65536) IsFormat-word) IsFormat-word)))

pub record AreRanges (rules : Rules) (is_main : Bool) (region : Region) (ranges : List Range) : Type 0 where
  pub few : length ranges ≤ range_room rules is_main
  pub chain : IsChain (IsRange region) after_range 0 ranges

range_room_small : (rules : Rules) (is_main : Bool) → range_room rules is_main < 256
unfolding range_room
range_room_small Simple true = omega arith
range_room_small Simple false = omega arith
range_room_small Extended true = omega arith
range_room_small Extended false = omega arith

abbrev AreRangesPair : Rules → Bool → Region → List Range → Type 0
AreRangesPair rules is_main region ranges = (length ranges ≤ range_room rules is_main) × IsChain (IsRange region) after_range 0 ranges

pub IsFormat-ranges : (rules : Rules) (is_main : Bool) (region : Region) → IsFormat (ranges_at rules is_main region) (spelled.counted spelled.range) (AreRanges rules is_main region)
unfolding ranges_at
IsFormat-ranges rules is_main region =
    IsFormat-as (ranges_at rules is_main region) (spelled.counted spelled.range) (AreRangesPair rules is_main region) (AreRanges rules is_main region) (λ r h. record { few = h.0; chain = h.1 }) (λ r h. (h.few, h.chain))
    (IsFormat-counted (count_within (range_room rules is_main)) spelled_byte (λ n. n ≤ range_room rules is_main) (range_at region) after_range spelled.range (IsRange region) 0 (IsFormat-count_within (range_room rules is_main) (range_room_small rules is_main)) (IsFormat-range region))

from_exit : Option AbsState → Bool × Option AbsState
from_exit o = (is_there o, o)

abbrev IsExitPair : Rules → Bool → Region → Bool × Option AbsState → Type 0
IsExitPair rules is_main region p = (Unit {0} × (may_return is_main p.0 ≡ true)) × ((is_there p.1 ≡ p.0) × IfSome p.1 (IsState rules role.Exit region))

exit-there : (rules : Rules) (is_main : Bool) (region : Region) (p : Bool × Option AbsState) → IsExitPair rules is_main region p → from_exit p.1 ≡ p
unfolding from_exit
exit-there rules is_main region p h = ap (λ (b : Bool). (let q : Bool × Option AbsState = (b, p.1) in q)) h.1.0

abbrev pub AreExit : Rules → Bool → Region → Option AbsState → Type 0
AreExit rules is_main region o = ((is_main && is_some o) ≡ false) × IfSome o (IsState rules role.Exit region)

exit-is : (rules : Rules) (is_main : Bool) (region : Region) (o : Option AbsState) → IsExitPair rules is_main region (from_exit o) → AreExit rules is_main region o
unfolding from_exit
exit-is rules is_main region None h = (not_is (is_main && false) h.0.1, h.1.1)
exit-is rules is_main region (Some s) h = (not_is (is_main && true) h.0.1, h.1.1)

is-exit : (rules : Rules) (is_main : Bool) (region : Region) (o : Option AbsState) → AreExit rules is_main region o → IsExitPair rules is_main region (from_exit o)
unfolding from_exit
is-exit rules is_main region None h = ((tt, is_not (is_main && false) h.0), (refl, h.1))
is-exit rules is_main region (Some s) h = ((tt, is_not (is_main && true) h.0), (refl, h.1))

exit-again : (o : Option AbsState) → (from_exit o).1 ≡ o
unfolding from_exit
exit-again o = refl

abbrev spelled_exit : Rules → Option AbsState → List ℕ
spelled_exit rules o = spelled.flag (from_exit o).0 ∷ spelled_option (spelled.state rules) (from_exit o).1

exit-spelled : (rules : Rules) (o : Option AbsState) → spelled_exit rules o ≡ spelled.exit rules o
unfolding from_exit spelled.exit
exit-spelled rules None = refl
exit-spelled rules (Some s) = refl

pub IsFormat-exit : (rules : Rules) (is_main : Bool) (region : Region) → IsFormat (exit_at rules is_main region) (spelled.exit rules) (AreExit rules is_main region)
unfolding returns_at exit_at
IsFormat-exit rules is_main region =
    IsFormat-spelled (exit_at rules is_main region) (spelled_exit rules) (spelled.exit rules) (AreExit rules is_main region) (λ o h. exit-spelled rules o)
    (IsFormat-as (exit_at rules is_main region) (spelled_exit rules) (λ o. IsExitPair rules is_main region (from_exit o)) (AreExit rules is_main region) (exit-is rules is_main region) (is-exit rules is_main region)
    (IsFormat-mapped (λ (p : Bool × Option AbsState). p.1) from_exit (followed (returns_at is_main) (λ returns. optional returns (state_at rules role.Exit region))) (λ p. spelled.flag p.0 ∷ spelled_option (spelled.state rules) p.1) (IsExitPair rules is_main region) (exit-there rules is_main region) (λ o h. exit-again o)
    (IsFormat-followed (returns_at is_main) (λ returns. optional returns (state_at rules role.Exit region)) spelled_flag (λ b. spelled_option (spelled.state rules)) (λ b. Unit {0} × (may_return is_main b ≡ true)) (λ b o. (is_there o ≡ b) × IfSome o (IsState rules role.Exit region))
    (IsFormat-checked fault.Field (may_return is_main) yes_no spelled_flag (λ b. Unit {0}) IsFormat-yes_no)
    (λ b h. IsFormat-optional b (state_at rules role.Exit region) (spelled.state rules) (IsState rules role.Exit region) (IsFormat-state rules role.Exit region)))))

-- how many units they are
abbrev pub units : Rules → ℕ → ℕ
units rules n = n / unit rules

-- so many bytes are a need
pub record IsNeed (rules : Rules) (is_main : Bool) (region : Region) (need : ℕ) : Type 0 where
  pub few : need ≤ 8192
  pub whole : is_whole rules need ≡ true
  pub fit : fits is_main region need ≡ true

abbrev IsCounted : Rules → ℕ → Type 0
IsCounted rules n = (n < 65536) × (is_between 0 (need_limit rules) n ≡ true)

abbrev IsSized : Rules → ℕ → Type 0
IsSized rules n = (n ≤ 8192) × (is_whole rules n ≡ true)

need-is : (rules : Rules) (n : ℕ) → IsCounted rules n → (units rules (times (unit rules) n) ≡ n) × IsSized rules (times (unit rules) n)
unfolding unit need_limit
need-is Simple n h = let small = within 4096 n h.1 in (omega arith, (omega (arith, small), is_same (2 * n % 2) 0 (omega arith)))
need-is Extended n h = let small = within 8192 n h.1 in (omega arith, (omega (arith, small), is_same (1 * n % 1) 0 (omega arith)))

is-need : (rules : Rules) (n : ℕ) → IsSized rules n → IsCounted rules (units rules n) × (times (unit rules) (units rules n) ≡ n)
unfolding unit need_limit
is-need Simple n h =
    let small : n / 2 ≤ 4096 = omega (arith, h.0) in
    let whole = same (n % 2) 0 h.1 in
    ((omega (arith, small), is_within 4096 (n / 2) small), omega (arith, whole))
is-need Extended n h =
    let small : n / 1 ≤ 8192 = omega (arith, h.0) in
    ((omega (arith, small), is_within 8192 (n / 1) small), omega arith)

abbrev pub spelled_need : Rules → ℕ → List ℕ
spelled_need rules n = spelled.word (units rules n)

pub IsFormat-need : (rules : Rules) (is_main : Bool) (region : Region) → IsFormat (need_at rules is_main region) (spelled_need rules) (IsNeed rules is_main region)
unfolding need_at
IsFormat-need rules is_main region =
    IsFormat-as (need_at rules is_main region) (spelled_need rules) (λ n. IsSized rules n × (fits is_main region n ≡ true)) (IsNeed rules is_main region) (λ n h. record { few = h.0.0; whole = h.0.1; fit = h.1 }) (λ n h. ((h.few, h.whole), h.fit))
    (IsFormat-checked fault.Region (fits is_main region) _ _ _
    (IsFormat-onto (times (unit rules)) (units rules) (word_between 0 (need_limit rules)) spelled.word (IsCounted rules) (IsSized rules) (need-is rules) (is-need rules) (IsFormat-word_between 0 (need_limit rules))))

-- a base, which is a word
abbrev pub IsBase : Rules → Bool → Region → ℕ → Type 0
IsBase rules is_main region b = is_base_of rules is_main region b ≡ true

base_small : (is_main : Bool) (region : Region) (b : ℕ) → region.last < 65535 → is_base is_main region b ≡ true → b < 65536
base_small true region b small h = let e = same b (main_base region) h in omega (arith, e)
base_small false region b small h = grind (arith, nat_tests)

pub IsFormat-base : (rules : Rules) (is_main : Bool) (region : Region) → region.last < 65535 → IsFormat (base_at rules is_main region) (spelled.base rules) (IsBase rules is_main region)
unfolding base_at
IsFormat-base Simple is_main region small =
    IsFormat-as (base_at Simple is_main region) (spelled.base Simple) (λ b. b ≡ usual_base is_main region) (IsBase Simple is_main region) (λ b e. is_same b (usual_base is_main region) e) (λ b h. same b (usual_base is_main region) h)
    (IsFormat-nothing (usual_base is_main region) (spelled.base Simple) refl)
IsFormat-base Extended is_main region small =
    IsFormat-as (base_at Extended is_main region) (spelled.base Extended) (λ b. (b < 65536) × (is_base is_main region b ≡ true)) (IsBase Extended is_main region) (λ b h. h.1) (λ b h. (base_small is_main region b small h, h))
    (IsFormat-checked fault.Field (is_base is_main region) word spelled.word (λ b. b < 65536) IsFormat-word)

abbrev pub AreBody : Rules → Bool → Region → Body → Type 0
AreBody rules is_main region b = IsBase rules is_main region b.0 × (IsNeed rules is_main region b.1.0 × (AreRanges rules is_main region b.1.1.0 × AreExit rules is_main region b.1.1.1))

abbrev pub spelled_body : Rules → Body → List ℕ
spelled_body rules b = spelled.base rules b.0 ++ (spelled_need rules b.1.0 ++ (spelled.counted spelled.range b.1.1.0 ++ spelled.exit rules b.1.1.1))

pub IsFormat-body : (rules : Rules) (is_main : Bool) (region : Region) → region.last < 65535 → IsFormat (body_at rules is_main region) (spelled_body rules) (AreBody rules is_main region)
IsFormat-body rules is_main region small =
    IsFormat-both _ _ _ _ _ _ (IsFormat-base rules is_main region small) (IsFormat-both _ _ _ _ _ _ (IsFormat-need rules is_main region)
    (IsFormat-both _ _ _ _ _ _ (IsFormat-ranges rules is_main region) (IsFormat-exit rules is_main region)))

-- all of a procedure but its entry
abbrev pub body_of : ProcedureParts → Body
body_of p = (p.base, (p.need, (p.ranges, p.exit)))

from_procedure : ProcedureParts → ℕ × Body
from_procedure p = (p.entry, body_of p)

-- what is read of a procedure
abbrev AreRead : ℕ → Region → ℕ → Bool → ℕ × Body → Type 0
AreRead version region nodes is_main x = ((x.0 < node_numbers (version == 1)) × (is_below nodes x.0 ≡ true)) × AreBody (rules_of version) is_main region x.1

procedure-is : (version : ℕ) (region : Region) (nodes : ℕ) (is_main : Bool) (x : ℕ × Body) → AreRead version region nodes is_main x → IsProcedure (rules_of version) region nodes is_main (to_procedure x)
procedure-is version region nodes is_main x h = record {
  entry = lt_is x.0 nodes h.0.1;
  base = h.1.0;
  need = h.1.1.0.few;
  whole = h.1.1.0.whole;
  room = h.1.1.0.fit;
  ranges = h.1.1.1.0.chain;
  range_count = h.1.1.1.0.few;
  kept = refl;
  mark = refl;
  exit = h.1.1.1.1.1;
  main = h.1.1.1.1.0;
}

-- what a procedure's body is
pub body-is : (rules : Rules) (region : Region) (nodes : ℕ) (is_main : Bool) (p : ProcedureParts) → IsProcedure rules region nodes is_main p → AreBody rules is_main region (body_of p)
body-is rules region nodes is_main p h = (h.base, (record { few = h.need; whole = h.whole; fit = h.room }, (record { few = h.range_count; chain = h.ranges }, (h.main, h.exit))))

limit_small : (b : Bool) → node_limit_by b < node_numbers b
limit_small true = omega arith
limit_small false = omega arith

limit_by_bound : (b : Bool) (n : ℕ) → n ≤ node_limit_by b → n ≤ 1048576
limit_by_bound true n h = omega arith
limit_by_bound false n h = h

pub limit_bound : (version n : ℕ) → n ≤ node_limit version → n ≤ 1048576
unfolding node_limit
limit_bound version n h = limit_by_bound (version == 1) n h

pub number_small : (version n : ℕ) → n ≤ node_limit version → n < node_numbers (version == 1)
unfolding node_limit
number_small version n h = omega (arith, limit_small (version == 1))

is-procedure : (version : ℕ) (region : Region) (nodes : ℕ) (is_main : Bool) (p : ProcedureParts) → nodes ≤ node_limit version → IsProcedure (rules_of version) region nodes is_main p → AreRead version region nodes is_main (p.entry, body_of p)
is-procedure version region nodes is_main p few h =
    let below : p.entry ≤ node_limit version = omega (arith, h.entry) in
    ((number_small version p.entry below, is_lt p.entry nodes h.entry), body-is (rules_of version) region nodes is_main p h)

-- A procedure is what its entry and its body say.
pub procedure-again : (rules : Rules) (region : Region) (nodes : ℕ) (is_main : Bool) (p : ProcedureParts) → IsProcedure rules region nodes is_main p → to_procedure (p.entry, body_of p) ≡ p
procedure-again rules region nodes is_main p h = declared [] p.kept 0 p.mark (sym h.kept) (sym h.mark)
  where
    declared : (a b : List ℕ) (n m : ℕ) → a ≡ b → n ≡ m → record p { kept = a; mark = n } ≡ record p { kept = b; mark = m }
    declared a b n m e f = rw (e, f) refl

pub IsFormat-procedure : (version : ℕ) (region : Region) (nodes : ℕ) (is_main : Bool) → nodes ≤ node_limit version → region.last < 65535 → IsFormat (procedure_at version region nodes is_main) (spelled.procedure version) (IsProcedure (rules_of version) region nodes is_main)
unfolding entry_at procedure_at from_procedure spelled.procedure spelled.body
IsFormat-procedure version region nodes is_main few small =
    IsFormat-onto to_procedure from_procedure _ _ (AreRead version region nodes is_main) (IsProcedure (rules_of version) region nodes is_main) (λ x h. (refl, procedure-is version region nodes is_main x h))
    (λ p h. (is-procedure version region nodes is_main p few h, procedure-again (rules_of version) region nodes is_main p h))
    (IsFormat-both _ _ _ _ _ _ (IsFormat-checked fault.Field (is_below nodes) (node_number version) (spelled.node_number version) (λ a. a < node_numbers (version == 1)) (IsFormat-node_number version))
    (IsFormat-body (rules_of version) is_main region small))

-- ---- nodes

abbrev IsKey : ℕ → ℕ × ℕ → ℕ × ℕ → Type 0
IsKey procedures before p = ((((p.0 < 256) × (is_below procedures p.0 ≡ true)) × (nat_le before.0 p.0 ≡ true)) × (p.1 < 65536)) × (is_from before p ≡ true)

IsFormat-key : (procedures : ℕ) (before : ℕ × ℕ) → IsFormat (key_at procedures before) (λ p. p.0 ∷ spelled.word p.1) (IsKey procedures before)
unfolding key_at
IsFormat-key procedures before =
    IsFormat-checked fault.Order (is_from before) _ _ _ (IsFormat-both _ word _ _ _ _ (IsFormat-checked fault.Order (nat_le before.0) _ _ _ (IsFormat-checked fault.Field (is_below procedures) byte spelled_byte (λ a. a < 256) IsFormat-byte)) IsFormat-word)

from_node : Node → (ℕ × ℕ) × (ℕ × AbsState)
from_node n = ((n.procedure, n.address), (n.bank, n.state))

abbrev AreNode : Rules → Region → ℕ → ℕ × ℕ → Node → Type 0
AreNode rules region procedures before n = IsKey procedures before (n.procedure, n.address) × (((n.bank < 65536) × (is_between 0 511 n.bank ≡ true)) × IsState rules (role_of n.procedure) region n.state)

node-is : (rules : Rules) (region : Region) (procedures : ℕ) (before : ℕ × ℕ) (n : Node) → AreNode rules region procedures before n → IsNode rules region procedures before n
node-is rules region procedures before n h = record {
  procedure = lt_is n.procedure procedures h.0.0.0.0.1;
  order = h.0.1;
  address = h.0.0.1;
  bank = within 511 n.bank h.1.0.1;
  state = h.1.1;
}

from_first : (a b : ℕ × ℕ) → is_from a b ≡ true → nat_le a.0 b.0 ≡ true
from_first a b h = grind (arith, nat_tests)

is-node : (rules : Rules) (region : Region) (procedures : ℕ) (before : ℕ × ℕ) (n : Node) → procedures ≤ 256 → IsNode rules region procedures before n → AreNode rules region procedures before n
is-node rules region procedures before n few h =
    let procedure : n.procedure < 256 = omega (arith, h.procedure) in
    let bank : n.bank < 65536 = omega (arith, h.bank) in
    (((((procedure, is_lt n.procedure procedures h.procedure), from_first before (key n) h.order), h.address), h.order), ((bank, is_within 511 n.bank h.bank), h.state))

pub IsFormat-node : (rules : Rules) (region : Region) (procedures : ℕ) (before : ℕ × ℕ) → procedures ≤ 256 → IsFormat (node_at rules region procedures before) (spelled.node rules) (IsNode rules region procedures before)
unfolding node_at from_node spelled.node
IsFormat-node rules region procedures before few =
    IsFormat-as (node_at rules region procedures before) (spelled.node rules) (AreNode rules region procedures before) (IsNode rules region procedures before) (node-is rules region procedures before) (λ n h. is-node rules region procedures before n few h)
    (IsFormat-mapped to_node from_node _ (λ p. (p.0.0 ∷ spelled.word p.0.1) ++ (spelled.word p.1.0 ++ spelled.state rules p.1.1)) (λ p. IsKey procedures before p.0 × (((p.1.0 < 65536) × (is_between 0 511 p.1.0 ≡ true)) × IsState rules (role_of p.0.0) region p.1.1)) (λ x h. refl) (λ y h. refl)
    (IsFormat-followed (key_at procedures before) (λ k. both (word_between 0 511) (state_at rules (role_of k.0) region)) (λ p. p.0 ∷ spelled.word p.1) (λ k p. spelled.word p.0 ++ spelled.state rules p.1) (IsKey procedures before) (λ k p. ((p.0 < 65536) × (is_between 0 511 p.0 ≡ true)) × IsState rules (role_of k.0) region p.1) (IsFormat-key procedures before)
    (λ k h. IsFormat-both (word_between 0 511) (state_at rules (role_of k.0) region) _ _ _ _ (IsFormat-word_between 0 511) (IsFormat-state rules (role_of k.0) region))))
