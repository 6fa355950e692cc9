-- States of version 4: what is read is spelled so, and what is spelled so is read.
use Rattle.std.proofs.Common.{◌≡◌, ℕ, ◌<◌, ◌≤◌, Bool, true, false, ◌&&◌, ◌||◌, not, List, ◌++◌, length, Option, Some, None, refl, sym, ◌∙◌, ap, subst, arith}
use Rattle.std.specs.Prelude.{IfSome, is_some}
use Rattle.std.specs.List.{AllByRecursion}
use Rattle.gb_ops.specs.declared.machine.Region.{Region}
use Rattle.gb_ops.specs.declared.op.Register.{Register}
use Rattle.gb_ops.specs.declared.op.Register.TheVariants.{A, B, C, D, E, H, L}
use Rattle.gb_ops.specs.declared.registers.Registers.{Registers}
use Rattle.gb_ops.specs.Registers.{get}
use Rattle.gb_fields.specs.declared.fault.CertFault.TheVariants as fault
use Rattle.gb_domain.specs.declared.types.KeptBanks.{KeptBanks}
use Rattle.gb_domain.specs.declared.types.Cell.{Cell}
use Rattle.gb_domain.specs.declared.types.Val.{Val}
use Rattle.gb_domain.specs.declared.pairs.WordPair.{WordPair}
use Rattle.gb_domain.specs.declared.pairs.Pairs.{Pairs}
use Rattle.gb_domain.specs.declared.pairs.Bounds.{Bounds}
use Rattle.gb_domain.specs.declared.places.OneByte.{OneByte}
use Rattle.gb_domain.specs.declared.places.StackBytes.{StackBytes}
use Rattle.gb_domain.specs.Areas.{is_free_byte, is_place_at}
use Rattle.gb_domain.specs.declared.relations.Relations.{Relations}
use Rattle.gb_domain.specs.declared.rules.Rules.TheVariants.{Extended}
use Rattle.gb_domain.specs.Limits.{cell_room}
use Rattle.gb_domain.specs.RelationRules.{compared, is_some_register}
use Rattle.gb_domain.specs.Rules.{IsChain, IsFlg, IsCtl, may_be_any, after_cell}
use Rattle.gb_domain.specs.Summaries.{SummaryParts}
use Rattle.gb_domain.specs.Types.{AbsState}
use Rattle.gb_fields.specs.Format.{both, followed, byte}
use Rattle.gb_fields.specs.Limits.{item_limit}
use Rattle.gb_fields.specs.Reading.{is_between, count_within}
use Rattle.gb_states.specs.declared.whole.Declared.{Declared}
use Rattle.gb_states.specs.declared.relations.Present.{Present}
use Rattle.gb_states.specs.declared.relations.InMemory.{InMemory}
use Rattle.gb_states.specs.declared.form.ProcedureForm.{ProcedureForm}
use Rattle.gb_states.specs.declared.role.Role.{Role}
use Rattle.gb_states.specs.declared.role.Role.TheVariants as role
use Rattle.gb_states.specs.Reading.{Tested, to_vals, to_core, is_stack_right, item_count_at, to_cell}
use Rattle.gb_states.specs.RelationReading.{is_present, present_at, is_somewhere, place_by, parts_at}
use Rattle.gb_states.specs.Rules.{may_be_pushed}
use Rattle.gb_states.specs.WholeRules.{IsValIn, IsWithin, IsSummary, IsFreeFrom, IsCoreIn, IsCellIn, IsStateIn, may_be_aside, item_base, stack_bytes}
use Rattle.gb_states.specs.WholeReading.{val_at, kept_at, may_be_declared, may_be_item, declared_at, summary_at, ctl_at, vals_at, core_at, items_at, cell_at, cells_at, to_told, present_declared_at, place_of, told_at, to_state, behind_items, state_at}
use Rattle.gb_states.specs.Spelling as simple
use Rattle.gb_states.specs.RelationSpelling as told
use Rattle.gb_states.specs.WholeSpelling as spelled
use Rattle.gb_states.specs.WholeSpelling.{place_in, is_address, is_item}
use Rattle.gb_states.proofs.Formats.{IsFormat, IsFormat-both, IsFormat-followed, IsFormat-checked, IsFormat-onto, IsFormat-mapped, IsFormat-as, IsFormat-counted, all_of_chain, chain_of_all}
use Rattle.gb_states.proofs.FieldLaws.{and_both, both_and, within, is_within, spelled_byte, IsFormat-byte_between, IsFormat-count_within, IsFormat-yes_no, IsCtlBy, IsFormat-ctl_by, IsFormat-ime, IsFormat-test, IsFormat-flg, from_vals, from_core}
use Rattle.gb_states.proofs.PlaceLaws.{may_be_in, place-is, place-again, item-bit, address-bit, somewhere, place-there, there-place, named-alone, named-there, may-name}
use Rattle.gb_states.proofs.RelationLaws.{All, from_relations, ArePresent, IsTold, relations-there, address-as, relations-again, is-present, spelled_present, told_byte, told_parts, AreParts, IsFormat-present, IsFormat-parts, compared-small}
use Rattle.gb_states.proofs.PairLaws.{AreBounds, AreLinked}
use Rattle.gb_states.proofs.StateLaws.{IsFormat-item_count}
use Rattle.gb_states.proofs.WholeLaws.{IsFormat-val, spelled_kept, IsFormat-kept}
use Rattle.gb_states.proofs.WholeSummaryLaws.{declared-same, spelled_declared, IsFormat-declared, IsSummaryFor, IsFormat-summary, IsFormat-free_address}

-- ---- cores

IsFormat-ctl : IsFormat ctl_at spelled.ctl IsCtl
unfolding ctl_at spelled.ctl
IsFormat-ctl =
    IsFormat-as ctl_at spelled.ctl (IsCtlBy (λ k. Unit {0})) IsCtl (λ c h. h.0) (λ c h. (h, tt))
    (IsFormat-ctl_by (λ (k : KeptBanks). k) (λ k. k) kept_at spelled.kept_number (λ k. Unit {0}) (λ k. Unit {0}) (λ k h. (refl, tt)) (λ k h. (tt, refl)) spelled_kept (λ k. refl) IsFormat-kept)

abbrev AreVals : ℕ → Registers Val → Type 0
AreVals kept r = IsValIn kept r.a × (IsValIn kept r.b × (IsValIn kept r.c × (IsValIn kept r.d × (IsValIn kept r.e × (IsValIn kept r.h × IsValIn kept r.l)))))

-- each of them is right
abbrev AreEach : ℕ → Registers Val → Type 0
AreEach kept s = (r : Register) → IsValIn kept (get r s)

vals-each : (kept : ℕ) (s : Registers Val) → AreVals kept s → AreEach kept s
vals-each kept s h A = h.0
vals-each kept s h B = h.1.0
vals-each kept s h C = h.1.1.0
vals-each kept s h D = h.1.1.1.0
vals-each kept s h E = h.1.1.1.1.0
vals-each kept s h H = h.1.1.1.1.1.0
vals-each kept s h L = h.1.1.1.1.1.1

IsFormat-vals : (kept : ℕ) → kept ≤ 16 → IsFormat (vals_at kept) spelled.vals (AreEach kept)
unfolding vals_at from_vals spelled.vals
IsFormat-vals kept few =
    let val = IsFormat-val kept few in
    IsFormat-as (vals_at kept) spelled.vals (AreVals kept) (AreEach kept) (vals-each kept) (λ s h. (h A, (h B, (h C, (h D, (h E, (h H, h L)))))))
    (IsFormat-mapped to_vals from_vals _ _ _ (λ x h. refl) (λ y h. refl)
    (IsFormat-both _ _ _ _ _ _ val (IsFormat-both _ _ _ _ _ _ val (IsFormat-both _ _ _ _ _ _ val
    (IsFormat-both _ _ _ _ _ _ val (IsFormat-both _ _ _ _ _ _ val (IsFormat-both _ _ _ _ _ _ val val)))))))

-- a core that may stand in a state for this, and its test
pub record IsCoreOf (kept : ℕ) (role : Role) (k : Tested) : Type 0 where
  pub core : IsCoreIn kept k.0
  pub stack : is_stack_right role k.0.stack_set ≡ true
  pub test : IfSome k.1 (λ a. a < 256)

abbrev AreCore : ℕ → Role → Tested → Type 0
AreCore kept role k = (may_be_any k.0.ime ≡ true) × (((k.0.bound < 256) × (is_between 0 161 k.0.bound ≡ true)) × ((Unit {0} × (is_stack_right role k.0.stack_set ≡ true)) × (IfSome k.1 (λ a. a < 256) × (IsCtl k.0.ctl × (IsFlg k.0.flags × (IsValIn kept k.0.ie × AreEach kept k.0.registers))))))

core-is : (kept : ℕ) (role : Role) (k : Tested) → AreCore kept role k → IsCoreOf kept role k
core-is kept role k h = record {
  core = record { ime = h.0; bound = within 161 k.0.bound h.1.0.1; ctl = h.1.1.1.1.0; flags = h.1.1.1.1.1.0; ie = h.1.1.1.1.1.1.0; registers = h.1.1.1.1.1.1.1 };
  stack = h.1.1.0.1;
  test = h.1.1.1.0;
}

is-core : (kept : ℕ) (role : Role) (k : Tested) → IsCoreOf kept role k → AreCore kept role k
is-core kept role k h =
    let few = h.core.bound in
    (h.core.ime, ((omega (arith, few), is_within 161 k.0.bound h.core.bound), ((tt, h.stack), (h.test, (h.core.ctl, (h.core.flags, (h.core.ie, h.core.registers)))))))

abbrev spelled_core : Tested → List ℕ
spelled_core k = spelled.core k.0 k.1

IsFormat-core : (kept : ℕ) (role : Role) → kept ≤ 16 → IsFormat (core_at kept role) spelled_core (IsCoreOf kept role)
unfolding core_at from_core spelled.core
IsFormat-core kept role few =
    IsFormat-as (core_at kept role) spelled_core (AreCore kept role) (IsCoreOf kept role) (core-is kept role) (is-core kept role)
    (IsFormat-mapped to_core from_core _ _ _ (λ x h. refl) (λ y h. refl)
    (IsFormat-both _ _ _ _ _ _ IsFormat-ime (IsFormat-both _ _ _ _ _ _ (IsFormat-byte_between 0 161)
    (IsFormat-both _ _ _ _ _ _ (IsFormat-checked fault.Field (is_stack_right role) _ _ _ IsFormat-yes_no)
    (IsFormat-both _ _ _ _ _ _ IsFormat-test (IsFormat-both _ _ _ _ _ _ IsFormat-ctl (IsFormat-both _ _ _ _ _ _ IsFormat-flg (IsFormat-both _ _ _ _ _ _ (IsFormat-val kept few) (IsFormat-vals kept few)))))))))

-- ---- items and cells

pub record AreItemsIn (kept : ℕ) (role : Role) (stack_set : Bool) (items : List Val) : Type 0 where
  pub few : length items ≤ item_limit Extended
  pub pushed : may_be_pushed Extended role stack_set (length items) ≡ true
  pub each : AllByRecursion (IsValIn kept) items

item_limit_small : item_limit Extended < 256
unfolding item_limit
item_limit_small = omega arith

IsFormat-items : (kept : ℕ) (role : Role) (stack_set : Bool) → kept ≤ 16 → IsFormat (items_at kept role stack_set) (simple.counted spelled.val) (AreItemsIn kept role stack_set)
unfolding items_at
IsFormat-items kept role stack_set few =
    IsFormat-as (items_at kept role stack_set) (simple.counted spelled.val) (λ vs. ((length vs ≤ item_limit Extended) × (may_be_pushed Extended role stack_set (length vs) ≡ true)) × IsChain {S = Unit {0}} (λ s. IsValIn kept) (λ v. tt) tt vs) (AreItemsIn kept role stack_set)
    (λ vs h. record { few = h.0.0; pushed = h.0.1; each = all_of_chain (IsValIn kept) vs h.1 }) (λ vs h. ((h.few, h.pushed), chain_of_all (IsValIn kept) vs h.each))
    (IsFormat-counted {S = Unit {0}} (item_count_at Extended role stack_set) spelled_byte (λ n. (n ≤ item_limit Extended) × (may_be_pushed Extended role stack_set n ≡ true)) (λ s. val_at kept) (λ v. tt) spelled.val (λ s. IsValIn kept) tt (IsFormat-item_count Extended role stack_set) (λ s. IsFormat-val kept few))

from_cell : Cell → ℕ × Val
from_cell c = (c.address, c.val)

IsFormat-cell : (kept : ℕ) (region : Region) (least : ℕ) → kept ≤ 16 → IsFormat (cell_at kept region least) spelled.cell (IsCellIn kept region least)
unfolding cell_at from_cell spelled.cell
IsFormat-cell kept region least few =
    IsFormat-as (cell_at kept region least) spelled.cell (λ c. IsFreeFrom region least c.address × IsValIn kept c.val) (IsCellIn kept region least) (λ c h. record { address = h.0; val = h.1 }) (λ c h. (h.address, h.val))
    (IsFormat-mapped to_cell from_cell _ _ _ (λ x h. refl) (λ y h. refl) (IsFormat-both _ _ _ _ _ _ (IsFormat-free_address region least) (IsFormat-val kept few)))

pub record AreCellsIn (kept : ℕ) (region : Region) (cells : List Cell) : Type 0 where
  pub few : length cells ≤ cell_room Extended
  pub chain : IsChain (IsCellIn kept region) after_cell 0 cells

cell_room_small : cell_room Extended < 256
unfolding cell_room
cell_room_small = omega arith

IsFormat-cells : (kept : ℕ) (region : Region) → kept ≤ 16 → IsFormat (cells_at kept region) (simple.counted spelled.cell) (AreCellsIn kept region)
unfolding cells_at
IsFormat-cells kept region few =
    IsFormat-as (cells_at kept region) (simple.counted spelled.cell) (λ cs. (length cs ≤ cell_room Extended) × IsChain (IsCellIn kept region) after_cell 0 cs) (AreCellsIn kept region) (λ cs h. record { few = h.0; chain = h.1 }) (λ cs h. (h.few, h.chain))
    (IsFormat-counted (count_within (cell_room Extended)) spelled_byte (λ n. n ≤ cell_room Extended) (cell_at kept region) after_cell spelled.cell (IsCellIn kept region) 0 (IsFormat-count_within (cell_room Extended) cell_room_small) (λ least. IsFormat-cell kept region least few))

-- ---- what is known and said

abbrev Told : Type 0
Told = Relations × SummaryParts

abbrev ToldParts : Type 0
ToldParts = (Present × Declared) × ((OneByte × (Option WordPair × Pairs)) × SummaryParts)

-- the one byte's place in memory
abbrev place_told : StackBytes → Told → InMemory
place_told k t = place_in k.region t.0.byte.address

from_told : StackBytes → Told → ToldParts
from_told k t = ((told.present_by (is_address (place_told k t)) t.0, spelled.declared_in (is_item (place_told k t)) t.1), ((t.0.byte, (t.0.zero, t.0.pairs)), t.1))

abbrev AreDeclared : StackBytes → Bool → Option ℕ → Present × Declared → Type 0
AreDeclared k may test d = (is_present test d.0 ≡ true) × (may_be_declared may (may_be_item k d.0) d.1 ≡ true)

abbrev AreToldParts : ℕ → StackBytes → Bool → Option ℕ → ToldParts → Type 0
AreToldParts facts k may test p = AreDeclared k may test p.0 × (ArePresent true k test (place_of p.0) p.0.0 p.1.0 × IsSummaryFor facts k.region p.0.1 p.1.1)

-- what there may be beside a state's test
abbrev pub IsToldIn : ℕ → StackBytes → Bool → Option ℕ → Told → Type 0
IsToldIn facts k may test t = (IsTold (is_place_at k) (is_free_byte k.region) test t.0 × AreLinked true t.0.pairs) × IsSummary facts k.region may t.1

within-is : (o : Option Bounds) → IfSome o AreBounds → IfSome o IsWithin
within-is None h = tt
within-is (Some b) h = record { order = h.0; last = h.1 }

is-within : (o : Option Bounds) → IfSome o IsWithin → IfSome o AreBounds
is-within None h = tt
is-within (Some b) h = (h.order, h.last)

-- both that may be declared
declared-parts : (k : StackBytes) (may : Bool) (test : Option ℕ) (d : Present × Declared) → AreDeclared k may test d → ((may || not d.1.aside) ≡ true) × ((may_be_item k d.0 || not d.1.item) ≡ true)
declared-parts k may test d h = and_both (may || not d.1.aside) (may_be_item k d.0 || not d.1.item) h.1

told-there : (facts : ℕ) (k : StackBytes) (may : Bool) (test : Option ℕ) (p : ToldParts) → AreToldParts facts k may test p → (from_told k (to_told p) ≡ p) × IsToldIn facts k may test (to_told p)
unfolding from_told from_relations
told-there facts k may test p h =
    let at = place_of p.0 in
    let r = relations-there true k test at (p.0.0, p.1.0) h.1.0 in
    let s = h.1.1 in
    let d = declared-parts k may test p.0 h.0 in
    let place : place_in k.region p.1.0.0.address ≡ at = place-is k at p.1.0.0.address (h.1.0.0.in_memory, r.1.0.0.byte.address) in
    let address : is_address (place_in k.region p.1.0.0.address) ≡ p.0.0.address = ap is_address place ∙ address-bit p.0.1.item p.0.0.address (named-alone k p.0.0.byte p.0.0.address p.0.1.item d.1) in
    let item : is_item (place_in k.region p.1.0.0.address) ≡ p.0.1.item = ap is_item place ∙ item-bit p.0.1.item p.0.0.address in (
      parts-same _ p.0.0 _ p.0.1 (ap (λ a. told.present_by a (to_told p).0) address ∙ ap (λ (x : All). x.0) r.0) (declared-same _ _ _ _ p.0.1.shadows p.0.1.levels p.0.1.aside p.0.1.item s.has_shadows s.has_levels s.has_aside item),
      (
        ((address-as (may_be_in k at) (is_place_at k) (is_free_byte k.region) (to_told p).0 r.1.0.0 (place-there k at p.1.0.0.address r.1.0.0.byte.address), r.1.0.1), r.1.1),
        record {
          level = s.level;
          few = s.few;
          fills = s.fills;
          first = s.first;
          second = s.second;
          aside = within-is p.1.1.aside s.aside;
          may = ap (λ b. may || not b) s.has_aside ∙ d.0;
        },
      ),
    )
  where
    parts-same : (a b : Present) (c d : Declared) → a ≡ b → c ≡ d → (let q : ToldParts = ((a, c), p.1) in q) ≡ ((b, d), p.1)
    parts-same a b c d e f = rw (e, f) refl

told-again : (facts : ℕ) (k : StackBytes) (may : Bool) (test : Option ℕ) (t : Told) → IsToldIn facts k may test t → AreToldParts facts k may test (from_told k t) × (to_told (from_told k t) ≡ t)
unfolding from_told from_relations
told-again facts k may test t h =
    let at = place_told k t in
    let o = t.0.byte.address in
    let lies = there-place k o h.0.0.0.byte.address in
    let there : IsTold (may_be_in k at) (is_free_byte k.region) test t.0 = (address-as (is_place_at k) (may_be_in k at) (is_free_byte k.region) t.0 h.0.0.0 lies.1, h.0.0.1) in
    let r = relations-again true k test at (is_address at) t.0 there h.0.1 lies.0 in
    let s = h.1 in (
      (
        (is-present (may_be_in k at) (is_free_byte k.region) test at t.0 there lies.0, both_and (may || not (is_some t.1.aside)) _ s.may (may-name k at o (is_some_register t.0.byte.registers) lies)),
        (
          subst (λ place. ArePresent true k test place (told.present_by (is_address at) t.0) (t.0.byte, (t.0.zero, t.0.pairs))) (sym (place-again at)) r.0,
          record { level = s.level; few = s.few; fills = s.fills; first = s.first; second = s.second; aside = is-within t.1.aside s.aside; has_shadows = refl; has_levels = refl; has_aside = refl },
        ),
      ),
      refl,
    )

-- A byte whose places may be said has parts as its place in memory says.
parts-said : (k : StackBytes) (test : Option ℕ) (byte address item bits : Bool) → ((byte || not (address || is_some test || bits)) && not (is_some test && bits)) ≡ true → (item ≡ true → byte ≡ true) → AreParts test byte (is_somewhere (place_by item address)) bits
parts-said k test byte address true bits h named =
    let t = and_both (byte || not (address || is_some test || bits)) (not (is_some test && bits)) h in
    both_and (byte || not (true || is_some test || bits)) (not (is_some test && bits)) (ap (λ b. b || not (true || is_some test || bits)) (named refl)) t.1
parts-said k test byte address false bits h named = subst (λ a. AreParts test byte a bits) (sym (somewhere address)) h

abbrev told_all : StackBytes → ToldParts → List ℕ
told_all k p = (spelled_present p.0.0 ++ spelled_declared p.0.1) ++ (told_parts k p.1.0 ++ spelled.summary p.1.1)

pub IsFormat-told : (facts : ℕ) (k : StackBytes) (may : Bool) (test : Option ℕ) → facts < 65536 → k.count < 256 → IfSome test (λ n. n < 256) → IsFormat (told_at facts k may test) (spelled.told k.region k.base) (IsToldIn facts k may test)
unfolding told_at from_told told_byte spelled.told
IsFormat-told facts k may test small few byte =
    IsFormat-onto to_told (from_told k) _ (told_all k) (AreToldParts facts k may test) (IsToldIn facts k may test) (told-there facts k may test) (told-again facts k may test)
    (IsFormat-followed (present_declared_at k may test) (λ d. both (parts_at true k test (place_of d) d.0) (summary_at facts k.region d.1)) (λ d. spelled_present d.0 ++ spelled_declared d.1) (λ d q. told_parts k q.0 ++ spelled.summary q.1) (AreDeclared k may test)
    (λ d q. ArePresent true k test (place_of d) d.0 q.0 × IsSummaryFor facts k.region d.1 q.1)
    (IsFormat-followed (present_at test) (λ p. declared_at may (may_be_item k p)) spelled_present (λ p. spelled_declared) (λ p. is_present test p ≡ true) (λ p d. may_be_declared may (may_be_item k p) d ≡ true) (IsFormat-present test) (λ p h. IsFormat-declared may (may_be_item k p)))
    (λ d h. IsFormat-both (parts_at true k test (place_of d) d.0) (summary_at facts k.region d.1) (told_parts k) spelled.summary (ArePresent true k test (place_of d) d.0) (IsSummaryFor facts k.region d.1)
    (IsFormat-parts true k test (place_of d) d.0 byte few (parts-said k test d.0.byte d.0.address d.1.item d.0.bits h.0 (named-there k d.0.byte d.0.address d.1.item (declared-parts k may test d h).1))) (IsFormat-summary facts k.region d.1 small)))

-- ---- states

abbrev StateParts : Type 0
StateParts = Tested × (List Val × (Told × List Cell))

from_state : AbsState → StateParts
from_state s = ((s.core, compared s.relations.byte.test), (s.items, ((s.relations, s.summary), s.cells)))

abbrev spelled_behind : Region → ℕ → Told × List Cell → List ℕ
spelled_behind region base p = spelled.told region (item_base base region) p.0 ++ simple.counted spelled.cell p.1

abbrev spelled_state : Region → ℕ → StateParts → List ℕ
spelled_state region base p = spelled_core p.0 ++ (simple.counted spelled.val p.1.0 ++ spelled_behind region base p.1.1)

-- what is known and said behind a core and so many items, and the cells
abbrev AreBehind : ℕ → ProcedureForm → Role → Region → Tested → ℕ → Told × List Cell → Type 0
AreBehind facts form role region k count p = IsToldIn facts (stack_bytes form role region count) (may_be_aside role k.0) k.1 p.0 × AreCellsIn form.kept region p.1

abbrev AreStateParts : ℕ → ProcedureForm → Role → Region → StateParts → Type 0
AreStateParts facts form role region p = IsCoreOf form.kept role p.0 × (AreItemsIn form.kept role p.0.0.stack_set p.1.0 × AreBehind facts form role region p.0 (length p.1.0) p.1.1)

state-there : (facts : ℕ) (form : ProcedureForm) (role : Role) (region : Region) (p : StateParts) → AreStateParts facts form role region p → (from_state (to_state p) ≡ p) × IsStateIn facts form role region (to_state p)
unfolding from_state
state-there facts form role region p h = (
  ap (λ (o : Option ℕ). (let q : StateParts = ((p.0.0, o), p.1) in q)) h.1.1.0.0.0.1,
  record {
    core = h.0.core;
    stack = h.0.stack;
    pushed = h.1.0.pushed;
    items = h.1.0.each;
    item_count = h.1.0.few;
    cells = h.1.1.1.chain;
    cell_count = h.1.1.1.few;
    relations = h.1.1.0.0.0.0;
    linked = h.1.1.0.0.1;
    summary = h.1.1.0.1;
  },
)

state-again : (facts : ℕ) (form : ProcedureForm) (role : Role) (region : Region) (s : AbsState) → IsStateIn facts form role region s → AreStateParts facts form role region (from_state s) × (to_state (from_state s) ≡ s)
unfolding from_state
state-again facts form role region s h = (
  (
    record { core = h.core; stack = h.stack; test = compared-small s.relations.byte.test h.relations.byte.test },
    (record { few = h.item_count; pushed = h.pushed; each = h.items }, ((((h.relations, refl), h.linked), h.summary), record { few = h.cell_count; chain = h.cells })),
  ),
  refl,
)

-- A state names few items.
pub named-few : (form : ProcedureForm) (role : Role) (region : Region) (count : ℕ) → count ≤ item_limit Extended → (stack_bytes form role region count).count < 256
unfolding item_limit
named-few form role.Main region count few = omega (arith, few)
named-few form role.Other region count few = omega (arith, few)
named-few form role.Exit region count few = omega arith

IsFormat-behind : (facts : ℕ) (form : ProcedureForm) (role : Role) (region : Region) (k : Tested) (count : ℕ) → facts < 65536 → form.kept ≤ 16 → count ≤ item_limit Extended → IfSome k.1 (λ n. n < 256)
    → IsFormat (behind_items facts form role region k count) (spelled_behind region form.base) (AreBehind facts form role region k count)
IsFormat-behind facts form role region k count small few items test =
    let stack = stack_bytes form role region count in
    IsFormat-both (told_at facts stack (may_be_aside role k.0) k.1) (cells_at form.kept region) (spelled.told region (item_base form.base region)) (simple.counted spelled.cell) (IsToldIn facts stack (may_be_aside role k.0) k.1) (AreCellsIn form.kept region)
    (IsFormat-told facts stack (may_be_aside role k.0) k.1 small (named-few form role region count items) test) (IsFormat-cells form.kept region few)

-- Exactly the states of version 4 are read where they are spelled.
pub IsFormat-state : (facts : ℕ) (form : ProcedureForm) (role : Role) (region : Region) → facts < 65536 → form.kept ≤ 16 → IsFormat (state_at facts form role region) (spelled.state region form.base) (IsStateIn facts form role region)
unfolding state_at from_state spelled.state
IsFormat-state facts form role region small few =
    IsFormat-onto to_state from_state _ (spelled_state region form.base) (AreStateParts facts form role region) (IsStateIn facts form role region) (state-there facts form role region) (state-again facts form role region)
    (IsFormat-followed (core_at form.kept role) (λ k. followed (items_at form.kept role k.0.stack_set) (λ items. behind_items facts form role region k (length items))) spelled_core (λ k p. simple.counted spelled.val p.0 ++ spelled_behind region form.base p.1) (IsCoreOf form.kept role)
    (λ k p. AreItemsIn form.kept role k.0.stack_set p.0 × AreBehind facts form role region k (length p.0) p.1) (IsFormat-core form.kept role few)
    (λ k h. IsFormat-followed (items_at form.kept role k.0.stack_set) (λ items. behind_items facts form role region k (length items)) (simple.counted spelled.val) (λ items. spelled_behind region form.base) (AreItemsIn form.kept role k.0.stack_set) (λ items. AreBehind facts form role region k (length items)) (IsFormat-items form.kept role k.0.stack_set few)
    (λ items i. IsFormat-behind facts form role region k (length items) small few i.few h.test)))
