-- What a side tells of an item holds behind it, and of places in the stack items alone are left.
use Rattle.std.proofs.Common.{◌≡◌, ℕ, ◌+◌, Bool, true, false, cond, List, length, Option, Some, None, refl, sym, ◌∙◌, ap, subst}
use Rattle.std.specs.Prelude.{IfSome, option_map}
use Rattle.gb_ops.specs.declared.machine.Region.{Region}
use Rattle.gb_ops.specs.Play.{MState}
use Rattle.gb_domain.specs.declared.relations.Relations.{Relations}
use Rattle.gb_domain.specs.declared.pairs.PairBounds.{PairBounds}
use Rattle.gb_domain.specs.declared.rules.Rules.{Rules}
use Rattle.gb_domain.specs.declared.rules.Rules.TheVariants.{Simple, Extended}
use Rattle.gb_domain.specs.declared.setting.Setting.{Setting}
use Rattle.gb_domain.specs.declared.types.Cell.{Cell}
use Rattle.gb_domain.specs.declared.types.Core.{Core}
use Rattle.gb_domain.specs.declared.types.Range.{Range}
use Rattle.gb_domain.specs.Areas.{IsRegion, meets}
use Rattle.gb_domain.specs.Settings.{IsBase}
use Rattle.gb_domain.specs.Types.{AbsState}
use Rattle.gb_domain.specs.Pairs.{any_pairs}
use Rattle.gb_product.specs.Below.gb_abs.Meaning.{Activation, MeansParts, is_located}
use Rattle.gb_product.specs.Below.gb_abs.Cells.{ArePlaced}
use Rattle.gb_product.specs.Below.gb_abs.Span.{one}
use Rattle.gb_product.specs.Below.gb_abs.Stack.{AreInRegion}
use Rattle.gb_product.specs.Below.gb_abs.Storage.{peek}
use Rattle.gb_product.specs.Below.gb_abs_effects.declared.targets.Target.{Target}
use Rattle.gb_product.specs.Below.gb_abs_effects.declared.targets.Target.TheVariants as target
use Rattle.gb_product.specs.Below.gb_relations.Items.{held_places}
use Rattle.gb_product.specs.Below.gb_relations.Sound.{IsByteFree, IsBytePlaced}
use Rattle.gb_product.specs.declared.parts.Product.{Product}
use Rattle.gb_product.specs.Held.{stack_held, held_relations}
use Rattle.gb_product.proofs.HeldLaws.{free_held, related_held, related_outside, held_placed, outside_free}
use Rattle.gb_product.specs.Meaning.{AreRelated, IsSummarized}
use Rattle.gb_product.specs.Reduced.{reduced}
use Rattle.gb_product.specs.Sound.{HoldsCell}
use Rattle.gb_product.proofs.Below.gb_abs_laws.SpanLaws.{IsIn-alone}
use Rattle.gb_abs_memory.specs.Items.{items_stored}
use Rattle.gb_abs_memory.proofs.ItemLaws.{length-items_stored, AreItems-stored}
use Rattle.gb_successors.specs.declared.stacks.Stack.{Stack}
use Rattle.gb_successors.specs.declared.way.Told.{Told}
use Rattle.gb_successors.specs.Behind.{with_relations, told_behind}
use Rattle.gb_successors.specs.Settled.{told_by, told_at_target, told_successor, relations_left, held_successor, held_way}
use Rattle.gb_successors.specs.Sound.{LeadsWidely, LeadsTo, AreRelatedBehind, Leads}
use Rattle.gb_successors.specs.Successors.{related_successor, with_product, reduced_successor, settled_way}
use Rattle.gb_successors.specs.Way.{Successor}
use Rattle.gb_successors.proofs.RelatedLaws.{MeansParts-related}
use Rattle.gb_successors.proofs.SaidLaws.{LeadsHere}

-- ---- places that are left

pub related_left : (k : Stack) (w : Target) (s : AbsState) (entry : Activation) (y : MState) → AreRelated s.relations entry y → AreRelatedBehind w (relations_left k w s) entry y
related_left k w s entry y h = by w
  where
    items : AreRelated (held_relations (stack_held k.setting k.region (length s.items)) s.relations) entry y
    items = related_held (stack_held k.setting k.region (length s.items)) s.relations entry y h

    by : (w : Target) → AreRelatedBehind w (relations_left k w s) entry y
    by (target.Main a) = λ begun. related_outside k.region s.relations entry begun y h
    by (target.At a) = items
    by (target.Call a) = items
    by target.Return = items
    by target.Unknown = items
    by target.Lost = items

pub placed_left :
    (k : Stack) (w : Target) (s : AbsState) (n : ℕ)
    → IsBytePlaced (stack_held k.setting k.region n) s.relations.byte.address → IsBytePlaced (stack_held k.setting k.region (length s.items)) (relations_left k w s).byte.address
placed_left k w s n h = by w
  where
    items : IsBytePlaced (stack_held k.setting k.region (length s.items)) (held_places (stack_held k.setting k.region (length s.items)) s.relations.byte).address
    items = held_placed k.setting k.region n (length s.items) s.relations.byte h

    by : (w : Target) → IsBytePlaced (stack_held k.setting k.region (length s.items)) (relations_left k w s).byte.address
    by (target.Main a) = free_held k.setting k.region (length s.items) _ (outside_free k.setting k.region n s.relations.byte h)
    by (target.At a) = items
    by (target.Call a) = items
    by target.Return = items
    by target.Unknown = items
    by target.Lost = items

-- where the place behind a successor may lie: outside the stack where main begins anew, else among the items too
abbrev pub IsPlacedBehind : Setting → Region → Target → AbsState → Type 0
IsPlacedBehind z region (target.Main a) s = IsByteFree region s.relations.byte.address
IsPlacedBehind z region (target.At a) s = IsBytePlaced (stack_held z region (length s.items)) s.relations.byte.address
IsPlacedBehind z region (target.Call a) s = IsBytePlaced (stack_held z region (length s.items)) s.relations.byte.address
IsPlacedBehind z region target.Return s = IsBytePlaced (stack_held z region (length s.items)) s.relations.byte.address
IsPlacedBehind z region target.Unknown s = IsBytePlaced (stack_held z region (length s.items)) s.relations.byte.address
IsPlacedBehind z region target.Lost s = IsBytePlaced (stack_held z region (length s.items)) s.relations.byte.address

-- There it lies, however many items there were.
pub placed_behind :
    (k : Stack) (w : Target) (s : AbsState) (n : ℕ) → IsBytePlaced (stack_held k.setting k.region n) s.relations.byte.address
    → IsPlacedBehind k.setting k.region w (with_relations (relations_left k w s) s)
placed_behind k (target.Main a) s n h = outside_free k.setting k.region n s.relations.byte h
placed_behind k (target.At a) s n h = placed_left k (target.At a) s n h
placed_behind k (target.Call a) s n h = placed_left k (target.Call a) s n h
placed_behind k target.Return s n h = placed_left k target.Return s n h
placed_behind k target.Unknown s n h = placed_left k target.Unknown s n h
placed_behind k target.Lost s n h = placed_left k target.Lost s n h

-- ---- an item that is told

-- what is told is of the procedure's stack, and right
pub record IsToldRight (z : Setting) (region : Region) (entry : Activation) (y : MState) (t : Told) : Type 0 where
  pub setting : t.setting ≡ z
  pub region_is : t.region ≡ region
  pub holds : HoldsCell entry y t.cell

pub told_right :
    (k : Stack) (cell : Option Cell) (entry : Activation) (y : MState) → IfSome cell (λ c. HoldsCell entry y c)
    → IfSome (told_by Extended k cell) (IsToldRight k.setting k.region entry y)
told_right k None entry y h = tt
told_right k (Some c) entry y h = choose (meets k.region c.address c.address)
  where
    choose :
        (b : Bool)
        → IfSome (cond b (Some (record { setting = k.setting; region = k.region; cell = c })) None) (IsToldRight k.setting k.region entry y)
    choose true = record { setting = refl; region_is = refl; holds = h }
    choose false = tt

pub told_count : (o : Option Told) (core : Core) (s : AbsState) → length (told_behind o core s).items ≡ length s.items
told_count None core s = refl
told_count (Some t) core s = length-items_stored t.setting t.region (one t.cell.address) t.cell.val core s.items

not_both : Extended ≡ Simple → ⊥
not_both e = cc

MeansParts-item :
    (z : Setting) (region : Region) (c : Cell) (core : Core) (s : AbsState) (entry : Activation) (base : ℕ) (y : MState)
    → z.rules ≡ Extended → IsBase z base → IsRegion region → AreInRegion region base (length s.items) → HoldsCell entry y c → MeansParts s entry base y
    → MeansParts (record s { items = items_stored z region (one c.address) c.val core s.items }) entry base y
MeansParts-item z region c core s entry base y extended based is room holds m =
    record {
      core = m.core;
      memory = m.memory;
      sp = m.sp;
      stack = λ e. ap (λ n. y.processor.sp + n) (length-items_stored z region (one c.address) c.val core s.items) ∙ m.stack e;
      items =
          AreItems-stored z region core s.items entry base c.address (peek y.storage c.address) (one c.address) c.val y.storage y.storage based
          (record { memory = m.memory; banks = refl; ie = refl; count = refl; byte = refl; others = λ b r e. refl })
          (IsIn-alone c.address) holds (λ e. absurd (not_both (sym extended ∙ e))) is room m.items;
      cells = m.cells;
    }

-- where the machine stands
pub record IsSettledAt (k : Stack) (base : ℕ) : Type 0 where
  pub extended : k.setting.rules ≡ Extended
  pub based : IsBase k.setting base
  pub is_region : IsRegion k.region

MeansParts-told :
    (k : Stack) (o : Option Told) (core : Core) (s : AbsState) (entry : Activation) (base : ℕ) (y : MState)
    → IsSettledAt k base → IfSome o (IsToldRight k.setting k.region entry y) → AreInRegion k.region base (length s.items) → MeansParts s entry base y
    → MeansParts (told_behind o core s) entry base y
MeansParts-told k None core s entry base y is right room m = m
MeansParts-told k (Some t) core s entry base y is right room m =
    subst (λ z. MeansParts (record s { items = items_stored z t.region (one t.cell.address) t.cell.val core s.items }) entry base y) (sym right.setting)
    (subst (λ region. MeansParts (record s { items = items_stored k.setting region (one t.cell.address) t.cell.val core s.items }) entry base y) (sym right.region_is)
    (MeansParts-item k.setting k.region t.cell core s entry base y is.extended is.based is.is_region room right.holds m))

room_told : (region : Region) (base : ℕ) (o : Option Told) (core : Core) (s : AbsState) → AreInRegion region base (length s.items) → AreInRegion region base (length (told_behind o core s).items)
room_told region base o core s room = subst (λ n. AreInRegion region base n) (sym (told_count o core s)) room

located_told : (o : Option Told) (core : Core) (s : AbsState) → is_located s ≡ true → is_located (told_behind o core s) ≡ true
located_told None core s h = h
located_told (Some t) core s h = h

cells_told : (region : Region) (o : Option Told) (core : Core) (s : AbsState) → ArePlaced region s.cells → ArePlaced region (told_behind o core s).cells
cells_told region None core s h = h
cells_told region (Some t) core s h = h

told_main : (a : ℕ) (o : Option Told) → told_at_target (target.Main a) o ≡ None
told_main a None = refl
told_main a (Some t) = refl

right_at : (P : Told → Type 0) (w : Target) (o : Option Told) → IfSome o P → IfSome (told_at_target w o) P
right_at P w None h = tt
right_at P (target.Main a) (Some t) h = tt
right_at P (target.At a) (Some t) h = h
right_at P (target.Call a) (Some t) h = h
right_at P target.Return (Some t) h = h
right_at P target.Unknown (Some t) h = h
right_at P target.Lost (Some t) h = h

-- with this told behind it
abbrev pub with_told : Option Told → Core → Successor → Successor
with_told o core t = record t { state = told_behind o core t.state }

LeadsWidely-told :
    (k : Stack) (w : Target) (o : Option Told) (core : Core) (t : Successor) (entry : Activation) (base : ℕ) (y : MState)
    → IsSettledAt k base → IfSome o (IsToldRight k.setting k.region entry y) → LeadsWidely k.setting k.region w t entry base y
    → LeadsWidely k.setting k.region w (with_told (told_at_target w o) core t) entry base y
LeadsWidely-told k (target.At a) o core t entry base y is right h =
    let q = told_at_target (target.At a) o in
    record {
      means = MeansParts-told k q core t.state entry base y is (right_at _ (target.At a) o right) h.room h.means;
      goes = h.goes;
      room = room_told k.region base q core t.state h.room;
    }
LeadsWidely-told k (target.Call a) o core t entry base y is right h =
    let q = told_at_target (target.Call a) o in
    record {
      means = MeansParts-told k q core t.state entry base y is (right_at _ (target.Call a) o right) h.room h.means;
      goes = h.goes;
      room = room_told k.region base q core t.state h.room;
      located = located_told q core t.state h.located;
      next = h.next;
      top = h.top;
      placed = cells_told k.region q core t.state h.placed;
    }
LeadsWidely-told k target.Return o core t entry base y is right h =
    let q = told_at_target target.Return o in
    record {
      means = MeansParts-told k q core t.state entry base y is (right_at _ target.Return o right) h.room h.means;
      goes = h.goes;
      room = room_told k.region base q core t.state h.room;
      procedure = h.procedure;
    }
LeadsWidely-told k (target.Main a) o core t entry base y is right h =
    subst (λ q. LeadsWidely k.setting k.region (target.Main a) (with_told q core t) entry base y) (sym (told_main a o))
    (record { means = h.means; goes = h.goes; room = h.room })
LeadsWidely-told k target.Unknown o core t entry base y is right h = tt
LeadsWidely-told k target.Lost o core t entry base y is right h = tt

related_told : (o : Option Told) (core : Core) (s : AbsState) → (told_behind o core s).relations ≡ s.relations
related_told None core s = refl
related_told (Some t) core s = refl

summary_told : (o : Option Told) (core : Core) (s : AbsState) (entry : Activation) (y : MState) → IsSummarized s entry y → IsSummarized (told_behind o core s) entry y
summary_told None core s entry y h = h
summary_told (Some t) core s entry y h = h

-- ---- where it leads

pub LeadsWidely-related :
    (z : Setting) (region : Region) (w : Target) (r : Relations) (t : Successor) (entry : Activation) (base : ℕ) (y : MState) → LeadsWidely z region w t entry base y → LeadsWidely z region w (related_successor r t) entry base y
LeadsWidely-related z region (target.At a) r t entry base y h = record { means = MeansParts-related r t.state entry base y h.means; goes = h.goes; room = h.room }
LeadsWidely-related z region (target.Call a) r t entry base y h =
    record { means = MeansParts-related r t.state entry base y h.means; goes = h.goes; room = h.room; located = h.located; next = h.next; top = h.top; placed = h.placed }
LeadsWidely-related z region target.Return r t entry base y h = record { means = MeansParts-related r t.state entry base y h.means; goes = h.goes; room = h.room; procedure = h.procedure }
LeadsWidely-related z region (target.Main a) r t entry base y h = record { means = λ other same. MeansParts-related r t.state other (region.last + 1) y (h.means other same); goes = h.goes; room = h.room }
LeadsWidely-related z region target.Unknown r t entry base y h = tt
LeadsWidely-related z region target.Lost r t entry base y h = tt

pub to_widely : (z : Setting) (region : Region) (w : Target) (t : Successor) (entry : Activation) (base : ℕ) (x y : MState) → z.rules ≡ Extended → LeadsWidely z region w t entry base y → LeadsTo z.rules z region w t entry base x y
to_widely z region w t entry base x y e h = subst (λ r. LeadsTo r z region w t entry base x y) (sym e) h

pub from_widely : (z : Setting) (region : Region) (w : Target) (t : Successor) (entry : Activation) (base : ℕ) (x y : MState) → z.rules ≡ Extended → LeadsTo z.rules z region w t entry base x y → LeadsWidely z region w t entry base y
from_widely z region w t entry base x y e h = subst (λ r. LeadsTo r z region w t entry base x y) e h

-- what it leads to holds of the states that are settled
pub Leads-settled :
    (k : Stack) (ranges : List Range) (o : Option Told) (core : Core) (t : Successor) (entry : Activation) (base : ℕ) (x y : MState)
    → IsSettledAt k base → IfSome o (IsToldRight k.setting k.region entry y) → LeadsHere k.setting k.region ranges t entry base x y
    → Leads k.setting k.region ranges (held_successor k (told_successor o core t)) entry base x y
Leads-settled k ranges o core t entry base x y is right h =
    let q = told_at_target t.target o in
    let u = with_told q core t in
    record {
      to = to_widely k.setting k.region t.target (held_successor k u) entry base x y is.extended
          (LeadsWidely-related k.setting k.region t.target (relations_left k t.target u.state) u entry base y
          (LeadsWidely-told k t.target o core t entry base y is right (from_widely k.setting k.region t.target t entry base x y is.extended h.to)));
      kept = h.kept;
      related = λ known. related_left k t.target u.state entry y (subst (λ r. AreRelated r entry y) (sym (related_told q core t.state)) (h.related known));
      summary = summary_told q core t.state entry y h.summary;
    }

-- ---- reduced

reduced_told : (rules : Rules) (entered : PairBounds) (q : Option Told) (core : Core) (t : Successor) → reduced_successor rules entered (with_told q core t) ≡ option_map (with_told q core) (reduced_successor rules entered t)
unfolding reduced_successor
reduced_told rules entered None core t = by (reduced rules entered any_pairs t.state.core t.state.relations)
  where
    by : (o : Option Product) → option_map (with_product (with_told None core t)) o ≡ option_map (with_told None core) (option_map (with_product t) o)
    by None = refl
    by (Some p) = refl
reduced_told rules entered (Some u) core t = by (reduced rules entered any_pairs t.state.core t.state.relations)
  where
    by : (o : Option Product) → option_map (with_product (with_told (Some u) core t)) o ≡ option_map (with_told (Some u) core) (option_map (with_product t) o)
    by None = refl
    by (Some p) = refl

nothing_told : (cell : Option Cell) (k : Stack) → told_by Simple k cell ≡ None
nothing_told None k = refl
nothing_told (Some c) k = refl

-- by the rules of versions 1 and 2 it is reduced alone
pub settled_simply : (k : Stack) (cell : Option Cell) (core : Core) (t : Successor) → k.setting.rules ≡ Simple → settled_way k cell core t ≡ reduced_successor k.setting.rules k.setting.entered t
unfolding settled_way
settled_simply k cell core t simple =
    ap (λ r. held_way r k (reduced_successor k.setting.rules k.setting.entered (told_successor (told_by r k cell) core t))) simple
    ∙ ap (λ o. reduced_successor k.setting.rules k.setting.entered (told_successor o core t)) (nothing_told cell k)

-- the settled way of a successor that is reduced so
pub settled_is :
    (k : Stack) (cell : Option Cell) (core : Core) (t u : Successor) → k.setting.rules ≡ Extended → reduced_successor k.setting.rules k.setting.entered t ≡ Some u → t.target ≡ u.target
    → settled_way k cell core t ≡ Some (held_successor k (told_successor (told_by Extended k cell) core u))
unfolding settled_way
settled_is k cell core t u extended e same =
    ap (λ r. held_way r k (reduced_successor k.setting.rules k.setting.entered (told_successor (told_by r k cell) core t))) extended
    ∙ ap (option_map (held_successor k))
    (reduced_told k.setting.rules k.setting.entered (told_at_target t.target (told_by Extended k cell)) core t
    ∙ (ap (option_map (with_told (told_at_target t.target (told_by Extended k cell)) core)) e
    ∙ ap (λ w. Some (with_told (told_at_target w (told_by Extended k cell)) core u)) same))

-- as many items are held
pub settled_count : (k : Stack) (o : Option Told) (core : Core) (t : Successor) → length (held_successor k (told_successor o core t)).state.items ≡ length t.state.items
settled_count k o core t = told_count (told_at_target t.target o) core t.state

-- ---- by what is left where it is reduced

pub reduced_is : (rules : Rules) (entered : PairBounds) (t : Successor) (p : Product) → reduced rules entered any_pairs t.state.core t.state.relations ≡ Some p → reduced_successor rules entered t ≡ Some (with_product t p)
unfolding reduced_successor
reduced_is rules entered t p e = ap (option_map (with_product t)) e

pub reduced_none : (rules : Rules) (entered : PairBounds) (t : Successor) → reduced rules entered any_pairs t.state.core t.state.relations ≡ None → reduced_successor rules entered t ≡ None
unfolding reduced_successor
reduced_none rules entered t e = ap (option_map (with_product t)) e

pub settled_none :
    (k : Stack) (cell : Option Cell) (core : Core) (t : Successor) → k.setting.rules ≡ Extended → reduced k.setting.rules k.setting.entered any_pairs t.state.core t.state.relations ≡ None → settled_way k cell core t ≡ None
unfolding settled_way
settled_none k cell core t extended e =
    ap (λ r. held_way r k (reduced_successor k.setting.rules k.setting.entered (told_successor (told_by r k cell) core t))) extended
    ∙ ap (option_map (held_successor k))
    (reduced_told k.setting.rules k.setting.entered (told_at_target t.target (told_by Extended k cell)) core t
    ∙ ap (option_map (with_told (told_at_target t.target (told_by Extended k cell)) core)) (reduced_none k.setting.rules k.setting.entered t e))

no_way : (w : Successor) → None ≡ Some w → ⊥
no_way w e = cc

same_way : (v w : Successor) → Some v ≡ Some w → v ≡ w
same_way v w e = cc

-- what holds of it by the rules of versions 1 and 2, and by those of version 3, holds
pub settled_cases :
    (P : Successor → Type 0) (k : Stack) (cell : Option Cell) (core : Core) (t u : Successor) → settled_way k cell core t ≡ Some u
    → ((p : Product) → reduced k.setting.rules k.setting.entered any_pairs t.state.core t.state.relations ≡ Some p → k.setting.rules ≡ Extended → P (held_successor k (told_successor (told_by Extended k cell) core (with_product t p))))
    → ((p : Product) → reduced k.setting.rules k.setting.entered any_pairs t.state.core t.state.relations ≡ Some p → k.setting.rules ≡ Simple → P (with_product t p))
    → P u
settled_cases P k cell core t u is extended simple = by_rules k.setting.rules refl
  where
    widely : (o : Option Product) → reduced k.setting.rules k.setting.entered any_pairs t.state.core t.state.relations ≡ o → k.setting.rules ≡ Extended → P u
    widely None e r = absurd (no_way u (sym (settled_none k cell core t r e) ∙ is))
    widely (Some p) e r =
        subst P (same_way _ u (sym (settled_is k cell core t (with_product t p) r (reduced_is k.setting.rules k.setting.entered t p e) refl) ∙ is)) (extended p e r)

    simply : (o : Option Product) → reduced k.setting.rules k.setting.entered any_pairs t.state.core t.state.relations ≡ o → k.setting.rules ≡ Simple → P u
    simply None e r = absurd (no_way u (sym (reduced_none k.setting.rules k.setting.entered t e) ∙ (sym (settled_simply k cell core t r) ∙ is)))
    simply (Some p) e r = subst P (same_way _ u (sym (reduced_is k.setting.rules k.setting.entered t p e) ∙ (sym (settled_simply k cell core t r) ∙ is))) (simple p e r)

    by_rules : (r : Rules) → k.setting.rules ≡ r → P u
    by_rules Extended r = widely (reduced k.setting.rules k.setting.entered any_pairs t.state.core t.state.relations) refl r
    by_rules Simple r = simply (reduced k.setting.rules k.setting.entered any_pairs t.state.core t.state.relations) refl r

same_summary : (o : Option Told) (core : Core) (s : AbsState) → (told_behind o core s).summary ≡ s.summary
same_summary None core s = refl
same_summary (Some t) core s = refl

-- what is said of the whole program stays
pub settled_summary : (k : Stack) (cell : Option Cell) (core : Core) (t u : Successor) → settled_way k cell core t ≡ Some u → u.state.summary ≡ t.state.summary
settled_summary k cell core t u is =
    settled_cases (λ (w : Successor). w.state.summary ≡ t.state.summary) k cell core t u is
    (λ p e r. same_summary (told_at_target t.target (told_by Extended k cell)) core (with_product t p).state)
    (λ p e r. refl)

-- nor does it go on elsewhere
pub settled_target : (k : Stack) (cell : Option Cell) (core : Core) (t u : Successor) → settled_way k cell core t ≡ Some u → u.target ≡ t.target
settled_target k cell core t u is = settled_cases (λ (w : Successor). w.target ≡ t.target) k cell core t u is (λ p e r. refl) (λ p e r. refl)
