-- Whatever the machine executes leads by one of the successors, by the rules of version 3.
use Rattle.std.proofs.Common.{◌≡◌, ℕ, ◌+◌, ◌≤◌, Bool, true, false, cond, inl, inr, List, length, slice_index, Option, Some, None, option_map, option_and_then, refl, sym, ◌∙◌, ap, subst}
use Rattle.std.specs.Prelude.{is_some}
use Rattle.std.specs.Option.{IfSome}
use Rattle.gb_ops.specs.declared.machine.Region.{Region}
use Rattle.gb_ops.specs.declared.op.Condition.{Condition}
use Rattle.gb_ops.specs.declared.op.Op.{Op}
use Rattle.gb_ops.specs.declared.op.Op.TheVariants as op
use Rattle.gb_ops.specs.declared.op.Row.{Row}
use Rattle.gb_ops.specs.Machine.{executed, advanced}
use Rattle.gb_ops.specs.Play.{MState, within, outside}
use Rattle.gb_domain.specs.declared.pairs.Bounds.{Bounds}
use Rattle.gb_domain.specs.declared.pairs.PairBounds.{PairBounds}
use Rattle.gb_domain.specs.declared.relations.Relations.{Relations}
use Rattle.gb_domain.specs.declared.low_bits.LowBits.{LowBits}
use Rattle.gb_domain.specs.declared.rules.Rules.{Rules}
use Rattle.gb_domain.specs.declared.rules.Rules.TheVariants.{Simple, Extended}
use Rattle.gb_domain.specs.declared.setting.Setting.{Setting}
use Rattle.gb_domain.specs.declared.places.OneByte.{OneByte}
use Rattle.gb_domain.specs.declared.places.StackBytes.{StackBytes}
use Rattle.gb_domain.specs.Areas.{is_place_at, is_free_byte}
use Rattle.gb_ops.specs.declared.machine.Write.{Write}
use Rattle.gb_ops.specs.declared.machine.Write.TheVariants as machine_write
use Rattle.gb_product.specs.Below.gb_relations.Places.{is_ram}
use Rattle.gb_successors.proofs.RamLaws.{ram_at, ram_is, bytes_small, any_read}
use Rattle.gb_domain.specs.declared.types.Cell.{Cell}
use Rattle.gb_domain.specs.declared.types.Core.{Core}
use Rattle.gb_domain.specs.declared.types.Halves.{Halves}
use Rattle.gb_domain.specs.declared.types.Range.{Range}
use Rattle.gb_domain.specs.declared.types.Val.{Val}
use Rattle.gb_domain.specs.Pairs.{any_pairs, ArePairs}
use Rattle.gb_domain.specs.Rules.{IsCore}
use Rattle.gb_domain.specs.Limits.{cell_room}
use Rattle.gb_domain.specs.Summaries.{SummaryParts, Program}
use Rattle.gb_domain.specs.Types.{AbsState}
use Rattle.gb_product.specs.Below.gb_abs.Cells.{with_cell}
use Rattle.gb_product.specs.Below.gb_abs_effects.declared.writes.AbsWrite.{AbsWrite}
use Rattle.gb_product.specs.Below.gb_abs.Located.{sp_halves, sp_bounds}
use Rattle.gb_product.specs.Below.gb_abs.Meaning.{Activation, Holds, MeansCore, MeansParts}
use Rattle.gb_product.specs.Below.gb_abs.Operations.{core_settle, with_core}
use Rattle.gb_product.specs.Below.gb_abs.Storage.{peek}
use Rattle.gb_product.proofs.Below.gb_abs_laws.OperationLaws.{IsCore-settle}
use Rattle.gb_product.proofs.Below.gb_abs_laws.StackLaws.{MeansParts-with_core}
use Rattle.gb_product.specs.Below.gb_abs_effects.Sides as Flags
use Rattle.gb_product.specs.Below.gb_abs_effects.declared.reads.AbsRead.{AbsRead}
use Rattle.gb_product.specs.Below.gb_abs_effects.declared.reads.AbsRead.TheVariants as read
use Rattle.gb_product.specs.Below.gb_abs_effects.declared.targets.Target.{Target}
use Rattle.gb_product.specs.Below.gb_abs_effects.declared.targets.Target.TheVariants as target
use Rattle.gb_product.specs.Below.gb_abs_effects.Accesses.{read_of}
use Rattle.gb_product.specs.Below.gb_abs_effects.Transfer.{transfer}
use Rattle.gb_abs_memory.specs.Kept.{IsKept}
use Rattle.gb_product.specs.declared.parts.Branch.{Branch}
use Rattle.gb_product.specs.declared.parts.Product.{Product}
use Rattle.gb_product.specs.Below.gb_pairs.Meaning.{AreBytes, AreReadIn}
use Rattle.gb_product.specs.Below.gb_pairs.Reduced as Pairs
use Rattle.gb_product.specs.Below.gb_pairs.Sound.{AreWithin}
use Rattle.gb_product.specs.Below.gb_relations.Sound.{IsBytePlaced}
use Rattle.gb_product.specs.Held.{stack_held}
use Rattle.gb_product.specs.Sound.{HoldsCell}
use Rattle.gb_product.proofs.SideLaws.{side_placed}
use Rattle.gb_product.proofs.Below.gb_relations_laws.AddressLaws.{placed-ram}
use Rattle.gb_product.proofs.Below.gb_relations_laws.MachineLaws.{is_outside, stores, effect_of-outside}
use Rattle.gb_successors.specs.declared.way.Told.{Told}
use Rattle.gb_successors.specs.Settled.{cell_outside, told_by, branch_outside, told_successor, held_successor}
use Rattle.gb_successors.proofs.AccessLaws.{WritesInTurn}
use Rattle.gb_successors.proofs.HoldingLaws.{LeadsWidely-related, to_widely, from_widely, told_right, Leads-settled, settled_is, settled_count}
use Rattle.gb_product.specs.Meaning.{entered_with, beside, AreRelated, Means}
use Rattle.gb_product.specs.Reduced.{product_of, with_values_if, reduced}
use Rattle.gb_product.specs.Sides.{side_where, taken_side, not_taken_side}
use Rattle.gb_product.specs.Sound.{IsKnown, IsMeantProduct, IsMeantBranch, MeansBranch, MeansProduct, IsReduced, IsSideOf}
use Rattle.gb_product.proofs.MeaningLaws.{AreBytes-core, MeansCore-cut}
use Rattle.gb_product.proofs.Below.gb_abs_effects_laws.CoreLaws.{In-from}
use Rattle.gb_product.proofs.ReducedLaws.{reduced_sound, reduced_cuts, Holds-values}
use Rattle.gb_product.proofs.SideLaws.{taken_side_sound, not_taken_side_sound, taken_side_cuts, not_taken_side_cuts}
use Rattle.gb_product.proofs.CoveringLaws.{AreReadIn-means}
use Rattle.gb_successors.specs.declared.stacks.Around.{Around}
use Rattle.gb_successors.specs.declared.stacks.Stack.{Stack}
use Rattle.gb_successors.specs.declared.stacks.StackMove.{StackMove}
use Rattle.gb_successors.specs.declared.stacks.StackMove.TheVariants as move
use Rattle.gb_product.specs.Below.gb_pairs.declared.values.Values.{Values}
use Rattle.gb_product.specs.Below.gb_relations.Transfer.{values_of}
use Rattle.gb_product.specs.Covering.{read_in as bytes_read}
use Rattle.gb_successors.specs.Behind.{ended, with_cell_if, moved_state}
use Rattle.gb_successors.specs.Loads.{word_by}
use Rattle.gb_successors.specs.Refined.{cut_read, cut_write, refined}
use Rattle.gb_successors.specs.Refused.{meets_closed, meets_oam_transfer}
use Rattle.gb_successors.specs.Stacks.{around_of, extended, stack_move}
use Rattle.gb_ops.specs.Pointers.{pointer_of}
use Rattle.gb_ops.specs.Registers.{get}
use Rattle.gb_successors.specs.Summaries.{pointed_bits, summary_by}
use Rattle.gb_successors.specs.Way.{Successor}
use Rattle.gb_successors.specs.Successors.{pointer_in, read_in, word_in, effect_in, taken_move, taken_parts, related_successor, relations_behind, said_successor, summary_behind, taken_successor, untaken_successor, with_product, reduced_successor, product_before, taken_by_side, not_taken_by_side, taken_from, not_taken_from, successors_of, memory_before, bits_in}
use Rattle.gb_successors.specs.Sound.{IsReady, IsAllowed, IsFound, IsStackFit, bytes_moved, IsHeld, IsStackRuled, is_followed, LeadsWidely, Leads, Stands, IsRuled, Executes}
use Rattle.gb_successors.proofs.AroundLaws.{located-same}
use Rattle.gb_successors.proofs.SimpleLaws.{behind_row, IsTold, same_word, same_sp}
use Rattle.gb_successors.proofs.ToldLaws.{told_core, told_items, IsToldCell, IsToldCell-side, Stands-told, IsAllowed-told, IsNoPop, IsNoPop-taken, IsNoPop-outside, IsTold-around, IsTold-outside, IsTold-taken, IsVal-memory_before, held_before}
use Rattle.gb_successors.proofs.PlainLaws.{Keeps, Keeps-both, Keeps-settle, Keeps-cut}
use Rattle.gb_successors.proofs.MarkLaws.{executed_mark}
use Rattle.gb_successors.proofs.SaidLaws.{LeadsRelated, Leads-summarized, Leads-said}
use Rattle.gb_successors.proofs.SummaryLaws.{said_holds, said_aside}
use Rattle.gb_successors.proofs.RelatedLaws.{MeansParts-related, related_begun, IsCore-ended, values_begun}
use Rattle.gb_successors.proofs.SuccessorLaws.{begun, begun_core, given, effect, executed_is, left_by, passed_peek}
use Rattle.gb_successors.proofs.UntakenLaws.{simple_untaken, untaken_simply, untaken_executes, side_facts}
use Rattle.gb_successors.proofs.Situations.{Situation, acted_at, given_at, begun_at, held_at, left_at, move_at, parts_at, related_at, IsTakenIn}
use Rattle.gb_successors.proofs.LandingLaws.{given_by, stored_at, pairs_behind}
use Rattle.gb_successors.proofs.LedLaws.{IsAllowedAt, DoneAt, done_at}
use Rattle.gb_successors.proofs.PossibleLaws.{some_reduced, possible, bytes_behind_it}
use Rattle.gb_successors.specs.StackMark.{marks, marked, marked_write}
use Rattle.gb_successors.specs.Stacks.{address_below}
use Rattle.gb_successors.proofs.StackMarkLaws.{marked_write_not}

-- ---- the states behind, reduced

-- registers that are cut in this procedure are so in any other where they are copies of what they were before
core_narrowed :
    (rules : Rules) (entered read : PairBounds) (core : Core) (r : Relations) (p : Product) (entry other : Activation) (y : MState) → reduced rules entered read core r ≡ Some p
    → IsReduced core r p → MeansCore p.core entry y → MeansCore core other y → MeansCore p.core other y
unfolding reduced
core_narrowed rules entered read core r p entry other y e cut m n = by_rules rules e
  where
    same_product : (p q : Product) → Some p ≡ Some q → p ≡ q
    same_product p q f = cc

    by : (o : Option Values) → with_values_if core r o ≡ Some p → MeansCore p.core other y
    by None f = absurd (let bad : None ≡ Some p = f in cc)
    by (Some v) f =
        subst (λ (q : Product). IsReduced core r q → MeansCore q.core entry y → MeansCore q.core other y) (same_product _ p f)
        (λ is held. MeansCore-cut core v.registers other y (λ q. In-from (get q v.registers) entry (get q y.processor.registers) (held.registers q)) is.core.origin n)
        cut m

    by_rules : (q : Rules) → reduced q entered read core r ≡ Some p → MeansCore p.core other y
    by_rules Simple f = subst (λ (q : Product). MeansCore q.core other y) (same_product _ p f) n
    by_rules Extended f = by (Pairs.reduced entered read (values_of core.registers r.pairs)) f

-- the machine that a successor leads to is one that its reduced states mean, in any procedure of which the states are
pub MeansParts-narrowed :
    (z : Setting) (region : Region) (t : Successor) (p : Product) (entry other : Activation) (base : ℕ) (y : MState) → reduced z.rules z.entered any_pairs t.state.core t.state.relations ≡ Some p → ArePairs (is_free_byte region) t.state.relations.pairs
    → AreWithin z.entered (entered_with entry) → AreBytes y.processor.registers → AreRelated t.state.relations entry y
    → MeansCore t.state.core entry y → MeansParts t.state other base y → MeansParts (with_product t p).state other base y
MeansParts-narrowed z region t p entry other base y e are within bytes related core m =
    let meant : MeansProduct p entry y = (reduced_sound (is_free_byte region) z.rules z.entered any_pairs t.state.core t.state.relations (Some p) (sym e) are).gives entry y within (any_read t.state.relations.pairs (peek y.storage) (bytes_small y.storage m.memory)) bytes core related in
    let cut : IsReduced t.state.core t.state.relations p = reduced_cuts z.rules z.entered any_pairs t.state.core t.state.relations (Some p) (sym e) in
    MeansParts-related p.relations (with_core t.state p.core) other base y
    (MeansParts-with_core t.state p.core other base y y m
    (core_narrowed z.rules z.entered any_pairs t.state.core t.state.relations p entry other y e cut meant.core m.core) refl refl refl (λ set. sym cut.core.stack_set ∙ set))

pub LeadsWidely-narrowed :
    (z : Setting) (region : Region) (w : Target) (t : Successor) (p : Product) (entry : Activation) (base : ℕ) (y : MState) → reduced z.rules z.entered any_pairs t.state.core t.state.relations ≡ Some p → ArePairs (is_free_byte region) t.state.relations.pairs
    → AreWithin z.entered (entered_with entry) → AreBytes y.processor.registers → AreRelated t.state.relations entry y → LeadsWidely z region w t entry base y → LeadsWidely z region w (with_product t p) entry base y
LeadsWidely-narrowed z region (target.At a) t p entry base y e are within bytes related h =
    record { means = MeansParts-narrowed z region t p entry entry base y e are within bytes related h.means.core h.means; goes = h.goes; room = h.room }
LeadsWidely-narrowed z region (target.Call a) t p entry base y e are within bytes related h =
    record {
      means = MeansParts-narrowed z region t p entry entry base y e are within bytes related h.means.core h.means;
      goes = h.goes;
      room = h.room;
      located = located-same t.state.summary.aside p.core.stack_set t.state.core.stack_set (reduced_cuts z.rules z.entered any_pairs t.state.core t.state.relations (Some p) (sym e)).core.stack_set h.located;
      next = h.next;
      top = h.top;
      placed = h.placed;
    }
LeadsWidely-narrowed z region target.Return t p entry base y e are within bytes related h =
    record { means = MeansParts-narrowed z region t p entry entry base y e are within bytes related h.means.core h.means; goes = h.goes; room = h.room; procedure = h.procedure }
LeadsWidely-narrowed z region (target.Main a) t p entry base y e are within bytes related h =
    record { means = λ other same. MeansParts-narrowed z region t p entry other (region.last + 1) y e are within bytes related (h.means entry refl).core (h.means other same); goes = h.goes; room = h.room }
LeadsWidely-narrowed z region target.Unknown t p entry base y e are within bytes related h = tt
LeadsWidely-narrowed z region target.Lost t p entry base y e are within bytes related h = tt

-- what is known together holds, where it is said where the machine is
related_narrowed :
    (z : Setting) (region : Region) (w : Target) (t : Successor) (p : Product) (entry : Activation) (base : ℕ) (y : MState) → reduced z.rules z.entered any_pairs t.state.core t.state.relations ≡ Some p → ArePairs (is_free_byte region) t.state.relations.pairs
    → AreWithin z.entered (entered_with entry) → AreBytes y.processor.registers → AreRelated t.state.relations entry y → LeadsWidely z region w t entry base y → is_followed Extended w ≡ true → AreRelated p.relations entry y
related_narrowed z region w t p entry base y e are within bytes related h followed = by w h followed
  where
    of_parts : {b : ℕ} → MeansParts t.state entry b y → AreRelated p.relations entry y
    of_parts m =
        let meant : MeansProduct p entry y = (reduced_sound (is_free_byte region) z.rules z.entered any_pairs t.state.core t.state.relations (Some p) (sym e) are).gives entry y within
        (any_read t.state.relations.pairs (peek y.storage) (bytes_small y.storage m.memory)) bytes m.core related in
        meant.related

    by : (v : Target) → LeadsWidely z region v t entry base y → is_followed Extended v ≡ true → AreRelated p.relations entry y
    by (target.At a) k f = of_parts k.means
    by (target.Call a) k f = of_parts k.means
    by target.Return k f = of_parts k.means
    by (target.Main a) k f = of_parts (k.means entry refl)
    by target.Unknown k f = cc
    by target.Lost k f = cc

pub Leads-narrowed :
    (z : Setting) (region : Region) (ranges : List Range) (t : Successor) (p : Product) (entry : Activation) (base : ℕ) (x y : MState) → z.rules ≡ Extended → reduced z.rules z.entered any_pairs t.state.core t.state.relations ≡ Some p
    → ArePairs (is_free_byte region) t.state.relations.pairs → AreWithin z.entered (entered_with entry) → AreBytes y.processor.registers → AreRelated t.state.relations entry y
    → LeadsWidely z region t.target t entry base y → ((b : ℕ) → IsKept z region ranges base b → peek y.storage b ≡ peek x.storage b)
    → LeadsRelated z region ranges (with_product t p) entry base x y
Leads-narrowed z region ranges t p entry base x y extended e are within bytes related to kept =
    record {
      to = to_widely z region t.target (with_product t p) entry base x y extended (LeadsWidely-narrowed z region t.target t p entry base y e are within bytes related to);
      kept = kept;
      related = λ followed. related_narrowed z region t.target t p entry base y e are within bytes related to (subst (λ r. is_followed r t.target ≡ true) extended followed);
    }

-- ---- what is known before

-- the states before, reduced
pub record Before (k : Stack) (program : Program) (s : AbsState) (entry : Activation) (x : MState) : Type 0 where
  pub product : Product
  pub is : product_before program k.setting.rules k.setting.entered s ≡ Some product
  pub means : MeansProduct product entry x
  pub cut : IsReduced (core_settle s.core) s.relations product

-- links read bytes within what is known of them
pub read_before :
    (program : Program) (s : AbsState) (entry : Activation) (base : ℕ) (x : MState) → entry.program ≡ program → Means s entry base x → AreReadIn s.relations.pairs (bytes_read program s) (peek x.storage)
read_before program s entry base x of m = subst (λ q. AreReadIn s.relations.pairs (bytes_read q s) (peek x.storage)) of (AreReadIn-means s entry base x m)

pub before_of :
    (k : Stack) (program : Program) (s : AbsState) (entry : Activation) (x : MState)
    → IsCore s.core → ArePairs (is_free_byte k.region) s.relations.pairs → AreWithin k.setting.entered (entered_with entry) → AreReadIn s.relations.pairs (bytes_read program s) (peek x.storage)
    → MeansCore (core_settle s.core) entry x → AreRelated s.relations entry x → Before k program s entry x
unfolding product_before
before_of k program s entry x core are within read m related =
    by (reduced k.setting.rules k.setting.entered (bytes_read program s) (core_settle s.core) s.relations) refl
    ((reduced_sound (is_free_byte k.region) k.setting.rules k.setting.entered (bytes_read program s) (core_settle s.core) s.relations _ refl are).gives entry x within read (AreBytes-core (core_settle s.core) entry x (IsCore-settle s.core core) m) m related)
    (reduced_cuts k.setting.rules k.setting.entered (bytes_read program s) (core_settle s.core) s.relations _ refl)
  where
    by : (o : Option Product) → reduced k.setting.rules k.setting.entered (bytes_read program s) (core_settle s.core) s.relations ≡ o → IsMeantProduct o entry x → IfSome o (IsReduced (core_settle s.core) s.relations) → Before k program s entry x
    by None e h cut = absurd h
    by (Some p) e h cut = record { product = p; is = e; means = h; cut = cut }

-- ---- the cell that a condition tells is known before

same_sp_bounds : (z : Setting) (cell : Option Cell) (s : AbsState) → sp_bounds z s ≡ sp_bounds z (with_cell_if z cell s)
unfolding sp_bounds with_cell_if
same_sp_bounds z None s = refl
same_sp_bounds z (Some c) s = refl

IsTold-cut : (b : Option Bounds) (cell : Option Cell) (r : AbsRead) → IsTold cell r → IsTold cell (cut_read b r)
IsTold-cut b None r h = tt
IsTold-cut b (Some c) (read.Byte span) h = absurd h
IsTold-cut b (Some c) read.Nothing h = tt
IsTold-cut b (Some c) read.Top h = tt
IsTold-cut b (Some c) (read.Word span) h = absurd h

same_word_by :
    (r : Rules) (z : Setting) (region : Region) (program : Program) (rom : List ℕ) (v : Values) (low : LowBits) (cell : Option Cell) (s : AbsState) (c : Core) (what : AbsRead) → IsTold cell what
    → word_by r z region program rom v low (with_core s c) what ≡ word_by r z region program rom v low (with_core (with_cell_if z cell s) c) what
unfolding with_cell_if
same_word_by r z region program rom v low None s c what h = refl
same_word_by r z region program rom v low (Some d) s c (read.Byte span) h = absurd h
same_word_by r z region program rom v low (Some d) s c (read.Word span) h = absurd h
same_word_by Simple z region program rom v low (Some d) s c what h = same_word z rom (Some d) s c what h
same_word_by Extended z region program rom v low (Some d) s c read.Top h = same_word z rom (Some d) s c read.Top h
same_word_by Extended z region program rom v low (Some d) s c read.Nothing h = same_word z rom (Some d) s c read.Nothing h

same_around : (k : Stack) (cell : Option Cell) (s : AbsState) (core : Core) → around_of k s core ≡ around_of k (with_cell_if k.setting cell s) core
unfolding around_of with_cell_if
same_around k None s core = refl
same_around k (Some c) s core = refl

same_marks : (k : Stack) (o : Op) (cell : Option Cell) (s : AbsState) (core : Core) → marks k o s core ≡ marks k o (with_cell_if k.setting cell s) core
unfolding marks with_cell_if
same_marks k o None s core = refl
same_marks k o (Some c) s core = refl

same_read : (k : Stack) (o : Op) (s : AbsState) (p : Product) (cell : Option Cell) → read_in k o s p ≡ read_in k o (with_cell_if k.setting cell s) p
unfolding with_cell_if
same_read k o s p None = refl
same_read k o s p (Some c) = refl

word_told :
    (k : Stack) (program : Program) (rom : List ℕ) (o : Op) (s : AbsState) (p : Product) (cell : Option Cell) → IsNoPop cell o → IsTold cell (read_of o p.core)
    → word_in k program rom o s p ≡ word_in k program rom o (with_cell_if k.setting cell s) p
word_told k program rom o s p cell unpopped told =
    same_word_by k.setting.rules k.setting k.region program rom (values_of p.core.registers p.relations.pairs) (pointed_bits (pointer_of o) p.core.registers) cell s p.core _
    (IsTold-around k.setting.rules s.summary.aside cell o _ unpopped (IsTold-cut (pointer_in k o p) cell (read_of o p.core) told))
    ∙ ap (word_by k.setting.rules k.setting k.region program rom (values_of p.core.registers p.relations.pairs) (pointed_bits (pointer_of o) p.core.registers) (with_core (with_cell_if k.setting cell s) p.core))
    (same_read k o s p cell)

effect_told :
    (k : Stack) (program : Program) (rom : List ℕ) (o : Op) (next : ℕ) (s : AbsState) (p : Product) (cell : Option Cell) → IsNoPop cell o → IsTold cell (read_of o p.core)
    → effect_in k program rom o next s p ≡ effect_in k program rom o next (with_cell_if k.setting cell s) p
unfolding effect_in
effect_told k program rom o next s p cell unpopped told =
    let z = k.setting in
    rw (word_told k program rom o s p cell unpopped told, same_sp z cell s, same_sp_bounds z cell s, same_marks k o cell s p.core) refl

move_told :
    (k : Stack) (program : Program) (rom : List ℕ) (row : Row) (next : ℕ) (s : AbsState) (p : Product) (cell : Option Cell) → IsNoPop cell row.op → IsTold cell (read_of row.op p.core)
    → taken_move k program rom row next s p ≡ taken_move k program rom row next (with_cell_if k.setting cell s) p
unfolding taken_move
move_told k program rom row next s p cell unpopped told = rw (effect_told k program rom row.op next s p cell unpopped told, same_around k cell s p.core) refl

parts_told :
    (k : Stack) (program : Program) (rom : List ℕ) (row : Row) (next : ℕ) (s : AbsState) (p : Product) (cell : Option Cell) → IsNoPop cell row.op → IsTold cell (read_of row.op p.core)
    → taken_parts k program rom row next s p cell ≡ taken_parts k program rom row next (with_cell_if k.setting cell s) p None
unfolding taken_parts moved_state with_cell_if
parts_told k program rom row next s p cell unpopped told =
    rw (effect_told k program rom row.op next s p cell unpopped told, word_told k program rom row.op s p cell unpopped told, same_around k cell s p.core, same_read k row.op s p cell) refl

relations_told :
    (k : Stack) (program : Program) (rom : List ℕ) (o : Op) (s : AbsState) (p : Product) (cell : Option Cell) → IsNoPop cell o → IsTold cell (read_of o p.core)
    → relations_behind k program rom o s p ≡ relations_behind k program rom o (with_cell_if k.setting cell s) p
unfolding relations_behind
relations_told k program rom o s p cell unpopped told =
    rw (word_told k program rom o s p cell unpopped told, same_sp_bounds k.setting cell s, told_items k.setting cell s) refl

no_such : false ≡ true → ⊥
no_such h = cc

-- ---- the move is the same on the side

-- of an instruction with a condition the move hangs on nothing that is known
same_conditional :
    (k : Stack) (g f : Around) (o : Op) (next : ℕ) (sp sp_side : Halves) (c d : Core) (low high v w : Val) (b e : Option Bounds) (i j : Option LowBits) → is_some (Flags.condition_of o) ≡ true
    → stack_move k g o (cut_write b i (transfer k.setting.is_whole o next sp c low high).write) b ≡ stack_move k f o (cut_write e j (transfer k.setting.is_whole o next sp_side d v w).write) e
unfolding stack_move transfer
same_conditional k g f (op.JumpRelativeIf condition e8) next sp sp_side c d low high v w b e i j h = refl
same_conditional k g f (op.JumpIf condition a) next sp sp_side c d low high v w b e i j h = refl
same_conditional k g f (op.CallIf condition a) next sp sp_side c d low high v w b e i j h = refl
same_conditional k g f (op.ReturnIf condition) next sp sp_side c d low high v w b e i j h = refl
same_conditional k g f o next sp sp_side c d low high v w b e i j h = absurd (no_such h)

no_marks : (k : Stack) (o : Op) (s : AbsState) (core : Core) → is_some (Flags.condition_of o) ≡ true → marks k o s core ≡ false
unfolding marks
no_marks k (op.JumpRelativeIf condition e8) s core h = refl
no_marks k (op.JumpIf condition a) s core h = refl
no_marks k (op.CallIf condition a) s core h = refl
no_marks k (op.ReturnIf condition) s core h = refl
no_marks k o s core h = absurd (no_such h)

taken_move_is :
    (k : Stack) (program : Program) (rom : List ℕ) (row : Row) (next : ℕ) (s : AbsState) (p : Product) → is_some (Flags.condition_of row.op) ≡ true
    → taken_move k program rom row next s p
    ≡ stack_move k (around_of k s p.core) row.op (cut_write (pointer_in k row.op p) (bits_in k row.op p) (transfer k.setting.is_whole row.op next (sp_halves k.setting s) p.core (word_in k program rom row.op s p).low (word_in k program rom row.op s p).high).write) (pointer_in k row.op p)
unfolding taken_move effect_in refined marked
taken_move_is k program rom row next s p h =
    let w = cut_write (pointer_in k row.op p) (bits_in k row.op p) (transfer k.setting.is_whole row.op next (sp_halves k.setting s) p.core (word_in k program rom row.op s p).low (word_in k program rom row.op s p).high).write in
    ap (λ b. stack_move k (around_of k s p.core) row.op (marked_write w b) (pointer_in k row.op p)) (no_marks k row.op s p.core h)
    ∙ ap (λ v. stack_move k (around_of k s p.core) row.op v (pointer_in k row.op p)) (marked_write_not w)

-- without a condition the side is what is known before
whole_side : (o : Op) (memory : Val) (core : Core) (r : Relations) (b : Branch) → taken_side o memory core r ≡ Some b → is_some (Flags.condition_of o) ≡ false → b ≡ record { core = core; relations = r; cell = None }
unfolding taken_side Flags.sides_of
whole_side o memory core r b e h = by (Flags.condition_of o) e h
  where
    same_branch : (c d : Branch) → Some c ≡ Some d → c ≡ d
    same_branch c d f = cc

    by : (k : Option Condition) → side_where k memory r (Flags.sides_by k core).taken ≡ Some b → is_some k ≡ false → b ≡ record { core = core; relations = r; cell = None }
    by None f g = sym (same_branch _ b f)
    by (Some k) f g = cc

same_move :
    (k : Stack) (program : Program) (rom : List ℕ) (row : Row) (next : ℕ) (s : AbsState) (p : Product) (b : Branch) → taken_side row.op (memory_before k program s p) p.core p.relations ≡ Some b
    → taken_move k program rom row next (with_cell_if k.setting (cell_outside k.region b.cell) s) (product_of b.core b.relations) ≡ taken_move k program rom row next s p
unfolding with_cell_if
same_move k program rom row next s p b e = choose (is_some (Flags.condition_of row.op)) refl
  where
    told : AbsState
    told = with_cell_if k.setting (cell_outside k.region b.cell) s

    q : Product
    q = product_of b.core b.relations

    choose : (t : Bool) → is_some (Flags.condition_of row.op) ≡ t → taken_move k program rom row next (with_cell_if k.setting (cell_outside k.region b.cell) s) (product_of b.core b.relations) ≡ taken_move k program rom row next s p
    choose true h =
        taken_move_is k program rom row next (with_cell_if k.setting (cell_outside k.region b.cell) s) (product_of b.core b.relations) h
        ∙ (same_conditional k (around_of k told b.core) (around_of k s p.core) row.op next (sp_halves k.setting told) (sp_halves k.setting s) b.core p.core (word_in k program rom row.op told q).low (word_in k program rom row.op told q).high (word_in k program rom row.op s p).low (word_in k program rom row.op s p).high
        (pointer_in k row.op q) (pointer_in k row.op p) (bits_in k row.op q) (bits_in k row.op p) h ∙ sym (taken_move_is k program rom row next s p h))
    choose false h =
        ap (λ (d : Branch). taken_move k program rom row next (with_cell_if k.setting (cell_outside k.region d.cell) s) (product_of d.core d.relations)) (whole_side row.op (memory_before k program s p) p.core p.relations b e h)

-- ---- the stack is ready on the side too

IsReady-told :
    (k : Stack) (o : Op) (m : StackMove) (cell : Option Cell) (s : AbsState) (base : ℕ) → IsReady k o m s base → IsReady k o m (with_cell_if k.setting cell s) base
unfolding with_cell_if
IsReady-told k o m None s base h = h
IsReady-told k o (move.Push w) (Some c) s base h = record { located = h.located; held = h.held; room = h.room }
IsReady-told k o (move.Append n) (Some c) s base h = record { located = h.located; held = h.held; room = h.room }
IsReady-told k o (move.Take n) (Some c) s base h = (λ e. let holds = h.0 e in record { located = holds.located; held = holds.held }, h.1)
IsReady-told k o move.Stay (Some c) s base h = h
IsReady-told k o (move.Aside b) (Some c) s base h = h
IsReady-told k o (move.Set n) (Some c) s base h = h
IsReady-told k o (move.Restart n) (Some c) s base h = h
IsReady-told k o move.Lost (Some c) s base h = h

some_of : {X : Type 0} (o : Option X) → is_some o ≡ true → (x : X) × (o ≡ Some x)
some_of (Some x) h = (x, refl)
some_of None h = cc

-- ---- executed

stack_ruled :
    (k : Stack) (program : Program) (rom : List ℕ) (row : Row) (a : ℕ) (s : AbsState) (base : ℕ) (p : Product) (t : Successor) → k.setting.rules ≡ Extended → product_before program k.setting.rules k.setting.entered s ≡ Some p
    → (successors_of k program rom row a s).taken ≡ Some t → IsRuled k program rom row a s base → IsReady k row.op (taken_move k program rom row (behind_row a row) s p) s base
stack_ruled k program rom row a s base p t e is way h =
    let ruled : IsStackRuled Extended k program rom row a s base = subst (λ r. IsStackRuled r k program rom row a s base) e h.stack in
    ruled (ap is_some way) p (subst (λ r. product_before program r k.setting.entered s ≡ Some p) e is)

-- as many are held as the move leaves
held_taken :
    (k : Stack) (program : Program) (rom : List ℕ) (row : Row) (a : ℕ) (s : AbsState) (t : Successor) (p : Product) → k.setting.rules ≡ Extended → product_before program k.setting.rules k.setting.entered s ≡ Some p
    → (successors_of k program rom row a s).taken ≡ Some t → length t.state.items ≡ bytes_moved (taken_move k program rom row (behind_row a row) s p) (length s.items) → IsHeld k.setting.rules k program rom row a s t
held_taken k program rom row a s t p e is way h =
    subst (λ r. IsHeld r k program rom row a s t) (sym e)
    (inr (
      way,
      λ q same.
          subst (λ (v : Product). length t.state.items ≡ bytes_moved (taken_move k program rom row (behind_row a row) s v) (length s.items)) (same_product p q (sym (subst (λ r. product_before program r k.setting.entered s ≡ Some p) e is) ∙ same)) h,
    ))
  where
    same_product : (p q : Product) → Some p ≡ Some q → p ≡ q
    same_product p q f = cc

held_as_before : (k : Stack) (program : Program) (rom : List ℕ) (row : Row) (a : ℕ) (s : AbsState) (t : Successor) → k.setting.rules ≡ Extended → length t.state.items ≡ length s.items → IsHeld k.setting.rules k program rom row a s t
held_as_before k program rom row a s t e h = subst (λ r. IsHeld r k program rom row a s t) (sym e) (inl h)

IsAllowed-with_product :
    (z : Setting) (rom : List ℕ) (region : Region) (ranges : List Range) (s : AbsState) (base : ℕ) (m : SummaryParts) (r : Relations) (p : Product) (t : Successor) → z.rules ≡ Extended
    → IsAllowed z rom region ranges s base (with_product (said_successor m (related_successor r t)) p) → IsAllowed z rom region ranges s base t
unfolding meets_closed meets_oam_transfer
IsAllowed-with_product z rom region ranges s base m r p t e h =
    let found : IsFound t.target = subst (λ q. IsStackFit q region t.target s (with_product (said_successor m (related_successor r t)) p) base) e h.stack in
    record { stores = h.stores; ram = h.ram; oam_transfer = h.oam_transfer; stack = subst (λ q. IsStackFit q region t.target s t base) (sym e) found }

-- what is against accesses asks nothing of what is told and of places
IsAllowed-settled :
    (k : Stack) (rom : List ℕ) (ranges : List Range) (s : AbsState) (base : ℕ) (o : Option Told) (core : Core) (t : Successor) → k.setting.rules ≡ Extended
    → IsAllowed k.setting rom k.region ranges s base (held_successor k (told_successor o core t)) → IsAllowed k.setting rom k.region ranges s base t
unfolding meets_closed meets_oam_transfer
IsAllowed-settled k rom ranges s base o core t e h =
    let found : IsFound t.target = subst (λ q. IsStackFit q k.region t.target s (held_successor k (told_successor o core t)) base) e h.stack in
    record { stores = h.stores; ram = h.ram; oam_transfer = h.oam_transfer; stack = subst (λ q. IsStackFit q k.region t.target s t base) (sym e) found }

pub taken_way :
    (k : Stack) (program : Program) (rom : List ℕ) (row : Row) (a : ℕ) (s : AbsState) (p : Product) (b : Branch) (t : Successor) → product_before program k.setting.rules k.setting.entered s ≡ Some p
    → taken_side row.op (memory_before k program s p) p.core p.relations ≡ Some b → taken_by_side k program rom row (behind_row a row) s b ≡ Some t
    → (successors_of k program rom row a s).taken ≡ Some t
unfolding successors_of
taken_way k program rom row a s p b t before side is =
    ap (option_and_then (taken_from k program rom row (behind_row a row) s)) before
    ∙ (ap (option_and_then (taken_by_side k program rom row (behind_row a row) s)) side ∙ is)

untaken_way :
    (k : Stack) (program : Program) (rom : List ℕ) (row : Row) (a : ℕ) (s : AbsState) (p : Product) (b : Branch) (t : Successor) → product_before program k.setting.rules k.setting.entered s ≡ Some p
    → not_taken_side row.op (memory_before k program s p) p.core p.relations ≡ Some b → not_taken_by_side k row (behind_row a row) s b ≡ Some t
    → (successors_of k program rom row a s).not_taken ≡ Some t
unfolding successors_of
untaken_way k program rom row a s p b t before side is =
    ap (option_and_then (not_taken_from k program row (behind_row a row) s)) before
    ∙ (ap (option_and_then (not_taken_by_side k row (behind_row a row) s)) side ∙ is)

pub reduced_way : (rules : Rules) (entered : PairBounds) (t : Successor) (p : Product) → reduced rules entered any_pairs t.state.core t.state.relations ≡ Some p → reduced_successor rules entered t ≡ Some (with_product t p)
unfolding reduced_successor
reduced_way rules entered t p e = ap (option_map (with_product t)) e

-- the successor by its parts
summary_told :
    (k : Stack) (program : Program) (o : Op) (s : AbsState) (p : Product) (m : StackMove) (what : AbsWrite) (cells : List Cell) (cell : Option Cell)
    → summary_by k.setting.rules k program o s p m what cells ≡ summary_by k.setting.rules k program o (with_cell_if k.setting cell s) p m what cells
unfolding with_cell_if sp_bounds summary_by
summary_told k program o s p m what cells None = refl
summary_told k program o s p m what cells (Some c) = by k.setting.rules
  where
    by : (r : Rules) → summary_by r k program o s p m what cells ≡ summary_by r k program o (record s { cells = with_cell (cell_room k.setting.rules) c s.cells }) p m what cells
    by Simple = refl
    by Extended = refl

taken_told :
    (k : Stack) (program : Program) (rom : List ℕ) (row : Row) (next : ℕ) (s : AbsState) (b : Branch) → IsNoPop b.cell row.op → IsTold b.cell (read_of row.op b.core)
    → taken_successor k program rom row next s b
    ≡ said_successor
    (summary_behind k program row.op (with_cell_if k.setting b.cell s) (product_of b.core b.relations) (taken_move k program rom row next (with_cell_if k.setting b.cell s) (product_of b.core b.relations))
    (taken_parts k program rom row next (with_cell_if k.setting b.cell s) (product_of b.core b.relations) None))
    (related_successor (relations_behind k program rom row.op (with_cell_if k.setting b.cell s) (product_of b.core b.relations)) (taken_parts k program rom row next (with_cell_if k.setting b.cell s) (product_of b.core b.relations) None))
unfolding taken_successor summary_behind
taken_told k program rom row next s b unpopped told =
    let p = product_of b.core b.relations in
    let after = with_cell_if k.setting b.cell s in
    let t = taken_parts k program rom row next after p None in
    let n = taken_move k program rom row next after p in
    ap (λ m. said_successor (summary_by k.setting.rules k program row.op s p m (taken_parts k program rom row next s p b.cell).write (taken_parts k program rom row next s p b.cell).state.cells)
    (related_successor (relations_behind k program rom row.op s p) (taken_parts k program rom row next s p b.cell))) (move_told k program rom row next s p b.cell unpopped told)
    ∙ (ap (λ (u : Successor). said_successor (summary_by k.setting.rules k program row.op s p n u.write u.state.cells) (related_successor (relations_behind k program rom row.op s p) u)) (parts_told k program rom row next s p b.cell unpopped told)
    ∙ (ap (λ r. said_successor (summary_by k.setting.rules k program row.op s p n t.write t.state.cells) (related_successor r t)) (relations_told k program rom row.op s p b.cell unpopped told)
    ∙ ap (λ m. said_successor m (related_successor (relations_behind k program rom row.op after p) t)) (summary_told k program row.op s p n t.write t.state.cells b.cell)))

-- the machine behind it
executed_at : (c : Situation) → IsTakenIn c → outside (executed (within c.rom c.machine) c.row c.reads) ≡ left_at c
executed_at c k = executed_is c.rom c.machine c.row c.reads ∙ ap (left_by c.rom c.machine (acted_at c)) (ap (λ b. cond b c.row.cycles c.row.cycles_not_taken) k.taken)

-- an instruction that is taken leads by the successor, reduced
Leads-at :
    (c : Situation) (p : Product) → IsTakenIn c → reduced c.stack.setting.rules c.stack.setting.entered any_pairs (parts_at c).state.core (related_at c) ≡ Some p → DoneAt c
    → LeadsRelated c.stack.setting c.stack.region c.ranges (with_product (related_successor (related_at c) (parts_at c)) p) c.entry c.base c.machine (left_at c)
Leads-at c p k e d =
    let r : Relations = related_at c in
    Leads-narrowed c.stack.setting c.stack.region c.ranges (related_successor r (parts_at c)) p c.entry c.base c.machine (left_at c) k.extended e (pairs_behind c k) k.stands.within
    (bytes_behind_it c (given_at c).low (given_at c).high k (given_by c k d.loads)) d.leaves.related
    (LeadsWidely-related c.stack.setting c.stack.region (parts_at c).target r (parts_at c) c.entry c.base (left_at c) d.to) d.leaves.kept

-- ---- a byte that a side tells of stays

-- an instruction with a condition stores nowhere but on the stack
conditional_stores : (o : Op) → is_some (Flags.condition_of o) ≡ true → stores o ≡ false
conditional_stores (op.JumpRelativeIf k e8) h = refl
conditional_stores (op.JumpIf k w) h = refl
conditional_stores (op.CallIf k w) h = refl
conditional_stores (op.ReturnIf k) h = refl
conditional_stores o h = absurd (no_such h)

outside_stays : (held : StackBytes) (w : Write) (memory after : ℕ → ℕ) → is_outside w ≡ true → WritesInTurn held w memory after → (a : ℕ) → is_place_at held a ≡ true → after a ≡ memory a
outside_stays held machine_write.Nothing memory after out w a place = w a
outside_stays held (machine_write.Push sp n) memory after out w a place = w a place
outside_stays held (machine_write.Byte b n) memory after out w a place = absurd (no_such out)
outside_stays held (machine_write.Word b n) memory after out w a place = absurd (no_such out)

byte_left : (c : Situation) → IsTakenIn c → DoneAt c → is_some (Flags.condition_of c.row.op) ≡ true → (a : ℕ) → is_place_at (held_at c) a ≡ true → peek (left_at c).storage a ≡ peek c.machine.storage a
byte_left c k d conditional a place =
    let ram : is_ram a ≡ true = placed-ram (held_at c) a place in
    passed_peek (stored_at c) c.row.cycles a
    ∙ (sym (ram_is (stored_at c).storage a ram)
    ∙ (outside_stays (held_at c) (acted_at c).write (ram_at c.machine.storage) (ram_at (stored_at c).storage)
    (effect_of-outside c.row.op (advanced c.machine.processor c.row) (given_at c).low (given_at c).high (conditional_stores c.row.op conditional)) d.leaves.in_turn a place
    ∙ ram_is c.machine.storage a ram))

-- without a condition a side tells of none
abbrev IsConditional : Option Cell → Op → Type 0
IsConditional None o = Unit {0}
IsConditional (Some d) o = is_some (Flags.condition_of o) ≡ true

side_conditional : (o : Op) (memory : Val) (core : Core) (r : Relations) (b : Branch) → taken_side o memory core r ≡ Some b → IsConditional b.cell o
side_conditional o memory core r b e = choose (is_some (Flags.condition_of o)) refl
  where
    some : (cell : Option Cell) → is_some (Flags.condition_of o) ≡ true → IsConditional cell o
    some None h = tt
    some (Some d) h = h

    choose : (t : Bool) → is_some (Flags.condition_of o) ≡ t → IsConditional b.cell o
    choose true h = some b.cell h
    choose false h = subst (λ (cell : Option Cell). IsConditional cell o) (sym (ap (λ (d : Branch). d.cell) (whole_side o memory core r b e h))) tt

cell_left :
    (c : Situation) → IsTakenIn c → DoneAt c → (cell : Option Cell) → IsConditional cell c.row.op → IfSome cell (λ d. is_place_at (held_at c) d.address ≡ true) → IfSome cell (λ d. HoldsCell c.entry (begun_at c) d)
    → IfSome cell (λ d. HoldsCell c.entry (left_at c) d)
cell_left c k done None conditional place h = tt
cell_left c k done (Some d) conditional place h = subst (λ n. Holds d.val c.entry n) (sym (byte_left c k done conditional d.address place)) h

taken_executes :
    (k : Stack) (rom : List ℕ) (row : Row) (a : ℕ) (s : AbsState) (ranges : List Range) (entry : Activation) (base : ℕ) (x : MState) (reads : List ℕ) (p : Product) (b : Branch)
    → k.setting.rules ≡ Extended → entry.mark ≡ address_below base k.mark → Stands k.setting rom k.region row a s entry base x → IsRuled k entry.program rom row a s base → x.processor.halt_mark ≡ false → slice_index reads 0 ≤ 255 → slice_index reads 1 ≤ 255
    → product_before entry.program k.setting.rules k.setting.entered s ≡ Some p → IsReduced (core_settle s.core) s.relations p → taken_side row.op (memory_before k entry.program s p) p.core p.relations ≡ Some b → MeansBranch b entry (begun row x)
    → (effect rom row x reads).is_taken ≡ true
    → Executes k entry.program rom ranges row a s (successors_of k entry.program rom row a s) entry base x reads
taken_executes k rom row a s ranges entry base x reads p b extended marked stands ruled mark byte second before cut side meant taken =
    let is : IsSideOf (memory_before k entry.program s p) p.core p.relations b = side_facts _ b (memory_before k entry.program s p) p.core p.relations side (taken_side_cuts row.op (memory_before k entry.program s p) p.core p.relations _ refl) in
    let o : Branch = branch_outside k.region b in
    let told : AbsState = with_cell_if k.setting o.cell s in
    let place : IsBytePlaced (stack_held k.setting k.region (length s.items)) p.relations.byte.address = subst (λ (q : OneByte). IsBytePlaced (stack_held k.setting k.region (length s.items)) q.address) (sym cut.relations.byte) stands.place in
    let cell : IfSome o.cell (IsToldCell k.region entry x) =
    IsToldCell-side k.setting k.region (length s.items) (memory_before k entry.program s p) p.core p.relations b entry x place (IsVal-memory_before k entry.program s p stands.items stands.vals) is meant.cell in
    let c : Situation = record {
      stack = k;
      rom = rom;
      ranges = ranges;
      row = row;
      address = a;
      state = told;
      product = product_of b.core b.relations;
      entry = entry;
      base = base;
      machine = x;
      reads = reads;
    } in
    let same : move_at c ≡ taken_move k entry.program rom row (behind_row a row) s p = same_move k entry.program rom row (behind_row a row) s p b side in
    let m : SummaryParts = summary_behind k entry.program row.op told (product_of b.core b.relations) (move_at c) (parts_at c) in
    let inner : Product → Successor = λ q. with_product (said_successor m (related_successor (related_at c) (parts_at c))) q in
    let settled : Product → Successor = λ q. held_successor k (told_successor (told_by Extended k b.cell) s.core (inner q)) in
    let parts_are : taken_successor k entry.program rom row (behind_row a row) s o ≡ said_successor m (related_successor (related_at c) (parts_at c)) =
    taken_told k entry.program rom row (behind_row a row) s o
    (IsNoPop-outside k.region b.cell row.op (IsNoPop-taken row.op (memory_before k entry.program s p) p.core p.relations b side))
    (IsTold-outside k.region b.cell (read_of row.op b.core) (IsTold-taken row.op (memory_before k entry.program s p) p.core b.core p.relations b side)) in
    let way : (q : Product) → reduced k.setting.rules k.setting.entered any_pairs (parts_at c).state.core (related_at c) ≡ Some q → (successors_of k entry.program rom row a s).taken ≡ Some (settled q) =
    λ q e.
    taken_way k entry.program rom row a s p b (settled q) before side
    (settled_is k b.cell s.core (taken_successor k entry.program rom row (behind_row a row) s o) (inner q) extended
    (ap (reduced_successor k.setting.rules k.setting.entered) parts_are ∙ reduced_way k.setting.rules k.setting.entered (said_successor m (related_successor (related_at c) (parts_at c))) q e)
    (ap (λ (t : Successor). t.target) parts_are)) in
    let t : IsTakenIn c = record {
      stands = Stands-told k.setting rom k.region row a o.cell s entry base x cell stands;
      extended = extended;
      operands = ruled.operands;
      runs = ruled.runs;
      marked = marked;
      ready = λ meant.
          let some = some_of (reduced k.setting.rules k.setting.entered any_pairs (parts_at c).state.core (related_at c)) meant in
          subst (λ m. IsReady k row.op m told base) (sym same)
          (IsReady-told k row.op _ o.cell s base (stack_ruled k entry.program rom row a s base p (settled some.0) extended before (way some.0 some.1) ruled));
      mark = mark;
      byte = byte;
      second = second;
      keeps = subst (λ d. Keeps d b.core) (sym (told_core k.setting o.cell s))
          (Keeps-both s.core p.core b.core (Keeps-both s.core (core_settle s.core) p.core (Keeps-settle s.core) (Keeps-cut (core_settle s.core) p.core cut.core)) (Keeps-cut p.core b.core is.core));
      means = meant.core;
      related = meant.related;
      core = is.inhabited (cut.inhabited (IsCore-settle s.core stands.core));
      pairs = is.relations.pairs (is_free_byte k.region) (cut.relations.pairs (is_free_byte k.region) stands.pairs);
      place = subst (λ items. IsBytePlaced (stack_held k.setting k.region (length items)) b.relations.byte.address) (sym (told_items k.setting o.cell s))
          (subst (λ (q : OneByte). IsBytePlaced (stack_held k.setting k.region (length s.items)) q.address) (sym (is.relations.byte ∙ cut.relations.byte)) stands.place);
      taken = taken;
    } in
    let some = possible c t in
    let related : Successor = with_product (related_successor (related_at c) (parts_at c)) some.product in
    let successor : Successor = settled some.product in
    let allowed_at : IsAllowed k.setting rom k.region ranges s base successor → IsAllowedAt c =
    λ allowed. IsAllowed-told k.setting rom k.region ranges o.cell s base (parts_at c)
    (IsAllowed-with_product k.setting rom k.region ranges s base m (related_at c) some.product (parts_at c) extended
    (IsAllowed-settled k rom ranges s base (told_by Extended k b.cell) s.core (inner some.product) extended allowed)) in
    let done : IsAllowed k.setting rom k.region ranges s base successor → DoneAt c = λ allowed. done_at c t (allowed_at allowed) in
    record {
      successor = successor;
      is_one = inl (way some.product some.is);
      mark = executed_mark rom x row reads;
      held = λ allowed. held_taken k entry.program rom row a s successor p extended before (way some.product some.is)
          (settled_count k (told_by Extended k b.cell) s.core (inner some.product)
          ∙ subst (λ m. length (parts_at c).state.items ≡ bytes_moved m (length s.items)) same
          (subst (λ items. length (parts_at c).state.items ≡ bytes_moved (move_at c) (length items)) (told_items k.setting o.cell s) (done allowed).bytes));
      leads = λ allowed. subst (λ y. Leads k.setting k.region ranges successor entry base x y) (sym (executed_at c t))
          (Leads-settled k ranges (told_by Extended k b.cell) s.core (inner some.product) entry base x (left_at c)
          (record { extended = extended; based = stands.based; is_region = stands.is_region })
          (told_right k b.cell entry (left_at c)
          (cell_left c t (done allowed) b.cell (side_conditional row.op (memory_before k entry.program s p) p.core p.relations b side)
          (subst (λ items. IfSome b.cell (λ d. is_place_at (stack_held k.setting k.region (length items)) d.address ≡ true)) (sym (told_items k.setting o.cell s))
          (side_placed (stack_held k.setting k.region (length s.items)) (memory_before k entry.program s p) p.core p.relations b place is)) meant.cell))
          (Leads-said k.setting k.region ranges m related entry base x (left_at c) (said_aside c t) (Leads-at c some.product t some.is (done allowed))
          (said_holds c t (allowed_at allowed) (done allowed))));
      faults = λ allowed. (done allowed).leaves.faults;
    }

IsCore-untaken : (row : Row) (next : ℕ) (s : AbsState) (c : Core) (r : Relations) → IsCore c → IsCore (simple_untaken row next s c r).state.core
unfolding ended
IsCore-untaken row next s c r h = IsCore-ended false row.cycles_not_taken c h

untaken_items : (row : Row) (next : ℕ) (s : AbsState) (c : Core) (r : Relations) → (simple_untaken row next s c r).state.items ≡ s.items
unfolding ended
untaken_items row next s c r = refl

followed_at : (r : Rules) (a : ℕ) → is_followed r (target.At a) ≡ true
followed_at Simple a = refl
followed_at Extended a = refl

cell_stays :
    (cell : Option Cell) (entry : Activation) (x y : MState) → ((b : ℕ) → peek y.storage b ≡ peek x.storage b) → IfSome cell (λ d. HoldsCell entry x d) → IfSome cell (λ d. HoldsCell entry y d)
cell_stays None entry x y same h = tt
cell_stays (Some d) entry x y same h = subst (λ n. Holds d.val entry n) (sym (same d.address)) h

-- it isn't taken
untaken_leads :
    (k : Stack) (program : Program) (rom : List ℕ) (row : Row) (a : ℕ) (s : AbsState) (ranges : List Range) (entry : Activation) (base : ℕ) (x : MState) (reads : List ℕ) (p : Product) (b : Branch)
    → k.setting.rules ≡ Extended → Stands k.setting rom k.region row a s entry base x → IsRuled k program rom row a s base → x.processor.halt_mark ≡ false
    → product_before program k.setting.rules k.setting.entered s ≡ Some p → IsReduced (core_settle s.core) s.relations p → not_taken_side row.op (memory_before k program s p) p.core p.relations ≡ Some b → MeansBranch b entry (begun row x)
    → (effect rom row x reads).is_taken ≡ false
    → Executes k program rom ranges row a s (successors_of k program rom row a s) entry base x reads
untaken_leads k program rom row a s ranges entry base x reads p b extended stands ruled mark before cut side meant not_taken =
    let y : MState = outside (executed (within rom x) row reads) in
    let is : IsSideOf (memory_before k program s p) p.core p.relations b = side_facts _ b (memory_before k program s p) p.core p.relations side (not_taken_side_cuts row.op (memory_before k program s p) p.core p.relations _ refl) in
    let o : Branch = branch_outside k.region b in
    let told : AbsState = with_cell_if k.setting o.cell s in
    let place : IsBytePlaced (stack_held k.setting k.region (length s.items)) p.relations.byte.address = subst (λ (q : OneByte). IsBytePlaced (stack_held k.setting k.region (length s.items)) q.address) (sym cut.relations.byte) stands.place in
    let cell : IfSome o.cell (IsToldCell k.region entry x) =
    IsToldCell-side k.setting k.region (length s.items) (memory_before k program s p) p.core p.relations b entry x place (IsVal-memory_before k program s p stands.items stands.vals) is meant.cell in
    let keeps : Keeps told.core b.core = subst (λ d. Keeps d b.core) (sym (told_core k.setting o.cell s))
    (Keeps-both s.core p.core b.core (Keeps-both s.core (core_settle s.core) p.core (Keeps-settle s.core) (Keeps-cut (core_settle s.core) p.core cut.core)) (Keeps-cut p.core b.core is.core)) in
    let are : ArePairs (is_free_byte k.region) b.relations.pairs = is.relations.pairs (is_free_byte k.region) (cut.relations.pairs (is_free_byte k.region) stands.pairs) in
    let t : Successor = simple_untaken row (behind_row a row) told b.core b.relations in
    let core : IsCore b.core = is.inhabited (cut.inhabited (IsCore-settle s.core stands.core)) in
    let done = untaken_executes k.setting rom k.region ranges row a told entry base x reads b.core b.relations (Stands-told k.setting rom k.region row a o.cell s entry base x cell stands) ruled.runs mark keeps meant.core meant.related not_taken in
    let to : LeadsWidely k.setting k.region (target.At (behind_row a row)) t entry base y = from_widely k.setting k.region (target.At (behind_row a row)) t entry base x y extended done.0.to in
    let related : AreRelated b.relations entry y = done.0.related (followed_at k.setting.rules (behind_row a row)) in
    let bytes : AreBytes y.processor.registers = AreBytes-core t.state.core entry y (IsCore-untaken row (behind_row a row) told b.core b.relations core) to.means.core in
    let some = some_reduced (is_free_byte k.region) k.setting.rules k.setting.entered t.state.core b.relations (beside entry y) y.processor.registers are stands.within (bytes_small y.storage to.means.memory) bytes (Holds-values t.state.core b.relations entry y to.means.core related) in
    let inner : Successor = with_product t some.product in
    record {
      successor = held_successor k (told_successor (told_by Extended k b.cell) s.core inner);
      is_one = inr (inl (untaken_way k program rom row a s p b (held_successor k (told_successor (told_by Extended k b.cell) s.core inner)) before side
          (settled_is k b.cell s.core (untaken_successor k row (behind_row a row) s o) inner extended
          (ap (reduced_successor k.setting.rules k.setting.entered) (untaken_simply k row (behind_row a row) s o) ∙ reduced_way k.setting.rules k.setting.entered t some.product some.is)
          (ap (λ (u : Successor). u.target) (untaken_simply k row (behind_row a row) s o)))));
      mark = executed_mark rom x row reads;
      held = λ allowed. held_as_before k program rom row a s (held_successor k (told_successor (told_by Extended k b.cell) s.core inner)) extended
          (settled_count k (told_by Extended k b.cell) s.core inner
          ∙ ap length (untaken_items row (behind_row a row) told b.core b.relations ∙ told_items k.setting o.cell s));
      leads = λ allowed. Leads-settled k ranges (told_by Extended k b.cell) s.core inner entry base x y
          (record { extended = extended; based = stands.based; is_region = stands.is_region })
          (told_right k b.cell entry y (cell_stays b.cell entry (begun row x) y done.3 meant.cell))
          (Leads-summarized k.setting k.region ranges inner entry base x y
          (Leads-narrowed k.setting k.region ranges t some.product entry base x y extended some.is are stands.within bytes related to done.0.kept) done.1);
      faults = λ allowed. done.2;
    }

pub executes_widely :
    (k : Stack) (program : Program) (rom : List ℕ) (row : Row) (a : ℕ) (s : AbsState) (ranges : List Range) (entry : Activation) (base : ℕ) (x : MState) (reads : List ℕ)
    → k.setting.rules ≡ Extended → entry.program ≡ program → entry.mark ≡ address_below base k.mark → Stands k.setting rom k.region row a s entry base x → IsRuled k program rom row a s base → x.processor.halt_mark ≡ false → slice_index reads 0 ≤ 255 → slice_index reads 1 ≤ 255
    → Executes k program rom ranges row a s (successors_of k program rom row a s) entry base x reads
executes_widely k program rom row a s ranges entry base x reads extended of marked stands ruled mark byte second =
    let before = before_of k program s entry (begun row x) stands.core stands.pairs stands.within (read_before program s entry base x of stands.means) (begun_core row x s.core entry stands.means.parts.core) (related_begun row x s.relations entry stands.means.related) in
    by_flags before (effect rom row x reads).is_taken refl
  where
    known : (b : Before k program s entry (begun row x)) → IsKnown (memory_before k program s b.product) b.product.relations entry (begun row x)
    known b = record {
      byte = held_before k s b.product entry base x program of stands.based stands.means.parts stands.means.summary (values_begun row x (values_of b.product.core.registers b.product.relations.pairs) (beside entry x) (Holds-values b.product.core b.product.relations entry (begun row x) b.means.core b.means.related));
      related = b.means.related;
    }

    by_taken : (b : Before k program s entry (begun row x)) (o : Option Branch) → taken_side row.op (memory_before k program s b.product) b.product.core b.product.relations ≡ o → (effect rom row x reads).is_taken ≡ true → IsMeantBranch o entry (begun row x)
        → Executes k program rom ranges row a s (successors_of k program rom row a s) entry base x reads
    by_taken b None e taken h = absurd h
    by_taken b (Some side) e taken h =
        subst (λ q. Executes k q rom ranges row a s (successors_of k q rom row a s) entry base x reads) of
        (taken_executes k rom row a s ranges entry base x reads b.product side extended marked stands (subst (λ q. IsRuled k q rom row a s base) (sym of) ruled) mark byte second
        (subst (λ q. product_before q k.setting.rules k.setting.entered s ≡ Some b.product) (sym of) b.is) b.cut
        (subst (λ q. taken_side row.op (memory_before k q s b.product) b.product.core b.product.relations ≡ Some side) (sym of) e) h taken)

    by_not_taken : (b : Before k program s entry (begun row x)) (o : Option Branch) → not_taken_side row.op (memory_before k program s b.product) b.product.core b.product.relations ≡ o → (effect rom row x reads).is_taken ≡ false → IsMeantBranch o entry (begun row x)
        → Executes k program rom ranges row a s (successors_of k program rom row a s) entry base x reads
    by_not_taken b None e not_taken h = absurd h
    by_not_taken b (Some side) e not_taken h = untaken_leads k program rom row a s ranges entry base x reads b.product side extended stands ruled mark b.is b.cut e h not_taken

    by_flags : (b : Before k program s entry (begun row x)) (t : Bool) → (effect rom row x reads).is_taken ≡ t → Executes k program rom ranges row a s (successors_of k program rom row a s) entry base x reads
    by_flags b true e =
        by_taken b _ refl e
        ((taken_side_sound (is_free_byte k.region) row.op (memory_before k program s b.product) b.product.core b.product.relations _ refl (b.cut.relations.pairs (is_free_byte k.region) stands.pairs)).gives entry (begun row x) (given rom row x reads).low (given rom row x reads).high (known b) b.means.core e)
    by_flags b false e =
        by_not_taken b _ refl e
        ((not_taken_side_sound (is_free_byte k.region) row.op (memory_before k program s b.product) b.product.core b.product.relations _ refl (b.cut.relations.pairs (is_free_byte k.region) stands.pairs)).gives entry (begun row x) (given rom row x reads).low (given rom row x reads).high (known b) b.means.core e)
