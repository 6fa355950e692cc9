-- What a condition tells of a byte of memory is known of the states before the instruction too.
use Rattle.std.proofs.Common.{◌≡◌, ℕ, zero, suc, ◌-◌, Bool, true, false, not, cond, ◌&&◌, ◌||◌, ◌⊎◌, inl, inr, nat_le, nat_lt, List, [], ◌∷◌, length, slice_get, Option, Some, None, refl, sym, subst, arith}
use Rattle.std.specs.Prelude.{IfSome, is_some}
use Rattle.std.specs.List.{AllByRecursion, filter, list_any}
use Rattle.gb_ops.specs.declared.machine.Region.{Region}
use Rattle.gb_ops.specs.declared.op.Condition.{Condition}
use Rattle.gb_ops.specs.declared.op.Op.{Op}
use Rattle.gb_ops.specs.declared.op.Op.TheVariants as op
use Rattle.gb_ops.specs.declared.op.Row.{Row}
use Rattle.gb_ops.specs.Play.{MState}
use Rattle.gb_domain.specs.declared.relations.Relations.{Relations}
use Rattle.gb_domain.specs.declared.rules.Rules.{Rules}
use Rattle.gb_domain.specs.declared.rules.Rules.TheVariants.{Simple, Extended}
use Rattle.gb_domain.specs.declared.setting.Setting.{Setting}
use Rattle.gb_domain.specs.declared.types.Cell.{Cell}
use Rattle.gb_domain.specs.declared.types.Core.{Core}
use Rattle.gb_domain.specs.declared.types.Range.{Range}
use Rattle.std.proofs.lemmas.Bool.{and_parts}
use Rattle.gb_domain.specs.Areas.{IsRegion, are_in_ram, meets, is_item, is_place_at}
use Rattle.gb_domain.specs.Settings.{IsBase}
use Rattle.gb_domain.specs.Limits.{cell_room}
use Rattle.gb_domain.specs.Rules.{IsVal}
use Rattle.gb_domain.specs.Types.{AbsState}
use Rattle.gb_product.specs.Below.gb_abs.Cells.{is_below, is_above, is_at, entered, with_cell, IsPlaced, ArePlaced}
use Rattle.gb_product.specs.Below.gb_abs.Meaning.{Activation, MeansParts, Holds}
use Rattle.gb_product.specs.Below.gb_abs.Operations.{with_core}
use Rattle.gb_product.specs.Below.gb_abs.Stack.{AreInRegion}
use Rattle.gb_product.specs.Below.gb_abs.Storage.{peek}
use Rattle.gb_product.proofs.Below.gb_abs_laws.CellLaws.{AllByRecursion-where, AllByRecursion-append, ArePlaced-with_cell}
use Rattle.gb_product.proofs.Below.gb_abs_laws.StorageLaws.{MeansParts-with_cell}
use Rattle.gb_product.specs.Below.gb_abs_effects.declared.reads.AbsRead.{AbsRead}
use Rattle.gb_product.specs.Below.gb_abs_effects.declared.reads.AbsRead.TheVariants as read
use Rattle.gb_product.specs.Below.gb_abs_effects.declared.targets.Target.{Target}
use Rattle.gb_product.specs.Below.gb_abs_effects.declared.targets.Target.TheVariants as target
use Rattle.gb_product.specs.Below.gb_abs_effects.Accesses.{read_of}
use Rattle.gb_product.specs.Below.gb_abs_effects.Sides as Flags
use Rattle.gb_abs_memory.specs.Sound.{AreVals}
use Rattle.gb_product.specs.declared.parts.Branch.{Branch}
use Rattle.gb_product.specs.Below.gb_relations.Sound.{IsBytePlaced}
use Rattle.gb_product.specs.Below.gb_relations.Places.{is_free}
use Rattle.gb_product.specs.Held.{stack_held}
use Rattle.gb_abs_memory.specs.Access.{item_or}
use Rattle.gb_successors.specs.declared.stacks.Stack.{Stack}
use Rattle.gb_successors.specs.Settled.{cell_outside}
use Rattle.gb_product.specs.Sides.{side_where, taken_side, memory_of}
use Rattle.gb_product.specs.Sound.{HoldsCell, IsSideOf}
use Rattle.gb_product.proofs.SideLaws.{IsPlaced-free, side_placed}
use Rattle.gb_product.proofs.Below.gb_abs_laws.LocatedLaws.{IsSoundItem-item_at}
use Rattle.gb_product.specs.Below.gb_abs.Located.{stack_base, item_by, item_at}
use Rattle.gb_product.proofs.SummaryLaws.{has_cells_with_cell, HoldSummary-with_cells}
use Rattle.gb_domain.specs.declared.pairs.Bounds.{Bounds}
use Rattle.gb_product.specs.Below.gb_abs_effects.Targets.{is_pop}
use Rattle.gb_successors.specs.Behind.{with_cell_if}
use Rattle.gb_successors.specs.Sound.{IsStackKnown, IsStackFit, IsAllowed, Stands}
use Rattle.gb_successors.specs.Way.{Successor}
use Rattle.gb_successors.specs.Refined.{read_around}
use Rattle.gb_successors.proofs.SimpleLaws.{IsTold}
use Rattle.gb_successors.specs.Successors.{item_of, memory_before}
use Rattle.gb_product.proofs.ByteLaws.{IsVal-byte_in}
use Rattle.gb_abs_memory.proofs.LoadLaws.{IsVal-cell}
use Rattle.gb_product.specs.Below.gb_pairs.Meaning.{Holds as HoldValues}
use Rattle.gb_product.proofs.CoveringLaws.{Holds-byte_in_state}
use Rattle.gb_domain.specs.declared.types.Val.{Val}
use Rattle.gb_product.specs.Below.gb_pairs.declared.values.Values.{Values}
use Rattle.gb_product.specs.Below.gb_relations.Transfer.{values_of}
use Rattle.gb_product.specs.declared.parts.Product.{Product}
use Rattle.gb_product.specs.Meaning.{beside, IsSummarized}
use Rattle.gb_domain.specs.Summaries.{Program}

-- ---- cells alone change

pub told_core : (z : Setting) (cell : Option Cell) (s : AbsState) → (with_cell_if z cell s).core ≡ s.core
unfolding with_cell_if
told_core z None s = refl
told_core z (Some c) s = refl

pub told_items : (z : Setting) (cell : Option Cell) (s : AbsState) → (with_cell_if z cell s).items ≡ s.items
unfolding with_cell_if
told_items z None s = refl
told_items z (Some c) s = refl

pub told_with_core : (z : Setting) (cell : Option Cell) (s : AbsState) (core : Core) → with_cell_if z cell (with_core s core) ≡ with_core (with_cell_if z cell s) core
unfolding with_cell_if
told_with_core z None s core = refl
told_with_core z (Some c) s core = refl

-- ---- the cell

-- it lies where a cell may, and what is said of its byte is right
pub record IsToldCell (region : Region) (entry : Activation) (x : MState) (c : Cell) : Type 0 where
  pub placed : IsPlaced region c
  pub val : IsVal c.val
  pub holds : HoldsCell entry x c

IsToldCell-outside :
    (z : Setting) (region : Region) (n : ℕ) (entry : Activation) (x : MState) (cell : Option Cell)
    → IfSome cell (λ c. is_place_at (stack_held z region n) c.address ≡ true) → IfSome cell (λ c. IsVal c.val) → IfSome cell (λ c. HoldsCell entry x c)
    → IfSome (cell_outside region cell) (IsToldCell region entry x)
unfolding stack_held
IsToldCell-outside z region n entry x None p v h = tt
IsToldCell-outside z region n entry x (Some c) p v h = choose (meets region c.address c.address) refl
  where
    free : meets region c.address c.address ≡ false → is_free region c.address ≡ true
    free e =
        let parts = and_parts (nat_le c.address c.address && are_in_ram c.address c.address) (not (meets region c.address c.address) || is_item (cond z.is_whole z.base 0) n c.address) p in
        let ram = and_parts (nat_le c.address c.address) (are_in_ram c.address c.address) parts.0 in
        simp (ram.1, e)

    choose : (b : Bool) → meets region c.address c.address ≡ b → IfSome (cond b None (Some c)) (IsToldCell region entry x)
    choose true e = tt
    choose false e = record { placed = IsPlaced-free region c (free e); val = v; holds = h }

-- that of a side
pub IsToldCell-side :
    (z : Setting) (region : Region) (n : ℕ) (memory : Val) (core : Core) (r : Relations) (b : Branch) (entry : Activation) (x : MState)
    → IsBytePlaced (stack_held z region n) r.byte.address → IsVal memory → IsSideOf memory core r b → IfSome b.cell (λ c. HoldsCell entry x c)
    → IfSome (cell_outside region b.cell) (IsToldCell region entry x)
IsToldCell-side z region n memory core r b entry x place val is h =
    IsToldCell-outside z region n entry x b.cell (side_placed (stack_held z region n) memory core r b place is) (is.val val) h

-- ---- the byte at the address among the places

IsVal-item : (o : Option Val) (v : Val) → IfSome o IsVal → IsVal v → IsVal (item_or o v)
IsVal-item None v h k = k
IsVal-item (Some i) v h k = h

IsVal-in : (items : List Val) (i : ℕ) → AllByRecursion IsVal items → IfSome (slice_get items i) IsVal
IsVal-in [] i h = tt
IsVal-in (v ∷ items) zero h = h.0
IsVal-in (v ∷ items) (suc i) h = IsVal-in items i h.1

IsVal-item_of : (z : Setting) (s : AbsState) (o : Option ℕ) → AllByRecursion IsVal s.items → IfSome (item_of z s o) IsVal
unfolding item_at
IsVal-item_of z s None h = tt
IsVal-item_of z s (Some a) h = by z.is_whole (stack_base z s.core)
  where
    below : (b : ℕ) (is : Bool) → IfSome (cond is (slice_get s.items (b - 1 - a)) None) IsVal
    below b true = IsVal-in s.items (b - 1 - a) h
    below b false = tt

    by : (w : Bool) (base : Option ℕ) → IfSome (cond w (item_by base s.items a) None) IsVal
    by false base = tt
    by true None = tt
    by true (Some b) = below b (nat_lt a b)

pub IsVal-memory_before : (k : Stack) (program : Program) (s : AbsState) (p : Product) → AllByRecursion IsVal s.items → AreVals s.cells → IsVal (memory_before k program s p)
IsVal-memory_before k program s p items vals =
    IsVal-item (item_of k.setting s p.relations.byte.address) _ (IsVal-item_of k.setting s p.relations.byte.address items) (by p.relations.byte.address)
  where
    v : Values
    v = values_of p.core.registers p.relations.pairs

    by : (o : Option ℕ) → IsVal (memory_of program v s.cells s.summary o)
    by None = record { order = omega arith; hi = omega arith; strided = refl }
    by (Some a) = IsVal-byte_in program v s.cells s.summary a (IsVal-cell s.cells a vals)

Holds-item :
    (z : Setting) (s : AbsState) (a : ℕ) (v : Val) (entry : Activation) (base : ℕ) (x : MState)
    → IsBase z base → MeansParts s entry base x → Holds v entry (peek x.storage a) → Holds (item_or (item_of z s (Some a)) v) entry (peek x.storage a)
Holds-item z s a v entry base x right m h = choose z.is_whole (item_at z s a) refl
  where
    choose : (w : Bool) (o : Option Val) → item_at z s a ≡ o → Holds (item_or (cond w o None) v) entry (peek x.storage a)
    choose false o e = h
    choose true None e = h
    choose true (Some i) e = (IsSoundItem-item_at z s a i e).gives entry base x right m

pub held_before :
    (k : Stack) (s : AbsState) (p : Product) (entry : Activation) (base : ℕ) (x : MState) (program : Program)
    → entry.program ≡ program → IsBase k.setting base → MeansParts s entry base x → IsSummarized s entry x → HoldValues (values_of p.core.registers p.relations.pairs) (beside entry x) x.processor.registers
    → (a : ℕ) → p.relations.byte.address ≡ Some a → Holds (memory_before k program s p) entry (peek x.storage a)
held_before k s p entry base x program of right means said values a e =
    let v = values_of p.core.registers p.relations.pairs in
    subst (λ q. Holds (memory_before k q s p) entry (peek x.storage a)) of
    (subst (λ o. Holds (item_or (item_of k.setting s o) (memory_of entry.program v s.cells s.summary o)) entry (peek x.storage a)) (sym e)
    (Holds-item k.setting s a _ entry base x right means (Holds-byte_in_state v s a entry base x means said values)))

pub AllByRecursion-with_cell : (P : Cell → Type 0) (room : ℕ) (c : Cell) (cells : List Cell) → P c → AllByRecursion P cells → AllByRecursion P (with_cell room c cells)
unfolding with_cell entered
AllByRecursion-with_cell P room c cells p h = choose (list_any (is_at c.address) cells || nat_lt (length cells) room)
  where
    choose : (b : Bool) → AllByRecursion P (cond b (entered c cells) cells)
    choose true =
        AllByRecursion-append P (filter (is_below c.address) cells) (c ∷ filter (is_above c.address) cells)
        (AllByRecursion-where P P P (is_below c.address) (λ d e q k. q) cells h h) (p, AllByRecursion-where P P P (is_above c.address) (λ d e q k. q) cells h h)
    choose false = h

-- ---- where the machine stands

MeansParts-told :
    (region : Region) (room : ℕ) (c : Cell) (s : AbsState) (entry : Activation) (base : ℕ) (x : MState) → IsToldCell region entry x c
    → ArePlaced region s.cells → AreInRegion region base (length s.items) → IsRegion region → MeansParts s entry base x
    → MeansParts (record s { cells = with_cell room c s.cells }) entry base x
MeansParts-told region room c s entry base x told placed room_left is m =
    MeansParts-with_cell region room s entry base x x.storage c.address (peek x.storage c.address) c.val m
    (record { memory = m.memory; banks = refl; ie = refl; count = refl; byte = refl; others = λ b r e. refl })
    told.holds told.placed placed room_left is

pub Stands-told :
    (z : Setting) (rom : List ℕ) (region : Region) (row : Row) (a : ℕ) (cell : Option Cell) (s : AbsState) (entry : Activation) (base : ℕ) (x : MState)
    → IfSome cell (IsToldCell region entry x) → Stands z rom region row a s entry base x → Stands z rom region row a (with_cell_if z cell s) entry base x
unfolding with_cell_if
Stands-told z rom region row a None s entry base x told h = h
Stands-told z rom region row a (Some c) s entry base x told h =
    record {
      cartridge = h.cartridge;
      is_region = h.is_region;
      core = h.core;
      placed = ArePlaced-with_cell region (cell_room z.rules) c s.cells told.placed h.placed;
      place = h.place;
      pairs = h.pairs;
      vals = AllByRecursion-with_cell (λ d. IsVal d.val) (cell_room z.rules) c s.cells told.val h.vals;
      items = h.items;
      unset = h.unset;
      quiet = h.quiet;
      aside = h.aside;
      room = h.room;
      program = h.program;
      controlled = h.controlled;
      apart = h.apart;
      means = record { parts = MeansParts-told region (cell_room z.rules) c s entry base x told h.placed h.room h.is_region h.means.parts; related = h.means.related; summary = HoldSummary-with_cells entry.program s.cells _ s.summary x.processor (peek x.storage) x.storage.banks (has_cells_with_cell (cell_room z.rules) c s.cells) h.means.summary };
      within = h.within;
      based = h.based;
      at = h.at;
    }

pub IsStackKnown-told :
    (z : Setting) (region : Region) (o : Op) (cell : Option Cell) (s : AbsState) (base : ℕ) → IsStackKnown z region o s base → IsStackKnown z region o (with_cell_if z cell s) base
unfolding with_cell_if
IsStackKnown-told z region o None s base h = h
IsStackKnown-told z region o (Some c) s base h = known h
  where
    known : IsStackKnown z region o s base → IsStackKnown z region o (record s { cells = with_cell (cell_room z.rules) c s.cells }) base
    known (inl still) = inl still
    known (inr (inl loaded)) = inr (inl loaded)
    known (inr (inr (inl push))) = inr (inr (inl (push.0, record { located = push.1.located; held = push.1.held; room = push.1.room })))
    known (inr (inr (inr (inl pop)))) = inr (inr (inr (inl (pop.0, record { located = pop.1.located; held = pop.1.held }))))
    known (inr (inr (inr (inr (inl call))))) = inr (inr (inr (inr (inl call))))
    known (inr (inr (inr (inr (inr returns))))) = inr (inr (inr (inr (inr returns))))

pub IsAllowed-told :
    (z : Setting) (rom : List ℕ) (region : Region) (ranges : List Range) (cell : Option Cell) (s : AbsState) (base : ℕ) (t : Successor)
    → IsAllowed z rom region ranges s base t → IsAllowed z rom region ranges (with_cell_if z cell s) base t
unfolding with_cell_if
IsAllowed-told z rom region ranges None s base t h = h
IsAllowed-told z rom region ranges (Some c) s base t h = record { stores = h.stores; ram = h.ram; oam_transfer = h.oam_transfer; stack = fit z.rules t.target h.stack }
  where
    fit : (q : Rules) (w : Target) → IsStackFit q region w s t base → IsStackFit q region w (record s { cells = with_cell (cell_room z.rules) c s.cells }) t base
    fit Extended w k = k
    fit Simple (target.At a) k = k
    fit Simple (target.Call a) k = k
    fit Simple target.Return k = record { located = k.located; held = k.held; return_word = k.return_word }
    fit Simple (target.Main a) k = k
    fit Simple target.Unknown k = k
    fit Simple target.Lost k = k

-- ---- an instruction with a condition reads no byte

none_told : (k : Option Condition) (memory : Val) (r : Relations) (o : Option Core) (b : Branch) → side_where k memory r o ≡ Some b → is_some k ≡ false → b.cell ≡ None
none_told None memory r None b e h = cc
none_told None memory r (Some core) b e h = cc
none_told (Some k) memory r o b e h = cc

plain_told : (cell : Option Cell) (what : AbsRead) → (what ≡ read.Nothing) ⊎ (what ≡ read.Top) → IsTold cell what
plain_told None what h = tt
plain_told (Some c) read.Nothing h = tt
plain_told (Some c) read.Top h = tt
plain_told (Some c) (read.Word span) (inl h) = absurd cc
plain_told (Some c) (read.Word span) (inr h) = absurd cc
plain_told (Some c) (read.Byte span) (inl h) = absurd cc
plain_told (Some c) (read.Byte span) (inr h) = absurd cc

no_condition : false ≡ true → ⊥
no_condition h = cc

conditional_read : (o : Op) (c : Core) → is_some (Flags.condition_of o) ≡ true → (read_of o c ≡ read.Nothing) ⊎ (read_of o c ≡ read.Top)
unfolding read_of
conditional_read (op.JumpRelativeIf k e8) c h = inl refl
conditional_read (op.JumpIf k w) c h = inl refl
conditional_read (op.CallIf k w) c h = inl refl
conditional_read (op.ReturnIf k) c h = inr refl
conditional_read o c h = absurd (no_condition h)

-- of a side with a cell: the instruction is no POP
abbrev pub IsNoPop : Option Cell → Op → Type 0
IsNoPop None o = Unit {0}
IsNoPop (Some c) o = is_pop o ≡ false

conditional_no_pop : (o : Op) → is_some (Flags.condition_of o) ≡ true → is_pop o ≡ false
conditional_no_pop (op.Pop to) h = absurd (no_condition h)
conditional_no_pop o h = refl

no_pop_cell : (cell : Option Cell) (o : Op) → is_pop o ≡ false → IsNoPop cell o
no_pop_cell None o h = tt
no_pop_cell (Some c) o h = h

pub IsNoPop-taken : (o : Op) (memory : Val) (core : Core) (r : Relations) (b : Branch) → taken_side o memory core r ≡ Some b → IsNoPop b.cell o
unfolding taken_side
IsNoPop-taken o memory core r b e = choose (is_some (Flags.condition_of o)) refl
  where
    choose : (t : Bool) → is_some (Flags.condition_of o) ≡ t → IsNoPop b.cell o
    choose true h = no_pop_cell b.cell o (conditional_no_pop o h)
    choose false h = subst (λ (cell : Option Cell). IsNoPop cell o) (sym (none_told (Flags.condition_of o) memory r _ b e h)) tt

-- what is read where the stack is put aside is told too
pub IsTold-around : (r : Rules) (a : Option Bounds) (cell : Option Cell) (o : Op) (w : AbsRead) → IsNoPop cell o → IsTold cell w → IsTold cell (read_around r a o w)
IsTold-around r a None o w unpopped h = tt
IsTold-around Simple a (Some c) o w unpopped h = h
IsTold-around Extended None (Some c) o w unpopped h = h
IsTold-around Extended (Some b) (Some c) (op.Pop to) w unpopped h = absurd (let bad : true ≡ false = unpopped in cc)
IsTold-around Extended (Some b) (Some c) o w unpopped h = h

pub IsTold-taken : (o : Op) (memory : Val) (core c : Core) (r : Relations) (b : Branch) → taken_side o memory core r ≡ Some b → IsTold b.cell (read_of o c)
unfolding taken_side
IsTold-taken o memory core c r b e = choose (is_some (Flags.condition_of o)) refl
  where
    choose : (t : Bool) → is_some (Flags.condition_of o) ≡ t → IsTold b.cell (read_of o c)
    choose true h = plain_told b.cell (read_of o c) (conditional_read o c h)
    choose false h = subst (λ (cell : Option Cell). IsTold cell (read_of o c)) (sym (none_told (Flags.condition_of o) memory r _ b e h)) tt

-- of what a side tells of a cell the same holds
pub IsNoPop-outside : (region : Region) (cell : Option Cell) (o : Op) → IsNoPop cell o → IsNoPop (cell_outside region cell) o
IsNoPop-outside region None o h = tt
IsNoPop-outside region (Some c) o h = choose (meets region c.address c.address)
  where
    choose : (b : Bool) → IsNoPop (cond b None (Some c)) o
    choose true = tt
    choose false = h

pub IsTold-outside : (region : Region) (cell : Option Cell) (what : AbsRead) → IsTold cell what → IsTold (cell_outside region cell) what
IsTold-outside region None what h = tt
IsTold-outside region (Some c) what h = choose (meets region c.address c.address)
  where
    choose : (b : Bool) → IsTold (cond b None (Some c)) what
    choose true = tt
    choose false = h
