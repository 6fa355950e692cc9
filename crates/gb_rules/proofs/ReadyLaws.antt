-- By the rules of version 3: where nothing is against what an instruction does to the stack, the stack is ready for it.
use Rattle.std.proofs.Common.{◌≡◌, ℕ, ◌+◌, ◌-◌, ◌≤◌, Bool, true, false, ◌&&◌, if◌then◌else◌, nat_le, nat_lt, length, List, Option, Some, None, refl, sym, subst, arith}
use Rattle.std.specs.Prelude.{is_some}
use Rattle.std.proofs.lemmas.Bool.{not-false, or_parts}
use Rattle.std.proofs.lemmas.Bool.Decides.{nat_tests}
use Rattle.std.proofs.lemmas.Option.{same_Some}
use Rattle.gb_ops.specs.declared.op.Pair.{Pair}
use Rattle.gb_ops.specs.declared.op.Pair.TheVariants as pair
use Rattle.gb_ops.specs.declared.op.Op.{Op}
use Rattle.gb_ops.specs.declared.op.Op.TheVariants as op
use Rattle.gb_ops.specs.declared.op.Row.{Row}
use Rattle.gb_successors.specs.Below.gb_domain.declared.pairs.Bounds.{Bounds}
use Rattle.gb_successors.specs.Below.gb_domain.declared.rules.Rules.{Rules}
use Rattle.gb_successors.specs.Below.gb_domain.declared.rules.Rules.TheVariants.{Extended, Simple}
use Rattle.gb_successors.specs.Below.gb_domain.Limits.{item_room}
use Rattle.gb_successors.specs.Below.gb_domain.Settings.{known_base, IsBase}
use Rattle.gb_successors.specs.Below.gb_domain.Types.{AbsState, Node}
use Rattle.gb_successors.specs.Below.gb_abs.Stack.{AreInRegion}
use Rattle.gb_successors.specs.Below.gb_product.declared.parts.Product.{Product}
use Rattle.gb_successors.specs.Below.gb_abs_effects.declared.writes.AbsWrite.{AbsWrite}
use Rattle.gb_successors.specs.Below.gb_abs_effects.declared.writes.AbsWrite.TheVariants as write
use Rattle.gb_successors.specs.declared.stacks.Stack.{Stack}
use Rattle.gb_successors.specs.declared.stacks.StackMove.{StackMove}
use Rattle.gb_successors.specs.declared.stacks.StackMove.TheVariants as move
use Rattle.gb_successors.specs.Sound.{HasRoomFor, HoldsBytes, IsReady, IsStackRuled}
use Rattle.gb_successors.specs.Stacks.{bytes_to, bytes_to_if, own_bytes, main_bytes, set_by, set_to, set_within, extended, displaced_by, push_of, stack_move, around_of, aside_if, aside_within, back_or, popped_by}
use Rattle.gb_successors.specs.Successors.{pointer_in, taken_move, product_before, successors_of}
use Rattle.gb_successors.specs.Below.gb_abs.Meaning.{is_located}
use Rattle.gb_successors.specs.Summaries.{enables_interrupts}
use Rattle.gb_successors.proofs.Below.gb_abs_laws.LocationLaws.{located-none}
use Rattle.gb_successors.specs.Below.gb_domain.declared.pairs.PairBounds.{PairBounds}
use Rattle.gb_rules.specs.Rules.{is_lost_move, sets_lost, sets_lost_from, lacks_bytes, breaks_extended_stack, is_deep, bytes_after, is_deep_if, grows_over, lacks_word}
use Rattle.gb_rules.proofs.RegionLaws.{fewer_bytes}
use Rattle.gb_successors.specs.Below.gb_domain.Summaries.{Program}
use Rattle.gb_successors.specs.Below.gb_domain.declared.types.Core.{Core}
use Rattle.gb_successors.proofs.StackMarkLaws.{IsBack, back_of}

-- where a procedure's states stand by the rules of version 3: its bytes lie in the region, and so do main's
pub record IsRoomy (k : Stack) (base : ℕ) : Type 0 where
  pub extended : k.setting.rules ≡ Extended
  pub based : IsBase k.setting base
  pub room : AreInRegion k.region base k.need
  pub main : AreInRegion k.region (k.region.last + 1) k.main_need

-- ---- SP is set

bytes_fit : (base need a n : ℕ) → bytes_to base need a ≡ Some n → n ≤ need
bytes_fit base need a n h = by (nat_le a base && nat_le (base - a) need && nat_le (base - a) 255) refl h
  where
    by : (b : Bool) → (nat_le a base && nat_le (base - a) need && nat_le (base - a) 255) ≡ b → (if b then Some (base - a) else None) ≡ Some n → n ≤ need
    by true e f = let same : base - a ≡ n = same_Some _ _ f in subst (λ m. m ≤ need) same (grind (arith, nat_tests))
    by false e f = cc

own_fit : (k : Stack) (base a n : ℕ) → IsRoomy k base → bytes_to_if (known_base k.setting) k.need a ≡ Some n → AreInRegion k.region base n
own_fit k base a n r h = by (known_base k.setting) refl h
  where
    by : (o : Option ℕ) → known_base k.setting ≡ o → bytes_to_if o k.need a ≡ Some n → AreInRegion k.region base n
    by None e f = cc
    by (Some b) e f = fewer_bytes k.region base k.need n r.room (bytes_fit b k.need a n f)

main_fit : (k : Stack) (base a n : ℕ) → IsRoomy k base → main_bytes k a ≡ Some n → AreInRegion k.region (k.region.last + 1) n
main_fit k base a n r h = by k.setting.is_main h
  where
    by : (b : Bool) → (if b then None else bytes_to (k.region.last + 1) k.main_need a) ≡ Some n → AreInRegion k.region (k.region.last + 1) n
    by true f = cc
    by false f = fewer_bytes k.region (k.region.last + 1) k.main_need n r.main (bytes_fit (k.region.last + 1) k.main_need a n f)

lost : {X : Type 0} → true ≡ false → X
lost h = cc

ready_set : (k : Stack) (o : Op) (a : ℕ) (s : AbsState) (base : ℕ) → IsRoomy k base → is_lost_move (set_to Extended k a) ≡ false → IsReady k o (set_to Extended k a) s base
ready_set k o a s base r h = by (own_bytes k a) refl (main_bytes k a) refl h
  where
    by : (own : Option ℕ) → own_bytes k a ≡ own → (main : Option ℕ) → main_bytes k a ≡ main → is_lost_move (set_by own main) ≡ false → IsReady k o (set_by own main) s base
    by (Some n) e main f h = own_fit k base a n r e
    by None e (Some n) f h = main_fit k base a n r f
    by None e None f h = lost h

ready_set_to : (k : Stack) (o : Op) (a : ℕ) (s : AbsState) (base : ℕ) → IsRoomy k base → is_lost_move (set_to k.setting.rules k a) ≡ false → IsReady k o (set_to k.setting.rules k a) s base
ready_set_to k o a s base r h =
    subst (λ (q : Rules). IsReady k o (set_to q k a) s base) (sym r.extended) (ready_set k o a s base r (subst (λ (q : Rules). is_lost_move (set_to q k a) ≡ false) r.extended h))

ready_within : (k : Stack) (o : Op) (b : Option Bounds) (s : AbsState) (base : ℕ) → (enables_interrupts o ≡ true → s.summary.aside ≡ None) → IsRoomy k base → is_lost_move (set_within k b) ≡ false → IsReady k o (set_within k b) s base
ready_within k o None s base quiet r h = quiet
ready_within k o (Some b) s base quiet r h = by (nat_lt b.first b.last) h
  where
    by : (c : Bool) → is_lost_move (if c then move.Lost else set_to k.setting.rules k b.first) ≡ false → IsReady k o (if c then move.Lost else set_to k.setting.rules k b.first) s base
    by true h = lost h
    by false h = ready_set_to k o b.first s base r h

-- ---- bytes are put on, or taken off

-- bytes that are held are taken off
taken_ready : (k : Stack) (o : Op) (n : ℕ) (s : AbsState) (base : ℕ) → HoldsBytes n s → IsReady k o (move.Take n) s base
taken_ready k o n s base h = (λ e. h, λ e. located-none s.summary.aside s.core.stack_set h.located)

quiet_op : {X : Type 0} → false ≡ true → X
quiet_op h = cc

holds : (count : ℕ) (s : AbsState) → lacks_bytes count s ≡ false → HoldsBytes count s
holds count s h =
    let p = or_parts _ _ h in
    record { located = not-false _ p.0; held = enough (length s.items) p.1 }
  where
    enough : (n : ℕ) → nat_lt n count ≡ false → count ≤ n
    enough n h = grind (arith, nat_tests)

has_room : (k : Stack) (count : ℕ) (s : AbsState) (base : ℕ) → IsRoomy k base → is_located s ≡ true → is_deep Extended k.need (length s.items + count) ≡ false → HasRoomFor count k.setting k.region s base
has_room k count s base r set h =
    let p = or_parts _ _ h in
    record {
      located = set;
      held = subst (λ (q : Rules). nat_lt (item_room q) (length s.items + count) ≡ false) (sym r.extended) p.1;
      room = fewer_bytes k.region base k.need (length s.items + count) r.room (not_over (length s.items + count) p.0);
    }
  where
    not_over : (n : ℕ) → nat_lt k.need n ≡ false → n ≤ k.need
    not_over n h = grind (arith, nat_tests)

ready_widely : (k : Stack) (o : Op) (m : StackMove) (s : AbsState) (base : ℕ) → IsRoomy k base → IsReady k o m s base → IsReady k o (extended k.setting.rules m) s base
ready_widely k o m s base r h = subst (λ (q : Rules). IsReady k o (extended q m) s base) (sym r.extended) h

ready_push : (k : Stack) (o : Op) (what : AbsWrite) (s : AbsState) (base : ℕ) → HasRoomFor 2 k.setting k.region s base → (enables_interrupts o ≡ true → s.summary.aside ≡ None) → IsReady k o (push_of what) s base
ready_push k o (write.Push high low) s base h quiet = h
ready_push k o write.Nothing s base h quiet = λ e. quiet e
ready_push k o (write.Byte span v) s base h quiet = λ e. quiet e
ready_push k o (write.Word a low high) s base h quiet = λ e. quiet e

-- a word is put on
puts_word : (k : Stack) (o : Op) (what : AbsWrite) (s : AbsState) (base : ℕ) → IsRoomy k base → lacks_bytes 0 s ≡ false → is_deep Extended k.need (length s.items + 2) ≡ false → IsReady k o (push_of what) s base
puts_word k o what s base r lacks deep = ready_push k o what s base (has_room k 2 s base r (holds 0 s lacks).located deep) (λ e. located-none s.summary.aside s.core.stack_set (holds 0 s lacks).located)

ready_displaced : (k : Stack) (o : Op) (e8 : ℕ) (s : AbsState) (base : ℕ) → IsRoomy k base → lacks_bytes (if nat_lt e8 128 then e8 else 0) s ≡ false
    → is_deep Extended k.need (if nat_lt e8 128 then length s.items - e8 else length s.items + (256 - e8)) ≡ false → IsReady k o (displaced_by e8) s base
ready_displaced k o e8 s base r lacks deep = by (nat_lt e8 128) lacks deep
  where
    by : (b : Bool) → lacks_bytes (if b then e8 else 0) s ≡ false → is_deep Extended k.need (if b then length s.items - e8 else length s.items + (256 - e8)) ≡ false
        → IsReady k o (if b then move.Take e8 else move.Append (256 - e8)) s base
    by true l d = taken_ready k o e8 s base (holds e8 s l)
    by false l d = has_room k (256 - e8) s base r (holds 0 s l).located d

-- ---- SP is put aside

none_some : (o : Option Bounds) → is_some o ≡ false → o ≡ None
none_some None h = refl
none_some (Some b) h = cc

ready_aside : (k : Stack) (o : Op) (m : StackMove) (may : Bool) (b : Bounds) (s : AbsState) (base : ℕ) → is_lost_move (aside_if m may b) ≡ false → (is_lost_move m ≡ false → IsReady k o m s base) → IsReady k o (aside_if m may b) s base
ready_aside k o move.Lost true b s base h g = tt
ready_aside k o move.Lost false b s base h g = g h
ready_aside k o m may b s base h g = g h

ready_aside_within :
    (k : Stack) (o : Op) (m : StackMove) (may : Bool) (b : Option Bounds) (s : AbsState) (base : ℕ) → is_lost_move (aside_within m may b) ≡ false → (is_lost_move m ≡ false → IsReady k o m s base)
    → IsReady k o (aside_within m may b) s base
ready_aside_within k o m may None s base h g = g h
ready_aside_within k o m may (Some b) s base h g = ready_aside k o m may b s base h g

ready_pop : (k : Stack) (o : Op) (s : AbsState) (base : ℕ) (q : Rules) → q ≡ Extended → (a : Option Bounds) → s.summary.aside ≡ a → lacks_word a s ≡ false → IsReady k o (popped_by q a) s base
ready_pop k o s base Simple e a same h = absurd (let bad : Simple ≡ Extended = e in cc)
ready_pop k o s base Extended e None same h = taken_ready k o 2 s base (holds 2 s h)
ready_pop k o s base Extended e (Some b) same h = tt

-- ---- each instruction

loaded : (program : Program) (k : Stack) (n : Node) (core : Core) (which : Pair) (w base : ℕ) (what : AbsWrite) (b : Option Bounds) → IsRoomy k base → breaks_extended_stack program k n (op.LoadPair which w) ≡ false
    → IsReady k (op.LoadPair which w) (stack_move k (around_of k n.state core) (op.LoadPair which w) what b) n.state base
unfolding breaks_extended_stack stack_move around_of
loaded program k n core pair.Sp w base what b r h =
    ready_aside k (op.LoadPair pair.Sp w) (set_to k.setting.rules k w) (around_of k n.state core).may_leave _ n.state base h (λ some. ready_set_to k (op.LoadPair pair.Sp w) w n.state base r some)
loaded program k n core pair.Bc w base what b r h = λ e. quiet_op e
loaded program k n core pair.De w base what b r h = λ e. quiet_op e
loaded program k n core pair.Hl w base what b r h = λ e. quiet_op e

increased : (program : Program) (k : Stack) (n : Node) (core : Core) (which : Pair) (base : ℕ) (what : AbsWrite) (b : Option Bounds) → IsRoomy k base → breaks_extended_stack program k n (op.IncrementPair which) ≡ false
    → IsReady k (op.IncrementPair which) (stack_move k (around_of k n.state core) (op.IncrementPair which) what b) n.state base
unfolding breaks_extended_stack stack_move
increased program k n core pair.Sp base what b r h = ready_widely k (op.IncrementPair pair.Sp) (move.Take 1) n.state base r (taken_ready k (op.IncrementPair pair.Sp) 1 n.state base (holds 1 n.state h))
increased program k n core pair.Bc base what b r h = λ e. quiet_op e
increased program k n core pair.De base what b r h = λ e. quiet_op e
increased program k n core pair.Hl base what b r h = λ e. quiet_op e

decreased : (program : Program) (k : Stack) (n : Node) (core : Core) (which : Pair) (base : ℕ) (what : AbsWrite) (b : Option Bounds) → IsRoomy k base → breaks_extended_stack program k n (op.DecrementPair which) ≡ false
    → is_deep_if k.need (bytes_after (op.DecrementPair which) (length n.state.items)) ≡ false → IsReady k (op.DecrementPair which) (stack_move k (around_of k n.state core) (op.DecrementPair which) what b) n.state base
unfolding breaks_extended_stack stack_move bytes_after
decreased program k n core pair.Sp base what b r h deep = ready_widely k (op.DecrementPair pair.Sp) (move.Append 1) n.state base r (has_room k 1 n.state base r (holds 0 n.state h).located deep)
decreased program k n core pair.Bc base what b r h deep = λ e. quiet_op e
decreased program k n core pair.De base what b r h deep = λ e. quiet_op e
decreased program k n core pair.Hl base what b r h deep = λ e. quiet_op e

-- SP comes back, or moves otherwise
ready_back :
    (k : Stack) (o : Op) (s : AbsState) (base : ℕ) (m : StackMove) (back : Option ℕ) (rules : Rules) → is_lost_move (back_or rules back m) ≡ false → (is_lost_move m ≡ false → IsReady k o m s base)
    → ((n : ℕ) → back ≡ Some n → IsReady k o (move.Set n) s base) → IsReady k o (back_or rules back m) s base
ready_back k o s base m (Some n) Extended h g b = b n refl
ready_back k o s base m None Extended h g b = g h
ready_back k o s base m back Simple h g b = g h

-- as many bytes as the procedure may hold lie in the region
held_room : (k : Stack) (core : Core) (s : AbsState) (base n : ℕ) → IsRoomy k base → IsBack k core n → IsReady k op.LoadSpHl (move.Set n) s base
held_room k core s base n r b =
    let room = r.room in
    let first = room.first in
    let count = b.count in
    let fits = b.fits in
    record { first = omega arith; last = room.last }

-- LD SP,HL takes what is known of HL
no_address : (program : Program) (k : Stack) (rules : Rules) (entered : PairBounds) (s : AbsState) (p : Product) → product_before program rules entered s ≡ Some p → sets_lost_from k s (product_before program rules entered s) ≡ false → sets_lost k (around_of k s p.core) op.LoadSpHl (pointer_in k op.LoadSpHl p) ≡ false
no_address program k rules entered s p is h = subst (λ o. sets_lost_from k s o ≡ false) is h

ready : (program : Program) (k : Stack) (n : Node) (o : Op) (base : ℕ) (what : AbsWrite) (p : Product) → IsRoomy k base → product_before program k.setting.rules k.setting.entered n.state ≡ Some p → breaks_extended_stack program k n o ≡ false
    → is_deep_if k.need (bytes_after o (length n.state.items)) ≡ false → IsReady k o (stack_move k (around_of k n.state p.core) o what (pointer_in k o p)) n.state base
unfolding breaks_extended_stack stack_move bytes_after around_of
ready program k n (op.LoadPair which w) base what p r is h deep = loaded program k n p.core which w base what (pointer_in k (op.LoadPair which w) p) r h
ready program k n op.LoadSpHl base what p r is h deep =
    let g = around_of k n.state p.core in
    let hl = pointer_in k op.LoadSpHl p in
    ready_back k op.LoadSpHl n.state base (aside_within (set_within k hl) g.may_leave hl) g.back k.setting.rules
    (no_address program k k.setting.rules k.setting.entered n.state p is h)
    (λ kept. ready_aside_within k op.LoadSpHl (set_within k hl) g.may_leave hl n.state base kept (λ some. ready_within k op.LoadSpHl hl n.state base (λ e. quiet_op e) r some))
    (λ count e. held_room k p.core n.state base count r (back_of k n.state p.core count e))
ready program k n (op.Push from) base what p r is h deep = puts_word k (op.Push from) what n.state base r h deep
ready program k n (op.Pop to) base what p r is h deep = ready_pop k (op.Pop to) n.state base k.setting.rules r.extended n.state.summary.aside refl h
ready program k n (op.IncrementPair which) base what p r is h deep = increased program k n p.core which base what (pointer_in k (op.IncrementPair which) p) r h
ready program k n (op.DecrementPair which) base what p r is h deep = decreased program k n p.core which base what (pointer_in k (op.DecrementPair which) p) r h deep
ready program k n (op.AddSp e8) base what p r is h deep = ready_widely k (op.AddSp e8) (displaced_by e8) n.state base r (ready_displaced k (op.AddSp e8) e8 n.state base r h deep)
ready program k n (op.CallIf condition w) base what p r is h deep = ready_widely k (op.CallIf condition w) (push_of what) n.state base r (puts_word k (op.CallIf condition w) what n.state base r h deep)
ready program k n (op.Call w) base what p r is h deep = ready_widely k (op.Call w) (push_of what) n.state base r (puts_word k (op.Call w) what n.state base r h deep)
ready program k n (op.Restart w) base what p r is h deep = ready_widely k (op.Restart w) (push_of what) n.state base r (puts_word k (op.Restart w) what n.state base r h deep)
ready program k n (op.ReturnIf condition) base what p r is h deep = ready_widely k (op.ReturnIf condition) (move.Take 2) n.state base r (λ e. lost e, λ e. none_some n.state.summary.aside h)
ready program k n op.Return base what p r is h deep = ready_widely k op.Return (move.Take 2) n.state base r (λ e. lost e, λ e. none_some n.state.summary.aside h)
ready program k n op.ReturnFromInterrupt base what p r is h deep = ready_widely k op.ReturnFromInterrupt (move.Take 2) n.state base r (λ e. lost e, λ e. none_some n.state.summary.aside h)
ready program k n op.EnableInterrupts base what p r is h deep = λ e. none_some n.state.summary.aside h
ready program k n o base what p r is h deep = λ e. quiet_op e

not_deep : (some : Bool) (need : ℕ) (o : Option ℕ) → some ≡ true → (some && is_deep_if need o) ≡ false → is_deep_if need o ≡ false
not_deep true need o e h = h
not_deep false need o e h = cc

-- the stack is ready for what a node's instruction does to it, where that may be taken
pub IsStackRuled-ready : (k : Stack) (program : Program) (rom : List ℕ) (row : Row) (n : Node) (base : ℕ) → IsRoomy k base → breaks_extended_stack program k n row.op ≡ false
    → grows_over k.need n row.op (successors_of k program rom row n.address n.state).taken ≡ false → IsStackRuled Extended k program rom row n.address n.state base
unfolding taken_move
IsStackRuled-ready k program rom row n base r breaks deep some p is =
    ready program k n row.op base _ p r (subst (λ (q : Rules). product_before program q k.setting.entered n.state ≡ Some p) (sym r.extended) is) breaks
    (not_deep (is_some (successors_of k program rom row n.address n.state).taken) k.need (bytes_after row.op (length n.state.items)) some deep)
