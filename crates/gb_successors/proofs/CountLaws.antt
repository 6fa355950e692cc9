-- How many items the states behind an instruction hold.
use Rattle.std.proofs.Common.{◌≡◌, ℕ, ◌+◌, Bool, true, false, cond, nat_lt, [], ◌∷◌, length, length-append, Option, Some, None, refl, ◌∙◌}
use Rattle.gb_ops.specs.declared.machine.Kind.{Kind}
use Rattle.gb_ops.specs.declared.machine.Region.{Region}
use Rattle.gb_domain.specs.declared.relations.Relations.{Relations}
use Rattle.gb_domain.specs.declared.setting.Setting.{Setting}
use Rattle.gb_domain.specs.declared.types.Cell.{Cell}
use Rattle.gb_domain.specs.declared.types.Core.{Core}
use Rattle.gb_domain.specs.declared.types.Halves.{Halves}
use Rattle.gb_domain.specs.declared.types.Val.{Val}
use Rattle.gb_domain.specs.Limits.{item_room}
use Rattle.gb_domain.specs.Summaries.{SummaryParts}
use Rattle.gb_domain.specs.Types.{AbsState}
use Rattle.gb_product.specs.Below.gb_abs.Bytes.{without_newest, with_any_bytes, resized}
use Rattle.gb_product.specs.Below.gb_abs.declared.span.Span.{Span}
use Rattle.gb_product.specs.Below.gb_abs.Span.{one}
use Rattle.gb_product.specs.Below.gb_abs.Stack.{pushed}
use Rattle.gb_product.specs.Below.gb_abs_effects.declared.writes.AbsWrite.{AbsWrite}
use Rattle.gb_product.specs.Below.gb_abs_effects.declared.writes.AbsWrite.TheVariants as write
use Rattle.gb_abs_memory.specs.declared.store.Area.{Area}
use Rattle.gb_abs_memory.specs.declared.store.Area.TheVariants as area
use Rattle.gb_abs_memory.specs.Access.{area_of, ram_stored, stored_in, stored_state}
use Rattle.gb_abs_memory.proofs.ItemLaws.{length-items_stored}
use Rattle.gb_successors.specs.declared.stacks.Stack.{Stack}
use Rattle.gb_successors.specs.declared.stacks.StackMove.{StackMove}
use Rattle.gb_successors.specs.declared.stacks.StackMove.TheVariants as move
use Rattle.gb_successors.specs.declared.way.Moved.{Moved}
use Rattle.gb_successors.specs.declared.way.Told.{Told}
use Rattle.gb_successors.specs.Behind.{behind, written, with_cell_if, moved_state, state_behind, told_behind}
use Rattle.gb_successors.specs.Stacks.{pushed_if_room, appended_if_room, set_if_room, with_aside, begun_anew, with_stack_moved, count_behind}
use Rattle.gb_successors.proofs.HoldingLaws.{told_count}
use Rattle.gb_successors.proofs.StackMovedLaws.{length-taken, length-appended, length-resized}

stored_count : (z : Setting) (region : Region) (k : Kind) (span : Span) (v : Val) (s : AbsState) → length (stored_state z region k span v s).items ≡ length s.items
unfolding stored_state ram_stored
stored_count z region k span v s = by (area_of k span)
  where
    by : (a : Option Area) → length (stored_in z region a k span v s).items ≡ length s.items
    by (Some (area.Controller (Some r))) = refl
    by (Some area.Ram) = length-items_stored z region span v s.core s.items
    by (Some area.InterruptEnable) = refl
    by (Some _) = refl
    by None = refl

written_count : (z : Setting) (region : Region) (k : Kind) (w : AbsWrite) (s : AbsState) → length (written z region k w s).items ≡ length s.items
unfolding written
written_count z region k (write.Byte span v) s = stored_count z region k span v s
written_count z region k (write.Word a low high) s =
    stored_count z region k (one (behind a)) high (stored_state z region k (one a) low s) ∙ stored_count z region k (one a) low s
written_count z region k _ s = refl

either_count : (b : Bool) (s t : AbsState) (n m : ℕ) → length s.items ≡ n → length t.items ≡ m → length (cond b s t).items ≡ cond b n m
either_count true s t n m h k = h
either_count false s t n m h k = k

pushed_count : (w : Halves) (s : AbsState) → length (pushed w s).items ≡ length s.items + 2
unfolding pushed
pushed_count w s = length-append s.items (w.high ∷ w.low ∷ [])

stacked_count : (z : Setting) (m : StackMove) (s : AbsState) → length (with_stack_moved z m s).items ≡ count_behind z.rules m (length s.items)
unfolding with_stack_moved pushed_if_room appended_if_room set_if_room pushed with_any_bytes without_newest resized
stacked_count z move.Stay s = refl
stacked_count z (move.Push w) s = either_count (nat_lt (item_room z.rules) (length s.items + 2)) s (pushed w s) (length s.items) (length s.items + 2) refl (pushed_count w s)
stacked_count z (move.Take n) s = length-taken n s.items
stacked_count z (move.Append n) s =
    either_count (nat_lt (item_room z.rules) (length s.items + n)) s (with_any_bytes n s) (length s.items) (length s.items + n) refl (length-appended n s.items)
stacked_count z (move.Set n) s =
    either_count (nat_lt (item_room z.rules) n) (with_aside None s) (resized n (with_aside None s)) (length s.items) n refl (length-resized n s.items)
stacked_count z (move.Restart n) s =
    either_count (nat_lt (item_room z.rules) n) (begun_anew (with_aside None s)) (resized n (begun_anew (with_aside None s))) 0 n refl (length-resized n (begun_anew (with_aside None s)).items)
stacked_count z (move.Aside b) s = refl
stacked_count z move.Lost s = refl

cell_count : (z : Setting) (cell : Option Cell) (m : StackMove) (s : AbsState) → count_behind z.rules m (length (with_cell_if z cell s).items) ≡ count_behind z.rules m (length s.items)
unfolding with_cell_if
cell_count z None m s = refl
cell_count z (Some c) m s = refl

moved_count : (k : Stack) (kind : Kind) (cell : Option Cell) (m : StackMove) (w : AbsWrite) (s : AbsState) → length (moved_state k kind cell m w s).items ≡ count_behind k.setting.rules m (length s.items)
unfolding moved_state
moved_count k kind cell m w s =
    written_count k.setting k.region kind w (with_stack_moved k.setting m (with_cell_if k.setting cell s))
    ∙ (stacked_count k.setting m (with_cell_if k.setting cell s) ∙ cell_count k.setting cell m s)

-- where nothing moves as many as before
pub unmoved_count :
    (told : Option Told) (c : Core) (w : AbsWrite) (core : Core) (r : Relations) (said : Option SummaryParts) (s : AbsState)
    → length (told_behind told c (state_behind None w core r said s)).items ≡ length s.items
unmoved_count told c w core r said s = told_count told c (state_behind None w core r said s)

pub count_is :
    (m : Moved) (told : Option Told) (c : Core) (w : AbsWrite) (core : Core) (r : Relations) (said : Option SummaryParts) (s : AbsState)
    → length (told_behind told c (state_behind (Some m) w core r said s)).items ≡ count_behind m.stack.setting.rules m.stack_move (length s.items)
count_is m told c w core r said s =
    told_count told c (state_behind (Some m) w core r said s) ∙ moved_count m.stack m.kind m.cell m.stack_move w s
