-- The states behind an instruction are those before, with another core, and moved where it moves items or cells.
use Rattle.std.proofs.Common.{◌≡◌, ℕ, ◌+◌, Bool, true, false, cond, ◌||◌, if◌then◌else◌, nat_lt, length, ◌⊎◌, inl, inr, Option, Some, None, refl, sym, ap, ◌∙◌}
use Rattle.std.specs.Prelude.{is_some}
use Rattle.gb_ops.specs.declared.machine.Kind.{Kind}
use Rattle.gb_ops.specs.declared.machine.Region.{Region}
use Rattle.gb_domain.specs.declared.relations.Relations.{Relations}
use Rattle.gb_domain.specs.declared.rules.Rules.TheVariants.{Simple}
use Rattle.gb_domain.specs.declared.setting.Setting.{Setting}
use Rattle.gb_domain.specs.declared.types.Val.{Val}
use Rattle.gb_domain.specs.declared.types.Cell.{Cell}
use Rattle.gb_domain.specs.declared.types.Core.{Core}
use Rattle.gb_domain.specs.Limits.{item_room}
use Rattle.gb_domain.specs.Summaries.{SummaryParts}
use Rattle.gb_domain.specs.Types.{AbsState}
use Rattle.gb_product.specs.Below.gb_abs.Bytes.{without_newest, with_any_bytes, resized}
use Rattle.gb_product.specs.Below.gb_abs.Stack.{pushed}
use Rattle.gb_product.specs.Below.gb_abs.declared.span.Span.{Span}
use Rattle.gb_product.specs.Below.gb_abs.Span.{one}
use Rattle.gb_product.specs.Below.gb_abs.Operations.{core_end, with_core}
use Rattle.gb_product.specs.Below.gb_abs_effects.declared.writes.AbsWrite.{AbsWrite}
use Rattle.gb_product.specs.Below.gb_abs_effects.declared.writes.AbsWrite.TheVariants as write
use Rattle.gb_abs_memory.specs.declared.store.Area.{Area}
use Rattle.gb_abs_memory.specs.declared.store.Area.TheVariants as area
use Rattle.gb_abs_memory.specs.Access.{area_of, ram_stored, stored_in, stored_state, stored_core_in, stored_core}
use Rattle.gb_abs_memory.specs.Items.{items_stored}
use Rattle.gb_product.specs.Below.gb_abs.Located.{stack_base}
use Rattle.gb_successors.specs.declared.stacks.Stack.{Stack}
use Rattle.gb_successors.specs.declared.stacks.StackMove.{StackMove}
use Rattle.gb_successors.specs.declared.stacks.StackMove.TheVariants as move
use Rattle.gb_successors.specs.Stacks.{pushed_if_room, appended_if_room, set_if_room, begun_anew, with_aside as stack_aside, with_stack_moved}
use Rattle.gb_successors.specs.Summaries.{aside_behind, with_aside}
use Rattle.gb_successors.specs.Behind.{behind, written, ended, moves_stack, is_in_ram, changes_cells, move_of, with_cell_if, moved_state, moved_by, with_relations, with_summary, summary_or, state_behind, written_core}

-- ---- the core apart

-- where items stand doesn't hang on the core: by the rules of versions 1 and 2, or as the stack is set in both
abbrev pub IsApartFrom : Setting → AbsState → Core → Type 0
IsApartFrom z s c = (z.rules ≡ Simple) ⊎ (c.stack_set ≡ s.core.stack_set)

ram_by : (z : Setting) (region : Region) (span : Span) (v : Val) (s : AbsState) (c : Core) → IsApartFrom z s c → ram_stored z region span v (with_core s c) ≡ with_core (ram_stored z region span v s) c
unfolding ram_stored items_stored stack_base
ram_by z region span v s c (inl h) = rw h refl
ram_by z region span v s c (inr h) = rw h refl

stored_by :
    (z : Setting) (region : Region) (a : Option Area) (k : Kind) (span : Span) (v : Val) (s : AbsState) (c : Core)
    → IsApartFrom z s c → stored_in z region a k span v (with_core s c) ≡ with_core (stored_in z region a k span v s) (stored_core_in z.is_whole a k span v c)
stored_by z region (Some (area.Controller (Some r))) k span v s c h = refl
stored_by z region (Some area.Ram) k span v s c h = ram_by z region span v s c h
stored_by z region (Some area.InterruptEnable) k span v s c h = refl
stored_by z region _ k span v s c h = refl

apart_stored :
    (z : Setting) (region : Region) (k : Kind) (span : Span) (v : Val) (s : AbsState) (c : Core)
    → IsApartFrom z s c → stored_state z region k span v (with_core s c) ≡ with_core (stored_state z region k span v s) (stored_core z.is_whole k span v c)
unfolding stored_state stored_core
apart_stored z region k span v s c h = stored_by z region (area_of k span) k span v s c h

-- a store leaves the stack as it is set
still_apart : (z : Setting) (region : Region) (k : Kind) (span : Span) (v : Val) (s : AbsState) (c : Core) → IsApartFrom z s c → IsApartFrom z (stored_state z region k span v s) (stored_core z.is_whole k span v c)
unfolding stored_state stored_core ram_stored
still_apart z region k span v s c (inl h) = inl h
still_apart z region k span v s c (inr h) = inr (by (area_of k span))
  where
    by : (a : Option Area) → (stored_core_in z.is_whole a k span v c).stack_set ≡ (stored_in z region a k span v s).core.stack_set
    by (Some (area.Controller (Some r))) = h
    by (Some area.Ram) = h
    by (Some area.InterruptEnable) = h
    by (Some _) = h
    by None = h

pub written_by :
    (z : Setting) (region : Region) (k : Kind) (w : AbsWrite) (s : AbsState) (c : Core)
    → IsApartFrom z s c → written z region k w (with_core s c) ≡ with_core (written z region k w s) (written_core z.is_whole k w c)
unfolding written written_core
written_by z region k (write.Byte span v) s c h = apart_stored z region k span v s c h
written_by z region k (write.Word a low high) s c h =
    ap (λ (t : AbsState). stored_state z region k (one (behind a)) high t) (apart_stored z region k (one a) low s c h)
    ∙ apart_stored z region k (one (behind a)) high (stored_state z region k (one a) low s) (stored_core z.is_whole k (one a) low c) (still_apart z region k (one a) low s c h)
written_by z region k _ s c h = refl

-- ---- items and cells that stay

same_stack : (z : Setting) (m : StackMove) (s : AbsState) → moves_stack m ≡ false → with_stack_moved z m s ≡ s
unfolding with_stack_moved
same_stack z move.Stay s h = refl
same_stack z (move.Push i) s h = absurd cc
same_stack z (move.Take n) s h = absurd cc
same_stack z (move.Append n) s h = absurd cc
same_stack z (move.Set n) s h = absurd cc
same_stack z (move.Aside b) s h = absurd cc
same_stack z (move.Restart n) s h = absurd cc
same_stack z move.Lost s h = absurd cc

same_cell : (z : Setting) (cell : Option Cell) (s : AbsState) → is_some cell ≡ false → with_cell_if z cell s ≡ s
unfolding with_cell_if
same_cell z None s h = refl
same_cell z (Some c) s h = absurd cc

same_stored :
    (z : Setting) (region : Region) (a : Option Area) (k : Kind) (span : Span) (v : Val) (s : AbsState) (c : Core)
    → is_in_ram a ≡ false → with_core (stored_in z region a k span v s) c ≡ with_core s c
same_stored z region (Some (area.Controller (Some r))) k span v s c h = refl
same_stored z region (Some area.Ram) k span v s c h = absurd cc
same_stored z region (Some area.InterruptEnable) k span v s c h = refl
same_stored z region _ k span v s c h = refl

same_written : (z : Setting) (region : Region) (k : Kind) (w : AbsWrite) (s : AbsState) (c : Core) → changes_cells k w ≡ false → with_core (written z region k w s) c ≡ with_core s c
unfolding written changes_cells stored_state
same_written z region k (write.Byte span v) s c h = same_stored z region (area_of k span) k span v s c h
same_written z region k (write.Word a low high) s c h = absurd cc
same_written z region k _ s c h = refl

neither : (a b c : Bool) → (a || b || c) ≡ false → (a ≡ false) × ((b ≡ false) × (c ≡ false))
neither true b c h = absurd cc
neither false true c h = absurd cc
neither false false c h = (refl, (refl, h))

unmoved :
    (k : Stack) (kind : Kind) (cell : Option Cell) (m : StackMove) (w : AbsWrite) (s : AbsState) (c : Core)
    → is_some cell ≡ false → moves_stack m ≡ false → changes_cells kind w ≡ false → with_core s c ≡ with_core (moved_state k kind cell m w s) c
unfolding moved_state
unmoved k kind cell m w s c no_cell no_move no_write =
    sym (ap (λ (t : AbsState). with_core (written k.setting k.region kind w (with_stack_moved k.setting m t)) c) (same_cell k.setting cell s no_cell)
    ∙ (ap (λ (t : AbsState). with_core (written k.setting k.region kind w t) c) (same_stack k.setting m s no_move) ∙ same_written k.setting k.region kind w s c no_write))

-- where nothing is moved, items and cells are those before
pub moved_is :
    (k : Stack) (kind : Kind) (cell : Option Cell) (m : StackMove) (w : AbsWrite) (s : AbsState) (c : Core)
    → with_core (moved_by (move_of k kind cell m w) w s) c ≡ with_core (moved_state k kind cell m w s) c
unfolding move_of
moved_is k kind cell m w s c = by (is_some cell || moves_stack m || changes_cells kind w) refl
  where
    by :
        (b : Bool) → (is_some cell || moves_stack m || changes_cells kind w) ≡ b
        → with_core (moved_by (if b then Some (record { stack = k; kind = kind; cell = cell; stack_move = m }) else None) w s) c ≡ with_core (moved_state k kind cell m w s) c
    by true e = refl
    by false e = let h = neither (is_some cell) (moves_stack m) (changes_cells kind w) e in unmoved k kind cell m w s c h.0 h.1.0 h.1.1

pub taken_state :
    (k : Stack) (kind : Kind) (cell : Option Cell) (m : StackMove) (w : AbsWrite) (s : AbsState) (c : Core) (r : Relations) (said : Option SummaryParts)
    → state_behind (move_of k kind cell m w) w c r said s ≡ with_summary (summary_or said s.summary) (with_relations r (with_core (moved_state k kind cell m w s) c))
taken_state k kind cell m w s c r said = ap (λ t. with_summary (summary_or said s.summary) (with_relations r t)) (moved_is k kind cell m w s c)

-- the cells behind it
pub moved_cells :
    (k : Stack) (kind : Kind) (cell : Option Cell) (m : StackMove) (w : AbsWrite) (s : AbsState) → (moved_by (move_of k kind cell m w) w s).cells ≡ (moved_state k kind cell m w s).cells
moved_cells k kind cell m w s = ap (λ (t : AbsState). t.cells) (moved_is k kind cell m w s s.core)

told_alone : (z : Setting) (cell : Option Cell) (n : ℕ) (s : AbsState) (c : Core) → with_summary s.summary (ended false n (with_cell_if z cell (with_core s c))) ≡ ended false n (with_cell_if z cell (with_core s c))
unfolding with_cell_if ended
told_alone z None n s c = refl
told_alone z (Some d) n s c = refl

pub untaken_state :
    (k : Stack) (kind : Kind) (cell : Option Cell) (n : ℕ) (s : AbsState) (c : Core) (r : Relations)
    → state_behind (move_of k kind cell move.Stay write.Nothing) write.Nothing (core_end false n c) r None s
    ≡ with_relations r (ended false n (with_cell_if k.setting cell (with_core s c)))
unfolding moved_state written with_stack_moved with_cell_if ended
untaken_state k kind cell n s c r =
    ap (λ t. with_summary s.summary (with_relations r t)) (moved_is k kind cell move.Stay write.Nothing s (core_end false n c) ∙ alone k.setting cell)
    ∙ ap (with_relations r) (told_alone k.setting cell n s c)
  where
    alone : (z : Setting) (cell : Option Cell) → with_core (moved_state k kind cell move.Stay write.Nothing s) (core_end false n c) ≡ ended false n (with_cell_if k.setting cell (with_core s c))
    alone z None = refl
    alone z (Some d) = refl

-- ---- what is said of the whole program

summary_either : (b : Bool) (s t : AbsState) (m : SummaryParts) → s.summary ≡ m → t.summary ≡ m → (cond b s t).summary ≡ m
summary_either true s t m e f = e
summary_either false s t m e f = f

abbrev unset : AbsState → AbsState
unset s = stack_aside None s

stacked_summary : (z : Setting) (m : StackMove) (s : AbsState) → (with_stack_moved z m s).summary ≡ with_aside (aside_behind m s.summary.aside) s.summary
unfolding with_stack_moved pushed_if_room appended_if_room set_if_room pushed with_any_bytes without_newest resized
stacked_summary z move.Stay s = refl
stacked_summary z (move.Push w) s = summary_either (nat_lt (item_room z.rules) (length s.items + 2)) s (pushed w s) s.summary refl refl
stacked_summary z (move.Take n) s = refl
stacked_summary z (move.Append n) s = summary_either (nat_lt (item_room z.rules) (length s.items + n)) s (with_any_bytes n s) s.summary refl refl
stacked_summary z (move.Set n) s = summary_either (nat_lt (item_room z.rules) n) (unset s) (resized n (unset s)) (with_aside None s.summary) refl refl
stacked_summary z (move.Restart n) s = summary_either (nat_lt (item_room z.rules) n) (begun_anew (unset s)) (resized n (begun_anew (unset s))) (with_aside None s.summary) refl refl
stacked_summary z (move.Aside b) s = refl
stacked_summary z move.Lost s = refl

stored_summary : (z : Setting) (region : Region) (k : Kind) (span : Span) (v : Val) (s : AbsState) → (stored_state z region k span v s).summary ≡ s.summary
unfolding stored_state ram_stored
stored_summary z region k span v s = by (area_of k span)
  where
    by : (a : Option Area) → (stored_in z region a k span v s).summary ≡ s.summary
    by (Some (area.Controller (Some r))) = refl
    by (Some area.Ram) = refl
    by (Some area.InterruptEnable) = refl
    by (Some _) = refl
    by None = refl

pub written_summary : (z : Setting) (region : Region) (k : Kind) (w : AbsWrite) (s : AbsState) → (written z region k w s).summary ≡ s.summary
unfolding written
written_summary z region k (write.Byte span v) s = stored_summary z region k span v s
written_summary z region k (write.Word a low high) s = stored_summary z region k (one (behind a)) high (stored_state z region k (one a) low s) ∙ stored_summary z region k (one a) low s
written_summary z region k _ s = refl

pub told_summary : (z : Setting) (cell : Option Cell) (s : AbsState) → (with_cell_if z cell s).summary ≡ s.summary
unfolding with_cell_if
told_summary z None s = refl
told_summary z (Some c) s = refl

-- beside items and cells it is told where SP is put aside
pub moved_summary : (k : Stack) (kind : Kind) (cell : Option Cell) (m : StackMove) (w : AbsWrite) (s : AbsState) → (moved_state k kind cell m w s).summary ≡ with_aside (aside_behind m s.summary.aside) s.summary
unfolding moved_state
moved_summary k kind cell m w s =
    written_summary k.setting k.region kind w (with_stack_moved k.setting m (with_cell_if k.setting cell s))
    ∙ (stacked_summary k.setting m (with_cell_if k.setting cell s) ∙ ap (λ t. with_aside (aside_behind m t.aside) t) (told_summary k.setting cell s))
