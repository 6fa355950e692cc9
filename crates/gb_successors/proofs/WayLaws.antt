-- The ways on: taken, not taken, staying on HALT, and the halt bug.
use Rattle.std.proofs.Common.{◌≡◌, ℕ, ◌+◌, ◌-◌, ◌%◌, ◌≤◌, Bool, true, false, cond, not, ◌==◌, nat_lt, inl, inr, List, length, slice_index, Option, Some, None, option_map, option_and_then, refl, sym, ◌∙◌, ap, subst, arith}
use Rattle.std.proofs.lemmas.Bool.Decides.{nat_tests}
use Rattle.std.specs.Option.{IfSome}
use Rattle.gb_ops.specs.declared.machine.Region.{Region}
use Rattle.gb_ops.specs.declared.registers.Ime.{Ime}
use Rattle.gb_ops.specs.declared.registers.Ime.TheVariants as ime
use Rattle.gb_ops.specs.declared.op.Op.{Op}
use Rattle.gb_ops.specs.declared.op.Op.TheVariants as op
use Rattle.gb_ops.specs.declared.op.Row.{Row}
use Rattle.gb_ops.specs.declared.registers.Registers.{Registers}
use Rattle.gb_ops.specs.Memory.{passed}
use Rattle.gb_ops.specs.Machine.{executed, mark_of, halt_stay, halt_bug, has_enabled}
use Rattle.gb_ops.specs.Play.{MState, within, outside}
use Rattle.gb_domain.specs.declared.relations.Relations.{Relations}
use Rattle.gb_domain.specs.declared.pairs.PairBounds.{PairBounds}
use Rattle.gb_domain.specs.declared.rules.Rules.{Rules}
use Rattle.gb_domain.specs.declared.rules.Rules.TheVariants.{Simple, Extended}
use Rattle.gb_domain.specs.declared.setting.Setting.{Setting}
use Rattle.gb_domain.specs.declared.types.Cell.{Cell}
use Rattle.gb_domain.specs.declared.types.Val.{Val}
use Rattle.gb_domain.specs.declared.types.ImeSet.{ImeSet}
use Rattle.gb_domain.specs.declared.types.Core.{Core}
use Rattle.gb_domain.specs.declared.types.Range.{Range}
use Rattle.gb_domain.specs.Summaries.{Program, no_summary, SummaryParts}
use Rattle.gb_domain.specs.Types.{AbsState}
use Rattle.gb_product.proofs.Below.gb_summaries_laws.MeaningLaws.{nothing_holds}
use Rattle.gb_product.specs.Below.gb_abs_effects.declared.writes.AbsWrite.{AbsWrite}
use Rattle.gb_product.specs.Below.gb_vals.Bits.{may_enable}
use Rattle.gb_product.specs.Below.gb_abs.Located.{sp_bounds}
use Rattle.gb_product.specs.Below.gb_abs.Operations.{core_settle, with_core, ime_set_after}
use Rattle.gb_product.specs.Below.gb_abs.Meaning.{Activation, Holds, MeansCore, MeansParts, ime_may_be}
use Rattle.gb_product.specs.Below.gb_abs.Stack.{AreInRegion}
use Rattle.gb_product.specs.Below.gb_abs.Storage.{peek}
use Rattle.gb_product.proofs.Below.gb_abs_laws.OperationLaws.{IsCore-settle}
use Rattle.gb_product.proofs.Below.gb_abs_laws.StackLaws.{MeansParts-with_core}
use Rattle.gb_product.specs.Below.gb_abs_effects.Sides as Flags
use Rattle.gb_product.specs.Below.gb_abs_effects.declared.targets.Target.TheVariants as target
use Rattle.gb_product.specs.Below.gb_abs_effects.Accesses.{read_of}
use Rattle.gb_product.specs.Below.gb_abs_effects.Targets.{target_of}
use Rattle.gb_product.specs.Below.gb_abs_effects.Transfer.{transfer}
use Rattle.gb_abs_memory.specs.Sound.{view}
use Rattle.gb_product.specs.Below.gb_pairs.Meaning.{AreBytes}
use Rattle.gb_product.specs.Below.gb_copies.Meaning.{HoldOneByte}
use Rattle.gb_product.specs.Below.gb_relations.Compared.{comparison_of, writes_a, compared_after}
use Rattle.gb_product.specs.Below.gb_relations.Written.{writes_flags}
use Rattle.gb_product.specs.Below.gb_relations.Written.{written as written_registers}
use Rattle.gb_product.proofs.Below.gb_relations_laws.ComparedLaws.{HoldOneByte-only_of_a}
use Rattle.gb_product.specs.Meaning.{beside, AreRelated}
use Rattle.gb_product.specs.declared.parts.Branch.{Branch}
use Rattle.gb_product.specs.declared.parts.Product.{Product}
use Rattle.gb_product.specs.Reduced.{product_of, reduced}
use Rattle.gb_product.specs.Sides.{side_where, taken_side, not_taken_side}
use Rattle.gb_product.specs.Sound.{IsKnown, IsMeantBranch}
use Rattle.gb_product.proofs.MeaningLaws.{AreBytes-core}
use Rattle.gb_product.proofs.SideLaws.{taken_side_sound, not_taken_side_sound, taken_side_cuts, not_taken_side_cuts}
use Rattle.gb_ops.specs.declared.op.Pair.TheVariants as pair
use Rattle.gb_domain.specs.Limits.{item_room}
use Rattle.gb_domain.specs.Areas.{is_free_byte}
use Rattle.gb_domain.specs.Pairs.{any_pairs}
use Rattle.gb_product.specs.Below.gb_abs.Stack.{pushed, popped}
use Rattle.gb_product.specs.Below.gb_abs_effects.declared.writes.AbsWrite.TheVariants as write
use Rattle.gb_ops.specs.Cartridge.{kind_of}
use Rattle.gb_successors.proofs.MovedLaws.{written_summary, told_summary}
use Rattle.gb_successors.specs.Stacks.{pushed_if_room}
use Rattle.gb_successors.specs.declared.stacks.StackMove.{StackMove}
use Rattle.gb_successors.specs.declared.stacks.Stack.{Stack}
use Rattle.gb_successors.specs.declared.successors.Successors.{Successors}
use Rattle.gb_successors.specs.Behind.{starts, written, with_cell_if, ended}
use Rattle.gb_successors.specs.Way.{Successor}
use Rattle.gb_successors.specs.Successors.{word_in, related_successor, relations_behind, taken_successor, untaken_successor, with_product, reduced_successor, product_before, taken_by_side, not_taken_by_side, taken_from, not_taken_from, staying_successor, woken, may_stay, stays, successors_of, taken_parts, said_successor, summary_behind, memory_before, taken_move}
use Rattle.gb_successors.specs.Summaries.{summary_by}
use Rattle.gb_successors.specs.Sound.{bytes_behind, IsAllowed, LeadsSimply, LeadsParts, LeadsBy, IsHalt, IsHeld, IsStackKnown, Stands, IsRuled, IsStackRuled, Executes, AreSoundSuccessors}
use Rattle.gb_successors.proofs.SimpleLaws.{behind_row, with_stack_of, simple_parts, IsTold, taken_simply}
use Rattle.gb_successors.proofs.ToldLaws.{told_core, told_items, IsToldCell, IsToldCell-side, Stands-told, IsStackKnown-told, IsAllowed-told, IsTold-outside, IsTold-taken, IsVal-memory_before, held_before}
use Rattle.gb_successors.proofs.HoldingLaws.{settled_simply}
use Rattle.gb_successors.specs.Settled.{branch_outside}
use Rattle.gb_product.specs.Held.{stack_held}
use Rattle.gb_successors.proofs.PlainLaws.{Keeps, Keeps-settle}
use Rattle.gb_successors.proofs.MarkLaws.{executed_mark}
use Rattle.gb_successors.proofs.SaidLaws.{Leads-summarized, Leads-said, IsAllowed-said, LeadsHere, Leads-simply}
use Rattle.gb_successors.proofs.SettledLaws.{HoldSummary-settled}
use Rattle.gb_successors.proofs.SummaryLaws.{HoldSummary-passed}
use Rattle.gb_successors.proofs.RelatedLaws.{MeansParts-related, IsAllowed-parts, LeadsSimply-related, by_rules, related_begun, Leads-taken, HoldRelations-same, values_begun}
use Rattle.gb_successors.proofs.SuccessorLaws.{begun, given, effect, begun_core, MeansParts-ended, passed_peek, leads_simply, IsTaken, Done}
use Rattle.gb_successors.proofs.ExtendedWayLaws.{read_before, before_of, executes_widely}
use Rattle.gb_successors.proofs.HaltBugLaws.{halt_repeats_widely}
use Rattle.gb_successors.proofs.UntakenLaws.{ended_room, bytes_ended, leads_at, simple_untaken, untaken_simply, bytes_untaken, untaken_executes, keeps_side, side_facts}
use Rattle.gb_successors.proofs.StackWayLaws.{taken_executes}
use Rattle.gb_product.proofs.ReducedLaws.{Holds-values}
use Rattle.gb_product.specs.Below.gb_relations.Transfer.{values_of}
use Rattle.gb_product.specs.Covering.{read_in as bytes_read}
use Rattle.gb_successors.specs.Stacks.{address_below}

-- ---- executed

reduced_simply : (rules : Rules) (entered read : PairBounds) (c : Core) (r : Relations) → rules ≡ Simple → reduced rules entered read c r ≡ Some (product_of c r)
unfolding reduced
reduced_simply Simple entered read c r h = refl
reduced_simply Extended entered read c r h = absurd cc

-- nothing is cut behind it
whole_successor : (rules : Rules) (entered : PairBounds) (t : Successor) → rules ≡ Simple → reduced_successor rules entered t ≡ Some t
unfolding reduced_successor
whole_successor rules entered t h = ap (option_map (with_product t)) (reduced_simply rules entered any_pairs t.state.core t.state.relations h)

taken_way : (k : Stack) (program : Program) (rom : List ℕ) (row : Row) (a : ℕ) (s : AbsState) (b : Branch) → k.setting.rules ≡ Simple
    → taken_side row.op (memory_before k program s (product_of (core_settle s.core) s.relations)) (core_settle s.core) s.relations ≡ Some b
    → (successors_of k program rom row a s).taken ≡ Some (taken_successor k program rom row (behind_row a row) s (branch_outside k.region b))
unfolding successors_of product_before
taken_way k program rom row a s b h e =
    let next = behind_row a row in
    ap (option_and_then (taken_from k program rom row next s)) (reduced_simply k.setting.rules k.setting.entered (bytes_read program s) (core_settle s.core) s.relations h)
    ∙ (ap (option_and_then (taken_by_side k program rom row next s)) e
    ∙ (settled_simply k b.cell s.core (taken_successor k program rom row next s (branch_outside k.region b)) h
    ∙ whole_successor k.setting.rules k.setting.entered (taken_successor k program rom row next s (branch_outside k.region b)) h))

untaken_way : (k : Stack) (program : Program) (rom : List ℕ) (row : Row) (a : ℕ) (s : AbsState) (b : Branch) → k.setting.rules ≡ Simple
    → not_taken_side row.op (memory_before k program s (product_of (core_settle s.core) s.relations)) (core_settle s.core) s.relations ≡ Some b
    → (successors_of k program rom row a s).not_taken ≡ Some (untaken_successor k row (behind_row a row) s (branch_outside k.region b))
unfolding successors_of product_before
untaken_way k program rom row a s b h e =
    let next = behind_row a row in
    ap (option_and_then (not_taken_from k program row next s)) (reduced_simply k.setting.rules k.setting.entered (bytes_read program s) (core_settle s.core) s.relations h)
    ∙ (ap (option_and_then (not_taken_by_side k row next s)) e
    ∙ (settled_simply k b.cell s.core (untaken_successor k row next s (branch_outside k.region b)) h
    ∙ whole_successor k.setting.rules k.setting.entered (untaken_successor k row next s (branch_outside k.region b)) h))

-- the successor where it is taken, which says nothing of the whole program
abbrev simple_related : Stack → Program → List ℕ → Row → ℕ → AbsState → Branch → Successor
simple_related k program rom row next s b =
    related_successor (relations_behind k program rom row.op s (product_of b.core b.relations))
    (simple_parts k.setting rom k.region row next (with_cell_if k.setting b.cell s) b.core)

abbrev simple_taken : Stack → Program → List ℕ → Row → ℕ → AbsState → Branch → Successor
simple_taken k program rom row next s b = said_successor no_summary (simple_related k program rom row next s b)

nothing_said : (r : Rules) (k : Stack) (program : Program) (o : Op) (s : AbsState) (p : Product) (m : StackMove) (what : AbsWrite) (cells : List Cell) → r ≡ Simple → summary_by r k program o s p m what cells ≡ no_summary
unfolding summary_by
nothing_said Simple k program o s p m what cells h = refl
nothing_said Extended k program o s p m what cells h = absurd cc

taken_is :
    (k : Stack) (program : Program) (rom : List ℕ) (row : Row) (next : ℕ) (s : AbsState) (b : Branch) → k.setting.rules ≡ Simple → IsTold b.cell (read_of row.op b.core)
    → taken_successor k program rom row next s b ≡ simple_taken k program rom row next s b
unfolding taken_successor summary_behind
taken_is k program rom row next s b h told =
    let p = product_of b.core b.relations in
    let t = taken_parts k program rom row next s p b.cell in
    ap (λ m. said_successor m (related_successor (relations_behind k program rom row.op s p) t)) (nothing_said k.setting.rules k program row.op s p (taken_move k program rom row next s p) t.write t.state.cells h)
    ∙ ap (λ u. said_successor no_summary (related_successor (relations_behind k program rom row.op s p) u)) (taken_simply k program rom row next s p b.cell h told)

-- nothing is put aside
stack_none : (z : Setting) (o : Op) (w : AbsWrite) (s : AbsState) → s.summary.aside ≡ None → (with_stack_of z o w s).summary.aside ≡ None
unfolding with_stack_of pushed_if_room pushed popped
stack_none z (op.LoadPair pair.Sp a) w s h = refl
stack_none z (op.LoadPair pair.Bc a) w s h = h
stack_none z (op.LoadPair pair.De a) w s h = h
stack_none z (op.LoadPair pair.Hl a) w s h = h
stack_none z (op.Push from) (write.Push high low) s h = by (nat_lt (item_room z.rules) (length s.items + 2))
  where
    by : (b : Bool) → (cond b s (pushed (record { high = high; low = low }) s)).summary.aside ≡ None
    by true = h
    by false = h
stack_none z (op.Push from) write.Nothing s h = h
stack_none z (op.Push from) (write.Byte span v) s h = h
stack_none z (op.Push from) (write.Word a low high) s h = h
stack_none z (op.Pop to) w s h = h
stack_none z o w s h = h

simple_none :
    (z : Setting) (rom : List ℕ) (region : Region) (row : Row) (next : ℕ) (s : AbsState) (c : Core) → s.summary.aside ≡ None → (simple_parts z rom region row next s c).state.summary.aside ≡ None
unfolding simple_parts ended
simple_none z rom region row next s c h =
    ap (λ (m : SummaryParts). m.aside) (written_summary z region (kind_of rom) _ _)
    ∙ stack_none z row.op _ _ h

Leads-behind :
    (k : Stack) (program : Program) (rom : List ℕ) (ranges : List Range) (row : Row) (a : ℕ) (s : AbsState) (entry : Activation) (base : ℕ) (x : MState) (reads : List ℕ) (b : Branch)
    → (with_cell_if k.setting b.cell s).summary.aside ≡ None
    → IsTaken k.setting rom k.region ranges row a (with_cell_if k.setting b.cell s) entry base x reads b.core → AreRelated b.relations entry (begun row x)
    → LeadsParts k.setting k.region ranges (simple_parts k.setting rom k.region row (behind_row a row) (with_cell_if k.setting b.cell s) b.core) entry base x (outside (executed (within rom x) row reads))
    → LeadsHere k.setting k.region ranges (simple_taken k program rom row (behind_row a row) s b) entry base x (outside (executed (within rom x) row reads))
unfolding relations_behind
Leads-behind k program rom ranges row a s entry base x reads b none taken related led =
    let y = outside (executed (within rom x) row reads) in
    Leads-said k.setting k.region ranges no_summary (simple_related k program rom row (behind_row a row) s b) entry base x y
    (sym (simple_none k.setting rom k.region row (behind_row a row) (with_cell_if k.setting b.cell s) b.core none))
    (Leads-taken k.setting rom k.region ranges row a (with_cell_if k.setting b.cell s) entry base x reads b.core taken led
    (stack_held k.setting k.region (length s.items)) (sp_bounds k.setting s) (word_in k program rom row.op s (product_of b.core b.relations)).low b.relations related)
    (nothing_holds entry.program _ y.processor (peek y.storage) y.storage.banks)

held_simply : (k : Stack) (program : Program) (rom : List ℕ) (row : Row) (a : ℕ) (s : AbsState) (t : Successor) → k.setting.rules ≡ Simple → length t.state.items ≤ bytes_behind row.op (length s.items) → IsHeld k.setting.rules k program rom row a s t
held_simply k program rom row a s t e h = subst (λ r. IsHeld r k program rom row a s t) (sym e) h

stack_simply : (k : Stack) (program : Program) (rom : List ℕ) (row : Row) (a : ℕ) (s : AbsState) (base : ℕ) → k.setting.rules ≡ Simple → IsRuled k program rom row a s base → IsStackKnown k.setting k.region row.op s base
stack_simply k program rom row a s base e h = subst (λ r. IsStackRuled r k program rom row a s base) e h.stack

executes_simply :
    (k : Stack) (program : Program) (rom : List ℕ) (row : Row) (a : ℕ) (s : AbsState) (ranges : List Range) (entry : Activation) (base : ℕ) (x : MState) (reads : List ℕ)
    → k.setting.rules ≡ Simple → entry.program ≡ program → Stands k.setting rom k.region row a s entry base x → IsRuled k program rom row a s base → x.processor.halt_mark ≡ false → slice_index reads 0 ≤ 255
    → Executes k program rom ranges row a s (successors_of k program rom row a s) entry base x reads
executes_simply k program rom row a s ranges entry base x reads simple of stands ruled mark byte =
    choose (effect rom row x reads).is_taken refl
  where
    settled : Core
    settled = core_settle s.core

    memory : Val
    memory = memory_before k program s (product_of settled s.relations)

    begins : MeansCore settled entry (begun row x)
    begins = begun_core row x s.core entry stands.means.parts.core

    related : AreRelated s.relations entry (begun row x)
    related = related_begun row x s.relations entry stands.means.related

    known : IsKnown memory s.relations entry (begun row x)
    known = record {
      byte = held_before k s (product_of settled s.relations) entry base x program of stands.based stands.means.parts stands.means.summary (values_begun row x (values_of settled.registers s.relations.pairs) (beside entry x) (Holds-values settled s.relations entry (begun row x) begins related));
      related = related;
    }

    by_taken : (o : Option Branch) → taken_side row.op memory settled s.relations ≡ o → (effect rom row x reads).is_taken ≡ true → IsMeantBranch o entry (begun row x)
        → Executes k program rom ranges row a s (successors_of k program rom row a s) entry base x reads
    by_taken None e taken h = absurd h
    by_taken (Some b) e taken h =
        let is = side_facts _ b memory settled s.relations e (taken_side_cuts row.op memory settled s.relations _ refl) in
        let o : Branch = branch_outside k.region b in
        let told = with_cell_if k.setting o.cell s in
        let cell : IfSome o.cell (IsToldCell k.region entry x) = IsToldCell-side k.setting k.region (length s.items) memory settled s.relations b entry x stands.place (IsVal-memory_before k program s (product_of settled s.relations) stands.items stands.vals) is h.cell in
        let t : IsTaken k.setting rom k.region ranges row a told entry base x reads b.core = record {
          stands = Stands-told k.setting rom k.region row a o.cell s entry base x cell stands;
          rules = simple;
          operands = ruled.operands;
          runs = ruled.runs;
          stack = IsStackKnown-told k.setting k.region row.op o.cell s base (stack_simply k program rom row a s base simple ruled);
          mark = mark;
          byte = byte;
          keeps = subst (λ c. Keeps c b.core) (sym (told_core k.setting o.cell s)) (keeps_side s.core settled memory s.relations b (Keeps-settle s.core) is);
          means = h.core;
          core = is.inhabited (IsCore-settle s.core stands.core);
          taken = taken;
        } in
        let parts = simple_parts k.setting rom k.region row (behind_row a row) told b.core in
        let done : IsAllowed k.setting rom k.region ranges s base (simple_taken k program rom row (behind_row a row) s o) → Done k.setting rom k.region ranges row told parts entry base x reads =
        λ allowed. taken_executes k.setting rom k.region ranges row a told entry base x reads b.core t
        (IsAllowed-told k.setting rom k.region ranges o.cell s base parts
        (IsAllowed-parts k.setting rom k.region ranges s base (relations_behind k program rom row.op s (product_of b.core b.relations)) parts
        (IsAllowed-said k.setting rom k.region ranges s base no_summary (simple_related k program rom row (behind_row a row) s o) allowed))) in
        record {
          successor = simple_taken k program rom row (behind_row a row) s o;
          is_one = inl (taken_way k program rom row a s b simple e ∙ ap Some (taken_is k program rom row (behind_row a row) s o simple (IsTold-outside k.region b.cell (read_of row.op b.core) (IsTold-taken row.op memory settled b.core s.relations b e))));
          mark = executed_mark rom x row reads;
          held = λ allowed. held_simply k program rom row a s (simple_taken k program rom row (behind_row a row) s o) simple (subst (λ items. length parts.state.items ≤ bytes_behind row.op (length items)) (told_items k.setting o.cell s) (done allowed).held);
          leads = λ allowed. Leads-simply k.setting k.region ranges (simple_taken k program rom row (behind_row a row) s o) entry base x (outside (executed (within rom x) row reads)) simple
              (Leads-behind k program rom ranges row a s entry base x reads o (ap (λ (m : SummaryParts). m.aside) (told_summary k.setting o.cell s) ∙ stands.quiet simple) t h.related (done allowed).leads);
          faults = λ allowed. (done allowed).faults;
        }

    by_not_taken : (o : Option Branch) → not_taken_side row.op memory settled s.relations ≡ o → (effect rom row x reads).is_taken ≡ false → IsMeantBranch o entry (begun row x)
        → Executes k program rom ranges row a s (successors_of k program rom row a s) entry base x reads
    by_not_taken None e not_taken h = absurd h
    by_not_taken (Some b) e not_taken h =
        let is = side_facts _ b memory settled s.relations e (not_taken_side_cuts row.op memory settled s.relations _ refl) in
        let o : Branch = branch_outside k.region b in
        let told = with_cell_if k.setting o.cell s in
        let cell : IfSome o.cell (IsToldCell k.region entry x) = IsToldCell-side k.setting k.region (length s.items) memory settled s.relations b entry x stands.place (IsVal-memory_before k program s (product_of settled s.relations) stands.items stands.vals) is h.cell in
        let keeps : Keeps told.core b.core = subst (λ c. Keeps c b.core) (sym (told_core k.setting o.cell s)) (keeps_side s.core settled memory s.relations b (Keeps-settle s.core) is) in
        let done = untaken_executes k.setting rom k.region ranges row a told entry base x reads b.core b.relations (Stands-told k.setting rom k.region row a o.cell s entry base x cell stands) ruled.runs mark keeps h.core h.related not_taken in
        record {
          successor = simple_untaken row (behind_row a row) told b.core b.relations;
          is_one = inr (inl (untaken_way k program rom row a s b simple e ∙ ap Some (untaken_simply k row (behind_row a row) s o)));
          mark = executed_mark rom x row reads;
          held = λ allowed. held_simply k program rom row a s (simple_untaken row (behind_row a row) told b.core b.relations) simple (subst (λ items. length (simple_untaken row (behind_row a row) told b.core b.relations).state.items ≤ bytes_behind row.op (length items)) (told_items k.setting o.cell s)
              (bytes_untaken row (behind_row a row) told b.core b.relations));
          leads = λ allowed. Leads-simply k.setting k.region ranges (simple_untaken row (behind_row a row) told b.core b.relations) entry base x (outside (executed (within rom x) row reads)) simple
              (Leads-summarized k.setting k.region ranges (simple_untaken row (behind_row a row) told b.core b.relations) entry base x (outside (executed (within rom x) row reads)) done.0 done.1);
          faults = λ allowed. done.2;
        }

    choose : (b : Bool) → (effect rom row x reads).is_taken ≡ b → Executes k program rom ranges row a s (successors_of k program rom row a s) entry base x reads
    choose true e =
        by_taken _ refl e ((taken_side_sound (is_free_byte k.region) row.op memory settled s.relations _ refl stands.pairs).gives entry (begun row x) (given rom row x reads).low (given rom row x reads).high known begins e)
    choose false e =
        by_not_taken _ refl e ((not_taken_side_sound (is_free_byte k.region) row.op memory settled s.relations _ refl stands.pairs).gives entry (begun row x) (given rom row x reads).low (given rom row x reads).high known begins e)

-- ---- HALT

-- an interrupt that is enabled is one that may be
enabled_known : (v : Val) (entry : Activation) (ie : ℕ) → Holds v entry ie → not (ie % 32 == 0) ≡ true → may_enable v ≡ true
unfolding may_enable
enabled_known v entry ie h e =
    let least = h.least in
    let most = h.most in
    grind (arith, nat_tests)

pending_known : (s : ImeSet) (i : Ime) → i ≡ ime.Pending → ime_may_be s i ≡ true → s.pending ≡ true
pending_known s i e h = subst (λ j. ime_may_be s j ≡ true) e h

stays_way : (row : Row) (a : ℕ) (s : AbsState) → row.op ≡ op.Halt → s.core.ime.pending ≡ true → may_enable s.core.ie ≡ true → stays row a s ≡ Some (staying_successor a s)
unfolding stays may_stay
stays_way row a s is pending enable = rw (is, pending, enable) refl

stays_at : (k : Stack) (program : Program) (rom : List ℕ) (row : Row) (a : ℕ) (s : AbsState) (p : Product) → product_before program k.setting.rules k.setting.entered s ≡ Some p → (successors_of k program rom row a s).stays ≡ stays row a s
unfolding successors_of
stays_at k program rom row a s p is = ap (option_and_then (λ (q : Product). stays row a s)) is

-- interrupts are on
woken_core : (s : Core) (entry : Activation) (x : MState) → MeansCore s entry x → MeansCore (woken s) entry (record x { processor = record x.processor { ime = ime.On } })
woken_core s entry x m = record {
  registers = m.registers;
  flags = m.flags;
  ie = m.ie;
  ime = refl;
  controller = m.controller;
  count = m.count;
  locked = m.locked;
  stopped = m.stopped;
}

not_both : (i : Ime) → i ≡ ime.Pending → i ≡ ime.Off → ⊥
not_both i e f = absurd (let bad : ime.Pending ≡ ime.Off = sym e ∙ f in cc)

halt_stays :
    (k : Stack) (program : Program) (rom : List ℕ) (row : Row) (a : ℕ) (s : AbsState) (ranges : List Range) (entry : Activation) (base : ℕ) (x : MState)
    → entry.program ≡ program → Stands k.setting rom k.region row a s entry base x → IsHalt row → x.processor.ime ≡ ime.Pending → has_enabled (within rom x) ≡ true
    → LeadsBy k.setting k.region ranges (length s.items) (successors_of k program rom row a s).stays entry base x (outside (halt_stay (within rom x)))
unfolding halt_stay within outside staying_successor ended
halt_stays k program rom row a s ranges entry base x of stands halt pending enabled =
    let m = stands.means.parts in
    let woke : MState = record x { processor = record x.processor { ime = ime.On } } in
    let before = before_of k program s entry (begun row x) stands.core stands.pairs stands.within (read_before program s entry base x of stands.means) (begun_core row x s.core entry m.core) (related_begun row x s.relations entry stands.means.related) in
    record {
      successor = staying_successor a s;
      held = bytes_ended 1 (with_core s (woken s.core));
      is_way = stays_at k program rom row a s before.product before.is ∙ stays_way row a s halt.op_is (pending_known s.core.ime x.processor.ime pending m.core.ime) (enabled_known s.core.ie entry x.storage.ie m.core.ie enabled);
      leads = record {
        to = leads_at k.setting k.region a (staying_successor a s) entry base x _ (record {
          means = MeansParts-related s.relations (ended false 1 (with_core s (woken s.core))) entry base _
              (MeansParts-ended rom (with_core s (woken s.core)) entry base woke.processor (view rom x false) false 1 refl
              (MeansParts-with_core s (woken s.core) entry base x woke m (woken_core s.core entry x m.core) refl refl refl (λ set. set)));
          goes = stands.at;
          room = ended_room k.region base false 1 (with_core s (woken s.core)) stands.room;
        });
        kept = λ b kept. passed_peek (view rom x false) 1 b;
        related = λ known. HoldRelations-same s.relations _ _ (peek x.storage) _ _ (λ b. passed_peek (view rom x false) 1 b) stands.means.related;
        summary = HoldSummary-passed entry.program s.cells s.summary woke.processor (view rom x false) 1
            (HoldSummary-settled entry.program s.cells s.summary x.processor woke.processor (peek x.storage) x.storage.banks refl refl (λ off. absurd (not_both x.processor.ime pending off)) stands.means.summary);
      };
    }

-- the halt bug: PC goes on, and the HALT mark is set
abbrev repeated : MState → MState
repeated x = record x { processor = record x.processor { pc = (x.processor.pc + (1 - mark_of x.processor)) % 65536; halt_mark = true } }

off_settled : (s : ImeSet) (i : Ime) → i ≡ ime.Off → ime_may_be s i ≡ true → ime_may_be (ime_set_after s) i ≡ true
off_settled s i e h = subst (λ j. ime_may_be (ime_set_after s) j ≡ true) (sym e) (subst (λ j. ime_may_be s j ≡ true) e h)

repeated_core : (s : Core) (entry : Activation) (x : MState) → x.processor.ime ≡ ime.Off → MeansCore s entry x → MeansCore (core_settle s) entry (repeated x)
unfolding core_settle
repeated_core s entry x off m = record {
  registers = m.registers;
  flags = m.flags;
  ie = m.ie;
  ime = off_settled s.ime x.processor.ime off m.ime;
  controller = m.controller;
  count = m.count;
  locked = m.locked;
  stopped = m.stopped;
}

halt_side : (row : Row) (memory : Val) (c : Core) (r : Relations) → row.op ≡ op.Halt → taken_side row.op memory c r ≡ Some (record { core = c; relations = r; cell = None })
unfolding taken_side Flags.sides_of
halt_side row memory c r e = ap (λ (o : Op). side_where (Flags.condition_of o) memory r (Flags.sides_by (Flags.condition_of o) c).taken) e

halt_state : (z : Setting) (rom : List ℕ) (region : Region) (row : Row) (a : ℕ) (s : AbsState) (c : Core) → IsHalt row → (simple_parts z rom region row (behind_row a row) s c).state ≡ ended false 1 (with_core s c)
unfolding simple_parts transfer written starts with_stack_of
halt_state z rom region row a s c halt = rw (halt.op_is, halt.cycles_are) refl

halt_target : (z : Setting) (rom : List ℕ) (region : Region) (row : Row) (a : ℕ) (s : AbsState) (c : Core) → IsHalt row → (simple_parts z rom region row (behind_row a row) s c).target ≡ target.At ((a + 1) % 65536)
unfolding simple_parts target_of
halt_target z rom region row a s c halt = rw (halt.op_is, halt.length_is) refl

-- what is known together stays
halt_related :
    (k : Stack) (program : Program) (rom : List ℕ) (row : Row) (a : ℕ) (s : AbsState) (entry : Activation) (base : ℕ) (x y : MState)
    → k.setting.rules ≡ Simple → Stands k.setting rom k.region row a s entry base x → IsHalt row → y.processor.registers ≡ x.processor.registers → y.processor.flags ≡ x.processor.flags
    → AreRelated (relations_behind k program rom row.op s (product_of (core_settle s.core) s.relations)) entry y
unfolding relations_behind compared_after comparison_of writes_a writes_flags written_registers
halt_related k program rom row a s entry base x y simple stands halt registers flags =
    by_rules k.setting.rules k.setting.is_whole (stack_held k.setting k.region (length s.items)) row.op _ _ _ s.relations _ _ _ _ simple
    (subst (λ (o : Op). HoldOneByte (compared_after o s.relations.byte) y.processor.registers (peek y.storage) y.processor.flags) (sym halt.op_is)
    (HoldOneByte-only_of_a s.relations.byte x.processor.registers y.processor.registers (peek x.storage) (peek y.storage) x.processor.flags y.processor.flags
    (ap (λ (r : Registers ℕ). r.a) registers) flags stands.means.related.byte))
    (subst (λ r. AreBytes r) (sym registers) (AreBytes-core s.core entry x stands.core stands.means.parts.core))

halt_repeats_simply :
    (k : Stack) (program : Program) (rom : List ℕ) (row : Row) (a : ℕ) (s : AbsState) (ranges : List Range) (entry : Activation) (base : ℕ) (x : MState)
    → k.setting.rules ≡ Simple → Stands k.setting rom k.region row a s entry base x → IsHalt row → x.processor.ime ≡ ime.Off → x.processor.halt_mark ≡ false
    → LeadsBy k.setting k.region ranges (length s.items) (successors_of k program rom row a s).taken entry base x (outside (halt_bug (within rom x)))
unfolding halt_bug within outside with_cell_if
halt_repeats_simply k program rom row a s ranges entry base x simple stands halt off mark =
    let m = stands.means.parts in
    let c = core_settle s.core in
    let b : Branch = record { core = c; relations = s.relations; cell = None } in
    let y : MState = record { processor = (repeated x).processor; storage = (passed (view rom x false) 1).storage } in
    let t = simple_parts k.setting rom k.region row (behind_row a row) s c in
    let none : mark_of x.processor ≡ 0 = ap (λ b. cond b 1 0) mark in
    let pc : (x.processor.pc + (1 - mark_of x.processor)) % 65536 ≡ (a + 1) % 65536 = rw (none, stands.at) refl in
    let to : LeadsSimply k.region t.target t entry base x y =
    subst (λ v. LeadsSimply k.region v t entry base x y) (sym (halt_target k.setting rom k.region row a s c halt))
    (record {
      means = subst (λ u. MeansParts u entry base y) (sym (halt_state k.setting rom k.region row a s c halt))
          (MeansParts-ended rom (with_core s c) entry base (repeated x).processor (view rom x false) false 1 refl
          (MeansParts-with_core s c entry base x (repeated x) m (repeated_core s.core entry x off m.core) refl refl refl (λ set. sym (Keeps-settle s.core).stack ∙ set)));
      goes = pc;
      room = subst (λ (u : AbsState). AreInRegion k.region base (length u.items)) (sym (halt_state k.setting rom k.region row a s c halt)) (ended_room k.region base false 1 (with_core s c) stands.room);
    }) in
    record {
      successor = simple_taken k program rom row (behind_row a row) s b;
      is_way = taken_way k program rom row a s b simple (halt_side row (memory_before k program s (product_of c s.relations)) c s.relations halt.op_is) ∙ ap Some (taken_is k program rom row (behind_row a row) s b simple tt);
      held = subst (λ (u : AbsState). length u.items ≤ length s.items) (sym (halt_state k.setting rom k.region row a s c halt)) (bytes_ended 1 (with_core s c));
      leads = Leads-simply k.setting k.region ranges (simple_taken k program rom row (behind_row a row) s b) entry base x y simple
          (Leads-said k.setting k.region ranges no_summary (related_successor (relations_behind k program rom row.op s (product_of c s.relations)) t) entry base x y
          (sym (simple_none k.setting rom k.region row (behind_row a row) s c (stands.quiet simple)))
          (record {
            to = leads_simply k.setting k.region t.target _ entry base x y simple (LeadsSimply-related k.region t.target (relations_behind k program rom row.op s (product_of c s.relations)) t entry base x y to);
            kept = λ b kept. passed_peek (view rom x false) 1 b;
            related = λ known. halt_related k program rom row a s entry base x y simple stands halt refl refl;
          })
          (nothing_holds entry.program _ y.processor (peek y.storage) y.storage.banks));
    }

-- ---- by any rules

executes :
    (k : Stack) (program : Program) (rom : List ℕ) (row : Row) (a : ℕ) (s : AbsState) (ranges : List Range) (entry : Activation) (base : ℕ) (x : MState) (reads : List ℕ)
    → entry.program ≡ program → entry.mark ≡ address_below base k.mark → Stands k.setting rom k.region row a s entry base x → IsRuled k program rom row a s base → x.processor.halt_mark ≡ false → slice_index reads 0 ≤ 255 → slice_index reads 1 ≤ 255
    → Executes k program rom ranges row a s (successors_of k program rom row a s) entry base x reads
executes k program rom row a s ranges entry base x reads of marked stands ruled mark byte second = by k.setting.rules refl
  where
    by : (r : Rules) → k.setting.rules ≡ r → Executes k program rom ranges row a s (successors_of k program rom row a s) entry base x reads
    by Simple e = executes_simply k program rom row a s ranges entry base x reads e of stands ruled mark byte
    by Extended e = executes_widely k program rom row a s ranges entry base x reads e of marked stands ruled mark byte second

halt_repeats :
    (k : Stack) (program : Program) (rom : List ℕ) (row : Row) (a : ℕ) (s : AbsState) (ranges : List Range) (entry : Activation) (base : ℕ) (x : MState)
    → entry.program ≡ program → entry.mark ≡ address_below base k.mark → Stands k.setting rom k.region row a s entry base x → IsHalt row → x.processor.ime ≡ ime.Off → x.processor.halt_mark ≡ false
    → LeadsBy k.setting k.region ranges (length s.items) (successors_of k program rom row a s).taken entry base x (outside (halt_bug (within rom x)))
halt_repeats k program rom row a s ranges entry base x of marked stands halt off mark = by k.setting.rules refl
  where
    by : (r : Rules) → k.setting.rules ≡ r → LeadsBy k.setting k.region ranges (length s.items) (successors_of k program rom row a s).taken entry base x (outside (halt_bug (within rom x)))
    by Simple e = halt_repeats_simply k program rom row a s ranges entry base x e stands halt off mark
    by Extended e = halt_repeats_widely k program rom row a s ranges entry base x e of marked stands halt off mark

pub successors_of_sound : (k : Stack) (program : Program) (rom : List ℕ) (row : Row) (a : ℕ) (s : AbsState) (ss : Successors) → ss ≡ successors_of k program rom row a s → AreSoundSuccessors k program rom row a s ss
successors_of_sound k program rom row a s ss e =
    subst (AreSoundSuccessors k program rom row a s) (sym e)
    (record {
      executes = λ ranges entry base x reads of marked stands ruled mark byte second. executes k program rom row a s ranges entry base x reads of marked stands ruled mark byte second;
      stays = λ ranges entry base x of stands halt pending enabled. halt_stays k program rom row a s ranges entry base x of stands halt pending enabled;
      repeats = λ ranges entry base x of marked stands halt off mark. halt_repeats k program rom row a s ranges entry base x of marked stands halt off mark;
    })
