-- Where the successors of an instruction go on: by the rules of versions 1 and 2 where its row says.
use Rattle.std.proofs.Common.{◌≡◌, ℕ, ◌+◌, ◌%◌, Bool, true, false, cond, List, Option, Some, None, inl, inr, refl, sym, ◌∙◌, ap, subst}
use Rattle.std.proofs.lemmas.Option.{same_Some}
use Rattle.std.specs.Prelude.{option_and_then}
use Rattle.gb_ops.specs.declared.op.Pair.TheVariants as pair
use Rattle.gb_ops.specs.declared.op.Op.{Op}
use Rattle.gb_ops.specs.declared.op.Op.TheVariants as op
use Rattle.gb_ops.specs.declared.op.Row.{Row}
use Rattle.gb_successors.specs.declared.stacks.Around.{Around}
use Rattle.gb_successors.specs.Stacks.{around_of}
use Rattle.gb_successors.specs.Below.gb_domain.declared.pairs.Bounds.{Bounds}
use Rattle.gb_successors.specs.Below.gb_domain.declared.rules.Rules.{Rules}
use Rattle.gb_successors.specs.Below.gb_domain.declared.rules.Rules.TheVariants.{Simple, Extended}
use Rattle.gb_successors.specs.Below.gb_domain.declared.setting.Setting.{Setting}
use Rattle.gb_successors.specs.Below.gb_domain.declared.types.Core.{Core}
use Rattle.gb_successors.specs.Below.gb_domain.declared.types.Halves.{Halves}
use Rattle.gb_successors.specs.Below.gb_domain.Types.{AbsState}
use Rattle.gb_successors.specs.Below.gb_product.declared.parts.Branch.{Branch}
use Rattle.gb_successors.specs.Below.gb_product.declared.parts.Product.{Product}
use Rattle.gb_successors.specs.Below.gb_product.Reduced.{product_of}
use Rattle.gb_successors.specs.Below.gb_product.Sides.{taken_side, not_taken_side}
use Rattle.gb_successors.specs.Below.gb_abs_effects.declared.writes.AbsWrite.{AbsWrite}
use Rattle.gb_successors.specs.Below.gb_abs_effects.declared.targets.Target.{Target}
use Rattle.gb_successors.specs.Below.gb_abs_effects.declared.targets.Target.TheVariants as target
use Rattle.gb_successors.specs.Below.gb_abs_effects.Pairs.{is_word_known, least_word, pair_halves}
use Rattle.gb_successors.specs.Below.gb_abs_effects.Targets.{word_target, target_of}
use Rattle.gb_successors.specs.declared.stacks.Stack.{Stack}
use Rattle.gb_successors.specs.declared.stacks.StackMove.{StackMove}
use Rattle.gb_successors.specs.Refined.{refined_target}
use Rattle.gb_successors.specs.Refused.{is_unknown}
use Rattle.gb_successors.specs.Sound.{IsFound, IsOneOf, is_followed}
use Rattle.gb_successors.specs.Stacks.{stack_move}
use Rattle.gb_successors.specs.Successors.{memory_before, pointer_in, word_in, effect_in, taken_parts, taken_by_side, not_taken_by_side, taken_successor, untaken_successor, taken_from, not_taken_from, product_before, staying_successor, may_stay, stays, successors_of}
use Rattle.gb_successors.specs.Way.{Successor}
use Rattle.gb_successors.specs.Below.gb_domain.Summaries.{Program}
use Rattle.gb_successors.specs.Settled.{branch_outside}
use Rattle.gb_successors.proofs.HoldingLaws.{settled_target}

-- where a successor goes on that is taken, as its row, its pairs and its stack say it
record IsTakenTo (k : Stack) (o : Op) (next : ℕ) (t : Successor) : Type 0 where
  around : Around
  core : Core
  word : Halves
  pointer : Option Bounds
  write : AbsWrite
  is : t.target ≡ refined_target k.setting.rules k.setting o next word core pointer (stack_move k around o write pointer) (target_of o next core)

goes : (k : Stack) (program : Program) (rom : List ℕ) (row : Row) (next : ℕ) (s : AbsState) (b : Branch) → IsTakenTo k row.op next (taken_successor k program rom row next s b)
unfolding taken_successor taken_parts
goes k program rom row next s b =
    let p = product_of b.core b.relations in
    record { around = around_of k s b.core; core = b.core; word = word_in k program rom row.op s p; pointer = pointer_in k row.op p; write = (effect_in k program rom row.op next s p).write; is = refl }

is_taken_to : (k : Stack) (program : Program) (rom : List ℕ) (row : Row) (a : ℕ) (s : AbsState) (t : Successor) → (successors_of k program rom row a s).taken ≡ Some t → IsTakenTo k row.op ((a + row.length) % 65536) t
unfolding successors_of
is_taken_to k program rom row a s t h = from (product_before program k.setting.rules k.setting.entered s) h
  where
    at_side : (o : Option Branch) → option_and_then (taken_by_side k program rom row ((a + row.length) % 65536) s) o ≡ Some t → IsTakenTo k row.op ((a + row.length) % 65536) t
    at_side None e = cc
    at_side (Some b) e =
        let outside = branch_outside k.region b in
        let g = goes k program rom row ((a + row.length) % 65536) s outside in
        record { around = g.around; core = g.core; word = g.word; pointer = g.pointer; write = g.write; is = settled_target k b.cell s.core (taken_successor k program rom row ((a + row.length) % 65536) s outside) t e ∙ g.is }

    from : (o : Option Product) → option_and_then (taken_from k program rom row ((a + row.length) % 65536) s) o ≡ Some t → IsTakenTo k row.op ((a + row.length) % 65536) t
    from None e = cc
    from (Some p) e = at_side (taken_side row.op (memory_before k program s p) p.core p.relations) e

by_row : (rules : Rules) (z : Setting) (o : Op) (next : ℕ) (w : Halves) (core : Core) (hl : Option Bounds) (m : StackMove) → rules ≡ Simple
    → refined_target rules z o next w core hl m (target_of o next core) ≡ target_of o next core
unfolding refined_target
by_row rules z o next w core hl m simple = subst (λ q. refined_target q z o next w core hl m (target_of o next core) ≡ target_of o next core) (sym simple) refl

-- by the rules of versions 1 and 2 it goes on where the row says
taken_target : (k : Stack) (program : Program) (rom : List ℕ) (row : Row) (a : ℕ) (s : AbsState) (t : Successor) → k.setting.rules ≡ Simple → (successors_of k program rom row a s).taken ≡ Some t
    → (core : Core) × (t.target ≡ target_of row.op ((a + row.length) % 65536) core)
taken_target k program rom row a s t simple h =
    let g = is_taken_to k program rom row a s t h in
    (g.core, g.is ∙ by_row k.setting.rules k.setting row.op _ g.word g.core g.pointer _ simple)

-- HALT goes on behind itself
halts_behind : (rules : Rules) (k : Stack) (g : Around) (z : Setting) (next : ℕ) (w : Halves) (core : Core) (hl : Option Bounds) (what : AbsWrite)
    → refined_target rules z op.Halt next w core hl (stack_move k g op.Halt what hl) (target_of op.Halt next core) ≡ target.At next
unfolding refined_target stack_move target_of
halts_behind Simple k g z next w core hl what = refl
halts_behind Extended k g z next w core hl what = refl

pub halt_target : (k : Stack) (program : Program) (rom : List ℕ) (row : Row) (a : ℕ) (s : AbsState) (t : Successor) → row.op ≡ op.Halt → (successors_of k program rom row a s).taken ≡ Some t → t.target ≡ target.At ((a + row.length) % 65536)
halt_target k program rom row a s t halt h =
    let g = is_taken_to k program rom row a s t h in
    let next = (a + row.length) % 65536 in
    g.is ∙ (ap (λ (o : Op). refined_target k.setting.rules k.setting o next g.word g.core g.pointer (stack_move k g.around o g.write g.pointer) (target_of o next g.core)) halt ∙ halts_behind k.setting.rules k g.around k.setting next g.word g.core g.pointer g.write)

-- one that isn't goes on behind the instruction
untaken_target : (k : Stack) (program : Program) (rom : List ℕ) (row : Row) (a : ℕ) (s : AbsState) (t : Successor) → (successors_of k program rom row a s).not_taken ≡ Some t → t.target ≡ target.At ((a + row.length) % 65536)
unfolding successors_of untaken_successor
untaken_target k program rom row a s t h = from (product_before program k.setting.rules k.setting.entered s) h
  where
    at_side : (o : Option Branch) → option_and_then (not_taken_by_side k row ((a + row.length) % 65536) s) o ≡ Some t
        → t.target ≡ target.At ((a + row.length) % 65536)
    at_side None e = cc
    at_side (Some b) e = settled_target k b.cell s.core (untaken_successor k row ((a + row.length) % 65536) s (branch_outside k.region b)) t e

    from : (o : Option Product) → option_and_then (not_taken_from k program row ((a + row.length) % 65536) s) o ≡ Some t → t.target ≡ target.At ((a + row.length) % 65536)
    from None e = cc
    from (Some p) e = at_side (not_taken_side row.op (memory_before k program s p) p.core p.relations) e

staying_target : (k : Stack) (program : Program) (rom : List ℕ) (row : Row) (a : ℕ) (s : AbsState) (t : Successor) → (successors_of k program rom row a s).stays ≡ Some t → t.target ≡ target.At a
unfolding successors_of stays staying_successor
staying_target k program rom row a s t h = from (product_before program k.setting.rules k.setting.entered s) h
  where
    by : (b : Bool) → cond b (Some (staying_successor a s)) None ≡ Some t → t.target ≡ target.At a
    by true e = sym (ap (λ (w : Successor). w.target) (same_Some _ _ e))
    by false e = cc

    from : (o : Option Product) → option_and_then (λ (p : Product). stays row a s) o ≡ Some t → t.target ≡ target.At a
    from None e = cc
    from (Some p) e = by (may_stay row.op s.core) e

-- ---- what goes somewhere is followed

word_followed : (w : Halves) → is_unknown (word_target w) ≡ false → is_followed Simple (word_target w) ≡ true
word_followed w h = by (is_word_known w) h
  where
    by : (b : Bool) → is_unknown (cond b (target.At (least_word w)) target.Unknown) ≡ false → is_followed Simple (cond b (target.At (least_word w)) target.Unknown) ≡ true
    by true h = refl
    by false h = cc

row_followed : (o : Op) (next : ℕ) (core : Core) → is_unknown (target_of o next core) ≡ false → is_followed Simple (target_of o next core) ≡ true
unfolding target_of
row_followed op.JumpHl next core h = word_followed (pair_halves pair.Hl core) h
row_followed (op.JumpRelative e8) next core h = refl
row_followed (op.JumpRelativeIf condition e8) next core h = refl
row_followed (op.ReturnIf condition) next core h = refl
row_followed op.Return next core h = refl
row_followed op.ReturnFromInterrupt next core h = refl
row_followed (op.JumpIf condition w) next core h = refl
row_followed (op.Jump w) next core h = refl
row_followed (op.CallIf condition w) next core h = refl
row_followed (op.Call w) next core h = refl
row_followed (op.Restart w) next core h = refl
row_followed o next core h = refl

at_followed : (w : Target) (a : ℕ) → w ≡ target.At a → is_followed Simple w ≡ true
at_followed w a e = ap (is_followed Simple) e

-- by the rules of versions 1 and 2 each successor that doesn't lead anywhere is followed: none goes on in main or gets lost
pub way_followed : (k : Stack) (program : Program) (rom : List ℕ) (row : Row) (a : ℕ) (s : AbsState) (t : Successor) → k.setting.rules ≡ Simple → IsOneOf (successors_of k program rom row a s) t
    → is_unknown t.target ≡ false → is_followed Simple t.target ≡ true
way_followed k program rom row a s t simple (inl e) known =
    let goes = taken_target k program rom row a s t simple e in
    ap (is_followed Simple) goes.1 ∙ row_followed row.op ((a + row.length) % 65536) goes.0 (sym (ap is_unknown goes.1) ∙ known)
way_followed k program rom row a s t simple (inr (inl e)) known = at_followed t.target _ (untaken_target k program rom row a s t e)
way_followed k program rom row a s t simple (inr (inr e)) known = at_followed t.target _ (staying_target k program rom row a s t e)

-- by those of version 3 what is found
pub found_followed : (w : Target) → IsFound w → is_followed Extended w ≡ true
found_followed (target.At a) h = refl
found_followed (target.Call a) h = refl
found_followed target.Return h = refl
found_followed (target.Main a) h = refl
found_followed target.Unknown h = absurd h
found_followed target.Lost h = absurd h
