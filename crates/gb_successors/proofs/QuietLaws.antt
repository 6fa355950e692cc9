-- Where nothing was said of the whole program, and no store tells of the controller, the states of a successor say nothing of it.
use Rattle.std.proofs.Common.{◌≡◌, ℕ, Bool, true, false, cond, List, Option, Some, None, option_and_then, inl, inr, subst}
use Rattle.std.proofs.lemmas.Option.{same_Some}
use Rattle.gb_ops.specs.declared.machine.Kind.TheVariants as kind
use Rattle.gb_ops.specs.declared.op.Row.{Row}
use Rattle.gb_domain.specs.declared.types.Cell.{Cell}
use Rattle.gb_domain.specs.declared.setting.Setting.{Setting}
use Rattle.gb_domain.specs.Summaries.{Program, no_summary}
use Rattle.gb_domain.specs.Types.{AbsState}
use Rattle.gb_product.specs.declared.parts.Branch.{Branch}
use Rattle.gb_product.specs.declared.parts.Product.{Product}
use Rattle.gb_product.specs.Reduced.{product_of}
use Rattle.gb_domain.specs.declared.pairs.Bounds.{Bounds}
use Rattle.gb_domain.specs.Summaries.{SummaryParts}
use Rattle.std.specs.Prelude.{◌&&◌, ◌⊎◌, is_some}
use Rattle.std.proofs.Common.{sym, ◌∙◌, ap, refl}
use Rattle.gb_successors.specs.declared.stacks.StackMove.{StackMove}
use Rattle.gb_successors.specs.declared.stacks.StackMove.TheVariants as move
use Rattle.gb_successors.specs.Stacks.{around_of}
use Rattle.gb_successors.specs.Summaries.{puts_aside}
use Rattle.gb_successors.proofs.AsideLaws.{left_where}
use Rattle.gb_successors.specs.declared.stacks.Stack.{Stack}
use Rattle.gb_domain.specs.declared.types.Core.{Core}
use Rattle.gb_successors.specs.Behind.{ended, with_cell_if}
use Rattle.gb_successors.specs.Sound.{IsOneOf}
use Rattle.gb_successors.specs.Successors.{summary_behind, taken_successor, untaken_successor, settled_way, staying_successor, may_stay, stays, product_before, taken_from, not_taken_from, successors_of, taken_move}
use Rattle.gb_successors.specs.Settled.{branch_outside}
use Rattle.gb_successors.specs.Way.{Successor}
use Rattle.gb_successors.proofs.HoldingLaws.{settled_summary}
use Rattle.gb_successors.proofs.SilentLaws.{silent_by}
use Rattle.gb_successors.proofs.SimpleLaws.{behind_row}

abbrev pub IsQuiet : Successor → Type 0
IsQuiet t = t.state.summary ≡ no_summary

-- what is reduced, and settled
quiet_sides :
    (k : Stack) (core : Core) (way : Branch → Successor) (o : Option Branch) (w : Successor)
    → ((b : Branch) → IsQuiet (way b)) → option_and_then (λ b. settled_way k b.cell core (way (branch_outside k.region b))) o ≡ Some w → IsQuiet w
quiet_sides k core way None w q e = cc
quiet_sides k core way (Some b) w q e = settled_summary k b.cell core (way (branch_outside k.region b)) w e ∙ q (branch_outside k.region b)

quiet_ways : (ways : Product → Option Successor) (o : Option Product) (w : Successor) → ((p : Product) → ways p ≡ Some w → IsQuiet w) → option_and_then ways o ≡ Some w → IsQuiet w
quiet_ways ways None w each e = cc
quiet_ways ways (Some p) w each e = each p e

quiet_staying : (b : Bool) (a : ℕ) (s : AbsState) (w : Successor) → s.summary ≡ no_summary → cond b (Some (staying_successor a s)) None ≡ Some w → IsQuiet w
unfolding staying_successor ended
quiet_staying true a s w q e = subst IsQuiet (same_Some _ _ e) q
quiet_staying false a s w q e = cc

quiet_stays : (row : Row) (a : ℕ) (s : AbsState) (w : Successor) → s.summary ≡ no_summary → stays row a s ≡ Some w → IsQuiet w
unfolding stays
quiet_stays row a s w q e = quiet_staying (may_stay row.op s.core) a s w q e

not_put : (m : StackMove) → ((b : Bounds) → m ≡ move.Aside b → ⊥) → puts_aside m ≡ false
not_put (move.Aside b) h = absurd (h b refl)
not_put m h = refl

-- by the rules of versions 1 to 3 SP isn't put aside
nowhere : (k : Stack) (s : AbsState) (core : Core) → k.setting.is_whole ≡ false → s.summary ≡ no_summary → ((around_of k s core).may_leave ≡ true) ⊎ (is_some (around_of k s core).aside ≡ true) → ⊥
unfolding around_of
nowhere k s core older q (inl may) = by k.setting.is_whole _ older may
  where
    by : (b c : Bool) → b ≡ false → (b && c) ≡ true → ⊥
    by true c e h = cc
    by false c e h = cc
nowhere k s core older q (inr some) = absurd (let bad : false ≡ true = sym (ap (λ (m : SummaryParts). is_some m.aside) q) ∙ some in cc)

quiet_taken :
    (k : Stack) (program : Program) (rom : List ℕ) (row : Row) (next : ℕ) (s : AbsState) (b : Branch)
    → k.setting.is_whole ≡ false → program.kind ≡ kind.Rom → s.summary ≡ no_summary → IsQuiet (taken_successor k program rom row next s b)
unfolding taken_successor summary_behind taken_move
quiet_taken k program rom row next s b older unknown q =
    silent_by k.setting.rules k program row.op s (product_of b.core b.relations) _ _ _ unknown
    (not_put _ (λ bounds e. nowhere k s b.core older q (left_where k (around_of k s b.core) row.op _ _ bounds e))) q

told_quietly : (z : Setting) (cell : Option Cell) (s : AbsState) → s.summary ≡ no_summary → (with_cell_if z cell s).summary ≡ no_summary
unfolding with_cell_if
told_quietly z None s q = q
told_quietly z (Some c) s q = q

quiet_untaken : (k : Stack) (row : Row) (next : ℕ) (s : AbsState) (b : Branch) → s.summary ≡ no_summary → IsQuiet (untaken_successor k row next s b)
unfolding untaken_successor ended
quiet_untaken k row next s b q = told_quietly k.setting b.cell (record s { core = b.core }) q

-- each of them
pub quiet_successor :
    (k : Stack) (program : Program) (rom : List ℕ) (row : Row) (a : ℕ) (s : AbsState) (t : Successor)
    → k.setting.is_whole ≡ false → program.kind ≡ kind.Rom → s.summary ≡ no_summary → IsOneOf (successors_of k program rom row a s) t → t.state.summary ≡ no_summary
unfolding successors_of
quiet_successor k program rom row a s t older unknown q (inl e) =
    quiet_ways (taken_from k program rom row (behind_row a row) s) (product_before program k.setting.rules k.setting.entered s) t
    (λ p. quiet_sides k s.core (taken_successor k program rom row (behind_row a row) s) _ t (λ b. quiet_taken k program rom row (behind_row a row) s b older unknown q)) e
quiet_successor k program rom row a s t older unknown q (inr (inl e)) =
    quiet_ways (not_taken_from k program row (behind_row a row) s) (product_before program k.setting.rules k.setting.entered s) t
    (λ p. quiet_sides k s.core (untaken_successor k row (behind_row a row) s) _ t (λ b. quiet_untaken k row (behind_row a row) s b q)) e
quiet_successor k program rom row a s t older unknown q (inr (inr e)) =
    quiet_ways (λ p. stays row a s) (product_before program k.setting.rules k.setting.entered s) t (λ p. quiet_stays row a s t q) e
