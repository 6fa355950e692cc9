-- Where a successor leads doesn't hang on what its states say of the whole program; what they say holds by itself.
use Rattle.std.proofs.Common.{◌≡◌, ℕ, ◌+◌, true, List, Bool, Option, sym, ◌∙◌, ap, subst}
use Rattle.gb_ops.specs.declared.machine.Region.{Region}
use Rattle.gb_ops.specs.Play.{MState}
use Rattle.gb_domain.specs.declared.relations.Relations.{Relations}
use Rattle.gb_domain.specs.declared.rules.Rules.{Rules}
use Rattle.gb_domain.specs.declared.rules.Rules.TheVariants.{Simple, Extended}
use Rattle.gb_domain.specs.declared.setting.Setting.{Setting}
use Rattle.gb_domain.specs.declared.types.Range.{Range}
use Rattle.gb_domain.specs.Summaries.{SummaryParts}
use Rattle.gb_domain.specs.Types.{AbsState}
use Rattle.gb_product.specs.Below.gb_summaries.Meaning.{HoldSummary}
use Rattle.gb_product.specs.Below.gb_abs.Meaning.{Activation, MeansParts}
use Rattle.gb_product.specs.Below.gb_abs.Stack.{pushed}
use Rattle.gb_product.specs.Below.gb_abs.Storage.{peek}
use Rattle.gb_product.specs.Below.gb_abs_effects.declared.targets.Target.{Target}
use Rattle.gb_product.specs.Below.gb_abs_effects.declared.targets.Target.TheVariants as target
use Rattle.gb_product.specs.Meaning.{AreRelated, IsSummarized}
use Rattle.gb_abs_memory.specs.Kept.{IsKept}
use Rattle.gb_domain.specs.declared.pairs.Bounds.{Bounds}
use Rattle.gb_product.specs.Below.gb_abs.Meaning.{located_by}
use Rattle.gb_successors.specs.Behind.{with_summary}
use Rattle.gb_successors.specs.Refused.{meets_closed, meets_oam_transfer}
use Rattle.gb_successors.specs.Sound.{IsStackFit, IsAllowed, is_followed, LeadsSimply, LeadsWidely, LeadsTo, AreRelatedBehind, Leads}
use Rattle.gb_successors.specs.Successors.{said_successor}
use Rattle.gb_successors.specs.Way.{Successor}

-- where it leads, but for what is said of the whole program
pub record LeadsRelated (z : Setting) (region : Region) (ranges : List Range) (t : Successor) (entry : Activation) (base : ℕ) (x y : MState) : Type 0 where
  pub to : LeadsTo z.rules z region t.target t entry base x y
  pub kept : (b : ℕ) → IsKept z region ranges base b → peek y.storage b ≡ peek x.storage b
  pub related : is_followed z.rules t.target ≡ true → AreRelated t.state.relations entry y

-- where it leads, with what is known together in a procedure that was entered as this one was
pub record LeadsHere (z : Setting) (region : Region) (ranges : List Range) (t : Successor) (entry : Activation) (base : ℕ) (x y : MState) : Type 0 where
  pub to : LeadsTo z.rules z region t.target t entry base x y
  pub kept : (b : ℕ) → IsKept z region ranges base b → peek y.storage b ≡ peek x.storage b
  pub related : is_followed z.rules t.target ≡ true → AreRelated t.state.relations entry y
  pub summary : IsSummarized t.state entry y

-- by the rules of versions 1 and 2 main begins nowhere anew
related_simply : (w : Target) (r : Relations) (entry : Activation) (y : MState) → is_followed Simple w ≡ true → AreRelated r entry y → AreRelatedBehind w r entry y
related_simply (target.Main a) r entry y known h = cc
related_simply (target.At a) r entry y known h = h
related_simply (target.Call a) r entry y known h = h
related_simply target.Return r entry y known h = h
related_simply target.Unknown r entry y known h = h
related_simply target.Lost r entry y known h = h

pub Leads-simply :
    (z : Setting) (region : Region) (ranges : List Range) (t : Successor) (entry : Activation) (base : ℕ) (x y : MState)
    → z.rules ≡ Simple → LeadsHere z region ranges t entry base x y → Leads z region ranges t entry base x y
Leads-simply z region ranges t entry base x y simple h =
    record {
      to = h.to;
      kept = h.kept;
      related = λ known. related_simply t.target t.state.relations entry y (subst (λ r. is_followed r t.target ≡ true) simple known) (h.related known);
      summary = h.summary;
    }

pub Leads-summarized :
    (z : Setting) (region : Region) (ranges : List Range) (t : Successor) (entry : Activation) (base : ℕ) (x y : MState)
    → LeadsRelated z region ranges t entry base x y → IsSummarized t.state entry y → LeadsHere z region ranges t entry base x y
Leads-summarized z region ranges t entry base x y h said = record { to = h.to; kept = h.kept; related = h.related; summary = said }

-- ---- something else is said

-- which tells the same of where SP is put aside
same_located : (a b : Option Bounds) (set : Bool) → a ≡ b → located_by b set ≡ true → located_by a set ≡ true
same_located a b set e h = ap (λ o. located_by o set) e ∙ h

MeansParts-said : (m : SummaryParts) (s : AbsState) (entry : Activation) (base : ℕ) (x : MState) → m.aside ≡ s.summary.aside → MeansParts s entry base x → MeansParts (with_summary m s) entry base x
MeansParts-said m s entry base x same h =
    record { core = h.core; memory = h.memory; sp = h.sp; stack = λ e. h.stack (same_located s.summary.aside m.aside s.core.stack_set (sym same) e); items = h.items; cells = h.cells }

LeadsSimply-said :
    (region : Region) (w : Target) (m : SummaryParts) (t : Successor) (entry : Activation) (base : ℕ) (x y : MState)
    → m.aside ≡ t.state.summary.aside → LeadsSimply region w t entry base x y → LeadsSimply region w (said_successor m t) entry base x y
unfolding pushed
LeadsSimply-said region (target.At a) m t entry base x y same h = record { means = MeansParts-said m t.state entry base y same h.means; goes = h.goes; room = h.room }
LeadsSimply-said region (target.Call a) m t entry base x y same h =
    record { means = MeansParts-said m _ entry base y same h.means; next = h.next; goes = h.goes; located = same_located m.aside t.state.summary.aside t.state.core.stack_set same h.located; placed = h.placed }
LeadsSimply-said region target.Return m t entry base x y same h = record { means = MeansParts-said m t.state entry (base + 2) y same h.means; goes = h.goes }
LeadsSimply-said region (target.Main a) m t entry base x y same h = tt
LeadsSimply-said region target.Unknown m t entry base x y same h = tt
LeadsSimply-said region target.Lost m t entry base x y same h = tt

LeadsWidely-said :
    (z : Setting) (region : Region) (w : Target) (m : SummaryParts) (t : Successor) (entry : Activation) (base : ℕ) (y : MState)
    → m.aside ≡ t.state.summary.aside → LeadsWidely z region w t entry base y → LeadsWidely z region w (said_successor m t) entry base y
LeadsWidely-said z region (target.At a) m t entry base y same h = record { means = MeansParts-said m t.state entry base y same h.means; goes = h.goes; room = h.room }
LeadsWidely-said z region (target.Call a) m t entry base y same h =
    record { means = MeansParts-said m t.state entry base y same h.means; goes = h.goes; room = h.room; located = same_located m.aside t.state.summary.aside t.state.core.stack_set same h.located; next = h.next; top = h.top; placed = h.placed }
LeadsWidely-said z region target.Return m t entry base y same h = record { means = MeansParts-said m t.state entry base y same h.means; goes = h.goes; room = h.room; procedure = h.procedure }
LeadsWidely-said z region (target.Main a) m t entry base y same h =
    record { means = λ other part. MeansParts-said m t.state other (region.last + 1) y same (h.means other part); goes = h.goes; room = h.room }
LeadsWidely-said z region target.Unknown m t entry base y same h = tt
LeadsWidely-said z region target.Lost m t entry base y same h = tt

LeadsTo-said :
    (r : Rules) (z : Setting) (region : Region) (w : Target) (m : SummaryParts) (t : Successor) (entry : Activation) (base : ℕ) (x y : MState)
    → m.aside ≡ t.state.summary.aside → LeadsTo r z region w t entry base x y → LeadsTo r z region w (said_successor m t) entry base x y
LeadsTo-said Simple z region w m t entry base x y same h = LeadsSimply-said region w m t entry base x y same h
LeadsTo-said Extended z region w m t entry base x y same h = LeadsWidely-said z region w m t entry base y same h

pub Leads-said :
    (z : Setting) (region : Region) (ranges : List Range) (m : SummaryParts) (t : Successor) (entry : Activation) (base : ℕ) (x y : MState)
    → m.aside ≡ t.state.summary.aside → LeadsRelated z region ranges t entry base x y → HoldSummary entry.program t.state.cells m y.processor (peek y.storage) y.storage.banks
    → LeadsHere z region ranges (said_successor m t) entry base x y
Leads-said z region ranges m t entry base x y same h said =
    record { to = LeadsTo-said z.rules z region t.target m t entry base x y same h.to; kept = h.kept; related = h.related; summary = said }

pub IsAllowed-said :
    (z : Setting) (rom : List ℕ) (region : Region) (ranges : List Range) (s : AbsState) (base : ℕ) (m : SummaryParts) (t : Successor)
    → IsAllowed z rom region ranges s base (said_successor m t) → IsAllowed z rom region ranges s base t
unfolding meets_closed meets_oam_transfer
IsAllowed-said z rom region ranges s base m t h =
    record { stores = h.stores; ram = h.ram; oam_transfer = h.oam_transfer; stack = fit z.rules t.target h.stack }
  where
    fit : (q : Rules) (w : Target) → IsStackFit q region w s (said_successor m t) base → IsStackFit q region w s t base
    fit Extended w k = k
    fit Simple (target.At a) k = k
    fit Simple (target.Call a) k = k
    fit Simple target.Return k = record { located = k.located; held = k.held; return_word = k.return_word }
    fit Simple (target.Main a) k = k
    fit Simple target.Unknown k = k
    fit Simple target.Lost k = k
