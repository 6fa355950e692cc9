-- What a successor of a node that passes leads to by the rules of version 3: a node of the procedure, a callee that takes items
-- over, the procedure's exit, or main, which begins anew.
use Rattle.gb_ops.specs.declared.registers.Registers.{Registers}
use Rattle.gb_successors.specs.Sound.{AreRelatedBehind}
use Rattle.std.proofs.Common.{◌≡◌, ℕ, ◌<◌, true, false, ◌==◌, inl, inr, length, List, refl, sym, ap, subst, arith}
use Rattle.std.proofs.lemmas.Bool.{not-false, or_parts}
use Rattle.std.proofs.lemmas.Bool.Decides.{nat_tests}
use Rattle.gb_ops.specs.Play.{MState}
use Rattle.gb_successors.specs.Below.gb_domain.declared.rules.Rules.{Rules}
use Rattle.gb_successors.specs.Below.gb_domain.declared.rules.Rules.TheVariants.{Simple, Extended}
use Rattle.gb_successors.specs.Below.gb_domain.declared.setting.Setting.{Setting}
use Rattle.gb_successors.specs.Below.gb_domain.Limits.{rules_of}
use Rattle.gb_successors.specs.Below.gb_domain.Types.{Node}
use Rattle.gb_successors.specs.Below.gb_domain.Certificate.{Certificate}
use Rattle.gb_successors.specs.Below.gb_abs.Meaning.{Activation, MeansParts}
use Rattle.gb_successors.specs.Below.gb_abs.Stack.{AreInRegion}
use Rattle.gb_successors.specs.Below.gb_abs.Storage.{peek}
use Rattle.gb_successors.specs.Below.gb_product.Below.gb_summaries.Meaning.{HoldSummary}
use Rattle.gb_successors.specs.Below.gb_product.Meaning.{AreRelated, IsSummarized}
use Rattle.gb_successors.proofs.Below.gb_product_laws.MeaningLaws.{AreBytes-core}
use Rattle.gb_calls.specs.Calls.{callee_of}
use Rattle.gb_successors.specs.Below.gb_abs_effects.declared.targets.Target.{Target}
use Rattle.gb_successors.specs.Below.gb_abs_effects.declared.targets.Target.TheVariants as target
use Rattle.gb_successors.proofs.FormedLaws.{IsFormed}
use Rattle.gb_successors.proofs.HoldingLaws.{IsPlacedBehind}
use Rattle.gb_successors.specs.Below.gb_product.Held.{stack_held}
use Rattle.gb_successors.specs.Below.gb_relations.Sound.{IsBytePlaced}
use Rattle.gb_successors.specs.Way.{Successor}
use Rattle.gb_successors.specs.Sound.{is_followed, IsFound, IsOneOf, StaysAt, CalledAt, ReturnsBy, BeginsAnew, LeadsSimply, LeadsWidely, LeadsTo}
use Rattle.gb_successors.specs.Sound as successors
use Rattle.gb_rules.specs.Covered.{covered_at}
use Rattle.gb_rules.specs.Procedures.{ranges_of, need_of, setting_of}
use Rattle.gb_rules.specs.Rules.{ways_of, callee_by, callee_at, is_over, calls_too_deep, is_uncovered, is_uncovered_at, is_outside_of, is_uncallable, is_uncallable_at, is_unreturnable, is_unreturnable_at}
use Rattle.gb_rules.specs.Safety.{begun_anew, LeadsBy, Leads}
use Rattle.gb_rules.proofs.NodeLaws.{IsUnopposed, unopposed, found, ruled_by}
use Rattle.gb_rules.proofs.ReachingLaws.{IsReached, IsMeant-reached, IsMeant-anew, IsCalling, LeadsBy-called, GoesBack-reached}
use Rattle.gb_rules.proofs.StandLaws.{OnNode, formed}
use Rattle.gb_rules.proofs.TargetLaws.{found_followed}
use Rattle.gb_rules.proofs.WayLaws.{IsMarked, simply_leads, Leads-simply}

-- where its states stand
abbrev wide_at : Certificate → Node → Setting
wide_at cert n = record (setting_of cert n.procedure) { rules = Extended }

-- ---- in the same procedure

reached : (rom : List ℕ) (cert : Certificate) (n : Node) (entry : Activation) (base : ℕ) (x : MState) (k : OnNode rom cert n entry base x) (t : Successor) (a : ℕ) (y : MState) → IsFormed (setting_of cert n.procedure) cert.region t
    → IsBytePlaced (stack_held (setting_of cert n.procedure) cert.region (length t.state.items)) t.state.relations.byte.address → MeansParts t.state entry base y → AreRelated t.state.relations entry y → IsSummarized t.state entry y → y.processor.pc ≡ a → AreInRegion cert.region base (length t.state.items) → IsReached cert n.procedure a t.state entry base y
reached rom cert n entry base x k t a y f place means related said goes held = record {
  means = record { parts = means; related = related; summary = said };
  address = goes;
  bytes = AreBytes-core t.state.core entry y f.core means.core;
  pairs = f.pairs;
  held = held;
  main = k.main;
  based = k.based;
  within = k.within;
  room = k.room;
  place = place;
}

-- ---- calls, with a callee or inlined

rules_extended : (cert : Certificate) (procedure : ℕ) → rules_of cert.version ≡ Extended → (setting_of cert procedure).rules ≡ Extended
unfolding setting_of
rules_extended cert procedure h = h

calling : (rom : List ℕ) (cert : Certificate) (n : Node) (entry : Activation) (base : ℕ) (x : MState) (k : OnNode rom cert n entry base x) (t : Successor) (a : ℕ) (y : MState) → IsFormed (setting_of cert n.procedure) cert.region t
    → IsBytePlaced (stack_held (setting_of cert n.procedure) cert.region (length t.state.items)) t.state.relations.byte.address → CalledAt cert.region a t entry base y → AreRelated t.state.relations entry y → IsSummarized t.state entry y → y.processor.halt_mark ≡ false → IsCalling cert n.procedure a t.next t.state entry base y
calling rom cert n entry base x k t a y f place to related said mark = record {
  reached = reached rom cert n entry base x k t a y f place to.means related said to.goes to.room;
  located = to.located;
  placed = record { cells = to.placed; byte = place; links = f.pairs; summary = f.apart };
  back_small = to.next;
  return_word = to.top;
  mark = mark;
}

-- ---- any successor

not_main : (m : ℕ) → (m == 0) ≡ false → 0 < m
not_main m h = grind (arith, nat_tests)

Leads-widely : (rom : List ℕ) (cert : Certificate) (n : Node) (entry : Activation) (base : ℕ) (x : MState) (k : OnNode rom cert n entry base x) (t : Successor) → rules_of cert.version ≡ Extended
    → IsOneOf (ways_of rom cert n k.passes.row) t → (y : MState) → LeadsWidely (setting_of cert n.procedure) cert.region t.target t entry base y → (is_followed Extended t.target ≡ true → AreRelatedBehind t.target t.state.relations entry y)
    → IsSummarized t.state entry y → IsMarked rom t.target y → LeadsBy Extended rom cert n.procedure entry base x y
unfolding is_uncovered is_uncallable is_unreturnable calls_too_deep callee_at
Leads-widely rom cert n entry base x k t extended is y leads related_if said mark = by t.target (f.place (rules_extended cert n.procedure extended)) leads (found entry.program cert n t u) related_behind u.covered u.callable u.shallow u.returnable mark
  where
    u : IsUnopposed entry.program Extended cert n t
    u = subst (λ p. IsUnopposed p Extended cert n t) (sym k.program) (unopposed Extended rom cert n k.passes t extended is)

    f : IsFormed (setting_of cert n.procedure) cert.region t
    f = formed rom cert n entry base x k t is

    related_behind : AreRelatedBehind t.target t.state.relations entry y
    related_behind = related_if (found_followed t.target (found entry.program cert n t u))

    -- main begins anew in the same program
    anew : (was : Registers ℕ) → IsSummarized t.state (begun_anew rom cert was y) y
    anew was = subst (λ p. HoldSummary p t.state.cells t.state.summary y.processor (peek y.storage) y.storage.banks) k.program said

    own : wide_at cert n ≡ setting_of cert n.procedure
    own = sym (ruled_by Extended cert n extended)

    by : (w : Target) → IsPlacedBehind (setting_of cert n.procedure) cert.region w t.state → LeadsWidely (setting_of cert n.procedure) cert.region w t entry base y → IsFound w → AreRelatedBehind w t.state.relations entry y → is_uncovered_at entry.program (wide_at cert n) cert n.procedure w t.next t.state ≡ false
        → is_uncallable_at entry.program (wide_at cert n) cert n.procedure w t.state ≡ false → is_over Extended cert (need_of cert n.procedure) (length t.state.items) (callee_by entry.program cert (wide_at cert n) w t.state) ≡ false
        → is_unreturnable_at entry.program Extended cert n.procedure w t.state ≡ false → IsMarked rom w y → LeadsBy Extended rom cert n.procedure entry base x y
    by (target.At a) place to known related covered callable shallow returnable marked =
        inl (IsMeant-reached rom cert n.procedure a t.state entry base y extended k.program k.names (reached rom cert n entry base x k t a y f place to.means related said to.goes to.room) marked.harmless (not-false _ covered))
    by (target.Call a) place to known related covered callable shallow returnable marked =
        LeadsBy-called rom cert n.procedure a t.next t.state entry base x y (callee_of entry.program cert (wide_at cert n) a t.state) extended k.certificate k.program k.names (calling rom cert n entry base x k t a y f place to related said (marked.clear tt))
        (ap (λ (z : Setting). callee_of entry.program cert z a t.state) (sym own)) (subst (λ (z : Setting). is_outside_of z cert n.procedure (callee_of entry.program cert (wide_at cert n) a t.state) ≡ false) own callable) shallow covered
    by target.Return place to known related covered callable shallow returnable marked =
        let parts = or_parts _ _ returnable in
        inr (inr (inl (GoesBack-reached cert n.procedure t.state entry base y (not_main n.procedure parts.0) (record { parts = to.means; related = related; summary = said }) to.room to.goes (marked.clear tt) parts.1)))
    by (target.Main a) place to known related covered callable shallow returnable marked =
        inr (inr (inr (λ was within.
        let means = to.means (begun_anew rom cert was y) (sym k.program) in
        IsMeant-anew rom cert a t.state was y extended k.certificate within (record { parts = means; related = related (begun_anew rom cert was y); summary = anew was }) to.goes
        (AreBytes-core t.state.core (begun_anew rom cert was y) y f.core means.core) f.pairs to.room place marked.harmless
        (subst (λ p. covered_at p Extended cert 0 a t.state ≡ true) k.program (not-false _ covered)))))
    by target.Unknown place to known related covered callable shallow returnable marked = absurd known
    by target.Lost place to known related covered callable shallow returnable marked = absurd known

-- by either rules
pub Leads-way : (rom : List ℕ) (cert : Certificate) (n : Node) (entry : Activation) (base : ℕ) (x : MState) (k : OnNode rom cert n entry base x) (t : Successor) → IsOneOf (ways_of rom cert n k.passes.row) t → (y : MState)
    → successors.Leads (setting_of cert n.procedure) cert.region (ranges_of cert n.procedure) t entry base x y → IsMarked rom t.target y → Leads rom cert n.procedure entry base x y
unfolding setting_of
Leads-way rom cert n entry base x k t is y leads mark = by (rules_of cert.version) refl
  where
    by : (r : Rules) → rules_of cert.version ≡ r → Leads rom cert n.procedure entry base x y
    by Simple e =
        simply_leads rom cert n.procedure entry base x y e
        (Leads-simply rom cert n entry base x k t e is y (subst (λ (r : Rules). LeadsTo r (setting_of cert n.procedure) cert.region t.target t entry base x y) e leads.to)
        (λ known. leads.related (subst (λ (r : Rules). is_followed r t.target ≡ true) (sym e) known)) leads.summary mark)
    by Extended e =
        subst (λ r. LeadsBy r rom cert n.procedure entry base x y) (sym e)
        (Leads-widely rom cert n entry base x k t e is y (subst (λ (r : Rules). LeadsTo r (setting_of cert n.procedure) cert.region t.target t entry base x y) e leads.to)
        (λ known. leads.related (subst (λ (r : Rules). is_followed r t.target ≡ true) (sym e) known)) leads.summary mark)
