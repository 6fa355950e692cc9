-- What a successor of a node that passes leads to by the rules of versions 1 and 2: a node of the procedure, a callee, or the
-- procedure's exit.
use Rattle.gb_successors.specs.Sound.{AreRelatedBehind}
use Rattle.gb_rules.proofs.EntryLaws.{entry_pairs}
use Rattle.gb_successors.specs.Below.gb_pairs.Sound.{AreWithin}
use Rattle.gb_successors.specs.Below.gb_product.Meaning.{entered_with}
use Rattle.gb_rules.specs.Procedures.{entered_of}
use Rattle.std.proofs.Common.{◌≡◌, ℕ, zero, suc, ◌+◌, ◌≤◌, ◌<◌, true, false, ◌||◌, ◌==◌, nat_lt, inl, inr, List, [], ◌∷◌, length, slice_get, Option, Some, None, refl, sym, ◌∙◌, subst, arith, ap}
use Rattle.std.specs.Prelude.{IfSome}
use Rattle.std.proofs.lemmas.Bool.{not-false, and_parts, or_parts, eqb-true}
use Rattle.std.proofs.lemmas.Bool.Decides.{nat_tests}
use Rattle.std.proofs.lemmas.Option.{same_Some}
use Rattle.gb_ops.specs.Play.{MState}
use Rattle.gb_successors.specs.Below.gb_domain.Types.{AbsState, ProcedureParts, Node}
use Rattle.gb_successors.specs.Below.gb_domain.Certificate.{Certificate}
use Rattle.gb_calls.specs.Below.gb_states.Rules.{is_of, have_entries}
use Rattle.gb_calls.specs.Below.gb_states.WholeRules.{IsCertificate}
use Rattle.gb_successors.specs.Below.gb_abs.Mark.{IsMarkHarmless}
use Rattle.gb_successors.specs.Below.gb_domain.Summaries.{Program, no_summary}
use Rattle.gb_successors.specs.Below.gb_product.Meaning.{AreRelated, IsSummarized, Means}
use Rattle.gb_successors.specs.Below.gb_abs.Stack.{AreInRegion, pushed}
use Rattle.gb_successors.specs.Below.gb_abs.Meaning.{Activation, MeansParts}
use Rattle.gb_successors.specs.Below.gb_domain.declared.types.Halves.{Halves}
use Rattle.gb_successors.specs.Below.gb_domain.declared.rules.Rules.TheVariants.{Simple}
use Rattle.gb_successors.specs.Below.gb_domain.Limits.{rules_of}
use Rattle.gb_successors.specs.Below.gb_domain.Settings.{IsBase}
use Rattle.gb_successors.specs.Below.gb_abs_effects.Pairs.{known_word}
use Rattle.gb_successors.proofs.Below.gb_product_laws.CoveringLaws.{Means-covered}
use Rattle.gb_successors.specs.Below.gb_abs_effects.declared.targets.Target.{Target}
use Rattle.gb_successors.specs.Below.gb_abs_effects.declared.targets.Target.TheVariants as target
use Rattle.gb_calls.specs.Calls.{entered_by, callee_of, are_ranges_inside}
use Rattle.gb_calls.specs.Resuming.{resumed}
use Rattle.gb_calls.proofs.CalleeLaws.{IsCallee-found, IsEntryNode-entry}
use Rattle.gb_successors.specs.Way.{Successor}
use Rattle.gb_successors.specs.Sound.{is_followed, IsOneOf, StaysAt, CallsAt, ReturnsTo, LeadsSimply}
use Rattle.gb_successors.proofs.Below.gb_abs_laws.LocationLaws.{located-set}
use Rattle.gb_rules.specs.Covered.{covered_at}
use Rattle.gb_rules.specs.Procedures.{ranges_of, kept_of, need_of, setting_of, exit_of, taken_by}
use Rattle.gb_rules.proofs.ProcedureLaws.{kept_is}
use Rattle.gb_successors.specs.Below.gb_product.Covering.{covers}
use Rattle.gb_rules.specs.Rules.{ways_of, callee_by, callee_at, is_over, calls_too_deep, is_resumed_uncovered, is_back_uncovered, is_call_uncovered, is_uncovered, is_uncovered_at, is_outside_of, is_uncallable, is_uncallable_at, is_exit_missed, is_unreturnable, is_unreturnable_at}
use Rattle.gb_rules.specs.Safety.{Declares, HasReturnWord, IsMeant, Calls, Returns, LeadsBy, Leads}
use Rattle.gb_rules.proofs.SearchLaws.{Contains-slice_get}
use Rattle.gb_rules.proofs.CoveringLaws.{found_at}
use Rattle.gb_rules.proofs.NodeLaws.{place_simply, simple_at, covered_if, IsUnopposed, unopposed, followed}
use Rattle.gb_rules.proofs.StandLaws.{OnNode, quiet}
use Rattle.gb_rules.specs.Rules.{setting_by}

not_so : {X : Type 0} → true ≡ false → X
not_so h = cc

-- ---- the callee's entry

-- the node at which a procedure begins is its own
pub is_own : (number : ℕ) (ps : List ProcedureParts) (nodes : List Node) (i : ℕ) (p : ProcedureParts) (n : Node) → have_entries number ps nodes ≡ true → slice_get ps i ≡ Some p → slice_get nodes p.entry ≡ Some n
    → n.procedure ≡ number + i
unfolding have_entries
is_own number [] nodes i p n h at is = cc
is_own number (q ∷ ps) nodes zero p n h at is =
    let same : q ≡ p = same_Some _ _ at in
    let first : is_of number (slice_get nodes p.entry) ≡ true = subst (λ (r : ProcedureParts). is_of number (slice_get nodes r.entry) ≡ true) same (and_parts _ _ h).0 in
    let own : n.procedure ≡ number = eqb-true _ _ (subst (λ o. is_of number o ≡ true) is first) in
    omega arith
is_own number (q ∷ ps) nodes (suc i) p n h at is =
    let later : n.procedure ≡ number + 1 + i = is_own (number + 1) ps nodes i p n (and_parts _ _ h).1 at is in
    omega arith

pub same_number : (m q : ℕ) → m ≡ 0 + q → m ≡ q
same_number m q h = omega arith

-- ---- calls

not_over : (cert : Certificate) (need held q : ℕ) → nat_lt need (held + 2 + need_of cert q) ≡ false → held + 2 + need_of cert q ≤ need
not_over cert need held q h = by (held + 2 + need_of cert q) h
  where
    by : (m : ℕ) → nat_lt need m ≡ false → m ≤ need
    by m h = grind (arith, nat_tests)

resumed_covered : (program : Program) (cert : Certificate) (procedure back : ℕ) (s : AbsState) (q : ℕ) → is_back_uncovered program Simple cert procedure back s q ≡ false → (exit : AbsState) → exit_of cert q ≡ Some exit
    → IfSome (resumed program (setting_by Simple cert procedure) cert.region (taken_by cert q) (ranges_of cert q) (kept_of cert q) s exit) (λ after. covered_at program Simple cert procedure back after ≡ true)
resumed_covered program cert procedure back s q h exit is = covered_if program cert procedure back _ (subst (λ o. is_resumed_uncovered program Simple cert procedure back s q o ≡ false) is h)

means_pushed : (w : Halves) (s : AbsState) (entry : Activation) (base : ℕ) (x : MState) → MeansParts (pushed w s) entry base x → AreRelated s.relations entry x → IsSummarized s entry x → Means (pushed w s) entry base x
unfolding pushed
means_pushed w s entry base x parts related said = record { parts = parts; related = related; summary = said }

calls_at : (rom : List ℕ) (cert : Certificate) (n : Node) (t : Successor) (a : ℕ) (entry : Activation) (base : ℕ) (y : MState) → IsCertificate cert → CallsAt cert.region a t entry base y → AreRelated t.state.relations entry y → IsSummarized t.state entry y → t.state.summary ≡ no_summary
    → y.processor.halt_mark ≡ false → is_outside_of (simple_at cert n) cert n.procedure (callee_of entry.program cert (simple_at cert n) a t.state) ≡ false → is_over Simple cert (need_of cert n.procedure) (length t.state.items) (callee_of entry.program cert (simple_at cert n) a t.state) ≡ false
    → is_call_uncovered entry.program Simple cert n.procedure a t.next t.state (callee_of entry.program cert (simple_at cert n) a t.state) ≡ false → Calls cert n.procedure entry base y
calls_at rom cert n t a entry base y certificate c related said quiet mark outside over uncovered = by (callee_of entry.program cert (simple_at cert n) a t.state) refl outside over uncovered
  where
    by : (o : Option ℕ) → callee_of entry.program cert (simple_at cert n) a t.state ≡ o → is_outside_of (simple_at cert n) cert n.procedure o ≡ false → is_over Simple cert (need_of cert n.procedure) (length t.state.items) o ≡ false
        → is_call_uncovered entry.program Simple cert n.procedure a t.next t.state o ≡ false → Calls cert n.procedure entry base y
    by None e out deep back = not_so out
    by (Some q) e out deep back =
        let callee = IsCallee-found entry.program cert (simple_at cert n) a t.state q e in
        let begin = IsEntryNode-entry entry.program cert (simple_at cert n) a t.state callee.procedure callee.begins in
        let number : begin.node.procedure ≡ q = same_number begin.node.procedure q (is_own 0 cert.procedures cert.nodes q callee.procedure begin.node certificate.entries callee.is_procedure begin.is_node) in
        record {
          state = t.state;
          back = t.next;
          back_small = c.next;
          means = means_pushed (known_word t.next) t.state entry base y c.means related said;
          quiet = quiet;
          stack_set = located-set t.state.summary.aside t.state.core.stack_set c.located;
          placed = c.placed;
          node = begin.node;
          is_node = Contains-slice_get cert.nodes callee.procedure.entry begin.node begin.is_node;
          not_main = subst (λ m. 0 < m) (sym number) callee.not_main;
          address = c.goes ∙ sym begin.address;
          enters = entry_pairs cert begin.node.procedure q callee.procedure begin.node number callee.is_procedure begin.is_node;
          begins = subst (λ ks. covers entry.program (entered_by entry.program cert.region Simple (length begin.node.state.items) ks t.state) begin.node.state ≡ true)
              (sym (ap (kept_of cert) number ∙ kept_is cert q callee.procedure callee.is_procedure)) begin.covering;
          mark = mark;
          depth = subst (λ m. length t.state.items + 2 + need_of cert m ≤ need_of cert n.procedure) (sym number) (not_over cert (need_of cert n.procedure) (length t.state.items) q deep);
          inside = subst (λ m. are_ranges_inside (ranges_of cert m) (ranges_of cert n.procedure) ≡ true) (sym number) (not-false _ out);
          resumes = λ exit is.
              subst (λ m. IfSome (resumed entry.program (setting_by Simple cert n.procedure) cert.region (taken_by cert m) (ranges_of cert m) (kept_of cert m) t.state exit) (λ after. covered_at entry.program Simple cert n.procedure t.next after ≡ true)) (sym number)
              (resumed_covered entry.program cert n.procedure t.next t.state q back exit (subst (λ m. exit_of cert m ≡ Some exit) number is));
        }

-- ---- returns

returns_to : (cert : Certificate) (n : Node) (t : Successor) (entry : Activation) (base : ℕ) (x y : MState) → ReturnsTo t entry base x y → AreRelated t.state.relations entry y → IsSummarized t.state entry y → y.processor.halt_mark ≡ false
    → (n.procedure == 0 || is_exit_missed entry.program Simple t.state (exit_of cert n.procedure)) ≡ false → Returns cert n.procedure entry base x y
returns_to cert n t entry base x y r related said mark h = by (exit_of cert n.procedure) refl (or_parts _ _ h).1
  where
    not_zero : (m : ℕ) → (m == 0) ≡ false → 0 < m
    not_zero m h = grind (arith, nat_tests)

    by : (o : Option AbsState) → exit_of cert n.procedure ≡ o → is_exit_missed entry.program Simple t.state o ≡ false → Returns cert n.procedure entry base x y
    by None e missed = not_so missed
    by (Some exit) e missed = record {
      not_main = not_zero n.procedure (or_parts _ _ h).0;
      exit = exit;
      is_exit = e;
      means = Means-covered t.state exit entry (base + 2) y (not-false _ (or_parts _ _ missed).1) (record { parts = r.means; related = related; summary = said });
      address = r.goes;
      mark = mark;
    }

-- ---- any successor

-- it calls or returns
abbrev pub IsElsewhere : Target → Type 0
IsElsewhere (target.Call a) = Unit {0}
IsElsewhere target.Return = Unit {0}
IsElsewhere _ = ⊥

-- The mark that a successor in the same procedure may leave; calls and returns leave none.
pub record IsMarked (rom : List ℕ) (w : Target) (y : MState) : Type 0 where
  pub harmless : IsMarkHarmless rom y
  pub clear : IsElsewhere w → y.processor.halt_mark ≡ false

-- a successor leads on in the same procedure
stays_at : (rom : List ℕ) (cert : Certificate) (n : Node) (entry : Activation) (base : ℕ) (x : MState) (k : OnNode rom cert n entry base x) (t : Successor) (a : ℕ) (y : MState)
    → StaysAt cert.region a t entry base y → AreRelated t.state.relations entry y → IsSummarized t.state entry y → rules_of cert.version ≡ Simple → covered_at entry.program Simple cert n.procedure a t.state ≡ true → IsMarkHarmless rom y → IsMeant rom cert n.procedure entry base y
stays_at rom cert n entry base x k t a y to related said simple covered mark =
    let f = found_at cert n.procedure a t.state entry base y covered (record { parts = to.means; related = related; summary = said }) in
    record {
      node = f.node;
      is_node = f.is_node;
      procedure_is = f.procedure_is;
      at = record {
        address = to.goes ∙ sym f.address;
        program = k.program;
        names = subst (λ m. Declares cert m base entry) (sym f.procedure_is) k.names;
        means = f.means;
        mark = mark;
        main = λ is. k.main (sym f.procedure_is ∙ is);
        based = subst (λ m. IsBase (setting_of cert m) base) (sym f.procedure_is) k.based;
        within = subst (λ m. AreWithin (entered_of cert m) (entered_with entry)) (sym f.procedure_is) k.within;
        return_word = subst (λ m. HasReturnWord (rules_of cert.version) cert.region m base) (sym f.procedure_is) k.return_word;
        room = subst (λ m. AreInRegion cert.region base (need_of cert m)) (sym f.procedure_is) k.room;
        held = subst (λ c. AreInRegion cert.region base c) (sym f.count) to.room;
        place = place_simply cert f.node k.certificate f.is_node simple;
      };
    }

-- by the rules of versions 1 and 2
pub simply_leads : (rom : List ℕ) (cert : Certificate) (procedure : ℕ) (entry : Activation) (base : ℕ) (s t : MState) → rules_of cert.version ≡ Simple → LeadsBy Simple rom cert procedure entry base s t
    → Leads rom cert procedure entry base s t
simply_leads rom cert procedure entry base s t simple h = subst (λ r. LeadsBy r rom cert procedure entry base s t) (sym simple) h

pub Leads-simply : (rom : List ℕ) (cert : Certificate) (n : Node) (entry : Activation) (base : ℕ) (x : MState) (k : OnNode rom cert n entry base x) (t : Successor) → rules_of cert.version ≡ Simple
    → IsOneOf (ways_of rom cert n k.passes.row) t → (y : MState) → LeadsSimply cert.region t.target t entry base x y → (is_followed Simple t.target ≡ true → AreRelatedBehind t.target t.state.relations entry y) → IsSummarized t.state entry y → IsMarked rom t.target y
    → LeadsBy Simple rom cert n.procedure entry base x y
unfolding is_uncovered is_uncallable is_unreturnable calls_too_deep callee_at
Leads-simply rom cert n entry base x k t simple is y leads related_if said mark = by t.target leads (followed rom cert n k.passes t simple is) (related_if (followed rom cert n k.passes t simple is)) u.covered u.callable u.shallow u.returnable mark
  where
    u : IsUnopposed entry.program Simple cert n t
    u = subst (λ p. IsUnopposed p Simple cert n t) (sym k.program) (unopposed Simple rom cert n k.passes t simple is)

    still : t.state.summary ≡ no_summary
    still = quiet rom cert n entry base x k t simple is

    by : (w : Target) → LeadsSimply cert.region w t entry base x y → is_followed Simple w ≡ true → AreRelatedBehind w t.state.relations entry y → is_uncovered_at entry.program (simple_at cert n) cert n.procedure w t.next t.state ≡ false
        → is_uncallable_at entry.program (simple_at cert n) cert n.procedure w t.state ≡ false → is_over Simple cert (need_of cert n.procedure) (length t.state.items) (callee_by entry.program cert (simple_at cert n) w t.state) ≡ false
        → is_unreturnable_at entry.program Simple cert n.procedure w t.state ≡ false → IsMarked rom w y → LeadsBy Simple rom cert n.procedure entry base x y
    by (target.At a) to known related covered callable shallow returnable marked = inl (stays_at rom cert n entry base x k t a y to related said simple (not-false _ covered) marked.harmless)
    by (target.Call a) to known related covered callable shallow returnable marked = inr (inl (calls_at rom cert n t a entry base y k.certificate to related said still (marked.clear tt) callable shallow covered))
    by target.Return to known related covered callable shallow returnable marked = inr (inr (inl (returns_to cert n t entry base x y to related said (marked.clear tt) returnable)))
    by (target.Main a) to known related covered callable shallow returnable marked = not_so (sym known)
    by target.Unknown to known related covered callable shallow returnable marked = not_so (sym known)
    by target.Lost to known related covered callable shallow returnable marked = not_so (sym known)
