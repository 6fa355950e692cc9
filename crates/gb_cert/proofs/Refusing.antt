-- Which parts a version can say, from what is asked of each state.
use Rattle.std.proofs.Common.{◌≡◌, ℕ, zero, suc, ◌<◌, Bool, true, false, not, ◌&&◌, ◌||◌, List, [], ◌∷◌, length, get_or, Option, Some, None, refl, sym, subst, ◌∙◌, arith}
use Rattle.std.specs.List.{list_all, list_any}
use Rattle.gb_domain.specs.Types.{AbsState}
use Rattle.gb_ops.specs.declared.registers.Registers.{Registers}
use Rattle.gb_domain.specs.declared.types.Val.{Val}
use Rattle.gb_cert.specs.declared.writer.Version.{Version}
use Rattle.gb_cert.specs.declared.writer.ProcedurePlan.{ProcedurePlan}
use Rattle.gb_cert.specs.declared.writer.NodePlan.{NodePlan}
use Rattle.gb_cert.specs.declared.writer.CertificatePlan.{CertificatePlan}
use Rattle.gb_cert.specs.declared.writer.WriteFault.{WriteFault}
use Rattle.gb_cert.specs.declared.writer.WriteFault.TheVariants as fault
use Rattle.gb_cert.specs.Written.{rules_in, is_fourth, exit_of, says, says_registers, says_kept_by, says_core, says_cell, says_summary_by, says_state, AreRegistersSaid, IsStateSaid, is_half, has_many_items, has_many_cells, is_related, has_unsayable, is_unspellable, state_has, exit_has, returns_with, stands_with, have_states, has_half_need, say_base, AreSpellable, IsWriteFault}

neither : (a b : Bool) → (a || b) ≡ false → (a ≡ false) × (b ≡ false)
neither true b h = cc
neither false b h = (refl, h)

both_false : {a b : Bool} → a ≡ false → b ≡ false → (a || b) ≡ false
both_false e f = rw (e, f) refl

-- what one of them has, is none that none of them has
weaker : {X : Type 0} (p q : X → Bool) (xs : List X) → ((x : X) → q x ≡ false → p x ≡ false) → list_any q xs ≡ false → list_any p xs ≡ false
weaker p q [] less h = refl
weaker p q (x ∷ xs) less h = let k = neither (q x) (list_any q xs) h in both_false (less x k.0) (weaker p q xs less k.1)

exit-weaker : (p q : AbsState → Bool) → ((s : AbsState) → q s ≡ false → p s ≡ false) → (x : ProcedurePlan) → returns_with q x ≡ false → returns_with p x ≡ false
exit-weaker p q less x h = by (exit_of x.exit) h
  where
    by : (o : Option AbsState) → exit_has q o ≡ false → exit_has p o ≡ false
    by None h = refl
    by (Some s) h = less s h

states-weaker : (p q : AbsState → Bool) (procedures : List ProcedurePlan) (nodes : List NodePlan) → ((s : AbsState) → q s ≡ false → p s ≡ false) → list_any (returns_with q) procedures ≡ false → list_any (stands_with q) nodes ≡ false → have_states p procedures nodes ≡ false
states-weaker p q procedures nodes less h g = both_false (weaker (returns_with p) (returns_with q) procedures (exit-weaker p q less) h) (weaker (stands_with p) (stands_with q) nodes (λ n. less n.state.now) g)

-- The version can say the state.
pub record Says (version : Version) (s : AbsState) : Type 0 where
  pub half : is_half (rules_in version) s ≡ false
  pub items : has_many_items (rules_in version) s ≡ false
  pub cells : has_many_cells (rules_in version) s ≡ false
  pub related : is_related version s ≡ false
  pub unsayable : has_unsayable version s ≡ false

say : (version : Version) (s : AbsState) → is_unspellable version s ≡ false → Says version s
say version s h =
    let a = neither (is_half (rules_in version) s) (has_many_items (rules_in version) s || (has_many_cells (rules_in version) s || (is_related version s || has_unsayable version s))) h in
    let b = neither (has_many_items (rules_in version) s) (has_many_cells (rules_in version) s || (is_related version s || has_unsayable version s)) a.1 in
    let c = neither (has_many_cells (rules_in version) s) (is_related version s || has_unsayable version s) b.1 in
    let d = neither (is_related version s) (has_unsayable version s) c.1 in
    record { half = a.0; items = b.0; cells = c.0; related = d.0; unsayable = d.1 }

pub spellable :
    (plan : CertificatePlan) → say_base (rules_in plan.version) plan.region plan.procedures.now ≡ false → list_any (has_half_need (rules_in plan.version)) plan.procedures.now ≡ false
    → list_any (returns_with (is_unspellable plan.version)) plan.procedures.now ≡ false → list_any (stands_with (is_unspellable plan.version)) plan.nodes.now ≡ false → AreSpellable plan
spellable plan base need exits states =
    let none : (p : AbsState → Bool) → ((s : AbsState) → is_unspellable plan.version s ≡ false → p s ≡ false) → have_states p plan.procedures.now plan.nodes.now ≡ false = λ p less. states-weaker p (is_unspellable plan.version) plan.procedures.now plan.nodes.now less exits states in
    record {
      words = both_false need (none (is_half (rules_in plan.version)) (λ s h. (say plan.version s h).half));
      items = none (has_many_items (rules_in plan.version)) (λ s h. (say plan.version s h).items);
      cells = none (has_many_cells (rules_in plan.version)) (λ s h. (say plan.version s h).cells);
      relations = none (is_related plan.version) (λ s h. (say plan.version s h).related);
      values = none (has_unsayable plan.version) (λ s h. (say plan.version s h).unsayable);
      bases = base;
    }

-- ---- values

both : (a b : Bool) → (a && b) ≡ true → (a ≡ true) × (b ≡ true)
both true b h = (refl, h)
both false b h = cc

said : (b : Bool) → not b ≡ false → b ≡ true
said true h = refl
said false h = cc

registers_said : (version : Version) (s : Registers Val) → says_registers version s ≡ true → AreRegistersSaid version s
registers_said version s h =
    let a = both (says version s.a) (says version s.b && (says version s.c && (says version s.d && (says version s.e && (says version s.h && says version s.l))))) h in
    let b = both (says version s.b) (says version s.c && (says version s.d && (says version s.e && (says version s.h && says version s.l)))) a.1 in
    let c = both (says version s.c) (says version s.d && (says version s.e && (says version s.h && says version s.l))) b.1 in
    let d = both (says version s.d) (says version s.e && (says version s.h && says version s.l)) c.1 in
    let e = both (says version s.e) (says version s.h && says version s.l) d.1 in
    let f = both (says version s.h) (says version s.l) e.1 in
    record { a = a.0; b = b.0; c = c.0; d = d.0; e = e.0; h = f.0; l = f.1 }

-- A state that has nothing that the version can't say: it can say each value of it.
pub state_said : (version : Version) (s : AbsState) → has_unsayable version s ≡ false → IsStateSaid version s
state_said version s h =
    let all = both (says_core version s.core) (list_all (says version) s.items && (list_all (says_cell version) s.cells && says_summary_by (is_fourth version) s.summary)) (said (says_state version s) h) in
    let core = both (says_kept_by (is_fourth version) s.core.ctl.kept) (says version s.core.ie && says_registers version s.core.registers) all.0 in
    let vals = both (says version s.core.ie) (says_registers version s.core.registers) core.1 in
    let items = both (list_all (says version) s.items) (list_all (says_cell version) s.cells && says_summary_by (is_fourth version) s.summary) all.1 in
    let cells = both (list_all (says_cell version) s.cells) (says_summary_by (is_fourth version) s.summary) items.1 in
    record { core = record { ie = vals.0; registers = registers_said version s.core.registers vals.1 }; items = items.0; cells = cells.0 }

pub exits_said : (p : AbsState → Bool) (procedures : List ProcedurePlan) (nodes : List NodePlan) → have_states p procedures nodes ≡ false → list_any (returns_with p) procedures ≡ false
exits_said p procedures nodes h = (neither (list_any (returns_with p) procedures) (list_any (stands_with p) nodes) h).0

pub nodes_said : (p : AbsState → Bool) (procedures : List ProcedurePlan) (nodes : List NodePlan) → have_states p procedures nodes ≡ false → list_any (stands_with p) nodes ≡ false
nodes_said p procedures nodes h = (neither (list_any (returns_with p) procedures) (list_any (stands_with p) nodes) h).1

get_none : {X : Type 0} (p : X → Bool) (xs : List X) (i : ℕ) (x : X) → i < length xs → list_any p xs ≡ false → p (get_or xs i x) ≡ false
get_none p [] i x lt h = absurd (omega (arith, lt))
get_none p (y ∷ ys) zero x lt h = (neither (p y) (list_any p ys) h).0
get_none p (y ∷ ys) (suc i) x lt h = get_none p ys i x (omega (arith, lt)) (neither (p y) (list_any p ys) h).1

-- What no element passes, the one with this number doesn't.
pub none_at : {X : Type 0} (p : X → Bool) (xs : List X) (i : ℕ) (x : X) → x ≡ get_or xs i x → i < length xs → list_any p xs ≡ false → p x ≡ false
none_at p xs i x is lt h = subst (λ y. p y ≡ false) (sym is) (get_none p xs i x lt h)

-- ---- faults

or_first : (a b : Bool) → a ≡ true → (a || b) ≡ true
or_first a b h = rw h refl

or_second : (a b : Bool) → b ≡ true → (a || b) ≡ true
or_second true b h = refl
or_second false b h = h

none_such : {X : Type 0} (xs : List X) (p : X → Bool) → ((x : X) → p x ≡ false) → list_any p xs ≡ false
none_such [] p none = refl
none_such (x ∷ xs) p none = both_false (none x) (none_such xs p none)

exit_none : (x : ProcedurePlan) → returns_with (λ s. false) x ≡ false
exit_none x = by (exit_of x.exit)
  where
    by : (o : Option AbsState) → exit_has (λ s. false) o ≡ false
    by None = refl
    by (Some s) = refl

not_so : {X : Type 0} → false ≡ true → X
not_so e = cc

-- one of the states has the fault
no-states : (procedures : List ProcedurePlan) (nodes : List NodePlan) → have_states (λ s. false) procedures nodes ≡ false
no-states procedures nodes = both_false (none_such procedures (returns_with (λ s. false)) exit_none) (none_such nodes (stands_with (λ s. false)) (λ n. refl))

fault-states : (plan : CertificatePlan) (f : WriteFault) → have_states (state_has plan.version f) plan.procedures.now plan.nodes.now ≡ true → IsWriteFault plan f
fault-states plan fault.HalfWord h = or_second _ _ h
fault-states plan fault.Items h = h
fault-states plan fault.Cells h = h
fault-states plan fault.Relations h = h
fault-states plan fault.Values h = h
fault-states plan fault.Memory h = tt
fault-states plan fault.Facts h = not_so (sym (no-states plan.procedures.now plan.nodes.now) ∙ h)
fault-states plan fault.Procedures h = not_so (sym (no-states plan.procedures.now plan.nodes.now) ∙ h)
fault-states plan fault.Nodes h = not_so (sym (no-states plan.procedures.now plan.nodes.now) ∙ h)
fault-states plan fault.Base h = not_so (sym (no-states plan.procedures.now plan.nodes.now) ∙ h)
fault-states plan fault.Ranges h = not_so (sym (no-states plan.procedures.now plan.nodes.now) ∙ h)
fault-states plan fault.Need h = not_so (sym (no-states plan.procedures.now plan.nodes.now) ∙ h)
fault-states plan fault.Entry h = not_so (sym (no-states plan.procedures.now plan.nodes.now) ∙ h)
fault-states plan fault.Kept h = not_so (sym (no-states plan.procedures.now plan.nodes.now) ∙ h)
fault-states plan fault.Mark h = not_so (sym (no-states plan.procedures.now plan.nodes.now) ∙ h)
fault-states plan fault.Owner h = not_so (sym (no-states plan.procedures.now plan.nodes.now) ∙ h)

pub fault-exits : (plan : CertificatePlan) (f : WriteFault) → list_any (returns_with (state_has plan.version f)) plan.procedures.now ≡ true → IsWriteFault plan f
fault-exits plan f h = fault-states plan f (or_first _ _ h)

pub fault-nodes : (plan : CertificatePlan) (f : WriteFault) → list_any (stands_with (state_has plan.version f)) plan.nodes.now ≡ true → IsWriteFault plan f
fault-nodes plan f h = fault-states plan f (or_second _ _ h)

pub fault-need : (plan : CertificatePlan) → list_any (has_half_need (rules_in plan.version)) plan.procedures.now ≡ true → IsWriteFault plan fault.HalfWord
fault-need plan h = or_first _ _ h

pub ruleset faults = (fault-exits, fault-nodes, fault-need)
