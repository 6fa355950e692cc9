-- An interrupt's dispatch by the rules of version 3: its handler takes over, or without one the procedure goes on at the vector.
use Rattle.gb_successors.specs.Below.gb_pairs.Sound.{AreWithin}
use Rattle.gb_successors.specs.Below.gb_product.Meaning.{entered_with}
use Rattle.gb_rules.specs.Procedures.{entered_of}
use Rattle.std.proofs.Common.{◌≡◌, ℕ, ◌+◌, ◌≤◌, Bool, true, false, cond, ◌&&◌, nat_lt, ◌∷◌, [], List, length, Option, Some, None, refl, sym, ◌∙◌, ap, subst, arith, length-append}
use Rattle.std.proofs.lemmas.Bool.{not-false, or_parts}
use Rattle.std.proofs.lemmas.Bool.Decides.{nat_tests}
use Rattle.std.specs.List.{Contains}
use Rattle.gb_ops.specs.declared.machine.Event.TheVariants as event
use Rattle.gb_ops.specs.Machine.{is_possible, happened, vector}
use Rattle.gb_ops.specs.Play.{MState, within, outside}
use Rattle.gb_successors.specs.Below.gb_abs.Meaning.{Activation, is_located, located_by}
use Rattle.gb_successors.specs.Below.gb_domain.declared.rules.Rules.{Rules}
use Rattle.gb_successors.specs.Below.gb_domain.declared.rules.Rules.TheVariants.{Extended}
use Rattle.gb_successors.specs.Below.gb_domain.declared.setting.Setting.{Setting}
use Rattle.gb_successors.specs.Below.gb_domain.Limits.{rules_of, item_room}
use Rattle.gb_successors.specs.Below.gb_domain.Areas.{is_free_byte}
use Rattle.gb_successors.specs.Below.gb_domain.Pairs.{ArePairs}
use Rattle.gb_successors.specs.Below.gb_domain.Summaries.{Program}
use Rattle.gb_successors.specs.Below.gb_domain.Types.{AbsState, Node}
use Rattle.gb_successors.specs.Below.gb_domain.Certificate.{Certificate}
use Rattle.gb_calls.specs.Below.gb_states.WholeRules.{IsCertificate}
use Rattle.gb_successors.specs.Below.gb_abs.Cells.{ArePlaced}
use Rattle.gb_successors.specs.Below.gb_abs.Operations.{core_settle}
use Rattle.gb_successors.proofs.Below.gb_abs_laws.OperationLaws.{MeansCore-settle, moved}
use Rattle.gb_successors.specs.Below.gb_abs.Stack.{AreInRegion, pushed}
use Rattle.gb_successors.specs.Below.gb_abs.Storage.{peek}
use Rattle.gb_successors.specs.Below.gb_relations.Sound.{IsBytePlaced}
use Rattle.gb_successors.specs.Below.gb_product.Meaning.{Means}
use Rattle.gb_successors.specs.Below.gb_product.Covering.{read_in}
use Rattle.gb_successors.specs.Below.gb_pairs.Meaning.{AreReadIn}
use Rattle.gb_successors.proofs.Below.gb_product_laws.CoveringLaws.{AreReadIn-means}
use Rattle.gb_successors.specs.Below.gb_product.declared.parts.Product.{Product}
use Rattle.gb_successors.specs.Below.gb_product.Reduced.{reduced}
use Rattle.gb_successors.specs.Below.gb_product.Sound.{IsMeantProduct}
use Rattle.gb_successors.proofs.Below.gb_product_laws.ReducedLaws.{reduced_sound}
use Rattle.gb_successors.specs.Successors.{product_before}
use Rattle.std.specs.Option.{is_some}
use Rattle.gb_successors.proofs.Below.gb_product_laws.MeaningLaws.{AreBytes-core}
use Rattle.gb_calls.specs.Calls.{callee_of}
use Rattle.gb_calls.specs.Interrupts.{dispatched, left_by_dispatch, handler_of}
use Rattle.gb_successors.specs.Below.gb_abs_effects.Pairs.{known_word}
use Rattle.gb_successors.specs.Refused.{is_stack_limited}
use Rattle.gb_successors.proofs.AccessLaws.{clear_stack}
use Rattle.gb_rules.specs.Procedures.{need_of, setting_of, program_of}
use Rattle.gb_rules.specs.Rules.{is_over, is_call_uncovered, is_outside_of, is_dispatch_deep, is_possible as possible_at, handles_too_deep, is_dispatch_limited, is_unhandled, lacks_handler}
use Rattle.gb_rules.specs.Safety.{IsAt, LeadsBy, IsSafeEvent}
use Rattle.gb_rules.proofs.CallLaws.{pushed_word}
use Rattle.gb_rules.proofs.NodeLaws.{IsNodeState, IsNodeState-node, one_interrupt}
use Rattle.gb_rules.proofs.RegionLaws.{fewer_bytes}
use Rattle.gb_rules.proofs.EventLaws.{IsSafeHappening, IsSafeEvent-where}
use Rattle.gb_rules.proofs.DispatchLaws.{is_called, may_come-possible, mark_clear, left_by, happened_is, faults_are, no_places, IsDispatched, is_dispatched, dispatched_set, dispatched_items, dispatched_cells}
use Rattle.gb_rules.proofs.ReachingLaws.{IsCalling, LeadsBy-called}
use Rattle.gb_ops.specs.declared.machine.Region.{Region}
use Rattle.gb_successors.specs.Below.gb_product.Below.gb_summaries.Elsewhere.{IsFree}
use Rattle.gb_successors.specs.Below.gb_product.Held.{stack_held}
use Rattle.gb_successors.proofs.Below.gb_product_laws.HeldLaws.{placed_more}

-- ---- where something is meant

some_left : (o : Option Product) (entry : Activation) (x : MState) → IsMeantProduct o entry x → is_some o ≡ true
some_left None entry x h = absurd h
some_left (Some p) entry x h = refl

-- what is asked where something is meant before the instruction is asked wherever the machine stands
pub is_possible-meant :
    (rom : List ℕ) (cert : Certificate) (n : Node) (entry : Activation) (base : ℕ) (x : MState)
    → entry.program ≡ program_of rom cert → IsNodeState cert n → AreWithin (entered_of cert n.procedure) (entered_with entry) → Means n.state entry base x
    → possible_at rom cert n ≡ true
unfolding product_before
is_possible-meant rom cert n entry base x program s within m =
    let y = moved x.processor.pc x in
    let read = read_in (program_of rom cert) n.state in
    some_left (reduced (rules_of cert.version) (entered_of cert n.procedure) read (core_settle n.state.core) n.state.relations) entry y
    ((reduced_sound (is_free_byte cert.region) (rules_of cert.version) (entered_of cert n.procedure) read (core_settle n.state.core) n.state.relations _ refl s.pairs).gives entry y within
    (subst (λ q. AreReadIn n.state.relations.pairs (read_in q n.state) (peek x.storage)) program (AreReadIn-means n.state entry base x m)) (AreBytes-core n.state.core entry x s.core m.parts.core)
    (MeansCore-settle n.state.core entry x x.processor.pc m.parts.core) m.related)

-- ---- what is left

-- the procedure's states with the node's address on the stack
abbrev left_at : Node → AbsState
left_at n = pushed (known_word n.address) (dispatched n.state)

left_is : (n : Node) → nat_lt (item_room Extended) (length n.state.items + 2) ≡ false → left_by_dispatch Extended n.address n.state ≡ left_at n
unfolding left_by_dispatch
left_is n few =
    ap (λ b. cond b (dispatched n.state) (left_at n)) (ap (λ (items : List _). nat_lt (item_room Extended) (length items + 2)) (dispatched_items n.state) ∙ few)

left_count : (n : Node) → length (left_at n).items ≡ length n.state.items + 2
unfolding pushed
left_count n =
    length-append (dispatched n.state).items ((known_word n.address).high ∷ (known_word n.address).low ∷ []) ∙ ap (λ (items : List _). length items + 2) (dispatched_items n.state)

left_set : (n : Node) → is_located (left_at n) ≡ is_located n.state
unfolding pushed dispatched
left_set n = ap (λ (set : Bool). located_by n.state.summary.aside set) (dispatched_set n.state)

same_located : (s : AbsState) → is_located (dispatched s) ≡ is_located s
unfolding dispatched
same_located s = ap (λ (set : Bool). located_by s.summary.aside set) (dispatched_set s)

left_cells : (n : Node) → (left_at n).cells ≡ n.state.cells
unfolding pushed
left_cells n = dispatched_cells n.state

left_apart : (region : Region) (n : Node) → IsFree region n.state.summary → IsFree region (left_at n).summary
unfolding pushed dispatched
left_apart region n h = h

left_relations : (n : Node) → (left_at n).relations ≡ n.state.relations
unfolding pushed dispatched
left_relations n = refl

-- ---- what is asked of a dispatch

-- by the rules of version 3
abbrev wide_at : Certificate → Node → Setting
wide_at cert n = record (setting_of cert n.procedure) { rules = Extended }

widely : (cert : Certificate) (n : Node) → rules_of cert.version ≡ Extended → setting_of cert n.procedure ≡ wide_at cert n
unfolding setting_of
widely cert n extended = ap (λ (q : Rules). record (setting_of cert n.procedure) { rules = q }) extended

-- what is known of an interrupt that may come, whose handler, if there is one, is o
record IsReady (program : Program) (cert : Certificate) (n : Node) (i : ℕ) (o : Option ℕ) : Type 0 where
  stack_set : n.state.core.stack_set ≡ true
  held : length n.state.items + 2 ≤ need_of cert n.procedure
  few : nat_lt (item_room Extended) (length n.state.items + 2) ≡ false
  inside : is_outside_of (wide_at cert n) cert n.procedure o ≡ false
  depth : is_over Extended cert (need_of cert n.procedure) (length n.state.items + 2) o ≡ false
  covered : is_call_uncovered program Extended cert n.procedure (vector i) n.address (left_by_dispatch Extended n.address n.state) o ≡ false

is_ready : (program : Program) (cert : Certificate) (n : Node) (i : ℕ) (o : Option ℕ) → is_unhandled program (wide_at cert n) cert n i o ≡ false → is_dispatch_deep (wide_at cert n) cert (need_of cert n.procedure) n.state o ≡ false → IsReady program cert n i o
is_ready program cert n i o handled deep =
    let p = or_parts _ _ handled in
    let q = or_parts _ _ p.0 in
    let set : n.state.core.stack_set ≡ true = not-false _ q.0 in
    let shallow = or_parts _ _ (where_set _ _ set deep) in
    let room = or_parts _ _ shallow.0 in
    record {
      stack_set = set;
      held = not_over (need_of cert n.procedure) (length n.state.items + 2) room.0;
      few = room.1;
      inside = q.1;
      depth = shallow.1;
      covered = (or_parts _ _ p.1).1;
    }
  where
    where_set : (set deep : Bool) → set ≡ true → (set && deep) ≡ false → deep ≡ false
    where_set true deep e h = h
    where_set false deep e h = cc

    not_over : (need bytes : ℕ) → nat_lt need bytes ≡ false → bytes ≤ need
    not_over need bytes h = grind (arith, nat_tests)

-- ---- where the machine is then

is_calling : (rom : List ℕ) (cert : Certificate) (n : Node) (entry : Activation) (base : ℕ) (x : MState) (i : ℕ) (o : Option ℕ) → IsAt rom cert n entry base x → IsNodeState cert n → IsReady entry.program cert n i o
    → IsDispatched rom cert n entry base x i → x.processor.halt_mark ≡ false → IsCalling cert n.procedure (vector i) n.address (left_at n) entry base (left_by rom x i n.address)
is_calling rom cert n entry base x i o at s ready d mark =
    let related = sym (left_relations n) in
    let place =
    subst (λ r. IsBytePlaced (stack_held (setting_of cert n.procedure) cert.region (length (left_at n).items)) r.byte.address) related
    (subst (λ m. IsBytePlaced (stack_held (setting_of cert n.procedure) cert.region m) n.state.relations.byte.address) (sym (left_count n))
    (placed_more (setting_of cert n.procedure) cert.region (length n.state.items) (length n.state.items + 2) n.state.relations.byte.address (omega arith) at.place)) in
    record {
      reached = record {
        means = d.means;
        address = refl;
        bytes = AreBytes-core n.state.core entry x s.core at.means.parts.core;
        pairs = subst (λ r. ArePairs (is_free_byte cert.region) r.pairs) related s.pairs;
        held = subst (λ m. AreInRegion cert.region base m) (sym (left_count n)) (fewer_bytes cert.region base (need_of cert n.procedure) (length n.state.items + 2) at.room ready.held);
        main = at.main;
        based = at.based;
        within = at.within;
        room = at.room;
        place = place;
      };
      located = left_set n ∙ d.located;
      placed = record {
        cells = subst (λ cells. ArePlaced cert.region cells) (sym (left_cells n)) s.placed;
        byte = place;
        links = subst (λ r. ArePairs (is_free_byte cert.region) r.pairs) related s.pairs;
        summary = left_apart cert.region n s.apart;
      };
      back_small = s.address;
      return_word = pushed_word n.address (dispatched n.state) entry base (left_by rom x i n.address) d.means.parts (same_located n.state ∙ d.located);
      mark = mark;
    }

dispatch_leads : (rom : List ℕ) (cert : Certificate) (n : Node) (entry : Activation) (base : ℕ) (x : MState) (i : ℕ) (o : Option ℕ) → rules_of cert.version ≡ Extended → IsCertificate cert → IsAt rom cert n entry base x
    → IsNodeState cert n → handler_of entry.program cert (wide_at cert n) i n.address n.state ≡ o → IsReady entry.program cert n i o → IsDispatched rom cert n entry base x i → x.processor.halt_mark ≡ false
    → LeadsBy Extended rom cert n.procedure entry base x (left_by rom x i n.address)
unfolding handler_of
dispatch_leads rom cert n entry base x i o extended certificate at s is ready d mark =
    let left = left_is n ready.few in
    let same = sym (widely cert n extended) in
    LeadsBy-called rom cert n.procedure (vector i) n.address (left_at n) entry base x (left_by rom x i n.address) o extended certificate at.program at.names (is_calling rom cert n entry base x i o at s ready d mark)
    (subst (λ z. callee_of entry.program cert z (vector i) (left_at n) ≡ o) same (subst (λ (p : AbsState). callee_of entry.program cert (wide_at cert n) (vector i) p ≡ o) left is))
    (subst (λ z. is_outside_of z cert n.procedure o ≡ false) same ready.inside)
    (subst (λ m. is_over Extended cert (need_of cert n.procedure) m o ≡ false) (sym (left_count n)) ready.depth)
    (subst (λ (p : AbsState). is_call_uncovered entry.program Extended cert n.procedure (vector i) n.address p o ≡ false) left ready.covered)

-- ---- the event

-- A dispatch is safe at a node where the stack doesn't grow too deep by it, no OAM transfer closes the stack, and each interrupt
-- that may come is provided for.
pub IsSafeEvent-dispatched : (rom : List ℕ) (cert : Certificate) (n : Node) (entry : Activation) (base : ℕ) (x : MState) (i : ℕ) → rules_of cert.version ≡ Extended → IsCertificate cert → Contains cert.nodes n
    → handles_too_deep (program_of rom cert) cert n ≡ false → is_dispatch_limited cert.region n ≡ false → lacks_handler (program_of rom cert) cert n ≡ false → IsAt rom cert n entry base x → is_possible (within rom x) (event.Irq i) ≡ true
    → IsSafeEvent rom cert n.procedure entry base x (event.Irq i)
unfolding handles_too_deep is_dispatch_limited lacks_handler
IsSafeEvent-dispatched rom cert n entry base x i extended certificate is_node shallow_there unlimited handled_there at possible =
    let shallow = subst (λ p. handles_too_deep p cert n ≡ false) (sym at.program) shallow_there in
    let handled = subst (λ p. lacks_handler p cert n ≡ false) (sym at.program) handled_there in
    let z = setting_of cert n.procedure in
    let s = IsNodeState-node cert n certificate is_node in
    let may = may_come-possible rom cert n entry base x i at possible in
    let on = (is_called rom x i possible).on in
    let mark = mark_clear rom x at.mark on in
    let o = handler_of entry.program cert (wide_at cert n) i n.address n.state in
    let ready : IsReady entry.program cert n i o = is_ready entry.program cert n i o
    (subst (λ (z : Setting). is_unhandled entry.program z cert n i (handler_of entry.program cert z i n.address n.state) ≡ false) (widely cert n extended)
    (one_interrupt (λ i. is_unhandled entry.program z cert n i (handler_of entry.program cert z i n.address n.state)) n i handled may.1 may.0))
    (subst (λ (z : Setting). is_dispatch_deep z cert (need_of cert n.procedure) n.state (handler_of entry.program cert z i n.address n.state) ≡ false) (widely cert n extended)
    (one_interrupt (λ i. is_dispatch_deep z cert (need_of cert n.procedure) n.state (handler_of entry.program cert z i n.address n.state)) n i shallow may.1 may.0)) in
    let clear = one_interrupt (λ i. is_stack_limited cert.region n.state.core) n i unlimited may.1 may.0 in
    let d = is_dispatched rom cert n entry base x i at is_node certificate on ready.stack_set (clear_stack cert.region n.state.core clear) ready.held in
    let after = happened_is rom x i n.address at.address in
    let leads : LeadsBy Extended rom cert n.procedure entry base x (left_by rom x i n.address) = dispatch_leads rom cert n entry base x i o extended certificate at s refl ready d mark in
    let safe : IsSafeHappening rom cert n.procedure entry base x (event.Irq i) = record {
      faults = faults_are rom cert.region x i n.address at.address ∙ d.faults;
      places = no_places rom cert x i;
      leads = subst (λ r. LeadsBy r rom cert n.procedure entry base x (outside (happened (within rom x) (event.Irq i)))) (sym extended)
          (subst (λ y. LeadsBy Extended rom cert n.procedure entry base x y) (sym after) leads);
      kept = λ b kept. ap (λ (y : MState). peek y.storage b) after ∙ d.kept b kept;
    } in
    IsSafeEvent-where rom cert n.procedure entry base x (event.Irq i) true possible (record { node = n; is_node = is_node; procedure_is = refl; at = at }) (λ yes. safe)
