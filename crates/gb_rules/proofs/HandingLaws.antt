-- The procedures that wait, by the rules of version 3: one hands its newest items over, its others wait above the callee's
-- base, and it goes on with these and with what it is given back.
use Rattle.gb_rules.proofs.NodeLaws.{IsNodeState-node}
use Rattle.gb_ops.specs.declared.registers.Registers.{Registers}
use Rattle.gb_rules.proofs.EntryLaws.{AreWithin-entered}
use Rattle.gb_successors.specs.Below.gb_pairs.Sound.{AreWithin}
use Rattle.gb_successors.specs.Below.gb_product.Meaning.{entered_with}
use Rattle.gb_rules.specs.Procedures.{entered_of}
use Rattle.std.proofs.Common.{◌≡◌, ℕ, ◌+◌, ◌-◌, ◌≤◌, ◌<◌, true, not, ◌==◌, inl, inr, List, ◌∷◌, length, Option, Some, None, refl, sym, ◌∙◌, ap, subst, arith}
use Rattle.std.specs.Prelude.{IfSome}
use Rattle.std.proofs.lemmas.Bool.Decides.{nat_tests}
use Rattle.gb_ops.specs.Play.{MState}
use Rattle.gb_successors.specs.Below.gb_abs.Meaning.{Activation}
use Rattle.gb_successors.specs.Below.gb_domain.declared.rules.Rules.{Rules}
use Rattle.gb_successors.specs.Below.gb_domain.declared.rules.Rules.TheVariants.{Extended}
use Rattle.gb_successors.specs.Below.gb_domain.Summaries.{Program}
use Rattle.gb_successors.specs.Below.gb_domain.Types.{AbsState}
use Rattle.gb_successors.specs.Below.gb_domain.Certificate.{Certificate}
use Rattle.gb_successors.specs.Below.gb_domain.Limits.{rules_of}
use Rattle.gb_successors.specs.Below.gb_domain.Settings.{known_base, IsBase}
use Rattle.gb_calls.specs.Below.gb_states.declared.role.Role.TheVariants as role
use Rattle.gb_calls.specs.Below.gb_states.WholeRules.{IsCertificate}
use Rattle.gb_successors.specs.Below.gb_abs.Stack.{AreInRegion}
use Rattle.gb_successors.specs.Below.gb_domain.Areas.{is_free_byte}
use Rattle.gb_successors.specs.Below.gb_product.Covering.{covers}
use Rattle.gb_successors.specs.Below.gb_product.Meaning.{Means, IsApart}
use Rattle.gb_successors.proofs.Below.gb_product_laws.CoveringLaws.{Means-covered}
use Rattle.gb_successors.proofs.Below.gb_product_laws.HeldLaws.{free_held, outside_free, placed_more}
use Rattle.gb_successors.specs.Below.gb_domain.declared.places.StackBytes.{StackBytes}
use Rattle.gb_successors.specs.Below.gb_domain.declared.types.Val.{Val}
use Rattle.gb_successors.specs.Below.gb_relations.Items.{places_outside}
use Rattle.gb_successors.specs.Below.gb_relations.Sound.{IsBytePlaced}
use Rattle.gb_successors.proofs.Below.gb_product_laws.MeaningLaws.{AreBytes-core}
use Rattle.gb_successors.specs.Below.gb_abs_memory.Kept.{keeps, keeps_by, IsKept}
use Rattle.gb_calls.specs.Calls.{entered_by, are_ranges_inside}
use Rattle.gb_calls.specs.Resuming.{resumed, waiting_stack}
use Rattle.gb_calls.specs.Sound.{IsCalled, HandsBack, MeansIf}
use Rattle.gb_calls.specs.TakenOver.{base_below, given_back_items}
use Rattle.gb_calls.proofs.EnteringLaws.{Means-taken_over}
use Rattle.gb_calls.proofs.RangeLaws.{IsKept-inside}
use Rattle.gb_calls.proofs.ResumingLaws.{Means-resumed}
use Rattle.gb_calls.proofs.TakenOverLaws.{taken_over-pointer, given_back-pointer}
use Rattle.gb_rules.specs.Covered.{covered_at}
use Rattle.gb_rules.specs.Procedures.{ranges_of, kept_of, need_of, setting_of, program_of, exit_of, taken_by}
use Rattle.gb_rules.specs.Safety.{Declares, begun, IsAt, IsMeant, HandsOver, GoesBack}
use Rattle.gb_rules.specs.Frames.{Keeps, Frame, IsWaitingAbove, Stands}
use Rattle.gb_rules.proofs.CoveringLaws.{IsFoundAt, covered_items, covered_place, IsBytePlaced-among, place_found, found_by}
use Rattle.gb_rules.proofs.ProcedureLaws.{HasReturnWord-widely, ranges_apart, exit_state, exit_located}
use Rattle.gb_rules.proofs.ResumedLaws.{IsGivenBack, IsGivenBack-resumed}
use Rattle.gb_rules.proofs.FrameLaws.{Keeps-none, Keeps-then, waiting_by, waiting_in}
use Rattle.gb_successors.specs.Below.gb_product.Below.gb_summaries.Elsewhere.{AreFreeFacts}
use Rattle.gb_rules.proofs.CertificateLaws.{HasStateParts}
use Rattle.gb_rules.proofs.ProgramLaws.{is_program}
use Rattle.gb_successors.specs.Below.gb_domain.declared.setting.Setting.{Setting}
use Rattle.gb_successors.specs.Below.gb_product.Held.{stack_held}
use Rattle.gb_ops.specs.declared.machine.Region.{Region}
use Rattle.gb_rules.specs.Rules.{setting_by}

-- ---- who keeps something

-- each procedure but main
others_keep : (cert : Certificate) (procedure : ℕ) → rules_of cert.version ≡ Extended → 0 < procedure → keeps (setting_of cert procedure) ≡ true
unfolding setting_of
others_keep cert procedure extended some = ap (λ (r : Rules). keeps_by r (procedure == 0)) extended ∙ other procedure some
  where
    other : (n : ℕ) → 0 < n → not (n == 0) ≡ true
    other n lt = grind (arith, nat_tests)

who_keeps : (cert : Certificate) (procedure : ℕ) → rules_of cert.version ≡ Extended → keeps (setting_of cert procedure) ≡ true → 0 < procedure
unfolding setting_of
who_keeps cert procedure extended h = other procedure (subst (λ (r : Rules). keeps_by r (procedure == 0) ≡ true) extended h)
  where
    other : (n : ℕ) → not (n == 0) ≡ true → 0 < n
    other n e = grind (arith, nat_tests)

-- ---- a frame is put on

-- how many items a callee begins with
items_begun : (program : Program) (region : Region) (k : ℕ) (kept : List ℕ) (s t : AbsState) → k ≤ length s.items → covers program (entered_by program region Extended k kept s) t ≡ true → length t.items ≡ k
unfolding entered_by
items_begun program region k kept s t few h =
    let same = covered_items program (entered_by program region Extended k kept s) t h in
    let pointer = taken_over-pointer k s.items 0 (length s.items) few (none (length s.items)) in
    let least = few in
    omega arith
  where
    none : (n : ℕ) → 0 + n ≡ n
    none n = omega arith

-- the callee's base and what it holds and may need lie in the region
record IsPlacedAbove (cert : Certificate) (procedure : ℕ) (entry : Activation) (base : ℕ) (t : MState) (h : HandsOver cert procedure entry base t) : Type 0 where
  room : AreInRegion cert.region (base_below (taken_by cert h.node.procedure) h.state.items base) (need_of cert h.node.procedure)
  held : AreInRegion cert.region (base_below (taken_by cert h.node.procedure) h.state.items base) (length h.node.state.items)

in_region : (first last base need k items more held : ℕ) → first + need ≤ base → base ≤ last + 1 → first + items ≤ base → k ≤ items → items - k + more ≤ need → held ≡ k
    → (first + more ≤ base - (items - k)) × ((first + held ≤ base - (items - k)) × (base - (items - k) ≤ last + 1))
in_region first last base need k items more held a b c d e f = (omega arith, (omega arith, omega arith))

placed_above : (cert : Certificate) (procedure : ℕ) (entry : Activation) (base : ℕ) (t : MState) → AreInRegion cert.region base (need_of cert procedure) → (h : HandsOver cert procedure entry base t)
    → IsPlacedAbove cert procedure entry base t h
placed_above cert procedure entry base t room h =
    let p = in_region cert.region.first cert.region.last base (need_of cert procedure) (taken_by cert h.node.procedure) (length h.state.items) (need_of cert h.node.procedure) (length h.node.state.items)
    room.first room.last h.held.first h.few h.depth (items_begun entry.program cert.region (taken_by cert h.node.procedure) (kept_of cert h.node.procedure) h.state h.node.state h.few h.begins) in
    record { room = record { first = p.0; last = p.1.1 }; held = record { first = p.1.0; last = p.1.1 } }

is_called : (cert : Certificate) (procedure : ℕ) (entry : Activation) (base : ℕ) (t : MState) (h : HandsOver cert procedure entry base t) → IsCalled (taken_by cert h.node.procedure) h.state entry base t
is_called cert procedure entry base t h = record { few = h.few; located = h.located; caller = h.means }

-- no item of the caller's is a place in it, so none is one of its entry
place_begun :
    (z callee : Setting) (program : Program) (region : Region) (k n count : ℕ) (kept : List ℕ) (s t : AbsState) → IsBytePlaced (stack_held z region n) s.relations.byte.address
    → covers program (entered_by program region Extended k kept s) t ≡ true → IsBytePlaced (stack_held callee region count) t.relations.byte.address
unfolding entered_by
place_begun z callee program region k n count kept s t place h =
    IsBytePlaced-among (stack_held callee region count) (places_outside region s.relations.byte).address t.relations.byte.address (covered_place program (entered_by program region Extended k kept s) t h)
    (free_held callee region count (places_outside region s.relations.byte).address (outside_free z region n s.relations.byte place))

-- the callee stands at its entry, and was entered just now
IsAt-handed : (rom : List ℕ) (cert : Certificate) (procedure : ℕ) (entry : Activation) (base : ℕ) (t : MState) → IsCertificate cert → rules_of cert.version ≡ Extended → entry.program ≡ program_of rom cert
    → (h : HandsOver cert procedure entry base t) → IsPlacedAbove cert procedure entry base t h → IsAt rom cert h.node (begun rom cert h.node.procedure (base_below (taken_by cert h.node.procedure) h.state.items base) t) (base_below (taken_by cert h.node.procedure) h.state.items base) t
IsAt-handed rom cert procedure entry base t certificate extended program h p =
    let k = taken_by cert h.node.procedure in
    let kept = kept_of cert h.node.procedure in
    let some = h.not_main in
    let under : ℕ = base_below k h.state.items base in
    let begun_there = begun rom cert h.node.procedure under t in
    let met =
    Means-covered (entered_by (program_of rom cert) cert.region Extended k kept h.state) h.node.state begun_there under t
    (subst (λ q. covers q (entered_by q cert.region Extended k kept h.state) h.node.state ≡ true) program h.begins)
    (Means-taken_over (program_of rom cert) cert.region k kept h.state entry base begun_there program refl refl (is_called cert procedure entry base t h)) in
    record {
      address = h.address;
      program = refl;
      names = record { kept = refl; mark = refl };
      means = met;
      mark = inl h.mark;
      main = λ e. absurd (omega arith);
      based = h.based;
      within = AreWithin-entered cert h.node begun_there under t h.enters (IsNodeState-node cert h.node certificate h.is_node).core met;
      return_word = HasReturnWord-widely (rules_of cert.version) cert.region h.node.procedure (base_below k h.state.items base) extended;
      room = p.room;
      held = p.held;
      place = place_begun (setting_of cert procedure) (setting_of cert h.node.procedure) entry.program cert.region k (length h.state.items) (length h.node.state.items) kept h.state h.node.state h.placed.byte h.begins;
    }

-- the machine has called: the procedure waits above the items that it keeps, and the callee was entered just now
pub Stands-handed : (rom : List ℕ) (cert : Certificate) (frames : List Frame) (procedure : ℕ) (entry : Activation) (base : ℕ) (s t : MState) → IsCertificate cert → rules_of cert.version ≡ Extended
    → Stands rom cert frames procedure entry base s → (h : HandsOver cert procedure entry base t) → Keeps cert procedure base s t
    → Stands rom cert (record { procedure = procedure; entry = entry; base = base } ∷ frames) h.node.procedure (begun rom cert h.node.procedure (base_below (taken_by cert h.node.procedure) h.state.items base) t) (base_below (taken_by cert h.node.procedure) h.state.items base) t
Stands-handed rom cert frames procedure entry base s t certificate extended stands h keeps =
    let at = stands.meant.at in
    let same = stands.meant.procedure_is in
    let room = subst (λ n. AreInRegion cert.region base (need_of cert n)) same at.room in
    let under = base_below (taken_by cert h.node.procedure) h.state.items base in
    record {
      meant = record { node = h.node; is_node = h.is_node; procedure_is = refl; at = IsAt-handed rom cert procedure entry base t certificate extended at.program h (placed_above cert procedure entry base t room h) };
      waiting = waiting_in cert Extended (record { procedure = procedure; entry = entry; base = base } ∷ frames) h.node.procedure (begun rom cert h.node.procedure under t) under extended (
        record {
          calls = h;
          program = at.program;
          names = subst (λ n. Declares cert n base entry) same at.names;
          callee = refl;
          base_is = refl;
          main = λ e. at.main (same ∙ e);
          within = subst (λ n. AreWithin (entered_of cert n) (entered_with entry)) same at.within;
          based = subst (λ n. IsBase (setting_of cert n) base) same at.based;
          room = room;
          keeps = Keeps-then cert procedure base entry.entered s t stands.keeps keeps;
        },
        waiting_by cert Extended frames procedure entry base extended stands.waiting,
      );
      keeps = Keeps-none cert h.node.procedure under t;
    }

-- ---- a frame is taken off

-- what a procedure keeps, the one that it called keeps too
Keeps-below : (cert : Certificate) (f : Frame) (procedure : ℕ) (above : Activation) (base : ℕ) (s t : MState) → rules_of cert.version ≡ Extended → IsWaitingAbove cert f procedure above base
    → Keeps cert procedure base s t → Keeps cert f.procedure f.base s t
Keeps-below cert f procedure above base s t extended w keeps =
    let is = w.base_is in
    let lower : base ≤ f.base = omega arith in
    let some : 0 < procedure = subst (λ n. 0 < n) w.callee w.calls.not_main in
    record {
      byte = λ b k.
          keeps.byte b (IsKept-inside (setting_of cert f.procedure) (setting_of cert procedure) cert.region (ranges_of cert procedure) (ranges_of cert f.procedure) f.base base b (others_keep cert procedure extended some)
          (subst (λ n. are_ranges_inside (ranges_of cert n) (ranges_of cert f.procedure) ≡ true) w.callee (w.calls.inside (who_keeps cert f.procedure extended k.procedure))) lower k);
    }

-- the rules leave where its items lie
apart_widely : (z : Setting) (region : Region) (s : AbsState) → IsApart z region s → IsApart (record z { rules = Extended }) region s
unfolding stack_held
apart_widely z region s h = record { cells = h.cells; byte = h.byte; links = h.links; summary = h.summary }

within_widely : (cert : Certificate) (procedure : ℕ) (was : Registers ℕ) → AreWithin (entered_of cert procedure) was → AreWithin (setting_by Extended cert procedure).entered was
unfolding setting_of
within_widely cert procedure was h = h

based_widely : (z : Setting) (base : ℕ) → IsBase z base → IsBase (record z { rules = Extended }) base
unfolding known_base
based_widely z base h = h

-- the callee has come back
hands_back : (rom : List ℕ) (cert : Certificate) (f : Frame) (procedure : ℕ) (entry : Activation) (base : ℕ) (s t : MState) → IsCertificate cert → rules_of cert.version ≡ Extended
    → entry.program ≡ program_of rom cert → entry.kept ≡ kept_of cert procedure → (w : IsWaitingAbove cert f procedure entry base) → Keeps cert procedure base entry.entered s
    → (r : GoesBack cert procedure entry base t) → Keeps cert procedure base s t
    → HandsBack f.entry.program (setting_by Extended cert f.procedure) (taken_by cert procedure) cert.region (ranges_of cert procedure) (kept_of cert procedure) w.calls.state r.exit f.entry f.base entry t
hands_back rom cert f procedure entry base s t certificate extended program names w before r keeps =
    let c = w.calls in
    let exit = exit_state cert procedure r.exit certificate r.is_exit in
    let all = Keeps-then cert procedure base entry.entered s t before keeps in
    record {
      is_region = certificate.region;
      apart = ranges_apart cert procedure certificate;
      placed = apart_widely (setting_of cert f.procedure) cert.region c.state c.placed;
      based = based_widely (setting_of cert f.procedure) f.base w.based;
      within = within_widely cert f.procedure (entered_with f.entry) w.within;
      room = c.held;
      begins = subst (λ n. IsCalled (taken_by cert n) c.state f.entry f.base entry.entered) w.callee (is_called cert f.procedure f.entry f.base entry.entered c);
      callee = setting_of cert procedure;
      keeps = others_keep cert procedure extended r.not_main;
      callee_base = subst (λ n. IsBase (setting_of cert n) (base_below (taken_by cert n) c.state.items f.base)) w.callee c.based;
      exit_located = exit_located (rules_of cert.version) cert.region r.exit exit;
      exit_core = exit.core;
      exits = subst (λ n. Means r.exit entry n t) w.base_is r.means;
      caller_program = refl;
      callee_program = sym w.program;
      names = names;
      facts = subst (λ p. AreFreeFacts cert.region p.facts) (sym (w.program ∙ program)) (is_program rom cert certificate).facts;
      exit_free = exit.apart;
      kept = λ b k. all.byte b (subst (λ n. IsKept (setting_of cert procedure) cert.region (ranges_of cert procedure) n b) (sym w.base_is) k);
    }

-- a node that means the state, whose place is among some that this stack may have
record IsFoundBack (cert : Certificate) (waiting : StackBytes) (procedure a items : ℕ) (entry : Activation) (base : ℕ) (y : MState) : Type 0 where
  places : Option ℕ
  placed : IsBytePlaced waiting places
  found : IsFoundAt cert procedure a items places entry base y

-- where something is left, it is covered, and means the machine's state, a node stands for it
found_if : (cert : Certificate) (waiting : StackBytes) (procedure a : ℕ) (k : ℕ) (s x : AbsState) (entry called : Activation) (base : ℕ) (y : MState) (o : Option AbsState) → AreWithin (entered_of cert procedure) (entered_with entry) → HasStateParts Extended role.Exit cert.region x → Means x called base y
    → (top : ℕ) → MeansIf o entry top y → IfSome o (λ after. covered_at entry.program Extended cert procedure a after ≡ true) → IfSome o (IsGivenBack (is_free_byte cert.region) waiting k s x)
    → IsFoundBack cert waiting procedure a (length (given_back_items k s.items x.items)) entry top y
found_if cert waiting procedure a k s x entry called base y None within is exits top m covered given = absurd m
found_if cert waiting procedure a k s x entry called base y (Some after) within is exits top m covered given = record {
  places = after.relations.byte.address;
  placed = given.place;
  found = subst (λ n. IsFoundAt cert procedure a n after.relations.byte.address entry top y) given.count
      (found_by Extended cert procedure a after entry top y given.pairs (AreBytes-core x.core called y is.core exits.parts.core) within covered m);
}

-- the caller's state behind the call is meant by a node
goes_on : (rom : List ℕ) (cert : Certificate) (f : Frame) (procedure : ℕ) (entry : Activation) (base : ℕ) (s t : MState) → IsCertificate cert → rules_of cert.version ≡ Extended
    → entry.program ≡ program_of rom cert → entry.kept ≡ kept_of cert procedure → (w : IsWaitingAbove cert f procedure entry base) → Keeps cert procedure base entry.entered s
    → (r : GoesBack cert procedure entry base t) → Keeps cert procedure base s t
    → IsFoundBack cert (waiting_stack (setting_by Extended cert f.procedure) cert.region (taken_by cert procedure) w.calls.state) f.procedure w.calls.back (length (given_back_items (taken_by cert procedure) w.calls.state.items r.exit.items)) f.entry f.base t
goes_on rom cert f procedure entry base s t certificate extended program names w before r keeps =
    let c = w.calls in
    let k = taken_by cert procedure in
    let exit : HasStateParts Extended role.Exit cert.region r.exit = subst (λ q. HasStateParts q role.Exit cert.region r.exit) extended (exit_state cert procedure r.exit certificate r.is_exit) in
    let pairs = exit.pairs in
    let back = hands_back rom cert f procedure entry base s t certificate extended program names w before r keeps in
    let z = setting_by Extended cert f.procedure in
    let kept = kept_of cert procedure in
    let resumes : IfSome (resumed f.entry.program z cert.region k (ranges_of cert procedure) kept c.state r.exit) (λ after. covered_at f.entry.program Extended cert f.procedure c.back after ≡ true) =
    subst (λ n. IfSome (resumed f.entry.program z cert.region (taken_by cert n) (ranges_of cert n) (kept_of cert n) c.state r.exit) (λ after. covered_at f.entry.program Extended cert f.procedure c.back after ≡ true)) w.callee
    (c.resumes r.exit (ap (exit_of cert) w.callee ∙ r.is_exit)) in
    found_if cert (waiting_stack z cert.region k c.state) f.procedure c.back k c.state r.exit f.entry entry base t (resumed f.entry.program z cert.region k (ranges_of cert procedure) kept c.state r.exit) w.within exit r.means f.base
    (Means-resumed f.entry.program Extended z k cert.region (ranges_of cert procedure) kept c.state r.exit f.entry f.base entry t (is_free_byte cert.region) c.pairs pairs back) resumes
    (IsGivenBack-resumed (is_free_byte cert.region) f.entry.program z cert.region k (ranges_of cert procedure) kept c.state r.exit c.pairs pairs back.placed.byte (exit.place (inr refl)))

-- it holds no fewer than those that waited
given_back_more : (k : ℕ) (items given : List Val) → k ≤ length items → length items - k ≤ length (given_back_items k items given)
given_back_more k items given few =
    let all = given_back-pointer k items given (length items + length given) k few (omega arith) (omega (arith, few)) in
    omega (arith, all, few)

-- the rules leave where its items lie
place_back : (z : Setting) (region : Region) (count : ℕ) (o : Option ℕ) → IsBytePlaced (stack_held (record z { rules = Extended }) region count) o → IsBytePlaced (stack_held z region count) o
unfolding stack_held
place_back z region count o h = h

-- what it holds lies in the region
given_back_room : (cert : Certificate) (f : Frame) (procedure : ℕ) (entry : Activation) (base : ℕ) (t : MState) → IsCertificate cert → (w : IsWaitingAbove cert f procedure entry base)
    → (r : GoesBack cert procedure entry base t) → AreInRegion cert.region f.base (length (given_back_items (taken_by cert procedure) w.calls.state.items r.exit.items))
given_back_room cert f procedure entry base t certificate w r =
    let c = w.calls in
    let k = taken_by cert procedure in
    let few : k ≤ length c.state.items = subst (λ n. taken_by cert n ≤ length c.state.items) w.callee c.few in
    let set = exit_located (rules_of cert.version) cert.region r.exit (exit_state cert procedure r.exit certificate r.is_exit) in
    let first = c.held.first in
    let low = r.held.first in
    let left : t.processor.sp + length r.exit.items ≡ base = r.means.parts.stack set in
    let is : base ≡ base_below k c.state.items f.base = w.base_is in
    let pointer = given_back-pointer k c.state.items r.exit.items f.base t.processor.sp few (omega arith) (left ∙ is) in
    record { first = omega arith; last = c.held.last }

IsMeant-given_back : (rom : List ℕ) (cert : Certificate) (f : Frame) (procedure : ℕ) (entry : Activation) (base : ℕ) (s t : MState) → IsCertificate cert → rules_of cert.version ≡ Extended
    → entry.program ≡ program_of rom cert → entry.kept ≡ kept_of cert procedure → IsWaitingAbove cert f procedure entry base → Keeps cert procedure base entry.entered s
    → GoesBack cert procedure entry base t → Keeps cert procedure base s t → IsMeant rom cert f.procedure f.entry f.base t
IsMeant-given_back rom cert f procedure entry base s t certificate extended program names w before r keeps =
    let there = goes_on rom cert f procedure entry base s t certificate extended program names w before r keeps in
    let g = there.found in
    let same = g.procedure_is in
    let k = taken_by cert procedure in
    let items = w.calls.state.items in
    let few : k ≤ length items = subst (λ n. taken_by cert n ≤ length items) w.callee w.calls.few in
    let all = length (given_back_items k items r.exit.items) in
    let own = place_back (setting_of cert f.procedure) cert.region (length items - k) there.places there.placed in
    let place = placed_more (setting_of cert f.procedure) cert.region (length items - k) all there.places (given_back_more k items r.exit.items few) own in
    record {
      node = g.node;
      is_node = g.is_node;
      procedure_is = same;
      at = record {
        address = r.address ∙ (w.calls.return_word ∙ sym g.address);
        program = w.program ∙ program;
        names = subst (λ n. Declares cert n f.base f.entry) (sym same) w.names;
        means = g.means;
        mark = inl r.mark;
        main = λ e. w.main (sym same ∙ e);
        based = subst (λ n. IsBase (setting_of cert n) f.base) (sym same) w.based;
        within = subst (λ n. AreWithin (entered_of cert n) (entered_with f.entry)) (sym same) w.within;
        return_word = HasReturnWord-widely (rules_of cert.version) cert.region g.node.procedure f.base extended;
        room = subst (λ n. AreInRegion cert.region f.base (need_of cert n)) (sym same) w.room;
        held = subst (λ n. AreInRegion cert.region f.base n) (sym g.count) (given_back_room cert f procedure entry base t certificate w r);
        place = place_found cert f.procedure g.node.procedure all (length g.node.state.items) there.places g.node.state.relations.byte.address same g.count g.place place;
      };
    }

-- the callee has returned: the procedure that called it goes on, as if it had never waited
pub Stands-given_back : (rom : List ℕ) (cert : Certificate) (f : Frame) (rest : List Frame) (procedure : ℕ) (entry : Activation) (base : ℕ) (s t : MState) → IsCertificate cert → rules_of cert.version ≡ Extended
    → Stands rom cert (f ∷ rest) procedure entry base s → GoesBack cert procedure entry base t → Keeps cert procedure base s t
    → Stands rom cert rest f.procedure f.entry f.base t
Stands-given_back rom cert f rest procedure entry base s t certificate extended stands r keeps =
    let waiting = waiting_by cert Extended (f ∷ rest) procedure entry base extended stands.waiting in
    let w = waiting.0 in
    let all = Keeps-then cert procedure base entry.entered s t stands.keeps keeps in
    let names = stands.meant.at.names.kept ∙ ap (kept_of cert) stands.meant.procedure_is in
    record {
      meant = IsMeant-given_back rom cert f procedure entry base s t certificate extended stands.meant.at.program names w stands.keeps r keeps;
      waiting = waiting_in cert Extended rest f.procedure f.entry f.base extended waiting.1;
      keeps = Keeps-then cert f.procedure f.base f.entry.entered entry.entered t w.keeps (Keeps-below cert f procedure entry base entry.entered t extended w all);
    }
