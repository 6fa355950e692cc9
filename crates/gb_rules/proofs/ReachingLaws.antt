-- By the rules of version 3: states that an event leaves in a procedure, and that no reason is against, lead on as the relation
-- of procedures asks it. They are covered where the machine is, or a callee takes them over, or the exit stands for them.
use Rattle.gb_ops.specs.declared.registers.Registers.{Registers}
use Rattle.gb_rules.proofs.EntryLaws.{entry_pairs}
use Rattle.gb_successors.specs.Below.gb_pairs.Sound.{AreWithin}
use Rattle.gb_successors.specs.Below.gb_product.Meaning.{entered_with}
use Rattle.gb_rules.specs.Procedures.{entered_of}
use Rattle.std.proofs.Common.{◌≡◌, ℕ, ◌+◌, ◌-◌, ◌≤◌, ◌<◌, Bool, true, false, not, ◌&&◌, ◌==◌, nat_lt, inl, inr, length, List, slice_get, Option, Some, None, refl, sym, ◌∙◌, ap, subst, arith}
use Rattle.std.specs.Prelude.{IfSome}
use Rattle.std.proofs.lemmas.Bool.{not-false, or_parts}
use Rattle.std.proofs.lemmas.Bool.Decides.{nat_tests}
use Rattle.gb_ops.specs.Pairs.{word}
use Rattle.gb_ops.specs.Play.{MState}
use Rattle.gb_successors.specs.Below.gb_domain.declared.rules.Rules.{Rules}
use Rattle.gb_successors.specs.Below.gb_domain.declared.rules.Rules.TheVariants.{Extended}
use Rattle.gb_successors.specs.Below.gb_domain.declared.types.Origin.TheVariants.{ReturnHigh, ReturnLow}
use Rattle.gb_successors.specs.Below.gb_domain.Areas.{is_free_byte}
use Rattle.gb_successors.specs.Below.gb_domain.Pairs.{ArePairs}
use Rattle.gb_successors.specs.Below.gb_domain.Settings.{IsBase}
use Rattle.gb_successors.specs.Below.gb_domain.Summaries.{Program}
use Rattle.gb_successors.specs.Below.gb_domain.Types.{AbsState, ProcedureParts, Node}
use Rattle.gb_successors.specs.Below.gb_domain.Certificate.{Certificate}
use Rattle.gb_successors.specs.Below.gb_domain.Limits.{rules_of}
use Rattle.gb_calls.specs.Below.gb_states.WholeRules.{IsCertificate}
use Rattle.gb_successors.specs.Below.gb_abs.Mark.{IsMarkHarmless}
use Rattle.gb_successors.specs.Below.gb_abs.Meaning.{Activation, origin_value, is_located}
use Rattle.gb_successors.specs.Below.gb_abs.Stack.{AreInRegion}
use Rattle.gb_successors.specs.Below.gb_abs.Storage.{peek}
use Rattle.gb_successors.specs.Below.gb_pairs.Meaning.{AreBytes}
use Rattle.gb_successors.specs.Below.gb_product.Covering.{covers}
use Rattle.gb_successors.specs.Below.gb_product.Held.{stack_held}
use Rattle.gb_successors.specs.Below.gb_product.Meaning.{Means, IsApart}
use Rattle.gb_successors.specs.Below.gb_relations.Sound.{IsByteFree, IsBytePlaced}
use Rattle.gb_successors.proofs.Below.gb_product_laws.CoveringLaws.{Means-covered}
use Rattle.gb_successors.proofs.Below.gb_product_laws.HeldLaws.{free_held}
use Rattle.gb_calls.specs.Calls.{entered_by, fits, callee_of, are_ranges_inside}
use Rattle.gb_calls.specs.Resuming.{resumed}
use Rattle.gb_calls.proofs.CalleeLaws.{IsCallee-found, IsEntryNode-entry, fits-few, fits-base}
use Rattle.gb_rules.specs.Covered.{covered_at}
use Rattle.gb_rules.specs.Procedures.{ranges_of, kept_of, need_of, setting_of, program_of, exit_of, items_in, entry_in, taken_by, base_in}
use Rattle.gb_rules.specs.Rules.{is_extended, is_over, is_resumed_uncovered, is_back_uncovered, is_call_uncovered, is_uncovered_if, is_outside_of, is_exit_missed}
use Rattle.gb_rules.specs.Safety.{begun_anew, Declares, IsMeant, HandsOver, GoesBack, LeadsBy}
use Rattle.gb_rules.proofs.SearchLaws.{Contains-slice_get}
use Rattle.gb_rules.proofs.CoveringLaws.{covered_items, place_found, found_by}
use Rattle.gb_rules.proofs.ProcedureLaws.{kept_is, HasReturnWord-widely, main_room, main_based}
use Rattle.gb_rules.proofs.WayLaws.{is_own, same_number}
use Rattle.gb_rules.specs.Rules.{setting_by}

-- the machine is in some states of a procedure, at an address
pub record IsReached (cert : Certificate) (procedure a : ℕ) (state : AbsState) (entry : Activation) (base : ℕ) (y : MState) : Type 0 where
  pub means : Means state entry base y
  pub address : y.processor.pc ≡ a
  pub bytes : AreBytes y.processor.registers
  pub pairs : ArePairs (is_free_byte cert.region) state.relations.pairs
  pub held : AreInRegion cert.region base (length state.items)
  pub main : procedure ≡ 0 → base ≡ cert.region.last + 1
  pub based : IsBase (setting_of cert procedure) base
  pub within : AreWithin (entered_of cert procedure) (entered_with entry)
  pub room : AreInRegion cert.region base (need_of cert procedure)
  pub place : IsBytePlaced (stack_held (setting_of cert procedure) cert.region (length state.items)) state.relations.byte.address

-- ---- in the same procedure

-- it stays: behind an instruction, behind a jump to a known word, or where what is called has no callee
pub IsMeant-reached : (rom : List ℕ) (cert : Certificate) (procedure a : ℕ) (state : AbsState) (entry : Activation) (base : ℕ) (y : MState) → rules_of cert.version ≡ Extended
    → entry.program ≡ program_of rom cert → Declares cert procedure base entry → IsReached cert procedure a state entry base y → IsMarkHarmless rom y
    → covered_at entry.program Extended cert procedure a state ≡ true → IsMeant rom cert procedure entry base y
IsMeant-reached rom cert procedure a state entry base y extended program names k mark covered =
    let f = found_by Extended cert procedure a state entry base y k.pairs k.bytes k.within covered k.means in
    let same = f.procedure_is in
    record {
      node = f.node;
      is_node = f.is_node;
      procedure_is = same;
      at = record {
        address = k.address ∙ sym f.address;
        program = program;
        names = subst (λ n. Declares cert n base entry) (sym same) names;
        means = f.means;
        mark = mark;
        main = λ e. k.main (sym same ∙ e);
        based = subst (λ n. IsBase (setting_of cert n) base) (sym same) k.based;
        within = subst (λ n. AreWithin (entered_of cert n) (entered_with entry)) (sym same) k.within;
        return_word = HasReturnWord-widely (rules_of cert.version) cert.region f.node.procedure base extended;
        room = subst (λ n. AreInRegion cert.region base (need_of cert n)) (sym same) k.room;
        held = subst (λ n. AreInRegion cert.region base n) (sym f.count) k.held;
        place = place_found cert procedure f.node.procedure (length state.items) (length f.node.state.items) state.relations.byte.address f.node.state.relations.byte.address same f.count f.place k.place;
      };
    }

-- main begins anew, however it was entered
pub IsMeant-anew : (rom : List ℕ) (cert : Certificate) (a : ℕ) (state : AbsState) (was : Registers ℕ) (y : MState) → rules_of cert.version ≡ Extended → IsCertificate cert
    → AreWithin (entered_of cert 0) was → Means state (begun_anew rom cert was y) (cert.region.last + 1) y
    → y.processor.pc ≡ a → AreBytes y.processor.registers → ArePairs (is_free_byte cert.region) state.relations.pairs → AreInRegion cert.region (cert.region.last + 1) (length state.items) → IsByteFree cert.region state.relations.byte.address → IsMarkHarmless rom y
    → covered_at (program_of rom cert) Extended cert 0 a state ≡ true → IsMeant rom cert 0 (begun_anew rom cert was y) (cert.region.last + 1) y
IsMeant-anew rom cert a state was y extended certificate within means address bytes pairs held free mark covered =
    IsMeant-reached rom cert 0 a state (begun_anew rom cert was y) (cert.region.last + 1) y extended refl (record { kept = refl; mark = refl })
    (record {
      means = means;
      address = address;
      bytes = bytes;
      pairs = pairs;
      held = held;
      main = λ e. refl;
      based = main_based cert certificate;
      within = within;
      room = main_room cert certificate;
      place = free_held (setting_of cert 0) cert.region (length state.items) state.relations.byte.address free;
    }) mark covered

-- ---- a callee takes over

-- how many of its caller's bytes it takes over: as many as its entry node has
taken_by-entry : (cert : Certificate) (q : ℕ) (p : ProcedureParts) (n : Node) → slice_get cert.procedures q ≡ Some p → slice_get cert.nodes p.entry ≡ Some n → taken_by cert q ≡ length n.state.items
unfolding taken_by
taken_by-entry cert q p n at is = ap (entry_in cert) at ∙ ap items_in is

-- where its states stand
base_is : (cert : Certificate) (q : ℕ) (p : ProcedureParts) → slice_get cert.procedures q ≡ Some p → (setting_of cert q).base ≡ p.base
unfolding setting_of
base_is cert q p at = ap base_in at

widely : (cert : Certificate) (procedure : ℕ) → rules_of cert.version ≡ Extended → (setting_of cert procedure).rules ≡ Extended
unfolding setting_of
widely cert procedure h = h

is_other : (cert : Certificate) (procedure : ℕ) → 0 < procedure → (setting_of cert procedure).is_main ≡ false
unfolding setting_of
is_other cert procedure some = other procedure some
  where
    other : (n : ℕ) → 0 < n → (n == 0) ≡ false
    other n lt = grind (arith, nat_tests)

-- its ranges lie inside, unless main calls it
ranges_inside : (e m inside : Bool) → m ≡ false → (not (e && m) && not inside) ≡ false → inside ≡ true
ranges_inside true false true is h = refl
ranges_inside true false false is h = cc
ranges_inside false false true is h = refl
ranges_inside false false false is h = cc
ranges_inside e true inside is h = cc

not_over : (need bytes : ℕ) → nat_lt need bytes ≡ false → bytes ≤ need
not_over need bytes h = grind (arith, nat_tests)

covered_if : (program : Program) (cert : Certificate) (procedure a : ℕ) (o : Option AbsState) → is_uncovered_if program Extended cert procedure a o ≡ false → IfSome o (λ s. covered_at program Extended cert procedure a s ≡ true)
covered_if program cert procedure a None h = tt
covered_if program cert procedure a (Some s) h = not-false _ (or_parts _ _ h).1

-- the address where the procedure will go on is on top of its stack, and its callee is at its first instruction
pub record IsCalling (cert : Certificate) (procedure a back : ℕ) (state : AbsState) (entry : Activation) (base : ℕ) (y : MState) : Type 0 where
  pub reached : IsReached cert procedure a state entry base y
  pub located : is_located state ≡ true
  pub placed : IsApart (setting_of cert procedure) cert.region state
  pub back_small : back < 65536
  pub return_word : word (peek y.storage (y.processor.sp + 1)) (peek y.storage y.processor.sp) ≡ back
  pub mark : y.processor.halt_mark ≡ false

-- nothing is against the callee
pub record IsCallable (program : Program) (cert : Certificate) (procedure back : ℕ) (state : AbsState) (q : ℕ) : Type 0 where
  pub inside : is_outside_of (setting_of cert procedure) cert procedure (Some q) ≡ false
  pub depth : is_over Extended cert (need_of cert procedure) (length state.items) (Some q) ≡ false
  pub resumes : is_back_uncovered program Extended cert procedure back state q ≡ false

-- the callee that is found takes the procedure's newest items over
pub HandsOver-called : (cert : Certificate) (procedure a back : ℕ) (state : AbsState) (entry : Activation) (base : ℕ) (y : MState) (q : ℕ) → rules_of cert.version ≡ Extended → IsCertificate cert
    → IsCalling cert procedure a back state entry base y → callee_of entry.program cert (setting_of cert procedure) a state ≡ Some q → IsCallable entry.program cert procedure back state q → HandsOver cert procedure entry base y
HandsOver-called cert procedure a back state entry base y q extended certificate k is may =
    let z = setting_of cert procedure in
    let rules = widely cert procedure extended in
    let callee = IsCallee-found entry.program cert z a state q is in
    let p = callee.procedure in
    let begin = IsEntryNode-entry entry.program cert z a state p callee.begins in
    let number : begin.node.procedure ≡ q = same_number begin.node.procedure q (is_own 0 cert.procedures cert.nodes q p begin.node certificate.entries callee.is_procedure begin.is_node) in
    let count : taken_by cert begin.node.procedure ≡ length begin.node.state.items = ap (taken_by cert) number ∙ taken_by-entry cert q p begin.node callee.is_procedure begin.is_node in
    let own : p.base ≡ (setting_of cert begin.node.procedure).base = sym (ap (λ n. (setting_of cert n).base) number ∙ base_is cert q p callee.is_procedure) in
    let fitting : fits z (setting_of cert begin.node.procedure).base (taken_by cert begin.node.procedure) (length state.items) ≡ true =
    subst (λ n. fits z (setting_of cert begin.node.procedure).base n (length state.items) ≡ true) (sym count) (subst (λ b. fits z b (length begin.node.state.items) (length state.items) ≡ true) own begin.fitting) in
    record {
      state = state;
      back = back;
      back_small = k.back_small;
      means = k.reached.means;
      return_word = k.return_word;
      located = k.located;
      placed = k.placed;
      pairs = k.reached.pairs;
      held = k.reached.held;
      node = begin.node;
      is_node = Contains-slice_get cert.nodes p.entry begin.node begin.is_node;
      not_main = subst (λ n. 0 < n) (sym number) callee.not_main;
      address = k.reached.address ∙ sym begin.address;
      few = fits-few z (setting_of cert begin.node.procedure).base (taken_by cert begin.node.procedure) (length state.items) rules fitting;
      enters = entry_pairs cert begin.node.procedure q p begin.node number callee.is_procedure begin.is_node;
      based = fits-base z (setting_of cert begin.node.procedure) (taken_by cert begin.node.procedure) state.items base rules fitting k.reached.based;
      begins = subst (λ n. covers entry.program (entered_by entry.program cert.region Extended n (kept_of cert begin.node.procedure) state) begin.node.state ≡ true) (sym count)
          (subst (λ ks. covers entry.program (entered_by entry.program cert.region Extended (length begin.node.state.items) ks state) begin.node.state ≡ true)
          (sym (ap (kept_of cert) number ∙ kept_is cert q p callee.is_procedure))
          (subst (λ (r : Rules). covers entry.program (entered_by entry.program cert.region r (length begin.node.state.items) p.kept state) begin.node.state ≡ true) rules begin.covering));
      mark = k.mark;
      depth = subst (λ n. (length state.items - taken_by cert n) + need_of cert n ≤ need_of cert procedure) (sym number) (not_over (need_of cert procedure) (length state.items - taken_by cert q + need_of cert q) may.depth);
      inside = λ some.
          subst (λ n. are_ranges_inside (ranges_of cert n) (ranges_of cert procedure) ≡ true) (sym number)
          (ranges_inside (is_extended z.rules) z.is_main (are_ranges_inside (ranges_of cert q) (ranges_of cert procedure)) (is_other cert procedure some) may.inside);
      resumes = λ exit at.
          subst (λ n. IfSome (resumed entry.program (setting_by Extended cert procedure) cert.region (taken_by cert n) (ranges_of cert n) (kept_of cert n) state exit) (λ after. covered_at entry.program Extended cert procedure back after ≡ true)) (sym number)
          (covered_if entry.program cert procedure back _ (subst (λ o. is_resumed_uncovered entry.program Extended cert procedure back state q o ≡ false) (subst (λ n. exit_of cert n ≡ Some exit) number at) may.resumes));
    }

-- whatever is called: its callee takes over, or without one the procedure goes on there
pub LeadsBy-called : (rom : List ℕ) (cert : Certificate) (procedure a back : ℕ) (state : AbsState) (entry : Activation) (base : ℕ) (x y : MState) (o : Option ℕ) → rules_of cert.version ≡ Extended → IsCertificate cert
    → entry.program ≡ program_of rom cert → Declares cert procedure base entry → IsCalling cert procedure a back state entry base y → callee_of entry.program cert (setting_of cert procedure) a state ≡ o → is_outside_of (setting_of cert procedure) cert procedure o ≡ false
    → is_over Extended cert (need_of cert procedure) (length state.items) o ≡ false → is_call_uncovered entry.program Extended cert procedure a back state o ≡ false → LeadsBy Extended rom cert procedure entry base x y
LeadsBy-called rom cert procedure a back state entry base x y None extended certificate program names k is inside depth covered =
    inl (IsMeant-reached rom cert procedure a state entry base y extended program names k.reached (inl k.mark) (not-false _ covered))
LeadsBy-called rom cert procedure a back state entry base x y (Some q) extended certificate program names k is inside depth covered =
    inr (inl (HandsOver-called cert procedure a back state entry base y q extended certificate k is (record { inside = inside; depth = depth; resumes = covered })))

-- ---- the procedure returns

-- its exit stands for the states
pub GoesBack-reached : (cert : Certificate) (procedure : ℕ) (state : AbsState) (entry : Activation) (base : ℕ) (y : MState) → 0 < procedure → Means state entry base y
    → AreInRegion cert.region base (length state.items) → y.processor.pc ≡ word (origin_value ReturnHigh entry) (origin_value ReturnLow entry) → y.processor.halt_mark ≡ false
    → is_exit_missed entry.program Extended state (exit_of cert procedure) ≡ false → GoesBack cert procedure entry base y
GoesBack-reached cert procedure state entry base y some means held address mark h = by (exit_of cert procedure) refl h
  where
    not_so : {X : Type 0} → true ≡ false → X
    not_so e = cc

    by : (o : Option AbsState) → exit_of cert procedure ≡ o → is_exit_missed entry.program Extended state o ≡ false → GoesBack cert procedure entry base y
    by None e missed = not_so missed
    by (Some exit) e missed =
        let covering : covers entry.program state exit ≡ true = not-false _ missed in
        record {
          not_main = some;
          exit = exit;
          is_exit = e;
          means = Means-covered state exit entry base y covering means;
          held = subst (λ n. AreInRegion cert.region base n) (sym (covered_items entry.program state exit covering)) held;
          address = address;
          mark = mark;
        }
