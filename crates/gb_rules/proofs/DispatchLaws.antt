-- An interrupt's dispatch: the procedure is left as by a call, and its handler is entered.
use Rattle.gb_rules.proofs.EntryLaws.{entry_pairs}
use Rattle.gb_successors.specs.Below.gb_product.Meaning.{entered_with}
use Rattle.std.proofs.Common.{◌≡◌, ℕ, ◌+◌, ◌-◌, ◌/◌, ◌%◌, ◌≤◌, ◌<◌, Bool, true, false, not, ◌&&◌, nat_lt, ◌⊎◌, inl, inr, List, length, Option, Some, None, refl, sym, ◌∙◌, ap, subst, arith, nat_le}
use Rattle.std.proofs.lemmas.Bool.{and_parts, not-true}
use Rattle.std.specs.Option.{IfSome}
use Rattle.std.proofs.lemmas.Bool.Decides.{nat_tests}
use Rattle.std.proofs.lemmas.List.Elements.{All-nil}
use Rattle.std.specs.List.{All, Contains}
use Rattle.gb_ops.specs.declared.machine.Event.TheVariants as event
use Rattle.gb_ops.specs.declared.machine.Banks.{Banks}
use Rattle.gb_ops.specs.declared.machine.Region.{Region}
use Rattle.gb_ops.specs.declared.machine.Write.TheVariants as write
use Rattle.gb_ops.specs.declared.registers.Ime.{Ime}
use Rattle.gb_ops.specs.declared.registers.Ime.TheVariants as ime
use Rattle.gb_ops.specs.declared.registers.Processor.{Processor}
use Rattle.gb_ops.specs.Effects.{with_pc, with_sp}
use Rattle.gb_ops.specs.Memory.{View, stored, passed}
use Rattle.gb_ops.specs.Pointers.{pointed, byte_or_page}
use Rattle.gb_ops.specs.Machine as Machine
use Rattle.gb_ops.specs.Machine.{is_possible, happened, is_ime, vector}
use Rattle.gb_ops.specs.Faults.{no_faults, store_faults, event_faults, event_places}
use Rattle.gb_ops.specs.Play.{MState, within, outside}
use Rattle.gb_ops.specs.declared.registers.Registers.{Registers}
use Rattle.gb_ops.specs.declared.registers.Flags.{Flags}
use Rattle.gb_successors.specs.Below.gb_domain.declared.pairs.Bounds.{Bounds}
use Rattle.gb_successors.specs.Below.gb_domain.declared.relations.Relations.{Relations}
use Rattle.gb_successors.specs.Below.gb_domain.declared.types.Cell.{Cell}
use Rattle.gb_successors.specs.Below.gb_domain.declared.rules.Rules.TheVariants.{Simple}
use Rattle.gb_successors.specs.Below.gb_domain.declared.types.Core.{Core}
use Rattle.gb_successors.specs.Below.gb_domain.Areas.{are_in_ram, meets, is_free_byte, is_place_at}
use Rattle.gb_successors.specs.Below.gb_domain.Pairs.{ArePairs}
use Rattle.gb_successors.proofs.Below.gb_relations_laws.CellLinkLaws.{HoldPairs-elsewhere}
use Rattle.gb_successors.specs.Below.gb_domain.Limits.{rules_of}
use Rattle.gb_successors.specs.Below.gb_relations.Meaning.{HoldRelations}
use Rattle.gb_successors.specs.Below.gb_relations.Places.{is_ram}
use Rattle.gb_successors.specs.Below.gb_relations.Sound.{IsBytePlaced}
use Rattle.gb_successors.specs.Below.gb_product.Below.gb_summaries.Elsewhere.{AreFreeFacts, IsFree, IsLeft}
use Rattle.gb_successors.specs.Below.gb_product.Below.gb_summaries.Meaning.{IsAside, HoldSummary}
use Rattle.gb_successors.proofs.Below.gb_product_laws.Below.gb_summaries_laws.ElsewhereLaws.{stays_elsewhere}
use Rattle.gb_successors.proofs.Below.gb_abs_laws.LocationLaws.{is_located-of}
use Rattle.gb_rules.proofs.ProgramLaws.{is_program}
use Rattle.gb_successors.specs.Below.gb_domain.Types.{AbsState, Node}
use Rattle.gb_successors.specs.Below.gb_domain.Certificate.{Certificate}
use Rattle.gb_calls.specs.Below.gb_states.WholeRules.{IsCertificate}
use Rattle.gb_successors.specs.Below.gb_vals.Bits.{has_bit, may_have_bit}
use Rattle.gb_successors.proofs.Below.gb_vals_laws.BitLaws.{may_have_bit_sound}
use Rattle.gb_successors.specs.Below.gb_abs.Cells.{ArePlaced}
use Rattle.gb_successors.specs.Below.gb_abs.Mark.{IsMarkHarmless}
use Rattle.gb_successors.proofs.RelatedLaws.{MeansParts-related}
use Rattle.gb_successors.specs.Below.gb_domain.Summaries.{SummaryParts, Program, no_summary}
use Rattle.gb_successors.specs.Below.gb_product.Meaning.{AreRelated, IsSummarized, Means}
use Rattle.gb_successors.specs.Below.gb_abs.Meaning.{Activation, MeansCore, MeansParts, ime_may_be, is_located}
use Rattle.gb_successors.specs.Below.gb_abs.Operations.{core_end, with_core}
use Rattle.gb_successors.specs.Below.gb_abs.Stack.{AreInRegion, pushed}
use Rattle.gb_successors.specs.Below.gb_abs.Storage.{peek}
use Rattle.gb_successors.proofs.Below.gb_abs_laws.OperationLaws.{Holds-single}
use Rattle.gb_successors.proofs.Below.gb_abs_laws.StackLaws.{IsRegionOpen-bound, MeansParts-pushed, MeansParts-with_core}
use Rattle.gb_successors.specs.Below.gb_abs_memory.Kept.{IsKept}
use Rattle.gb_successors.specs.Below.gb_abs_memory.Sound.{view}
use Rattle.gb_calls.specs.Calls.{entered_by, callee_of, are_ranges_inside}
use Rattle.gb_calls.specs.Resuming.{resumed}
use Rattle.gb_calls.specs.Interrupts.{only_off, dispatched, left_by_dispatch, may_come, handler_of}
use Rattle.gb_calls.proofs.CalleeLaws.{IsCallee-found, IsEntryNode-entry}
use Rattle.gb_successors.specs.Places.{IsCertified}
use Rattle.gb_successors.specs.Behind.{ended, with_relations}
use Rattle.gb_successors.specs.Below.gb_abs_effects.Pairs.{known_word}
use Rattle.gb_successors.proofs.StackWayLaws.{not_pushed}
use Rattle.gb_successors.proofs.SuccessorLaws.{MeansParts-ended, passed_peek}
use Rattle.gb_rules.specs.Covered.{covered_at}
use Rattle.gb_rules.specs.Procedures.{ranges_of, kept_of, need_of, setting_of, exit_of, taken_by}
use Rattle.gb_rules.proofs.ProcedureLaws.{kept_is}
use Rattle.gb_successors.specs.Below.gb_product.Covering.{covers}
use Rattle.gb_rules.specs.Safety.{IsAt, Calls, IsSafeEvent}
use Rattle.gb_rules.proofs.SearchLaws.{Contains-slice_get}
use Rattle.gb_rules.proofs.NodeLaws.{IsNodeState-node, simple_at}
use Rattle.gb_rules.proofs.RegionLaws.{fewer_bytes}
use Rattle.gb_rules.proofs.WayLaws.{is_own, same_number, simply_leads}
use Rattle.gb_rules.proofs.EventLaws.{IsSafeHappening, IsSafeEvent-where}
use Rattle.gb_successors.specs.Below.gb_product.Held.{stack_held}
use Rattle.gb_successors.specs.Below.gb_domain.declared.setting.Setting.{Setting}
use Rattle.gb_successors.specs.Below.gb_domain.Settings.{IsBase}
use Rattle.gb_calls.proofs.ResumingLaws.{place_above}
use Rattle.gb_successors.proofs.Below.gb_relations_laws.AddressLaws.{placed-ram}
use Rattle.gb_rules.specs.Rules.{setting_by}

-- ---- where a dispatch is possible

-- interrupts are on, and IE has the interrupt's bit
pub record IsCalled (x : MState) (i : ℕ) : Type 0 where
  pub on : x.processor.ime ≡ ime.On
  pub small : i < 5
  pub bit : has_bit i x.storage.ie ≡ true

pub is_called : (rom : List ℕ) (x : MState) (i : ℕ) → is_possible (within rom x) (event.Irq i) ≡ true → IsCalled x i
unfolding is_possible within
is_called rom x i h =
    let p = last_three _ _ _ _ h in
    record { on = is_on x.processor.ime p.0; small = below i 5 p.1; bit = p.2 }
  where
    last_three : (a b c d : Bool) → (a && b && c && d) ≡ true → (b ≡ true) × (c ≡ true) × (d ≡ true)
    last_three true true true true h = (refl, refl, refl)
    last_three false b c d h = cc
    last_three true false c d h = cc
    last_three true true false d h = cc
    last_three true true true false h = cc

    is_on : (i : Ime) → is_ime i ime.On ≡ true → i ≡ ime.On
    is_on ime.Off h = cc
    is_on ime.Pending h = cc
    is_on ime.On h = refl

    below : (a b : ℕ) → nat_lt a b ≡ true → a < b
    below a b h = grind (arith, nat_tests)

-- a dispatch that is possible is one that the node's state says may come
pub may_come-possible : (rom : List ℕ) (cert : Certificate) (n : Node) (entry : Activation) (base : ℕ) (x : MState) (i : ℕ) → IsAt rom cert n entry base x → is_possible (within rom x) (event.Irq i) ≡ true
    → (may_come i n.state.core ≡ true) × (i < 5)
may_come-possible rom cert n entry base x i at possible =
    let c = is_called rom x i possible in
    let small = c.small in
    let on : n.state.core.ime.on ≡ true = subst (λ j. ime_may_be n.state.core.ime j ≡ true) c.on at.means.parts.core.ime in
    let ie = at.means.parts.core.ie in
    let bit : may_have_bit n.state.core.ie i ≡ true =
    (may_have_bit_sound i n.state.core.ie (may_have_bit n.state.core.ie i) refl (omega arith)).gives x.storage.ie (record { least = ie.least; most = ie.most }) c.bit in
    (both _ _ on bit, small)
  where
    both : (a b : Bool) → a ≡ true → b ≡ true → (a && b) ≡ true
    both true true h k = refl
    both true false h k = cc
    both false b h k = cc

-- the HALT mark is clear there: it is left only while interrupts are off
pub mark_clear : (rom : List ℕ) (x : MState) → IsMarkHarmless rom x → x.processor.ime ≡ ime.On → x.processor.halt_mark ≡ false
mark_clear rom x (inl clear) on = clear
mark_clear rom x (inr nop) on = absurd (different (sym on ∙ nop.0))
  where
    different : ime.On ≡ ime.Off → ⊥
    different h = cc

-- ---- what the dispatch leaves

-- the processor behind it, but for its stack pointer
abbrev pub in_handler : Processor → ℕ → Processor
in_handler p i = record (with_pc p (vector i)) { ime = ime.Off }

-- the machine behind it, where it pushed a
abbrev pub left_by : List ℕ → MState → ℕ → ℕ → MState
left_by rom x i a = record {
  processor = with_sp (in_handler x.processor i) ((x.processor.sp + 65534) % 65536);
  storage = (passed (stored (view rom x false) (write.Push x.processor.sp a)) 5).storage;
}

pub happened_is : (rom : List ℕ) (x : MState) (i a : ℕ) → x.processor.pc ≡ a → outside (happened (within rom x) (event.Irq i)) ≡ left_by rom x i a
unfolding happened within outside Machine.dispatched
happened_is rom x i a at = ap (left_by rom x i) at

pub faults_are : (rom : List ℕ) (region : Region) (x : MState) (i a : ℕ) → x.processor.pc ≡ a → event_faults region (within rom x) (event.Irq i) ≡ store_faults region (view rom x false) (write.Push x.processor.sp a)
unfolding event_faults within
faults_are rom region x i a at = ap (λ b. store_faults region (view rom x false) (write.Push x.processor.sp b)) at

pub no_places : (rom : List ℕ) (cert : Certificate) (x : MState) (i : ℕ) → All (IsCertified rom cert) (event_places (within rom x) (event.Irq i))
unfolding event_places
no_places rom cert x i = All-nil _

-- the core of the state, interrupts off
abbrev masked : Core → Core
masked s = record s { ime = only_off }

MeansCore-masked : (s : Core) (entry : Activation) (x : MState) (i : ℕ) → MeansCore s entry x → MeansCore (masked s) entry (record { processor = in_handler x.processor i; storage = x.storage })
MeansCore-masked s entry x i m = record {
  registers = m.registers;
  flags = m.flags;
  ie = m.ie;
  ime = refl;
  controller = m.controller;
  count = m.count;
  locked = m.locked;
  stopped = m.stopped;
}

-- interrupts are off while a stack is put aside, so it isn't where they are on
no_aside : (o : Option Bounds) (p q : Processor) → p.ime ≡ ime.On → IsAside o p → IsAside o q
no_aside None p q on h = tt
no_aside (Some b) p q on h = absurd (different (sym on ∙ h.off))
  where
    different : ime.On ≡ ime.Off → ⊥
    different e = cc

-- what is said of the whole program still holds in the handler
HoldSummary-handler : (program : Program) (cells : List Cell) (s : SummaryParts) (p : Processor) (i sp : ℕ) (memory : ℕ → ℕ) (banks : Banks) → p.ime ≡ ime.On
    → HoldSummary program cells s p memory banks → HoldSummary program cells s (with_sp (in_handler p i) sp) memory banks
unfolding pointed byte_or_page
HoldSummary-handler program cells s p i sp memory banks on h = record {
  facts = h.facts;
  fills = h.fills;
  first = h.first;
  second = h.second;
  aside = no_aside s.aside p (with_sp (in_handler p i) sp) on h.aside;
}

-- and where the stack region alone was written
IsSummarized-dispatched : (rom : List ℕ) (region : Region) (s : AbsState) (entry : Activation) (x : MState) (i a : ℕ) → AreFreeFacts region entry.program.facts → IsFree region s.summary → x.processor.ime ≡ ime.On
    → (left_by rom x i a).storage.banks ≡ x.storage.banks → IsLeft region (peek x.storage) (peek (left_by rom x i a).storage) → IsSummarized s entry x → IsSummarized s entry (left_by rom x i a)
IsSummarized-dispatched rom region s entry x i a facts free on banks left h =
    subst (λ r. HoldSummary entry.program s.cells s.summary (left_by rom x i a).processor (peek (left_by rom x i a).storage) r) (sym banks)
    (stays_elsewhere entry.program region s.cells s.summary (left_by rom x i a).processor (peek x.storage) (peek (left_by rom x i a).storage) x.storage.banks facts free left
    (HoldSummary-handler entry.program s.cells s.summary x.processor i ((x.processor.sp + 65534) % 65536) (peek x.storage) x.storage.banks on h))

dispatched_means : (s : AbsState) (a : ℕ) (entry : Activation) (base : ℕ) (y : MState) → MeansParts (pushed (known_word a) (dispatched s)) entry base y → AreRelated s.relations entry y
    → IsSummarized s entry y → Means (pushed (known_word a) (dispatched s)) entry base y
unfolding pushed dispatched
dispatched_means s a entry base y parts related said = record { parts = parts; related = related; summary = said }

passed_banks : (m : View) (n : ℕ) → (passed m n).storage.banks ≡ m.storage.banks
unfolding passed
passed_banks m n = refl

as_free : (region : Region) (b : ℕ) → is_free_byte region b ≡ true → (is_ram b && not (meets region b b)) ≡ true
as_free region b h = later (nat_le b b) (are_in_ram b b) _ h
  where
    later : (x y z : Bool) → ((x && y) && z) ≡ true → (y && z) ≡ true
    later true y z e = e
    later false y z e = cc

-- memory that stays where a byte of the places is, and where links read it
HoldRelations-apart :
    (may_be : ℕ → Bool) (r : Relations) (was x : Registers ℕ) (memory after : ℕ → ℕ) (f : Flags)
    → ((a : ℕ) → r.byte.address ≡ Some a → after a ≡ memory a) → ArePairs may_be r.pairs → ((a : ℕ) → may_be a ≡ true → after a ≡ memory a)
    → HoldRelations r was x memory f → HoldRelations r was x after f
HoldRelations-apart may_be r was x memory after f same are stay h = record {
  byte = record { byte = h.byte.byte; small = h.byte.small; registers = h.byte.registers; address = λ a e. same a e ∙ h.byte.address a e; test = h.byte.test };
  zero = h.zero;
  pairs = HoldPairs-elsewhere may_be r.pairs was x memory after are stay h.pairs;
}

not_so : {X : Type 0} → true ≡ false → X
not_so h = cc

-- a place isn't below the stack pointer, where the stack holds as much as the state says
IsPlacedAt : Setting → Region → ℕ → ℕ → Type 0
IsPlacedAt z region count a = is_place_at (stack_held z region count) a ≡ true

placed_at : (z : Setting) (region : Region) (count : ℕ) (o : Option ℕ) (a : ℕ) → IsBytePlaced (stack_held z region count) o → o ≡ Some a → is_place_at (stack_held z region count) a ≡ true
placed_at z region count o a place e = subst (λ w. IsBytePlaced (stack_held z region count) w) e place

above_pointer : (z : Setting) (region : Region) (count a base sp : ℕ) → IsBase z base → sp + count ≡ base → is_place_at (stack_held z region count) a ≡ true → meets region a a ≡ true → sp ≤ a
above_pointer z region count a base sp based top place m = let least = place_above z region count a base based place m in omega arith

room_below : (region : Region) (base count sp : ℕ) → AreInRegion region base (count + 2) → sp + count ≡ base → AreInRegion region sp (0 + 2)
room_below region base count sp room top = let first = room.first in let last = room.last in record { first = omega arith; last = omega arith }

nothing_more : (n : ℕ) → n + 0 ≡ n
nothing_more n = omega arith

pub record IsDispatched (rom : List ℕ) (cert : Certificate) (n : Node) (entry : Activation) (base : ℕ) (x : MState) (i : ℕ) : Type 0 where
  pub located : is_located n.state ≡ true
  pub means : Means (pushed (known_word n.address) (dispatched n.state)) entry base (left_by rom x i n.address)
  pub faults : store_faults cert.region (view rom x false) (write.Push x.processor.sp n.address) ≡ no_faults
  pub kept : (b : ℕ) → IsKept (setting_of cert n.procedure) cert.region (ranges_of cert n.procedure) base b → peek (left_by rom x i n.address).storage b ≡ peek x.storage b

-- interrupts are on, so the stack isn't put aside
dispatched_located : (s : AbsState) (p : Processor) → p.ime ≡ ime.On → IsAside s.summary.aside p → s.core.stack_set ≡ true → is_located s ≡ true
dispatched_located s p on aside set = is_located-of s.summary.aside s.core.stack_set (by s.summary.aside aside) set
  where
    by : (o : Option Bounds) → IsAside o p → o ≡ None
    by None h = refl
    by (Some b) h = absurd (let bad : ime.On ≡ ime.Off = sym on ∙ h.off in cc)

pushed_ended :
    (s : AbsState) (a : ℕ)
    → with_relations s.relations (ended false 5 (pushed (known_word a) (with_core s (masked s.core)))) ≡ pushed (known_word a) (dispatched s)
unfolding ended pushed dispatched
pushed_ended s a = refl

pub is_dispatched : (rom : List ℕ) (cert : Certificate) (n : Node) (entry : Activation) (base : ℕ) (x : MState) (i : ℕ) → IsAt rom cert n entry base x → Contains cert.nodes n → IsCertificate cert
    → x.processor.ime ≡ ime.On → n.state.core.stack_set ≡ true → (n.state.core.bound ≡ 0) ⊎ (0xFF80 ≤ cert.region.first) → length n.state.items + 2 ≤ need_of cert n.procedure → IsDispatched rom cert n entry base x i
is_dispatched rom cert n entry base x i at is_node certificate on set unlimited held =
    let s = IsNodeState-node cert n certificate is_node in
    let room = fewer_bytes cert.region base (need_of cert n.procedure) (length n.state.items + 2) at.room held in
    let located = dispatched_located n.state x.processor on at.means.summary.aside set in
    let top = at.means.parts.stack located in
    let y : MState = record { processor = in_handler x.processor i; storage = x.storage } in
    let core = MeansCore-masked n.state.core entry x i at.means.parts.core in
    let means : MeansParts (with_core n.state (masked n.state.core)) entry base y = MeansParts-with_core n.state (masked n.state.core) entry base x y at.means.parts core refl refl refl (λ on. on) in
    let done =
    MeansParts-pushed cert.region (with_core n.state (masked n.state.core)) entry base y (view rom x false) (known_word n.address) n.address means refl located room s.is_region s.placed
    (IsRegionOpen-bound n.state.core entry x cert.region at.means.parts.core unlimited) (Holds-single (n.address / 256) entry) (Holds-single (n.address % 256) entry) s.address in
    let facts = subst (λ p. AreFreeFacts cert.region p.facts) (sym at.program) (is_program rom cert certificate).facts in
    let left : IsLeft cert.region (peek x.storage) (peek (left_by rom x i n.address).storage) =
    λ b free.
    let p = and_parts (is_ram b) (not (meets cert.region b b)) free in
    passed_peek (stored (view rom x false) (write.Push x.processor.sp n.address)) 5 b
    ∙ done.others b p.0 (not_pushed cert.region base x.processor.sp (length n.state.items) (x.processor.sp - 1) b room top (inl refl) (λ m. not_so (sym m ∙ not-true _ p.1)))
    (not_pushed cert.region base x.processor.sp (length n.state.items) (x.processor.sp - 2) b room top (inr refl) (λ m. not_so (sym m ∙ not-true _ p.1))) in
    let held : (b : ℕ) → n.state.relations.byte.address ≡ Some b → peek (left_by rom x i n.address).storage b ≡ peek x.storage b =
    λ b e.
    let place = placed_at (setting_of cert n.procedure) cert.region (length n.state.items) n.state.relations.byte.address b at.place e in
    let above = above_pointer (setting_of cert n.procedure) cert.region (length n.state.items) b base x.processor.sp at.based top place in
    let below = room_below cert.region base (length n.state.items) x.processor.sp room top in
    passed_peek (stored (view rom x false) (write.Push x.processor.sp n.address)) 5 b
    ∙ done.others b (placed-ram (stack_held (setting_of cert n.procedure) cert.region (length n.state.items)) b place)
    (not_pushed cert.region x.processor.sp x.processor.sp 0 (x.processor.sp - 1) b below (nothing_more x.processor.sp) (inl refl) above)
    (not_pushed cert.region x.processor.sp x.processor.sp 0 (x.processor.sp - 2) b below (nothing_more x.processor.sp) (inr refl) above) in
    record {
      located = located;
      means = dispatched_means n.state n.address entry base (left_by rom x i n.address) (subst (λ z. MeansParts z entry base (left_by rom x i n.address)) (pushed_ended n.state n.address)
          (MeansParts-related n.state.relations (ended false 5 (pushed (known_word n.address) (with_core n.state (masked n.state.core)))) entry base (left_by rom x i n.address)
          (MeansParts-ended rom (pushed (known_word n.address) (with_core n.state (masked n.state.core))) entry base (left_by rom x i n.address).processor (stored (view rom x false) (write.Push x.processor.sp n.address)) false 5 done.starting done.means)))
          (HoldRelations-apart (is_free_byte cert.region) n.state.relations (entered_with entry) x.processor.registers (peek x.storage)
          (peek (left_by rom x i n.address).storage) x.processor.flags held s.pairs (λ b free. left b (as_free cert.region b free)) at.means.related)
          (IsSummarized-dispatched rom cert.region n.state entry x i n.address facts s.apart on
          (passed_banks (stored (view rom x false) (write.Push x.processor.sp n.address)) 5 ∙ done.banks) left at.means.summary);
      faults = done.faults;
      kept = λ b kept. passed_peek (stored (view rom x false) (write.Push x.processor.sp n.address)) 5 b
          ∙ done.others b kept.ram (not_pushed cert.region base x.processor.sp (length n.state.items) (x.processor.sp - 1) b room top (inl refl) kept.above)
          (not_pushed cert.region base x.processor.sp (length n.state.items) (x.processor.sp - 2) b room top (inr refl) kept.above);
    }

-- ---- the handler

pub dispatched_set : (s : AbsState) → (dispatched s).core.stack_set ≡ s.core.stack_set
unfolding dispatched core_end
dispatched_set s = refl

pub dispatched_items : (s : AbsState) → (dispatched s).items ≡ s.items
unfolding dispatched
dispatched_items s = refl

pub dispatched_cells : (s : AbsState) → (dispatched s).cells ≡ s.cells
unfolding dispatched
dispatched_cells s = refl

dispatched_quiet : (s : AbsState) → s.summary ≡ no_summary → (dispatched s).summary ≡ no_summary
unfolding dispatched
dispatched_quiet s quiet = quiet

handler_is : (program : Program) (cert : Certificate) (n : Node) (i : ℕ) → handler_of program cert (simple_at cert n) i n.address n.state ≡ callee_of program cert (simple_at cert n) (vector i) (dispatched n.state)
unfolding handler_of left_by_dispatch
handler_is program cert n i = refl

left_is : (a : ℕ) (s : AbsState) → left_by_dispatch Simple a s ≡ dispatched s
unfolding left_by_dispatch
left_is a s = refl

-- behind a handler the procedure goes on at a node
abbrev pub GoesOn : Program → Certificate → Node → ℕ → Type 0
GoesOn program cert n q =
    (exit : AbsState) → exit_of cert q ≡ Some exit
    → IfSome (resumed program (setting_by Simple cert n.procedure) cert.region (taken_by cert q) (ranges_of cert q) (kept_of cert q) (left_by_dispatch Simple n.address n.state) exit) (λ after. covered_at program Simple cert n.procedure n.address after ≡ true)

handled : (rom : List ℕ) (cert : Certificate) (n : Node) (entry : Activation) (base : ℕ) (x : MState) (i q : ℕ) → IsAt rom cert n entry base x → Contains cert.nodes n → IsCertificate cert → rules_of cert.version ≡ Simple
    → IsDispatched rom cert n entry base x i → x.processor.halt_mark ≡ false → n.state.core.stack_set ≡ true → handler_of entry.program cert (simple_at cert n) i n.address n.state ≡ Some q
    → are_ranges_inside (ranges_of cert q) (ranges_of cert n.procedure) ≡ true → length n.state.items + 2 + need_of cert q ≤ need_of cert n.procedure
    → GoesOn entry.program cert n q
    → Calls cert n.procedure entry base (left_by rom x i n.address)
handled rom cert n entry base x i q at is_node certificate simple d mark set handler inside depth resumes =
    let s = IsNodeState-node cert n certificate is_node in
    let callee = IsCallee-found entry.program cert (simple_at cert n) (vector i) (dispatched n.state) q (sym (handler_is entry.program cert n i) ∙ handler) in
    let begin = IsEntryNode-entry entry.program cert (simple_at cert n) (vector i) (dispatched n.state) callee.procedure callee.begins in
    let number : begin.node.procedure ≡ q =
    same_number begin.node.procedure q (is_own 0 cert.procedures cert.nodes q callee.procedure begin.node certificate.entries callee.is_procedure begin.is_node) in
    record {
      state = dispatched n.state;
      back = n.address;
      back_small = s.address;
      means = d.means;
      quiet = dispatched_quiet n.state (s.quiet simple);
      stack_set = dispatched_set n.state ∙ set;
      placed = subst (λ cells. ArePlaced cert.region cells) (sym (dispatched_cells n.state)) s.placed;
      node = begin.node;
      is_node = Contains-slice_get cert.nodes callee.procedure.entry begin.node begin.is_node;
      not_main = subst (λ m. 0 < m) (sym number) callee.not_main;
      address = sym begin.address;
      enters = entry_pairs cert begin.node.procedure q callee.procedure begin.node number callee.is_procedure begin.is_node;
      begins = subst (λ ks. covers entry.program (entered_by entry.program cert.region Simple (length begin.node.state.items) ks (dispatched n.state)) begin.node.state ≡ true)
          (sym (ap (kept_of cert) number ∙ kept_is cert q callee.procedure callee.is_procedure)) begin.covering;
      mark = mark;
      depth = subst (λ items. length items + 2 + need_of cert begin.node.procedure ≤ need_of cert n.procedure) (sym (dispatched_items n.state))
          (subst (λ m. length n.state.items + 2 + need_of cert m ≤ need_of cert n.procedure) (sym number) depth);
      inside = subst (λ m. are_ranges_inside (ranges_of cert m) (ranges_of cert n.procedure) ≡ true) (sym number) inside;
      resumes = λ exit is.
          subst (λ m. IfSome (resumed entry.program (setting_by Simple cert n.procedure) cert.region (taken_by cert m) (ranges_of cert m) (kept_of cert m) (dispatched n.state) exit) (λ after. covered_at entry.program Simple cert n.procedure n.address after ≡ true)) (sym number)
          (subst (λ (s : AbsState). IfSome (resumed entry.program (setting_by Simple cert n.procedure) cert.region (taken_by cert q) (ranges_of cert q) (kept_of cert q) s exit) (λ after. covered_at entry.program Simple cert n.procedure n.address after ≡ true)) (left_is n.address n.state)
          (resumes exit (subst (λ m. exit_of cert m ≡ Some exit) number is)));
    }

-- ---- the event

-- A dispatch is safe where the stack is set and no OAM transfer closes it, and where the interrupt has a handler whose
-- ranges and bytes lie inside the procedure's, and behind which the procedure goes on at a node.
pub IsSafeEvent-dispatch : (rom : List ℕ) (cert : Certificate) (n : Node) (entry : Activation) (base : ℕ) (x : MState) (i q : ℕ) → IsAt rom cert n entry base x → Contains cert.nodes n → IsCertificate cert → rules_of cert.version ≡ Simple
    → is_possible (within rom x) (event.Irq i) ≡ true → n.state.core.stack_set ≡ true → (n.state.core.bound ≡ 0) ⊎ (0xFF80 ≤ cert.region.first) → handler_of entry.program cert (simple_at cert n) i n.address n.state ≡ Some q
    → are_ranges_inside (ranges_of cert q) (ranges_of cert n.procedure) ≡ true → length n.state.items + 2 + need_of cert q ≤ need_of cert n.procedure
    → GoesOn entry.program cert n q
    → IsSafeEvent rom cert n.procedure entry base x (event.Irq i)
IsSafeEvent-dispatch rom cert n entry base x i q at is_node certificate simple possible set unlimited handler inside depth resumes =
    let on = (is_called rom x i possible).on in
    let mark = mark_clear rom x at.mark on in
    let d = is_dispatched rom cert n entry base x i at is_node certificate on set unlimited (omega arith) in
    let after = happened_is rom x i n.address at.address in
    let safe : IsSafeHappening rom cert n.procedure entry base x (event.Irq i) = record {
      faults = faults_are rom cert.region x i n.address at.address ∙ d.faults;
      places = no_places rom cert x i;
      leads = simply_leads rom cert n.procedure entry base x (outside (happened (within rom x) (event.Irq i))) simple
          (inr (inl (subst (λ y. Calls cert n.procedure entry base y) (sym after) (handled rom cert n entry base x i q at is_node certificate simple d mark set handler inside depth resumes))));
      kept = λ b kept. ap (λ (y : MState). peek y.storage b) after ∙ d.kept b kept;
    } in
    IsSafeEvent-where rom cert n.procedure entry base x (event.Irq i) true possible (record { node = n; is_node = is_node; procedure_is = refl; at = at }) (λ yes. safe)
