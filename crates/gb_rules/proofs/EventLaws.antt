-- One event from a state of a node that passes: no fault, certified places, a node that means the state behind it, and
-- what the procedure keeps is unchanged.
use Rattle.gb_successors.specs.Below.gb_product.Meaning.{entered_with}
use Rattle.std.proofs.Common.{◌≡◌, ℕ, ◌+◌, ◌-◌, ◌%◌, ◌≤◌, ◌<◌, Bool, true, false, cond, not, ◌&&◌, ◌||◌, ◌==◌, nat_lt, inl, inr, List, [], ◌∷◌, map, length, slice_index, slice_get, Option, Some, None, refl, sym, ◌∙◌, ap, subst, arith}
use Rattle.std.specs.Prelude.{option_and_then}
use Rattle.std.proofs.lemmas.Bool.{and_parts, eqb-true}
use Rattle.std.proofs.lemmas.Bool.Decides.{nat_tests}
use Rattle.std.proofs.lemmas.Option.{same_Some}
use Rattle.std.specs.List.{All, Contains, list_all}
use Rattle.std.proofs.lemmas.List.Elements.{All-nil, All-from_recursion}
use Rattle.gb_ops.specs.declared.machine.Event.{Event}
use Rattle.gb_ops.specs.declared.machine.Event.TheVariants as event
use Rattle.gb_ops.specs.declared.machine.CodePlace.{CodePlace}
use Rattle.gb_ops.specs.declared.machine.Region.{Region}
use Rattle.gb_ops.specs.declared.registers.Processor.{Processor}
use Rattle.gb_ops.specs.declared.registers.Ime.{Ime}
use Rattle.gb_ops.specs.declared.registers.Ime.TheVariants as ime
use Rattle.gb_ops.specs.declared.op.Op.TheVariants as op
use Rattle.gb_ops.specs.declared.op.Row.{Row}
use Rattle.gb_ops.specs.Table.{decoded, row_of, row_in, table}
use Rattle.gb_ops.specs.Effects as Effects
use Rattle.gb_ops.specs.Memory as Memory
use Rattle.gb_ops.specs.Faults as Faults
use Rattle.gb_ops.specs.Memory.{Storage, is_free, byte_at, passed}
use Rattle.gb_ops.specs.Machine as Machine
use Rattle.gb_ops.specs.Machine.{BusState, fetched, length_of, mark_of, run, executed, happened, is_possible, only, has_halt, is_ime, is_running, is_bytes, halt_stay, halt_bug}
use Rattle.gb_ops.specs.Faults.{no_faults, either_faults, fetch_faults, all_fetch_faults, fetch_addresses, row_faults, run_faults, event_faults, event_places, code_place}
use Rattle.gb_ops.specs.Play.{MState, within, outside, next, faults, places, faults_where, places_where}
use Rattle.gb_successors.specs.Below.gb_domain.Summaries.{Program}
use Rattle.gb_successors.specs.Below.gb_domain.Types.{AbsState, Node}
use Rattle.gb_successors.specs.Below.gb_domain.Certificate.{Certificate}
use Rattle.gb_calls.specs.Below.gb_states.WholeRules.{IsCertificate}
use Rattle.gb_successors.specs.Below.gb_abs.Mark.{IsMarkHarmless}
use Rattle.gb_ops.specs.declared.machine.Mapped.{Mapped}
use Rattle.gb_ops.specs.declared.machine.Mapped.TheVariants as mapped
use Rattle.gb_ops.specs.Registers.{get}
use Rattle.gb_successors.proofs.Below.gb_product_laws.SummaryLaws.{HoldSummary-same}
use Rattle.gb_successors.specs.Below.gb_product.Meaning.{Means}
use Rattle.gb_successors.specs.Below.gb_abs.Meaning.{Activation, Holds, HoldsFlags, HoldsController, ime_may_be, MeansParts}
use Rattle.gb_successors.specs.Below.gb_relations.Meaning.{HoldRelations}
use Rattle.gb_successors.proofs.RelatedLaws.{HoldRelations-same}
use Rattle.gb_successors.specs.Below.gb_abs.Storage.{peek}
use Rattle.gb_successors.proofs.Below.gb_abs_laws.OperationLaws.{counted}
use Rattle.gb_successors.proofs.Below.gb_abs_laws.StackLaws.{MeansParts-with_core}
use Rattle.gb_successors.specs.Below.gb_abs_memory.Sound.{IsRom}
use Rattle.gb_successors.specs.Places.{IsCertified, IsCertifiedBy}
use Rattle.gb_successors.specs.Code.{area_end, known_byte}
use Rattle.gb_successors.proofs.ByteLaws.{Reads-known}
use Rattle.gb_successors.proofs.CodeLaws.{IsInside, clear_byte, area_small, FetchesFirst-known, FetchesAll-known}
use Rattle.gb_successors.specs.Below.gb_abs_memory.Kept.{IsKept}
use Rattle.gb_successors.specs.Way.{Successor}
use Rattle.gb_successors.specs.Sound.{IsHalt}
use Rattle.gb_rules.specs.Rules.{ways_of, is_halt, is_nop, is_nop_behind, may_read_twice, reason_of, reason_at}
use Rattle.gb_rules.specs.Procedures.{ranges_of, setting_of, stack_of, program_of}
use Rattle.gb_rules.specs.Safety.{IsMeant, Leads, IsSafeEvent, IsNoDispatch, IsSafeNode}
use Rattle.gb_rules.proofs.SearchLaws.{Contains-slice_get}
use Rattle.gb_rules.proofs.TargetLaws.{halt_target}
use Rattle.gb_rules.proofs.NodeLaws.{IsNodeState-node, Passes, Passes-from, allowed, known_by}
use Rattle.gb_rules.proofs.StandLaws.{OnNode, stands, sound_ways, is_ruled, is_known, on_code}
use Rattle.gb_rules.proofs.WayLaws.{IsElsewhere}
use Rattle.gb_rules.proofs.WideWayLaws.{Leads-way}

-- what an event that is possible does
pub record IsSafeHappening (rom : List ℕ) (cert : Certificate) (procedure : ℕ) (entry : Activation) (base : ℕ) (s : MState) (e : Event) : Type 0 where
  pub faults : event_faults cert.region (within rom s) e ≡ no_faults
  pub places : All (IsCertified rom cert) (event_places (within rom s) e)
  pub leads : Leads rom cert procedure entry base s (outside (happened (within rom s) e))
  pub kept : (b : ℕ) → IsKept (setting_of cert procedure) cert.region (ranges_of cert procedure) base b → peek (outside (happened (within rom s) e)).storage b ≡ peek s.storage b

certified_by : (rom : List ℕ) (cert : Certificate) (n : Node) (xs : List CodePlace) → Contains cert.nodes n → All (IsCertifiedBy (program_of rom cert) rom n) xs → All (IsCertified rom cert) xs
certified_by rom cert n xs is h = λ i d lt. (n, is, h i d lt)

-- ---- an instruction that is executed

-- an instruction whose bytes are known is executed by its row
happens_by_row : (s : BusState) (fetch reads bytes : List ℕ) (row : Row) → fetched s.memory s.processor fetch ≡ bytes → decoded bytes ≡ Some row → happened s (event.Run fetch reads) ≡ executed s row reads
unfolding happened run
happens_by_row s fetch reads bytes row is found = rw (is, found) refl

run_fine : (region : Region) (s : BusState) (fetch reads bytes : List ℕ) (row : Row) → fetched s.memory s.processor fetch ≡ bytes → decoded bytes ≡ Some row
    → all_fetch_faults s.memory (fetch_addresses s.processor bytes) ≡ no_faults → row_faults (Some row) region s reads ≡ no_faults
    → event_faults region s (event.Run fetch reads) ≡ no_faults
unfolding event_faults run_faults either_faults
run_fine region s fetch reads bytes row is found fine quiet = rw (is, fine, found, quiet) refl

run_places : (s : BusState) (fetch reads bytes : List ℕ) → fetched s.memory s.processor fetch ≡ bytes
    → event_places s (event.Run fetch reads) ≡ map (code_place s.memory) (fetch_addresses s.processor bytes)
unfolding event_places
run_places s fetch reads bytes is = rw is refl

processor_is : (rom : List ℕ) (x : MState) → (within rom x).processor ≡ x.processor
unfolding within
processor_is rom x = refl

small_byte : (b : ℕ) → nat_lt b 256 ≡ true → b ≤ 255
small_byte b h = grind (arith, nat_tests)

first_byte : (reads : List ℕ) → list_all (λ b. nat_lt b 256) reads ≡ true → slice_index reads 0 ≤ 255
first_byte [] h = omega arith
first_byte (b ∷ rest) h = small_byte b (and_parts _ _ h).0

second_byte : (reads : List ℕ) → list_all (λ b. nat_lt b 256) reads ≡ true → slice_index reads 1 ≤ 255
second_byte [] h = omega arith
second_byte (a ∷ []) h = omega arith
second_byte (a ∷ b ∷ rest) h = small_byte b (and_parts _ _ (and_parts _ _ h).1).0

last_true : (a b c d : Bool) → (a && b && (c && d)) ≡ true → d ≡ true
last_true true true true d h = h
last_true true true false d h = cc
last_true true false c d h = cc
last_true false b c d h = cc

-- the bytes of an event
reads_byte : (rom : List ℕ) (x : MState) (fetch reads : List ℕ) → is_possible (within rom x) (event.Run fetch reads) ≡ true → (slice_index reads 0 ≤ 255) × (slice_index reads 1 ≤ 255)
unfolding is_possible
reads_byte rom x fetch reads h =
    let all = last_true (is_running (within rom x)) (is_bytes 3 fetch) (length reads == 2) (list_all (λ b. nat_lt b 256) reads) h in
    (first_byte reads all, second_byte reads all)

run_unmarked : (rom : List ℕ) (cert : Certificate) (n : Node) (entry : Activation) (base : ℕ) (x : MState) (k : OnNode rom cert n entry base x) (fetch reads : List ℕ)
    → x.processor.halt_mark ≡ false → (slice_index reads 0 ≤ 255) × (slice_index reads 1 ≤ 255) → IsSafeHappening rom cert n.procedure entry base x (event.Run fetch reads)
run_unmarked rom cert n entry base x k fetch reads mark byte =
    let p = k.passes in
    let done = (sound_ways rom cert n entry base x k).executes (ranges_of cert n.procedure) entry base x reads k.program k.names.mark (stands rom cert n entry base x k)
    (is_ruled rom cert n entry base x k) mark byte.0 byte.1 in
    let t = done.successor in
    let may = allowed rom cert n p base t done.is_one k.state k.return_word k.room in
    let leads = done.leads may in
    let known = known_by rom cert n p t done.is_one in
    let all = FetchesAll-known (program_of rom cert) rom n entry base x p.bytes known (on_code rom cert n entry base x k) (inl mark) in
    let is : fetched (within rom x).memory (within rom x).processor fetch ≡ p.bytes = ap (λ q. fetched (within rom x).memory q fetch) (processor_is rom x) ∙ all.gives fetch in
    let after : outside (happened (within rom x) (event.Run fetch reads)) ≡ outside (executed (within rom x) p.row reads) =
    ap outside (happens_by_row (within rom x) fetch reads p.bytes p.row is p.is_row) in
    record {
      faults = run_fine cert.region (within rom x) fetch reads p.bytes p.row is p.is_row
          (ap (λ q. all_fetch_faults (within rom x).memory (fetch_addresses q p.bytes)) (processor_is rom x) ∙ all.faults) (done.faults may);
      places = subst (All (IsCertified rom cert)) (sym (run_places (within rom x) fetch reads p.bytes is ∙ ap (λ q. map (code_place (within rom x).memory) (fetch_addresses q p.bytes)) (processor_is rom x)))
          (certified_by rom cert n _ k.is_node all.places);
      leads = subst (Leads rom cert n.procedure entry base x) (sym after)
          (Leads-way rom cert n entry base x k t done.is_one _ leads (record { harmless = inl done.mark; clear = λ e. done.mark }));
      kept = λ b kept. ap (λ (y : MState). peek y.storage b) after ∙ leads.kept b kept;
    }

-- ---- NOP under the HALT mark

nop_row : (a b : ℕ) → row_of 0 a b ≡ Some (record { op = op.Nop; length = 1; cycles = 1; cycles_not_taken = 1 })
unfolding row_of row_in table
nop_row a b = refl

nop_length : length_of 0 ≡ 1
unfolding length_of row_of row_in table
nop_length = refl

decoded_nop : (bytes : List ℕ) (row : Row) (second third : ℕ) → bytes ≡ 0 ∷ second ∷ third ∷ [] → decoded bytes ≡ Some row
    → row ≡ record { op = op.Nop; length = 1; cycles = 1; cycles_not_taken = 1 }
decoded_nop bytes row second third e h =
    same_Some row _ (sym (subst (λ b. decoded b ≡ Some row) e h) ∙ nop_row second third)

-- the machine with a smaller count, and no mark
abbrev repeated_nop : MState → MState
repeated_nop x = record { processor = record x.processor { ime = Machine.ime_after x.processor.ime; halt_mark = false; pc = x.processor.pc % 65536 }; storage = record x.storage { count = x.storage.count - 1 } }

nop_executed : (rom : List ℕ) (x : MState) (reads : List ℕ) → mark_of x.processor ≡ 1
    → outside (executed (within rom x) (record { op = op.Nop; length = 1; cycles = 1; cycles_not_taken = 1 }) reads) ≡ repeated_nop x
unfolding executed within outside Machine.advanced Machine.way_of Effects.effect_of Effects.read_of Machine.loaded Memory.stored passed
nop_executed rom x reads mark = rw mark (ap (λ pc. record (repeated_nop x) { processor = record (repeated_nop x).processor { pc = pc % 65536 } }) (plus_none x.processor.pc))
  where
    plus_none : (a : ℕ) → a + 0 ≡ a
    plus_none a = omega arith

nop_fine : (region : Region) (s : BusState) (reads : List ℕ) → row_faults (Some (record { op = op.Nop; length = 1; cycles = 1; cycles_not_taken = 1 })) region s reads ≡ no_faults
unfolding Effects.effect_of Effects.read_of Machine.loaded Faults.load_faults Faults.store_faults either_faults
nop_fine region s reads = refl

-- ---- where the machine is at the node itself

itself : (rom : List ℕ) (cert : Certificate) (n : Node) (entry : Activation) (base : ℕ) (x y : MState) → OnNode rom cert n entry base x → y.processor.pc ≡ n.address → Means n.state entry base y → IsMarkHarmless rom y
    → IsMeant rom cert n.procedure entry base y
itself rom cert n entry base x y k address means mark = record {
  node = n;
  is_node = k.is_node;
  procedure_is = refl;
  at = record { address = address; program = k.program; names = k.names; means = means; mark = mark; main = k.main; based = k.based; within = k.within; return_word = k.return_word; room = k.room; held = k.held; place = k.place };
}

-- a smaller count, and the same processor but for PC and the mark
same_core : (s : AbsState) (entry : Activation) (base : ℕ) (x y : MState) → MeansParts s entry base x → y.storage ≡ (counted (y.storage.count) x).storage → y.storage.count ≤ x.storage.count
    → y.processor.registers ≡ x.processor.registers → y.processor.flags ≡ x.processor.flags → y.processor.ime ≡ x.processor.ime → y.processor.sp ≡ x.processor.sp
    → y.processor.locked ≡ x.processor.locked → y.processor.stopped ≡ x.processor.stopped → MeansParts s entry base y
same_core s entry base x y m storage less registers flags i sp locked stopped =
    MeansParts-with_core s s.core entry base x y m
    (record {
      registers = λ r. subst (λ q. Holds (get r s.core.registers) entry (get r q)) (sym registers) (m.core.registers r);
      flags = subst (λ f. HoldsFlags s.core.flags entry f) (sym flags) m.core.flags;
      ie = subst (λ (t : Storage). Holds s.core.ie entry t.ie) (sym storage) m.core.ie;
      ime = subst (λ j. ime_may_be s.core.ime j ≡ true) (sym i) m.core.ime;
      controller = subst (λ (t : Storage). HoldsController s.core.ctl entry t.banks) (sym storage) m.core.controller;
      count = let most = m.core.count in omega arith;
      locked = locked ∙ m.core.locked;
      stopped = stopped ∙ m.core.stopped;
    })
    (ap (λ (t : Storage). t.work) storage) (ap (λ (t : Storage). t.high) storage) sp (λ set. set)

count_peek : (t : Storage) (count b : ℕ) → peek (record t { count = count }) b ≡ peek t b
unfolding peek
count_peek t count b = refl

same_means : (s : AbsState) (entry : Activation) (base : ℕ) (x y : MState) → Means s entry base x → y.storage ≡ (counted (y.storage.count) x).storage → y.storage.count ≤ x.storage.count
    → y.processor.registers ≡ x.processor.registers → y.processor.flags ≡ x.processor.flags → y.processor.ime ≡ x.processor.ime → y.processor.sp ≡ x.processor.sp
    → y.processor.locked ≡ x.processor.locked → y.processor.stopped ≡ x.processor.stopped → Means s entry base y
same_means s entry base x y m storage less registers flags i sp locked stopped = record {
  parts = same_core s entry base x y m.parts storage less registers flags i sp locked stopped;
  related = subst (λ q. HoldRelations s.relations (entered_with entry) q (peek y.storage) y.processor.flags) (sym registers)
      (subst (λ f. HoldRelations s.relations (entered_with entry) x.processor.registers (peek y.storage) f) (sym flags)
      (HoldRelations-same s.relations (entered_with entry) x.processor.registers (peek x.storage) (peek y.storage) x.processor.flags
      (λ b. ap (λ (t : Storage). peek t b) storage ∙ count_peek x.storage y.storage.count b) m.related));
  summary = HoldSummary-same entry.program s.cells s.summary x.processor y.processor (peek x.storage) (peek y.storage) x.storage.banks y.storage.banks registers sp i
      (ap (λ (t : Storage). t.banks) storage) (λ b. ap (λ (t : Storage). peek t b) storage ∙ count_peek x.storage y.storage.count b) m.summary;
}

-- ---- NOP under the HALT mark

ime_off : Machine.ime_after ime.Off ≡ ime.Off
unfolding Machine.ime_after
ime_off = refl

mod_small : (a : ℕ) → a < 65536 → a % 65536 ≡ a
mod_small a h = omega arith

run_marked : (rom : List ℕ) (cert : Certificate) (n : Node) (entry : Activation) (base : ℕ) (x : MState) (k : OnNode rom cert n entry base x) (fetch reads : List ℕ)
    → x.processor.halt_mark ≡ true → x.processor.ime ≡ ime.Off → byte_at (within rom x).memory x.processor.pc ≡ 0 → IsSafeHappening rom cert n.procedure entry base x (event.Run fetch reads)
run_marked rom cert n entry base x k fetch reads mark off nop =
    let p = k.passes in
    let known = is_known rom cert n entry base x k in
    let code = on_code rom cert n entry base x k in
    let first = FetchesFirst-known (program_of rom cert) rom n entry base x p.bytes known code in
    let opcode : known.known.opcode ≡ 0 = sym first.byte ∙ nop in
    let short : length_of known.known.opcode ≡ 1 = ap length_of opcode ∙ nop_length in
    let all = FetchesAll-known (program_of rom cert) rom n entry base x p.bytes known code (inr short) in
    let row : p.row ≡ record { op = op.Nop; length = 1; cycles = 1; cycles_not_taken = 1 } =
    decoded_nop p.bytes p.row known.known.second known.known.third (known.known.bytes_are ∙ ap (λ b. b ∷ known.known.second ∷ known.known.third ∷ []) opcode) p.is_row in
    let is : fetched (within rom x).memory (within rom x).processor fetch ≡ p.bytes = ap (λ q. fetched (within rom x).memory q fetch) (processor_is rom x) ∙ all.gives fetch in
    let marked : mark_of x.processor ≡ 1 = ap (λ b. cond b 1 0) mark in
    let after : outside (happened (within rom x) (event.Run fetch reads)) ≡ repeated_nop x =
    ap outside (happens_by_row (within rom x) fetch reads p.bytes p.row is p.is_row) ∙ (ap (λ r. outside (executed (within rom x) r reads)) row ∙ nop_executed rom x reads marked) in
    let small : x.processor.pc < 65536 = subst (λ a. a < 65536) (sym k.address) k.state.address in
    record {
      faults = run_fine cert.region (within rom x) fetch reads p.bytes p.row is p.is_row
          (ap (λ q. all_fetch_faults (within rom x).memory (fetch_addresses q p.bytes)) (processor_is rom x) ∙ all.faults)
          (ap (λ r. row_faults (Some r) cert.region (within rom x) reads) row ∙ nop_fine cert.region (within rom x) reads);
      places = subst (All (IsCertified rom cert)) (sym (run_places (within rom x) fetch reads p.bytes is ∙ ap (λ q. map (code_place (within rom x).memory) (fetch_addresses q p.bytes)) (processor_is rom x)))
          (certified_by rom cert n _ k.is_node all.places);
      leads = subst (Leads rom cert n.procedure entry base x) (sym after)
          (inl (itself rom cert n entry base x (repeated_nop x) k (mod_small x.processor.pc small ∙ k.address)
          (same_means n.state entry base x (repeated_nop x) k.means refl (omega arith) refl refl (ap Machine.ime_after off ∙ (ime_off ∙ sym off)) refl refl refl) (inl refl)));
      kept = λ b kept. ap (λ (y : MState). peek y.storage b) after ∙ count_peek x.storage (x.storage.count - 1) b;
    }

-- ---- HALT

halt_row : (a b : ℕ) → row_of 0x76 a b ≡ Some (record { op = op.Halt; length = 1; cycles = 1; cycles_not_taken = 1 })
unfolding row_of row_in table
halt_row a b = refl

IsHalt-decoded : (bytes : List ℕ) (row : Row) (opcode second third : ℕ) → bytes ≡ opcode ∷ second ∷ third ∷ [] → opcode ≡ 0x76 → decoded bytes ≡ Some row → IsHalt row
IsHalt-decoded bytes row opcode second third e h is =
    let same : row ≡ record { op = op.Halt; length = 1; cycles = 1; cycles_not_taken = 1 } =
    same_Some row _ (sym (subst (λ b. decoded b ≡ Some row) (e ∙ ap (λ o. o ∷ second ∷ third ∷ []) h) is) ∙ halt_row second third) in
    record { op_is = ap (λ (r : Row). r.op) same; length_is = ap (λ (r : Row). r.length) same; cycles_are = ap (λ (r : Row). r.cycles) same }

-- the machine is at HALT where the byte at PC is known
at_halt : (rom : List ℕ) (cert : Certificate) (n : Node) (entry : Activation) (base : ℕ) (x : MState) (k : OnNode rom cert n entry base x) → has_halt (within rom x) ≡ true → IsHalt k.passes.row
at_halt rom cert n entry base x k h =
    let known = is_known rom cert n entry base x k in
    let first = FetchesFirst-known (program_of rom cert) rom n entry base x k.passes.bytes known (on_code rom cert n entry base x k) in
    let seen : (is_free (within rom x).memory x.processor.pc || (byte_at (within rom x).memory x.processor.pc == 0x76)) ≡ true =
    sym (ap (λ q. is_free (within rom x).memory q.pc || (byte_at (within rom x).memory q.pc == 0x76)) (processor_is rom x)) ∙ h in
    let halts : (known.known.opcode == 0x76) ≡ true = opcode_seen _ _ _ first.fixed first.byte seen in
    IsHalt-decoded k.passes.bytes k.passes.row known.known.opcode known.known.second known.known.third known.known.bytes_are (eqb-true known.known.opcode 0x76 halts) k.passes.is_row
  where
    opcode_seen : (free : Bool) (b opcode : ℕ) → free ≡ false → b ≡ opcode → (free || (b == 0x76)) ≡ true → (opcode == 0x76) ≡ true
    opcode_seen true b opcode f e h = cc
    opcode_seen false b opcode f e h = subst (λ c. (c == 0x76) ≡ true) e h

-- under the HALT mark no HALT is there
unmarked_at_halt : (rom : List ℕ) (cert : Certificate) (n : Node) (entry : Activation) (base : ℕ) (x : MState) → OnNode rom cert n entry base x → IsMarkHarmless rom x → has_halt (within rom x) ≡ true → x.processor.halt_mark ≡ false
unmarked_at_halt rom cert n entry base x k (inl clear) h = clear
unmarked_at_halt rom cert n entry base x k (inr nop) h =
    let seen : (is_free (within rom x).memory x.processor.pc || (byte_at (within rom x).memory x.processor.pc == 0x76)) ≡ true =
    sym (ap (λ q. is_free (within rom x).memory q.pc || (byte_at (within rom x).memory q.pc == 0x76)) (processor_is rom x)) ∙ h in
    absurd (nothing _ _ nop.1 nop.2 seen)
  where
    nothing : (free : Bool) (b : ℕ) → free ≡ false → b ≡ 0 → (free || (b == 0x76)) ≡ true → ⊥
    nothing true b f e h = cc
    nothing false b f e h = let zero_is : (0 == 0x76) ≡ true = subst (λ c. (c == 0x76) ≡ true) e h in cc

all_one : {X : Type 0} (P : X → Type 0) (x : X) → P x → All P (x ∷ [])
all_one P x h = All-from_recursion P (x ∷ []) (h, tt)

halt_parts : (running halt i enabled : Bool) → (running && halt && i && enabled) ≡ true → (halt ≡ true) × (i ≡ true) × (enabled ≡ true)
halt_parts true true true true h = (refl, refl, refl)
halt_parts true true true false h = cc
halt_parts true true false e h = cc
halt_parts true false i e h = cc
halt_parts false b i e h = cc

is_pending : (i : Ime) → is_ime i ime.Pending ≡ true → i ≡ ime.Pending
is_pending ime.Off h = cc
is_pending ime.Pending h = refl
is_pending ime.On h = cc

is_off : (i : Ime) → is_ime i ime.Off ≡ true → i ≡ ime.Off
is_off ime.Off h = refl
is_off ime.Pending h = cc
is_off ime.On h = cc

-- the fetch of HALT alone
halt_faults : (region : Region) (rom : List ℕ) (x : MState) → fetch_faults (within rom x).memory x.processor.pc ≡ no_faults
    → (event_faults region (within rom x) event.HaltStay ≡ no_faults) × (event_faults region (within rom x) event.HaltBug ≡ no_faults)
unfolding event_faults
halt_faults region rom x h = let f = ap (λ q. fetch_faults (within rom x).memory q.pc) (processor_is rom x) ∙ h in (f, f)

halt_places : (rom : List ℕ) (cert : Certificate) (x : MState) → IsCertified rom cert (code_place (within rom x).memory x.processor.pc)
    → All (IsCertified rom cert) (event_places (within rom x) event.HaltStay) × All (IsCertified rom cert) (event_places (within rom x) event.HaltBug)
unfolding event_places
halt_places rom cert x h =
    let p = subst (λ q. All (IsCertified rom cert) (code_place (within rom x).memory q.pc ∷ [])) (sym (processor_is rom x)) (all_one (IsCertified rom cert) (code_place (within rom x).memory x.processor.pc) h) in
    (p, p)

stay_mark : (rom : List ℕ) (x : MState) → (outside (halt_stay (within rom x))).processor.halt_mark ≡ x.processor.halt_mark
unfolding halt_stay within outside
stay_mark rom x = refl

stay_safe : (rom : List ℕ) (cert : Certificate) (n : Node) (entry : Activation) (base : ℕ) (x : MState) (k : OnNode rom cert n entry base x) → IsMarkHarmless rom x
    → is_possible (within rom x) event.HaltStay ≡ true → IsSafeHappening rom cert n.procedure entry base x event.HaltStay
unfolding is_possible happened
stay_safe rom cert n entry base x k mark possible =
    let parts = halt_parts _ _ _ _ possible in
    let known = is_known rom cert n entry base x k in
    let first = FetchesFirst-known (program_of rom cert) rom n entry base x k.passes.bytes known (on_code rom cert n entry base x k) in
    let pending : x.processor.ime ≡ ime.Pending = is_pending x.processor.ime (ap (λ (q : Processor). is_ime q.ime ime.Pending) (sym (processor_is rom x)) ∙ parts.1) in
    let clear = unmarked_at_halt rom cert n entry base x k mark parts.0 in
    let way = (sound_ways rom cert n entry base x k).stays (ranges_of cert n.procedure) entry base x k.program (stands rom cert n entry base x k) (at_halt rom cert n entry base x k parts.0) pending parts.2 in
    record {
      faults = (halt_faults cert.region rom x first.faults).0;
      places = (halt_places rom cert x (n, k.is_node, first.place)).0;
      leads = Leads-way rom cert n entry base x k way.successor (inr (inr way.is_way)) _ way.leads
          (record { harmless = inl (stay_mark rom x ∙ clear); clear = λ e. stay_mark rom x ∙ clear });
      kept = λ b kept. way.leads.kept b kept;
    }

-- ---- the halt bug

-- behind a HALT that may be reached with interrupts off there is a NOP, which is read in any case
nop_behind : (program : Program) (rom : List ℕ) (s : AbsState) (a end : ℕ) (o : Option ℕ) → o ≡ Some end → is_nop_behind program rom s a o ≡ true → (a + 1 < end) × (known_byte program rom s (a + 1) ≡ Some 0)
nop_behind program rom s a end None e h = cc
nop_behind program rom s a end (Some f) e h =
    let p = and_parts _ _ h in
    let same : f ≡ end = same_Some f end e in
    let less : a + 1 < f = below _ _ p.0 in
    (subst (λ g. a + 1 < g) same less, nop_known (known_byte program rom s (a + 1)) p.1)
  where
    below : (b c : ℕ) → nat_lt b c ≡ true → b < c
    below b c h = grind (arith, nat_tests)

    nop_known : (o : Option ℕ) → is_nop o ≡ true → o ≡ Some 0
    nop_known None h = cc
    nop_known (Some b) h = ap Some (eqb-true b 0 h)

halt_guarded : (halts off nop : Bool) → halts ≡ true → off ≡ true → (halts && off && not nop) ≡ false → nop ≡ true
halt_guarded true true true h o e = refl
halt_guarded true true false h o e = cc
halt_guarded true false nop h o e = cc
halt_guarded false off nop h o e = cc

off_known : (s : AbsState) (i : Ime) → i ≡ ime.Off → ime_may_be s.core.ime i ≡ true → s.core.ime.off ≡ true
off_known s i e h = subst (λ j. ime_may_be s.core.ime j ≡ true) e h

bug_memory : (rom : List ℕ) (x : MState) → (within rom (outside (halt_bug (within rom x)))).memory ≡ (within rom (counted (x.storage.count - 1) x)).memory
unfolding halt_bug within outside passed
bug_memory rom x = refl

bug_ime : (rom : List ℕ) (x : MState) → (outside (halt_bug (within rom x))).processor.ime ≡ x.processor.ime
unfolding halt_bug within outside
bug_ime rom x = refl

bug_pc : (rom : List ℕ) (x : MState) → (outside (halt_bug (within rom x))).processor.pc ≡ (x.processor.pc + (1 - mark_of x.processor)) % 65536
unfolding halt_bug within outside
bug_pc rom x = refl

-- behind HALT the machine is in the same procedure
halt_stays_here : (rom : List ℕ) (cert : Certificate) (n : Node) (p : Passes rom cert n) (t : Successor) → IsHalt p.row → (ways_of rom cert n p.row).taken ≡ Some t → IsElsewhere t.target → ⊥
unfolding ways_of
halt_stays_here rom cert n p t halt is e = subst IsElsewhere (halt_target (stack_of cert n.procedure) (program_of rom cert) rom p.row n.address n.state t halt.op_is is) e

bug_safe : (rom : List ℕ) (cert : Certificate) (n : Node) (entry : Activation) (base : ℕ) (x : MState) (k : OnNode rom cert n entry base x) → IsMarkHarmless rom x
    → is_possible (within rom x) event.HaltBug ≡ true → IsSafeHappening rom cert n.procedure entry base x event.HaltBug
unfolding is_possible happened may_read_twice
bug_safe rom cert n entry base x k mark possible =
    let p = k.passes in
    let parts = halt_parts _ _ _ _ possible in
    let known = is_known rom cert n entry base x k in
    let first = FetchesFirst-known (program_of rom cert) rom n entry base x p.bytes known (on_code rom cert n entry base x k) in
    let off : x.processor.ime ≡ ime.Off = is_off x.processor.ime (ap (λ (q : Processor). is_ime q.ime ime.Off) (sym (processor_is rom x)) ∙ parts.1) in
    let clear = unmarked_at_halt rom cert n entry base x k mark parts.0 in
    let halt = at_halt rom cert n entry base x k parts.0 in
    let way = (sound_ways rom cert n entry base x k).repeats (ranges_of cert n.procedure) entry base x k.program k.names.mark (stands rom cert n entry base x k) halt off clear in
    let nop = nop_behind (program_of rom cert) rom n.state n.address p.end (area_end n.address) p.is_end
    (halt_guarded (is_halt p.row.op) n.state.core.ime.off _ (ap is_halt halt.op_is) (off_known n.state x.processor.ime off k.means.parts.core.ime) p.halt) in
    let small = area_small n.address p.end p.is_end in
    let inside : IsInside n.address p.end (n.address + 1) = record { least = omega arith; most = nop.0 } in
    let waited = counted (x.storage.count - 1) x in
    let means : Means n.state entry base waited = same_means n.state entry base x waited k.means refl (omega arith) refl refl refl refl refl refl in
    let reads = Reads-known (program_of rom cert) rom n.state entry base waited (n.address + 1) 0 k.cartridge k.program means k.state.core.ie
    (clear_byte n.state.core n.address (length_of known.known.opcode) p.end (n.address + 1) known.clear small.1 inside) nop.1 in
    let none : mark_of x.processor ≡ 0 = ap (λ b. cond b 1 0) clear in
    let pc : (outside (halt_bug (within rom x))).processor.pc ≡ n.address + 1 =
    bug_pc rom x ∙ (ap (λ m. (x.processor.pc + (1 - m)) % 65536) none ∙ (ap (λ a. (a + 1) % 65536) k.address ∙ mod_small (n.address + 1) (omega (arith, nop.0, small.1)))) in
    let fixed : is_free (within rom (outside (halt_bug (within rom x)))).memory (outside (halt_bug (within rom x))).processor.pc ≡ false =
    ap (is_free (within rom (outside (halt_bug (within rom x)))).memory) pc ∙ (ap (λ m. is_free m (n.address + 1)) (bug_memory rom x) ∙ reads.fixed) in
    let byte : byte_at (within rom (outside (halt_bug (within rom x)))).memory (outside (halt_bug (within rom x))).processor.pc ≡ 0 =
    ap (byte_at (within rom (outside (halt_bug (within rom x)))).memory) pc ∙ (ap (λ m. byte_at m (n.address + 1)) (bug_memory rom x) ∙ reads.byte) in
    record {
      faults = (halt_faults cert.region rom x first.faults).1;
      places = (halt_places rom cert x (n, k.is_node, first.place)).1;
      leads = Leads-way rom cert n entry base x k way.successor (inl way.is_way) _ way.leads
          (record { harmless = inr (bug_ime rom x ∙ off, fixed, byte); clear = λ e. absurd (halt_stays_here rom cert n k.passes way.successor halt way.is_way e) });
      kept = λ b kept. way.leads.kept b kept;
    }

-- ---- time alone

waited_is : (rom : List ℕ) (x : MState) (cycles : ℕ) → x.processor.locked ≡ false → x.processor.stopped ≡ false → outside (happened (within rom x) (event.Wait cycles)) ≡ counted (x.storage.count - cycles) x
unfolding happened within outside passed
waited_is rom x cycles locked stopped =
    let runs : (not x.processor.locked && not x.processor.stopped) ≡ true = rw (locked, stopped) refl in
    rw runs refl

no_faults_waited : (region : Region) (rom : List ℕ) (x : MState) (cycles : ℕ) → event_faults region (within rom x) (event.Wait cycles) ≡ no_faults
unfolding event_faults
no_faults_waited region rom x cycles = refl

no_places_waited : (rom : List ℕ) (cert : Certificate) (x : MState) (cycles : ℕ) → All (IsCertified rom cert) (event_places (within rom x) (event.Wait cycles))
unfolding event_places
no_places_waited rom cert x cycles = All-nil _

same_bytes : (rom : List ℕ) (x : MState) (count a : ℕ) → byte_at (within rom (counted count x)).memory a ≡ byte_at (within rom x).memory a
unfolding within byte_at
same_bytes rom x count a = by (Memory.mapped_at a)
  where
    by : (c : Mapped) → Memory.byte_by c (within rom (counted count x)).memory a ≡ Memory.byte_by c (within rom x).memory a
    by mapped.Rom = refl
    by mapped.CartridgeRam = refl
    by (mapped.WorkRam i) = refl
    by (mapped.HighRam i) = refl
    by mapped.InterruptEnable = refl
    by mapped.Transfer = refl
    by mapped.Hardware = refl

-- the mark does no more harm after a while
mark_waited : (rom : List ℕ) (cert : Certificate) (n : Node) (entry : Activation) (base : ℕ) (x : MState) (k : OnNode rom cert n entry base x) (count : ℕ) → Means n.state entry base (counted count x)
    → IsMarkHarmless rom x → IsMarkHarmless rom (counted count x)
mark_waited rom cert n entry base x k count m (inl clear) = inl clear
mark_waited rom cert n entry base x k count m (inr nop) =
    let later : OnNode rom cert n entry base (counted count x) =
    record { cartridge = k.cartridge; certificate = k.certificate; is_node = k.is_node; state = k.state; passes = k.passes; address = k.address; program = k.program; names = k.names; means = m; main = k.main; return_word = k.return_word; room = k.room; based = k.based; within = k.within; held = k.held; place = k.place } in
    let first = FetchesFirst-known (program_of rom cert) rom n entry base (counted count x) k.passes.bytes (is_known rom cert n entry base x k) (on_code rom cert n entry base (counted count x) later) in
    inr (nop.0, first.fixed, same_bytes rom x count x.processor.pc ∙ nop.2)

wait_safe : (rom : List ℕ) (cert : Certificate) (n : Node) (entry : Activation) (base : ℕ) (x : MState) (k : OnNode rom cert n entry base x) (cycles : ℕ) → IsMarkHarmless rom x
    → IsSafeHappening rom cert n.procedure entry base x (event.Wait cycles)
wait_safe rom cert n entry base x k cycles mark =
    let after = waited_is rom x cycles k.means.parts.core.locked k.means.parts.core.stopped in
    let means : Means n.state entry base (counted (x.storage.count - cycles) x) = same_means n.state entry base x (counted (x.storage.count - cycles) x) k.means refl (omega arith) refl refl refl refl refl refl in
    record {
      faults = no_faults_waited cert.region rom x cycles;
      places = no_places_waited rom cert x cycles;
      leads = subst (Leads rom cert n.procedure entry base x) (sym after)
          (inl (itself rom cert n entry base x (counted (x.storage.count - cycles) x) k k.address means (mark_waited rom cert n entry base x k (x.storage.count - cycles) means mark)));
      kept = λ b kept. ap (λ (y : MState). peek y.storage b) after ∙ count_peek x.storage (x.storage.count - cycles) b;
    }

-- ---- every event but a dispatch

run_safe : (rom : List ℕ) (cert : Certificate) (n : Node) (entry : Activation) (base : ℕ) (x : MState) (k : OnNode rom cert n entry base x) (fetch reads : List ℕ) → IsMarkHarmless rom x
    → is_possible (within rom x) (event.Run fetch reads) ≡ true → IsSafeHappening rom cert n.procedure entry base x (event.Run fetch reads)
run_safe rom cert n entry base x k fetch reads (inl clear) possible = run_unmarked rom cert n entry base x k fetch reads clear (reads_byte rom x fetch reads possible)
run_safe rom cert n entry base x k fetch reads (inr nop) possible = by x.processor.halt_mark refl
  where
    by : (b : Bool) → x.processor.halt_mark ≡ b → IsSafeHappening rom cert n.procedure entry base x (event.Run fetch reads)
    by true e = run_marked rom cert n entry base x k fetch reads e nop.0 nop.2
    by false e = run_unmarked rom cert n entry base x k fetch reads e (reads_byte rom x fetch reads possible)

event_safe : (rom : List ℕ) (cert : Certificate) (n : Node) (entry : Activation) (base : ℕ) (x : MState) (e : Event) → OnNode rom cert n entry base x → IsMarkHarmless rom x → IsNoDispatch e
    → is_possible (within rom x) e ≡ true → IsSafeHappening rom cert n.procedure entry base x e
event_safe rom cert n entry base x (event.Run fetch reads) k mark other possible = run_safe rom cert n entry base x k fetch reads mark possible
event_safe rom cert n entry base x event.HaltStay k mark other possible = stay_safe rom cert n entry base x k mark possible
event_safe rom cert n entry base x event.HaltBug k mark other possible = bug_safe rom cert n entry base x k mark possible
event_safe rom cert n entry base x (event.Irq i) k mark other possible = absurd other
event_safe rom cert n entry base x (event.Wait cycles) k mark other possible = wait_safe rom cert n entry base x k cycles mark

unchanged : (rom : List ℕ) (x : MState) → outside (within rom x) ≡ x
unfolding outside within
unchanged rom x = refl

-- an event is possible or changes nothing
pub IsSafeEvent-where : (rom : List ℕ) (cert : Certificate) (procedure : ℕ) (entry : Activation) (base : ℕ) (x : MState) (e : Event) (b : Bool) → is_possible (within rom x) e ≡ b
    → IsMeant rom cert procedure entry base x → (b ≡ true → IsSafeHappening rom cert procedure entry base x e) → IsSafeEvent rom cert procedure entry base x e
unfolding next faults places Machine.next only
IsSafeEvent-where rom cert procedure entry base x e true is m safe =
    let s = safe refl in
    record {
      faults = ap (λ b. faults_where b (event_faults cert.region (within rom x) e)) is ∙ s.faults;
      places = subst (λ b. All (IsCertified rom cert) (places_where b (event_places (within rom x) e))) (sym is) s.places;
      leads = subst (λ b. Leads rom cert procedure entry base x (outside (only b (happened (within rom x) e) (within rom x)))) (sym is) s.leads;
      kept = λ a kept. ap (λ b. peek (outside (only b (happened (within rom x) e) (within rom x))).storage a) is ∙ s.kept a kept;
    }
IsSafeEvent-where rom cert procedure entry base x e false is m safe =
    record {
      faults = ap (λ b. faults_where b (event_faults cert.region (within rom x) e)) is;
      places = subst (λ b. All (IsCertified rom cert) (places_where b (event_places (within rom x) e))) (sym is) (All-nil _);
      leads = inl (subst (λ b. IsMeant rom cert procedure entry base (outside (only b (happened (within rom x) e) (within rom x)))) (sym is) (subst (IsMeant rom cert procedure entry base) (sym (unchanged rom x)) m));
      kept = λ a kept. ap (λ b. peek (outside (only b (happened (within rom x) e) (within rom x))).storage a) is ∙ ap (λ (y : MState). peek y.storage a) (unchanged rom x);
    }

-- one event but a dispatch, from a state of a node that no reason applies to
pub IsSafeNode-right : (rom : List ℕ) (cert : Certificate) (n : Node) → IsRom rom → IsCertificate cert → Contains cert.nodes n → reason_of rom cert n ≡ None → IsSafeNode rom cert n
IsSafeNode-right rom cert n cartridge certificate is_node right entry base x e other at =
    let passes = Passes-from rom cert n right in
    let k : OnNode rom cert n entry base x = record {
      cartridge = cartridge;
      certificate = certificate;
      is_node = is_node;
      state = IsNodeState-node cert n certificate is_node;
      passes = passes;
      address = at.address;
      program = at.program;
      names = at.names;
      means = at.means;
      main = at.main;
      return_word = at.return_word;
      room = at.room;
      based = at.based;
      within = at.within;
      held = at.held;
      place = at.place;
    } in
    IsSafeEvent-where rom cert n.procedure entry base x e (is_possible (within rom x) e) refl (record { node = n; is_node = is_node; procedure_is = refl; at = at })
    (λ possible. event_safe rom cert n entry base x e k at.mark other possible)

-- the node with a number is safe where no reason is against it
pub IsSafeNode-at : (rom : List ℕ) (cert : Certificate) (i : ℕ) (n : Node) → IsRom rom → IsCertificate cert → slice_get cert.nodes i ≡ Some n → reason_at rom cert i ≡ None → IsSafeNode rom cert n
IsSafeNode-at rom cert i n cartridge certificate is right =
    IsSafeNode-right rom cert n cartridge certificate (Contains-slice_get cert.nodes i n is) (ap (option_and_then (reason_of rom cert)) (sym is) ∙ right)
