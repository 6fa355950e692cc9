-- Where PUSH, POP, calls and returns lead.
use Rattle.std.proofs.Common.{◌≡◌, ℕ, ◌+◌, ◌-◌, ◌/◌, ◌%◌, ◌≤◌, ◌<◌, Bool, true, false, ◌==◌, inl, inr, List, [], ◌∷◌, ◌++◌, ◌⊎◌, length, take, Option, Some, None, refl, sym, ◌∙◌, ap, subst, arith, length-take-le, length-append}
use Rattle.std.proofs.lemmas.Bool.{eqb-true}
use Rattle.std.proofs.lemmas.Bool.Decides.{nat_tests}
use Rattle.std.specs.List.{AllByRecursion}
use Rattle.gb_ops.specs.declared.machine.Kind.{Kind}
use Rattle.gb_ops.specs.declared.machine.Region.{Region}
use Rattle.gb_ops.specs.declared.machine.Effect.{Effect}
use Rattle.gb_ops.specs.declared.machine.Loaded.{Loaded}
use Rattle.gb_ops.specs.declared.machine.Read.{Read}
use Rattle.gb_ops.specs.declared.machine.Read.TheVariants as machine_read
use Rattle.gb_ops.specs.declared.machine.Write.{Write}
use Rattle.gb_ops.specs.declared.machine.Write.TheVariants as machine_write
use Rattle.gb_ops.specs.declared.op.Op.{Op}
use Rattle.gb_ops.specs.declared.op.Row.{Row}
use Rattle.gb_ops.specs.Cartridge.{kind_of}
use Rattle.gb_ops.specs.Pairs.{word as machine_word}
use Rattle.gb_ops.specs.Effects.{with_sp}
use Rattle.gb_ops.specs.Effects as Effects
use Rattle.gb_ops.specs.Memory.{View, stored, passed}
use Rattle.gb_ops.specs.Machine.{advanced, loaded}
use Rattle.gb_ops.specs.Faults.{no_faults, load_faults, store_faults}
use Rattle.gb_ops.specs.Play.{MState}
use Rattle.gb_domain.specs.declared.setting.Setting.{Setting}
use Rattle.gb_domain.specs.declared.types.Val.{Val}
use Rattle.gb_domain.specs.declared.types.Core.{Core}
use Rattle.gb_domain.specs.declared.types.Halves.{Halves}
use Rattle.gb_domain.specs.declared.types.Range.{Range}
use Rattle.gb_domain.specs.Types.{AbsState}
use Rattle.gb_domain.specs.Areas.{meets}
use Rattle.gb_domain.specs.Rules.{IsVal}
use Rattle.gb_product.specs.Below.gb_vals.Vals.{single, any_val}
use Rattle.gb_product.specs.Below.gb_abs.Storage.{peek}
use Rattle.gb_product.specs.Below.gb_abs.Located.{sp_halves}
use Rattle.gb_product.specs.Below.gb_abs.Operations.{core_end, with_core}
use Rattle.gb_product.specs.Below.gb_abs.Meaning.{Activation, Holds, MeansCore, MeansParts, IsMemory}
use Rattle.gb_product.specs.Below.gb_abs.Cells.{ArePlaced}
use Rattle.gb_product.specs.Below.gb_abs.Stack.{AreInRegion, pushed, popped, last_word, youngest}
use Rattle.gb_product.specs.Below.gb_abs.Sound.{Pops}
use Rattle.gb_product.proofs.Below.gb_abs_laws.StackLaws.{IsRegionOpen-bound, MeansParts-pushed, Pops-popped, MeansParts-with_core, youngest_is}
use Rattle.gb_product.specs.Below.gb_abs_effects.declared.reads.AbsRead.{AbsRead}
use Rattle.gb_product.specs.Below.gb_abs_effects.declared.reads.AbsRead.TheVariants as read
use Rattle.gb_product.specs.Below.gb_abs_effects.declared.writes.AbsWrite.{AbsWrite}
use Rattle.gb_product.specs.Below.gb_abs_effects.declared.writes.AbsWrite.TheVariants as write
use Rattle.gb_domain.specs.declared.low_bits.LowBits.{LowBits}
use Rattle.gb_domain.specs.declared.rules.Rules.{Rules}
use Rattle.gb_domain.specs.declared.rules.Rules.TheVariants.{Simple, Extended}
use Rattle.gb_domain.specs.Summaries.{Program}
use Rattle.gb_successors.specs.Way.{Successor}
use Rattle.gb_product.specs.Below.gb_abs_effects.declared.targets.Target.{Target}
use Rattle.gb_product.specs.Below.gb_abs_effects.declared.targets.Target.TheVariants as target
use Rattle.gb_product.specs.Below.gb_abs_effects.Pairs.{any_word, known_word, word_or_any}
use Rattle.gb_product.specs.Below.gb_abs_effects.Accesses.{read_of}
use Rattle.gb_product.specs.Below.gb_abs_effects.Targets.{is_push, is_pop, is_call, is_return}
use Rattle.gb_product.specs.Below.gb_abs_effects.Sound.{HoldsRead, HoldsWrite, HoldsTarget, IsWrite, Follows}
use Rattle.gb_product.proofs.Below.gb_abs_effects_laws.ReadLaws.{read_of_sound}
use Rattle.gb_product.proofs.Below.gb_abs_effects_laws.TargetLaws.{sp-pushed, sp-popped, pc-returned}
use Rattle.gb_abs_memory.specs.Sound.{view}
use Rattle.gb_abs_memory.specs.Kept.{IsKept}
use Rattle.gb_product.specs.Below.gb_pairs.declared.values.Values.{Values}
use Rattle.gb_successors.specs.Behind.{written, starts, ended}
use Rattle.gb_successors.specs.Loads.{read_word, word_by}
use Rattle.gb_successors.specs.Refused.{reads_closed_ram, is_stack_limited, is_read_limited, is_write_limited}
use Rattle.gb_successors.specs.Sound.{bytes_behind, IsPushable, IsPoppable, IsReturnable, IsStackKnown, IsStackFree, IsStackFit, IsAllowed, LeadsParts, LeadsSimply}
use Rattle.gb_successors.proofs.AroundLaws.{located-same}
use Rattle.gb_product.proofs.Below.gb_abs_laws.LocationLaws.{located-set}
use Rattle.gb_product.specs.Below.gb_abs.Meaning.{is_located}
use Rattle.gb_successors.proofs.SimpleLaws.{behind_row, known_read, low_of, high_of, abs_effect, with_stack_of, simple_parts}
use Rattle.gb_successors.proofs.PlainLaws.{IsPlainRead}
use Rattle.gb_successors.proofs.AccessLaws.{Loads, clear_stack}
use Rattle.gb_successors.proofs.WordLaws.{IsPush-is_push, IsCall-is_call, IsPop-is_pop, IsReturn-is_return, pushed-if_room}
use Rattle.gb_successors.proofs.SuccessorLaws.{begun, begun_sp, given, effect, left_by, faults_are, MeansParts-ended, passed_peek, IsTaken, means_begun, acted, loads, follows, keeps_effect, is_write, allowed_read, allowed_write, read_is, write_is, target_is, state_is, executed_taken, goes_to, leads_simply, Done, bytes-least, Done-plain}

-- ---- the parts of the successor, where its write is known

state_by : (z : Setting) (rom : List ℕ) (region : Region) (row : Row) (a : ℕ) (s : AbsState) (c : Core) (v : AbsWrite) → (abs_effect z rom row a s c).write ≡ v → (simple_parts z rom region row (behind_row a row) s c).state
    ≡ ended (starts v) row.cycles (written z region (kind_of rom) v (with_stack_of z row.op v (with_core s (abs_effect z rom row a s c).core)))
state_by z rom region row a s c v e =
    state_is z rom region row a s c ∙ ap (λ w. ended (starts w) row.cycles (written z region (kind_of rom) w (with_stack_of z row.op w (with_core s (abs_effect z rom row a s c).core)))) e

next_is : (z : Setting) (rom : List ℕ) (region : Region) (row : Row) (a : ℕ) (s : AbsState) (c : Core) → (simple_parts z rom region row (behind_row a row) s c).next ≡ behind_row a row
unfolding simple_parts
next_is z rom region row a s c = refl

ended_push : (z : Setting) (region : Region) (k : Kind) (high low : Val) (n : ℕ) (s : AbsState) → ended (starts (write.Push high low)) n (written z region k (write.Push high low) s) ≡ ended false n s
unfolding starts written
ended_push z region k high low n s = refl

ended_nothing : (z : Setting) (region : Region) (k : Kind) (n : ℕ) (s : AbsState) → ended (starts write.Nothing) n (written z region k write.Nothing s) ≡ ended false n s
unfolding starts written
ended_nothing z region k n s = refl

-- ---- a word is pushed

-- what the machine writes is the word
pub record IsPushed (high low : Val) (entry : Activation) (sp : ℕ) (w : Write) : Type 0 where
  pub value : ℕ
  pub is : w ≡ machine_write.Push sp value
  pub high_held : Holds high entry (value / 256)
  pub low_held : Holds low entry (value % 256)

pub push_of : (high low : Val) (entry : Activation) (sp : ℕ) (w : Write) → HoldsWrite (write.Push high low) entry sp w → IsPushed high low entry sp w
push_of high low entry sp machine_write.Nothing h = absurd h
push_of high low entry sp (machine_write.Byte a n) h = absurd h
push_of high low entry sp (machine_write.Word a n) h = absurd h
push_of high low entry sp (machine_write.Push a n) h = record { value = n; is = ap (λ b. machine_write.Push b n) h.0; high_held = h.1; low_held = h.2 }

pub small_word : (v : Val) (entry : Activation) (n : ℕ) → IsVal v → Holds v entry (n / 256) → n < 65536
small_word v entry n is h =
    let most = h.most in
    let hi = is.hi in
    omega arith

-- a byte that is kept isn't one of the word's
pub not_pushed : (region : Region) (base sp bytes a b : ℕ) → AreInRegion region base (bytes + 2) → sp + bytes ≡ base → (a ≡ sp - 1) ⊎ (a ≡ sp - 2) → (meets region b b ≡ true → base ≤ b) → (b == a) ≡ false
not_pushed region base sp bytes a b room stack at above = choose (b == a) refl
  where
    inside : (a b : ℕ) → b ≡ a → region.first + 2 ≤ sp → sp ≤ region.last + 1 → (a ≡ sp - 1) ⊎ (a ≡ sp - 2) → (meets region b b ≡ true) × (b < sp)
    inside a b e first last (inl i) = (grind (arith, nat_tests), omega arith)
    inside a b e first last (inr i) = (grind (arith, nat_tests), omega arith)

    choose : (t : Bool) → (b == a) ≡ t → (b == a) ≡ false
    choose true e =
        let first = room.first in
        let last = room.last in
        let p = inside a b (eqb-true b a e) (omega arith) (omega arith) at in
        let least = above p.0 in
        let below = p.1 in
        absurd (omega arith)
    choose false e = e

-- what is left of the machine, whose word stands on the stack
record Pushed (z : Setting) (rom : List ℕ) (region : Region) (ranges : List Range) (s : AbsState) (core : Core) (i : Halves) (entry : Activation) (base : ℕ) (x : MState) (e : Effect) : Type 0 where
  pub means : MeansParts (pushed i (with_core s core)) entry base (record { processor = e.processor; storage = (stored (view rom x false) e.write).storage })
  pub faults : store_faults region (view rom x false) e.write ≡ no_faults
  pub starting : (stored (view rom x false) e.write).starting ≡ false
  pub kept : (b : ℕ) → IsKept z region ranges base b → peek (stored (view rom x false) e.write).storage b ≡ peek x.storage b

pub same_but_sp : (core : Core) (entry : Activation) (x y : MState) (sp : ℕ) → MeansCore core entry x → y ≡ record { processor = with_sp x.processor sp; storage = x.storage } → MeansCore core entry y
same_but_sp core entry x y sp m e = subst (λ z. MeansCore core entry z) (sym e) (record {
  registers = m.registers;
  flags = m.flags;
  ie = m.ie;
  ime = m.ime;
  controller = m.controller;
  count = m.count;
  locked = m.locked;
  stopped = m.stopped;
})

pushes : (z : Setting) (rom : List ℕ) (region : Region) (ranges : List Range) (row : Row) (a : ℕ) (s : AbsState) (entry : Activation) (base : ℕ) (x : MState) (reads : List ℕ) (c : Core)
    → IsTaken z rom region ranges row a s entry base x reads c → (high low : Val) → (abs_effect z rom row a s c).write ≡ write.Push high low
    → is_located s ≡ true → AreInRegion region base (length s.items + 2) → is_stack_limited region s.core ≡ false
    → Follows (abs_effect z rom row a s c) entry (begun row x) (effect rom row x reads)
    → Pushed z rom region ranges s (abs_effect z rom row a s c).core (record { high = high; low = low }) entry base x (effect rom row x reads)
pushes z rom region ranges row a s entry base x reads c k high low is set room limited f =
    let e = effect rom row x reads in
    let core = (abs_effect z rom row a s c).core in
    let keeps = keeps_effect z rom region ranges row a s entry base x reads c k in
    let held = push_of high low entry (begun row x).processor.sp e.write (subst (λ v. HoldsWrite v entry (begun row x).processor.sp e.write) is f.write) in
    let vals : IsWrite (write.Push high low) = subst IsWrite is (is_write z rom region ranges row a s entry base x reads c k) in
    let small = small_word high entry held.value vals.0 held.high_held in
    let writes : e.write ≡ machine_write.Push x.processor.sp held.value = held.is ∙ ap (λ n. machine_write.Push n held.value) (begun_sp row x) in
    let moved : e.processor.sp ≡ (x.processor.sp + 65534) % 65536 =
    sp-pushed row.op (advanced x.processor row) (given rom row x reads).low (given rom row x reads).high (begun row x).processor.sp held.value held.is ∙ ap (λ n. (n + 65534) % 65536) (begun_sp row x) in
    let before : MState = record { processor = with_sp e.processor x.processor.sp; storage = x.storage } in
    let means : MeansParts (with_core s core) entry base before =
    MeansParts-with_core s core entry base x before k.stands.means.parts (same_but_sp core entry (acted rom row x reads) before x.processor.sp f.core refl) refl refl refl (λ on. sym keeps.stack ∙ on) in
    let done =
    MeansParts-pushed region (with_core s core) entry base before (view rom x false) (record { high = high; low = low }) held.value means refl (located-same s.summary.aside core.stack_set s.core.stack_set keeps.stack set) room k.stands.is_region k.stands.placed
    (IsRegionOpen-bound s.core entry x region k.stands.means.parts.core (clear_stack region s.core limited)) held.high_held held.low_held small in
    let top = k.stands.means.parts.stack set in
    record {
      means = subst (λ w. MeansParts (pushed (record { high = high; low = low }) (with_core s core)) entry base (record { processor = e.processor; storage = (stored (view rom x false) w).storage })) (sym writes)
          (subst (λ n. MeansParts (pushed (record { high = high; low = low }) (with_core s core)) entry base (record { processor = with_sp e.processor n; storage = (stored (view rom x false) (machine_write.Push x.processor.sp held.value)).storage })) (sym moved) done.means);
      faults = ap (store_faults region (view rom x false)) writes ∙ done.faults;
      starting = ap (λ w. (stored (view rom x false) w).starting) writes ∙ done.starting;
      kept = λ b kept.
          ap (λ w. peek (stored (view rom x false) w).storage b) writes
          ∙ done.others b kept.ram (not_pushed region base x.processor.sp (length s.items) (x.processor.sp - 1) b room top (inl refl) kept.above)
          (not_pushed region base x.processor.sp (length s.items) (x.processor.sp - 2) b room top (inr refl) kept.above);
    }

more_room : (region : Region) (base : ℕ) (items : List Val) (i : Halves) → AreInRegion region base (length items + 2) → AreInRegion region base (length (items ++ i.high ∷ i.low ∷ []))
more_room region base items i room = subst (AreInRegion region base) (sym (length-append items (i.high ∷ i.low ∷ []))) room

pushed_room : (region : Region) (base n : ℕ) (i : Halves) (s : AbsState) → AreInRegion region base (length s.items + 2) → AreInRegion region base (length (ended false n (pushed i s)).items)
unfolding ended pushed
pushed_room region base n i s room = more_room region base s.items i room

bytes_pushed : (o : Op) (n : ℕ) (i : Halves) (s : AbsState) → is_push o ≡ true → length (ended false n (pushed i s)).items ≤ bytes_behind o (length s.items)
unfolding ended pushed bytes_behind
bytes_pushed o n i s is =
    let more : length (s.items ++ i.high ∷ i.low ∷ []) ≡ length s.items + 2 = length-append s.items (i.high ∷ i.low ∷ []) in
    rw is (subst (λ m. m ≤ length s.items + 2) (sym more) (omega arith))

bytes_same : (o : Op) (n : ℕ) (s : AbsState) → length (ended false n s).items ≤ bytes_behind o (length s.items)
unfolding ended
bytes_same o n s = bytes-least o (length s.items)

bytes_popped : (o : Op) (n : ℕ) (s : AbsState) → length (ended false n (popped s)).items ≤ bytes_behind o (length s.items)
unfolding ended popped
bytes_popped o n s =
    let fewer : length (take (length s.items - 2) s.items) ≡ length s.items - 2 = length-take-le (length s.items - 2) s.items (omega arith) in
    let most = bytes-least o (length s.items) in
    omega arith

-- PUSH
pub Done-push :
    (z : Setting) (rom : List ℕ) (region : Region) (ranges : List Range) (row : Row) (a : ℕ) (s : AbsState) (entry : Activation) (base : ℕ) (x : MState) (reads : List ℕ) (c : Core)
    → IsTaken z rom region ranges row a s entry base x reads c → is_push row.op ≡ true → IsPushable z region s base → IsAllowed z rom region ranges s base (simple_parts z rom region row (behind_row a row) s c)
    → Done z rom region ranges row s (simple_parts z rom region row (behind_row a row) s c) entry base x reads
unfolding is_write_limited
Done-push z rom region ranges row a s entry base x reads c k is able allowed =
    let p = IsPush-is_push z row.op (behind_row a row) (sp_halves z s) c (low_of z rom row s c) (high_of z rom row s c) is in
    let t = simple_parts z rom region row (behind_row a row) s c in
    let e = effect rom row x reads in
    let core = (abs_effect z rom row a s c).core in
    let i : Halves = record { high = p.first; low = p.second } in
    let may = allowed_read z rom region ranges s base _ allowed in
    let l = loads z rom region ranges row a s entry base x reads c k (subst IsPlainRead (sym p.read_is) tt)
    (subst (λ v. reads_closed_ram rom s.core v ≡ false) (read_is z rom region row a s c) may.0) (subst (λ v. is_read_limited region s.core v ≡ false) (read_is z rom region row a s c) may.1) in
    let f = follows z rom region ranges row a s entry base x reads c k l in
    let limited : is_stack_limited region s.core ≡ false =
    subst (λ v. is_write_limited region s.core v ≡ false) (write_is z rom region row a s c ∙ p.write_is) (allowed_write z rom region ranges s base _ allowed).1 in
    let w = pushes z rom region ranges row a s entry base x reads c k p.first p.second p.write_is able.located able.room limited f.0 in
    let state : t.state ≡ ended false row.cycles (pushed i (with_core s core)) =
    state_by z rom region row a s c _ p.write_is ∙ (ended_push z region (kind_of rom) p.first p.second row.cycles _ ∙ ap (ended false row.cycles) (p.leaves (with_core s core) ∙ pushed-if_room z i (with_core s core) able.held)) in
    record {
      held = subst (λ (z : AbsState). length z.items ≤ bytes_behind row.op (length s.items)) (sym state) (bytes_pushed row.op row.cycles i (with_core s core) is);
      leads = subst (λ y. LeadsParts z region ranges t entry base x y) (sym (executed_taken z rom region ranges row a s entry base x reads c k))
          (record {
            to = leads_simply z region _ t entry base x (left_by rom x e row.cycles) k.rules
                (subst (λ v. LeadsSimply region v t entry base x (left_by rom x e row.cycles)) (sym (target_is z rom region row a s c ∙ p.target_is))
                (record {
                  means = subst (λ z. MeansParts z entry base (left_by rom x e row.cycles)) (sym state)
                      (MeansParts-ended rom (pushed i (with_core s core)) entry base e.processor (stored (view rom x false) e.write) false row.cycles w.starting w.means);
                  goes = subst (λ v. HoldsTarget v e.processor.pc) p.target_is (goes_to z rom region ranges row a s entry base x reads c k);
                  room = subst (λ (z : AbsState). AreInRegion region base (length z.items)) (sym state) (pushed_room region base row.cycles i (with_core s core) able.room);
                }));
            kept = λ b kept. passed_peek (stored (view rom x false) e.write) row.cycles b ∙ w.kept b kept;
          });
      faults = faults_are rom region x row reads l.faults w.faults;
    }

-- ---- a call

fit_simply : (z : Setting) (region : Region) (w : Target) (s : AbsState) (t : Successor) (base : ℕ) → z.rules ≡ Simple → IsStackFit z.rules region w s t base → IsStackFree region w s t base
fit_simply z region w s t base e h = subst (λ r. IsStackFit r region w s t base) e h

ended_pushed : (n : ℕ) (i : Halves) (s : AbsState) → ended false n (pushed i s) ≡ pushed i (ended false n s)
unfolding ended pushed
ended_pushed n i s = refl

ended_set : (n : ℕ) (s : AbsState) → is_located (ended false n s) ≡ is_located s
unfolding ended core_end
ended_set n s = refl

ended_items : (n : ℕ) (s : AbsState) → (ended false n s).items ≡ s.items
unfolding ended
ended_items n s = refl

ended_cells : (n : ℕ) (s : AbsState) → (ended false n s).cells ≡ s.cells
unfolding ended
ended_cells n s = refl

pub Done-call :
    (z : Setting) (rom : List ℕ) (region : Region) (ranges : List Range) (row : Row) (a : ℕ) (s : AbsState) (entry : Activation) (base : ℕ) (x : MState) (reads : List ℕ) (c : Core)
    → IsTaken z rom region ranges row a s entry base x reads c → is_call row.op ≡ true → is_located s ≡ true → IsAllowed z rom region ranges s base (simple_parts z rom region row (behind_row a row) s c)
    → Done z rom region ranges row s (simple_parts z rom region row (behind_row a row) s c) entry base x reads
unfolding is_write_limited
Done-call z rom region ranges row a s entry base x reads c k is set allowed =
    let next = behind_row a row in
    let p = IsCall-is_call z row.op next (sp_halves z s) c (low_of z rom row s c) (high_of z rom row s c) is in
    let t = simple_parts z rom region row next s c in
    let e = effect rom row x reads in
    let core = (abs_effect z rom row a s c).core in
    let may = allowed_read z rom region ranges s base _ allowed in
    let l = loads z rom region ranges row a s entry base x reads c k (subst IsPlainRead (sym p.read_is) tt)
    (subst (λ v. reads_closed_ram rom s.core v ≡ false) (read_is z rom region row a s c) may.0) (subst (λ v. is_read_limited region s.core v ≡ false) (read_is z rom region row a s c) may.1) in
    let f = follows z rom region ranges row a s entry base x reads c k l in
    let limited : is_stack_limited region s.core ≡ false =
    subst (λ v. is_write_limited region s.core v ≡ false) (write_is z rom region row a s c ∙ p.write_is) (allowed_write z rom region ranges s base _ allowed).1 in
    let target : t.target ≡ target.Call p.address = target_is z rom region row a s c ∙ p.target_is in
    let keeps = keeps_effect z rom region ranges row a s entry base x reads c k in
    let state : t.state ≡ ended false row.cycles (with_core s core) =
    state_by z rom region row a s c _ p.write_is ∙ (ended_push z region (kind_of rom) (single (next / 256)) (single (next % 256)) row.cycles _ ∙ ap (ended false row.cycles) (p.leaves _ (with_core s core))) in
    let fits : AreInRegion region base (length t.state.items + 2) = subst (λ v. IsStackFree region v s t base) target (fit_simply z region t.target s t base k.rules allowed.stack) in
    let room : AreInRegion region base (length s.items + 2) = subst (λ items. AreInRegion region base (length items + 2)) (ap (λ (z : AbsState). z.items) state ∙ ended_items row.cycles (with_core s core)) fits in
    let w = pushes z rom region ranges row a s entry base x reads c k (single (next / 256)) (single (next % 256)) p.write_is set room limited f.0 in
    record {
      held = subst (λ (z : AbsState). length z.items ≤ bytes_behind row.op (length s.items)) (sym state) (bytes_same row.op row.cycles (with_core s core));
      leads = subst (λ y. LeadsParts z region ranges t entry base x y) (sym (executed_taken z rom region ranges row a s entry base x reads c k))
          (record {
            to = leads_simply z region _ t entry base x (left_by rom x e row.cycles) k.rules
                (subst (λ v. LeadsSimply region v t entry base x (left_by rom x e row.cycles)) (sym target)
                (record {
                  means = subst (λ n. MeansParts (pushed (known_word n) t.state) entry base (left_by rom x e row.cycles)) (sym (next_is z rom region row a s c))
                      (subst (λ z. MeansParts (pushed (known_word next) z) entry base (left_by rom x e row.cycles)) (sym state)
                      (subst (λ z. MeansParts z entry base (left_by rom x e row.cycles)) (ended_pushed row.cycles (known_word next) (with_core s core))
                      (MeansParts-ended rom (pushed (known_word next) (with_core s core)) entry base e.processor (stored (view rom x false) e.write) false row.cycles w.starting w.means)));
                  next = subst (λ n. n < 65536) (sym (next_is z rom region row a s c)) (wrapped (a + row.length));
                  goes = subst (λ v. HoldsTarget v e.processor.pc) p.target_is (goes_to z rom region ranges row a s entry base x reads c k);
                  located = ap is_located state ∙ (ended_set row.cycles (with_core s core) ∙ located-same s.summary.aside core.stack_set s.core.stack_set keeps.stack set);
                  placed = subst (λ cells. ArePlaced region cells) (sym (ap (λ (z : AbsState). z.cells) state ∙ ended_cells row.cycles (with_core s core))) k.stands.placed;
                }));
            kept = λ b kept. passed_peek (stored (view rom x false) e.write) row.cycles b ∙ w.kept b kept;
          });
      faults = faults_are rom region x row reads l.faults w.faults;
    }
  where
    wrapped : (n : ℕ) → n % 65536 < 65536
    wrapped n = omega arith

-- ---- a word is popped

popped_set : (s : AbsState) → is_located s ≡ true → is_located (popped s) ≡ true
unfolding popped
popped_set s h = h

-- SP stands where the items end on the side too
set_of : (z : Setting) (rom : List ℕ) (region : Region) (ranges : List Range) (row : Row) (a : ℕ) (s : AbsState) (entry : Activation) (base : ℕ) (x : MState) (reads : List ℕ) (c : Core)
    → IsTaken z rom region ranges row a s entry base x reads c → is_located s ≡ true → is_located (with_core s c) ≡ true
set_of z rom region ranges row a s entry base x reads c k set = located-same s.summary.aside c.stack_set s.core.stack_set k.keeps.stack set

-- the state before its reads is meant
means_begun_taken : (z : Setting) (rom : List ℕ) (region : Region) (ranges : List Range) (row : Row) (a : ℕ) (s : AbsState) (entry : Activation) (base : ℕ) (x : MState) (reads : List ℕ) (c : Core)
    → IsTaken z rom region ranges row a s entry base x reads c → MeansParts (with_core s c) entry base (begun row x)
means_begun_taken z rom region ranges row a s entry base x reads c k = means_begun rom row s entry base x c k.keeps k.stands.means.parts k.means

pub is_word_read : (sp : ℕ) (r : Read) → HoldsRead read.Top sp r → r ≡ machine_read.Word sp
is_word_read sp machine_read.Nothing h = absurd h
is_word_read sp (machine_read.Byte a) h = absurd h
is_word_read sp (machine_read.Word a) h = ap machine_read.Word h

-- what the machine reads is the word on top of the stack
reads_top : (z : Setting) (rom : List ℕ) (region : Region) (ranges : List Range) (row : Row) (a : ℕ) (s : AbsState) (entry : Activation) (base : ℕ) (x : MState) (reads : List ℕ) (c : Core)
    → IsTaken z rom region ranges row a s entry base x reads c → read_of row.op c ≡ read.Top → Effects.read_of row.op (advanced x.processor row) ≡ machine_read.Word (begun row x).processor.sp
reads_top z rom region ranges row a s entry base x reads c k is =
    is_word_read (begun row x).processor.sp (Effects.read_of row.op (advanced x.processor row))
    (subst (λ v. HoldsRead v (begun row x).processor.sp (Effects.read_of row.op (advanced x.processor row))) is
    ((read_of_sound row.op c (read_of row.op c) refl).gives entry (begun row x) (given rom row x reads).low (given rom row x reads).high k.means k.taken))

-- the word of a state that holds it on top
pops : (z : Setting) (rom : List ℕ) (region : Region) (ranges : List Range) (row : Row) (a : ℕ) (s : AbsState) (entry : Activation) (base : ℕ) (x : MState) (reads : List ℕ) (c : Core)
    → IsTaken z rom region ranges row a s entry base x reads c → (held : AbsState) (i : Halves) (top : ℕ) → MeansParts held entry top (begun row x) → youngest held ≡ Some i → is_located held ≡ true
    → AreInRegion region top (length held.items) → is_stack_limited region s.core ≡ false → Pops (popped held) i entry top (begun row x) (view rom x false) reads
pops z rom region ranges row a s entry base x reads c k held i top means is set room limited =
    Pops-popped region held entry top (begun row x) (view rom x false) i reads means refl set is room k.stands.is_region
    (IsRegionOpen-bound s.core entry x region k.stands.means.parts.core (clear_stack region s.core limited))

pub no_write : (entry : Activation) (sp : ℕ) (w : Write) → HoldsWrite write.Nothing entry sp w → w ≡ machine_write.Nothing
no_write entry sp machine_write.Nothing h = refl
no_write entry sp (machine_write.Byte a n) h = absurd h
no_write entry sp (machine_write.Word a n) h = absurd h
no_write entry sp (machine_write.Push a n) h = absurd h

pub nothing_stored : (m : View) (w : Write) → w ≡ machine_write.Nothing → stored m w ≡ m
unfolding stored
nothing_stored m w e = ap (stored m) e

pub no_store_faults : (region : Region) (m : View) (w : Write) → w ≡ machine_write.Nothing → store_faults region m w ≡ no_faults
unfolding store_faults
no_store_faults region m w e = ap (store_faults region m) e

-- what is left of the machine, whose word is off the stack
record Popped (rom : List ℕ) (region : Region) (core : Core) (held : AbsState) (n : ℕ) (entry : Activation) (top : ℕ) (x : MState) (e : Effect) : Type 0 where
  pub means : MeansParts (ended false n (with_core held core)) entry top (left_by rom x e n)
  pub faults : store_faults region (view rom x false) e.write ≡ no_faults
  pub same : (b : ℕ) → peek (left_by rom x e n).storage b ≡ peek x.storage b

leaves_word : (z : Setting) (rom : List ℕ) (region : Region) (ranges : List Range) (row : Row) (a : ℕ) (s : AbsState) (entry : Activation) (base : ℕ) (x : MState) (reads : List ℕ) (c : Core)
    → IsTaken z rom region ranges row a s entry base x reads c → (after : AbsState) (i : Halves) (top : ℕ) → Pops after i entry top (begun row x) (view rom x false) reads → is_located after ≡ true
    → read_of row.op c ≡ read.Top → (abs_effect z rom row a s c).write ≡ write.Nothing → Follows (abs_effect z rom row a s c) entry (begun row x) (effect rom row x reads)
    → Popped rom region (abs_effect z rom row a s c).core after row.cycles entry top x (effect rom row x reads)
leaves_word z rom region ranges row a s entry base x reads c k after i top p set is nothing f =
    let e = effect rom row x reads in
    let core = (abs_effect z rom row a s c).core in
    let quiet : e.write ≡ machine_write.Nothing = no_write entry (begun row x).processor.sp e.write (subst (λ v. HoldsWrite v entry (begun row x).processor.sp e.write) nothing f.write) in
    let same : stored (view rom x false) e.write ≡ view rom x false = nothing_stored (view rom x false) e.write quiet in
    let moved : e.processor.sp ≡ ((begun row x).processor.sp + 2) % 65536 =
    sp-popped row.op (advanced x.processor row) (given rom row x reads).low (given rom row x reads).high (begun row x).processor.sp k.taken (reads_top z rom region ranges row a s entry base x reads c k is) in
    let means : MeansParts (with_core after core) entry top (acted rom row x reads) =
    MeansParts-with_core after core entry top (record (begun row x) { processor = with_sp (begun row x).processor (((begun row x).processor.sp + 2) % 65536) }) (acted rom row x reads) p.means f.core refl refl moved (λ on. located-set after.summary.aside after.core.stack_set set) in
    record {
      means = subst (λ (m : View). MeansParts (ended false row.cycles (with_core after core)) entry top (record { processor = e.processor; storage = (passed m row.cycles).storage })) (sym same)
          (MeansParts-ended rom (with_core after core) entry top e.processor (view rom x false) false row.cycles refl means);
      faults = no_store_faults region (view rom x false) e.write quiet;
      same = λ b. ap (λ (m : View). peek (passed m row.cycles).storage b) same ∙ passed_peek (view rom x false) row.cycles b;
    }

-- a word is held
pub top_held : (s : AbsState) (c : Core) → 2 ≤ length s.items → (i : Halves) × (youngest (with_core s c) ≡ Some i)
top_held s c h = (_, youngest_is (with_core s c) s.items any_val refl h)

pub read_top : (z : Setting) (rom : List ℕ) (s : AbsState) (what : AbsRead) (o : Option Halves) → what ≡ read.Top → youngest s ≡ o → read_word z rom s what ≡ word_or_any o
unfolding read_word
read_top z rom s what o e is = ap (read_word z rom s) e ∙ ap word_or_any is

-- whatever facts and fills say
pub word_top :
    (r : Rules) (z : Setting) (region : Region) (program : Program) (rom : List ℕ) (v : Values) (low : LowBits) (s : AbsState) (what : AbsRead) (o : Option Halves)
    → what ≡ read.Top → youngest s ≡ o → word_by r z region program rom v low s what ≡ word_or_any o
word_top Simple z region program rom v low s what o e is = read_top z rom s what o e is
word_top Extended z region program rom v low s what o e is = ap (word_by Extended z region program rom v low s) e ∙ read_top z rom s read.Top o refl is

loads_word : (z : Setting) (rom : List ℕ) (row : Row) (s : AbsState) (c : Core) (entry : Activation) (x : MState) (reads : List ℕ) (i : Halves) (sp : ℕ)
    → known_read z rom row s c ≡ i → Effects.read_of row.op (advanced x.processor row) ≡ machine_read.Word sp
    → Holds i.low entry (loaded (view rom x false) (machine_read.Word sp) reads).low → Holds i.high entry (loaded (view rom x false) (machine_read.Word sp) reads).high
    → load_faults (view rom x false) (machine_read.Word sp) ≡ no_faults
    → Loads (known_read z rom row s c) entry (view rom x false) (Effects.read_of row.op (advanced x.processor row)) reads
loads_word z rom row s c entry x reads i sp item word low high faults = record {
  low = subst (λ (j : Halves). Holds j.low entry (loaded (view rom x false) (Effects.read_of row.op (advanced x.processor row)) reads).low) (sym item)
      (subst (λ r. Holds i.low entry (loaded (view rom x false) r reads).low) (sym word) low);
  high = subst (λ (j : Halves). Holds j.high entry (loaded (view rom x false) (Effects.read_of row.op (advanced x.processor row)) reads).high) (sym item)
      (subst (λ r. Holds i.high entry (loaded (view rom x false) r reads).high) (sym word) high);
  faults = ap (load_faults (view rom x false)) word ∙ faults;
}

popped_ended : (n : ℕ) (s : AbsState) (c core : Core) → ended false n (popped (with_core s core)) ≡ ended false n (with_core (popped (with_core s c)) core)
unfolding popped
popped_ended n s c core = refl

popped_room : (region : Region) (base n : ℕ) (s : AbsState) → AreInRegion region base (length s.items) → AreInRegion region base (length (ended false n (popped s)).items)
unfolding ended popped
popped_room region base n s room =
    let fewer : length (take (length s.items - 2) s.items) ≡ length s.items - 2 = length-take-le (length s.items - 2) s.items (omega arith) in
    let first = room.first in
    record { first = omega arith; last = room.last }

-- POP
pub Done-pop :
    (z : Setting) (rom : List ℕ) (region : Region) (ranges : List Range) (row : Row) (a : ℕ) (s : AbsState) (entry : Activation) (base : ℕ) (x : MState) (reads : List ℕ) (c : Core)
    → IsTaken z rom region ranges row a s entry base x reads c → is_pop row.op ≡ true → IsPoppable s → IsAllowed z rom region ranges s base (simple_parts z rom region row (behind_row a row) s c)
    → Done z rom region ranges row s (simple_parts z rom region row (behind_row a row) s c) entry base x reads
unfolding is_read_limited
Done-pop z rom region ranges row a s entry base x reads c k is able allowed =
    let next = behind_row a row in
    let p = IsPop-is_pop z row.op next (sp_halves z s) c (low_of z rom row s c) (high_of z rom row s c) is in
    let t = simple_parts z rom region row next s c in
    let e = effect rom row x reads in
    let core = (abs_effect z rom row a s c).core in
    let limited : is_stack_limited region s.core ≡ false =
    subst (λ v. is_read_limited region s.core v ≡ false) (read_is z rom region row a s c ∙ p.read_is) (allowed_read z rom region ranges s base _ allowed).1 in
    let set : is_located (with_core s c) ≡ true = set_of z rom region ranges row a s entry base x reads c k able.located in
    let top = top_held s c able.held in
    let word = pops z rom region ranges row a s entry base x reads c k (with_core s c) top.0 base (means_begun_taken z rom region ranges row a s entry base x reads c k) top.1 set k.stands.room limited in
    let l = loads_word z rom row s c entry x reads top.0 (begun row x).processor.sp (read_top z rom (with_core s c) (read_of row.op c) (Some top.0) p.read_is top.1)
    (reads_top z rom region ranges row a s entry base x reads c k p.read_is) word.low word.high word.faults in
    let f = follows z rom region ranges row a s entry base x reads c k l in
    let left = leaves_word z rom region ranges row a s entry base x reads c k (popped (with_core s c)) top.0 base word (popped_set (with_core s c) set) p.read_is p.write_is f.0 in
    let state : t.state ≡ ended false row.cycles (popped (with_core s core)) =
    state_by z rom region row a s c _ p.write_is ∙ (ended_nothing z region (kind_of rom) row.cycles _ ∙ ap (ended false row.cycles) (p.leaves _ (with_core s core))) in
    record {
      held = subst (λ (z : AbsState). length z.items ≤ bytes_behind row.op (length s.items)) (sym state) (bytes_popped row.op row.cycles (with_core s core));
      leads = subst (λ y. LeadsParts z region ranges t entry base x y) (sym (executed_taken z rom region ranges row a s entry base x reads c k))
          (record {
            to = leads_simply z region _ t entry base x (left_by rom x e row.cycles) k.rules
                (subst (λ v. LeadsSimply region v t entry base x (left_by rom x e row.cycles)) (sym (target_is z rom region row a s c ∙ p.target_is))
                (record {
                  means = subst (λ z. MeansParts z entry base (left_by rom x e row.cycles)) (sym (state ∙ popped_ended row.cycles s c core)) left.means;
                  goes = subst (λ v. HoldsTarget v e.processor.pc) p.target_is (goes_to z rom region ranges row a s entry base x reads c k);
                  room = subst (λ (z : AbsState). AreInRegion region base (length z.items)) (sym state) (popped_room region base row.cycles (with_core s core) k.stands.room);
                }));
            kept = λ b kept. left.same b;
          });
      faults = faults_are rom region x row reads l.faults left.faults;
    }

-- ---- a return

-- the bytes of the return word as items, where nothing is held
abbrev with_return_word : AbsState → Core → ℕ → ℕ → AbsState
with_return_word s c low high = record s { core = c; items = single high ∷ single low ∷ [] }

Holds-single : (entry : Activation) (n : ℕ) → Holds (single n) entry n
Holds-single entry n = record { least = omega arith; most = omega arith; low = refl; origin = λ o h. cc }

single-held : (entry : Activation) (n v : ℕ) → Holds (single n) entry v → v ≡ n
single-held entry n v h =
    let least = h.least in
    let most = h.most in
    omega arith

Holds-any : (entry : Activation) (n : ℕ) → n ≤ 255 → Holds any_val entry n
Holds-any entry n h = record { least = omega arith; most = h; low = refl; origin = λ o e. cc }

return_word_means : (s : AbsState) (c : Core) (entry : Activation) (base : ℕ) (x : MState) → MeansParts s entry base x → is_located s ≡ true → s.items ≡ [] → (y : MState) → y.storage ≡ x.storage → y.processor.sp ≡ x.processor.sp → MeansCore c entry y
    → MeansParts (with_return_word s c (peek x.storage base) (peek x.storage (base + 1))) entry (base + 2) y
return_word_means s c entry base x m set none y storage sp core =
    let stack = m.stack set in
    let empty : length s.items ≡ 0 = ap length none in
    let one : base + 2 - 1 ≡ base + 1 = omega arith in
    let two : base + 2 - 1 - 1 ≡ base = omega arith in
    record {
      core = core;
      memory = subst IsMemory (sym storage) m.memory;
      sp = subst (λ n. n < 65536) (sym sp) m.sp;
      stack = λ on. omega arith;
      items = (
        subst (λ n. Holds (single (peek x.storage (base + 1))) entry n) (sym (ap (λ t. peek t (base + 2 - 1)) storage ∙ ap (peek x.storage) one)) (Holds-single entry (peek x.storage (base + 1))),
        (subst (λ n. Holds (single (peek x.storage base)) entry n) (sym (ap (λ t. peek t (base + 2 - 1 - 1)) storage ∙ ap (peek x.storage) two)) (Holds-single entry (peek x.storage base)), tt),
      );
      cells = subst (λ t. AllByRecursion (λ c. Holds c.val entry (peek t c.address)) s.cells) (sym storage) m.cells;
    }

returned_state : (n : ℕ) (s : AbsState) (c core : Core) (low high : ℕ) → s.items ≡ [] → ended false n (with_core s core) ≡ ended false n (with_core (popped (with_return_word s c low high)) core)
unfolding popped
returned_state n s c core low high none = ap (λ items. ended false n (record s { core = core; items = items })) none

no_youngest : (s : AbsState) (c : Core) → s.items ≡ [] → youngest (with_core s c) ≡ None
unfolding youngest
no_youngest s c none = ap (λ items. last_word items) none

return_youngest : (s : AbsState) (c : Core) (low high : ℕ) → youngest (with_return_word s c low high) ≡ Some (record { high = single high; low = single low })
unfolding youngest
return_youngest s c low high = refl

pub Done-return :
    (z : Setting) (rom : List ℕ) (region : Region) (ranges : List Range) (row : Row) (a : ℕ) (s : AbsState) (entry : Activation) (base : ℕ) (x : MState) (reads : List ℕ) (c : Core)
    → IsTaken z rom region ranges row a s entry base x reads c → is_return row.op ≡ true → IsAllowed z rom region ranges s base (simple_parts z rom region row (behind_row a row) s c)
    → Done z rom region ranges row s (simple_parts z rom region row (behind_row a row) s c) entry base x reads
unfolding is_read_limited
Done-return z rom region ranges row a s entry base x reads c k is allowed =
    let next = behind_row a row in
    let p = IsReturn-is_return z row.op next (sp_halves z s) c (low_of z rom row s c) (high_of z rom row s c) is in
    let t = simple_parts z rom region row next s c in
    let e = effect rom row x reads in
    let core = (abs_effect z rom row a s c).core in
    let low = peek x.storage base in
    let high = peek x.storage (base + 1) in
    let limited : is_stack_limited region s.core ≡ false =
    subst (λ v. is_read_limited region s.core v ≡ false) (read_is z rom region row a s c ∙ p.read_is) (allowed_read z rom region ranges s base _ allowed).1 in
    let target : t.target ≡ target.Return = target_is z rom region row a s c ∙ p.target_is in
    let able : IsReturnable region s t base = subst (λ v. IsStackFree region v s t base) target (fit_simply z region t.target s t base k.rules allowed.stack) in
    let state : t.state ≡ ended false row.cycles (with_core s core) =
    state_by z rom region row a s c _ p.write_is ∙ (ended_nothing z region (kind_of rom) row.cycles _ ∙ ap (ended false row.cycles) (p.leaves _ (with_core s core))) in
    let none : s.items ≡ [] = sym (ap (λ (z : AbsState). z.items) state ∙ ended_items row.cycles (with_core s core)) ∙ able.held in
    let set : is_located (with_core s c) ≡ true = set_of z rom region ranges row a s entry base x reads c k able.located in
    let means = return_word_means s c entry base x k.stands.means.parts able.located none (begun row x) refl (begun_sp row x) k.means in
    let word = pops z rom region ranges row a s entry base x reads c k (with_return_word s c low high) (record { high = single high; low = single low }) (base + 2) means (return_youngest s c low high) set able.return_word limited in
    let top : Loaded = loaded (view rom x false) (machine_read.Word (begun row x).processor.sp) reads in
    let at_low : top.low ≡ low = single-held entry low top.low word.low in
    let at_high : top.high ≡ high = single-held entry high top.high word.high in
    let reads_word = reads_top z rom region ranges row a s entry base x reads c k p.read_is in
    let l = loads_word z rom row s c entry x reads any_word (begun row x).processor.sp (read_top z rom (with_core s c) (read_of row.op c) None p.read_is (no_youngest s c none))
    reads_word (subst (λ n. Holds any_val entry n) (sym at_low) (Holds-any entry low (k.stands.means.parts.memory.bytes base))) (subst (λ n. Holds any_val entry n) (sym at_high) (Holds-any entry high (k.stands.means.parts.memory.bytes (base + 1)))) word.faults in
    let f = follows z rom region ranges row a s entry base x reads c k l in
    let left = leaves_word z rom region ranges row a s entry base x reads c k (popped (with_return_word s c low high)) (record { high = single high; low = single low }) (base + 2) word (popped_set (with_return_word s c low high) set) p.read_is p.write_is f.0 in
    let pc : e.processor.pc ≡ machine_word (given rom row x reads).high (given rom row x reads).low =
    pc-returned row.op next c (advanced x.processor row) (given rom row x reads).low (given rom row x reads).high p.target_is k.taken in
    record {
      held = subst (λ (z : AbsState). length z.items ≤ bytes_behind row.op (length s.items)) (sym state) (bytes_same row.op row.cycles (with_core s core));
      leads = subst (λ y. LeadsParts z region ranges t entry base x y) (sym (executed_taken z rom region ranges row a s entry base x reads c k))
          (record {
            to = leads_simply z region _ t entry base x (left_by rom x e row.cycles) k.rules
                (subst (λ v. LeadsSimply region v t entry base x (left_by rom x e row.cycles)) (sym target)
                (record {
                  means = subst (λ z. MeansParts z entry (base + 2) (left_by rom x e row.cycles)) (sym (state ∙ returned_state row.cycles s c core low high none)) left.means;
                  goes = pc ∙ (ap (λ r. machine_word (loaded (view rom x false) r reads).high (loaded (view rom x false) r reads).low) reads_word ∙ (ap (λ h. machine_word h top.low) at_high ∙ ap (machine_word high) at_low));
                }));
            kept = λ b kept. left.same b;
          });
      faults = faults_are rom region x row reads l.faults left.faults;
    }

-- ---- any instruction that is taken

pub taken_executes :
    (z : Setting) (rom : List ℕ) (region : Region) (ranges : List Range) (row : Row) (a : ℕ) (s : AbsState) (entry : Activation) (base : ℕ) (x : MState) (reads : List ℕ) (c : Core)
    → IsTaken z rom region ranges row a s entry base x reads c → IsAllowed z rom region ranges s base (simple_parts z rom region row (behind_row a row) s c)
    → Done z rom region ranges row s (simple_parts z rom region row (behind_row a row) s c) entry base x reads
taken_executes z rom region ranges row a s entry base x reads c k allowed = by k.stack
  where
    by : IsStackKnown z region row.op s base → Done z rom region ranges row s (simple_parts z rom region row (behind_row a row) s c) entry base x reads
    by (inl still) = Done-plain z rom region ranges row a s entry base x reads c k (inl still) allowed
    by (inr (inl loaded)) = Done-plain z rom region ranges row a s entry base x reads c k (inr loaded) allowed
    by (inr (inr (inl push))) = Done-push z rom region ranges row a s entry base x reads c k push.0 push.1 allowed
    by (inr (inr (inr (inl pop)))) = Done-pop z rom region ranges row a s entry base x reads c k pop.0 pop.1 allowed
    by (inr (inr (inr (inr (inl call))))) = Done-call z rom region ranges row a s entry base x reads c k call.0 call.1 allowed
    by (inr (inr (inr (inr (inr returns))))) = Done-return z rom region ranges row a s entry base x reads c k returns allowed
