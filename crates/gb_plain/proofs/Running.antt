-- An event that took what was handed in for another one leads where that one leads.
use Rattle.std.proofs.Common.{◌≡◌, ◌≢◌, ℕ, ◌%◌, Bool, true, false, not, List, ◌∷◌, ◌&&◌, ◌||◌, ◌==◌, refl, sym, ap, ◌∙◌, slice_index, Option, Some, None, inl, inr, bit_and, arith}
use Rattle.std.proofs.lemmas.Bool.{eqb-true}
use Rattle.std.specs.Int.Bits.{and_zero_l}
use Rattle.gb_ops.specs.declared.machine.Event.{Event}
use Rattle.gb_ops.specs.declared.machine.Event.TheVariants as event
use Rattle.gb_ops.specs.declared.op.Row.{Row}
use Rattle.gb_ops.specs.declared.registers.Ime.{Ime}
use Rattle.gb_ops.specs.declared.registers.Ime.TheVariants as ime
use Rattle.gb_ops.specs.Accesses.{row_cycles, executed_cycles, event_cycles}
use Rattle.gb_ops.specs.Effects.{read_of}
use Rattle.gb_ops.specs.Machine.{BusState, read_by, read_at, fetched, loaded, advanced, executed, run, run_row, happened, next, only, is_possible, is_running, is_ime, is_bytes, has_halt, has_enabled}
use Rattle.gb_ops.specs.Memory.{is_free, byte_at}
use Rattle.gb_ops.specs.Table.{decoded}
use Rattle.gb_cpu.specs.Choice.{IsChoice}
use Rattle.gb_cpu.specs.declared.step.Stepped.{Stepped}
use Rattle.gb_plain.proofs.Pending.{itself}
use Rattle.gb_plain.specs.Handed.{IsInOrder, TookRun, Took, resting_cpu, IsStepWith, IsEvent}

record SameRow (row : Option Row) (s : BusState) (a b : List ℕ) : Type 0 where
  pub state : run_row row s a ≡ run_row row s b
  pub cycles : row_cycles row s a ≡ row_cycles row s b

same_row :
    (row : Option Row) (s : BusState) (a b : List ℕ)
    → ((x : Row) → row ≡ Some x → loaded s.memory (read_of x.op (advanced s.processor x)) a ≡ loaded s.memory (read_of x.op (advanced s.processor x)) b)
    → SameRow row s a b
unfolding executed executed_cycles
same_row None s a b h = record { state = refl; cycles = refl }
same_row (Some x) s a b h = record { state = rw (h x refl) refl; cycles = rw (h x refl) refl }

-- an instruction with the same bytes
same_run :
    (s : BusState) (fetch reads free f r : List ℕ) (n : ℕ) (new : BusState) → IsInOrder s.memory s.processor fetch reads free → TookRun s free f r
    → new ≡ happened s (event.Run f r) → n ≡ event_cycles s (event.Run f r)
    → (new ≡ happened s (event.Run fetch reads)) × (n ≡ event_cycles s (event.Run fetch reads))
unfolding happened run event_cycles
same_run s fetch reads free f r n new order took is cycles =
    let bytes : fetched s.memory s.processor f ≡ fetched s.memory s.processor fetch = sym took.fetches ∙ order.fetches in
    let same = same_row (decoded (fetched s.memory s.processor f)) s r reads (λ x e. sym (took.loads x e) ∙ order.loads (read_of x.op (advanced s.processor x))) in
    (is ∙ same.state ∙ ap (λ xs. run_row (decoded xs) s reads) bytes, cycles ∙ same.cycles ∙ ap (λ xs. row_cycles (decoded xs) s reads) bytes)

first_of_three : (a b c : Bool) → (a && b && c) ≡ true → a ≡ true
first_of_three true b c h = refl
first_of_three false b c h = h

second_of_three : (a b c : Bool) → (a && b && c) ≡ true → b ≡ true
second_of_three true true c h = refl
second_of_three true false c h = h
second_of_three false b c h = absurd (let bad : false ≡ true = h in cc)

third_of_three : (a b c : Bool) → (a && b && c) ≡ true → c ≡ true
third_of_three true true c h = h
third_of_three true false c h = absurd (let bad : false ≡ true = h in cc)
third_of_three false b c h = absurd (let bad : false ≡ true = h in cc)

pub three_bytes : (s : BusState) (fetch reads : List ℕ) → is_possible s (event.Run fetch reads) ≡ true → is_bytes 3 fetch ≡ true
unfolding is_possible
three_bytes s fetch reads h = second_of_three (is_running s) (is_bytes 3 fetch) (is_bytes 2 reads) h

pub two_bytes : (s : BusState) (fetch reads : List ℕ) → is_possible s (event.Run fetch reads) ≡ true → is_bytes 2 reads ≡ true
unfolding is_possible
two_bytes s fetch reads h = third_of_three (is_running s) (is_bytes 3 fetch) (is_bytes 2 reads) h

all_three : (a b c : Bool) → a ≡ true → b ≡ true → c ≡ true → (a && b && c) ≡ true
all_three a b c ha hb hc = rw (ha, hb, hc) refl

possible_next : (s : BusState) (e : Event) → is_possible s e ≡ true → next s e ≡ happened s e
unfolding next only
possible_next s e h = rw h refl

-- an event that isn't possible changes nothing
pub impossible : (s : BusState) (e : Event) → is_possible s e ≡ false → s ≡ next s e
unfolding next only
impossible s e h = rw h refl

never_idle : {X : Type 0} (locked stopped : Bool) → (not locked && not stopped) ≡ true → (locked || stopped) ≡ true → X
never_idle true stopped h k = absurd (let bad : false ≡ true = h in cc)
never_idle false true h k = absurd (let bad : false ≡ true = h in cc)
never_idle false false h k = absurd (let bad : false ≡ true = k in cc)

not_waiting : {X : Type 0} (s : BusState) (shared n : ℕ) → is_running s ≡ true → IsChoice (resting_cpu s.processor) shared s (event.Wait n) → X
not_waiting s shared n running (inl idle) = never_idle s.processor.locked s.processor.stopped running idle.0
not_waiting s shared n running (inr waits) = absurd (let bad : false ≡ true = waits.1 in cc)

nothing_shared : {X : Type 0} (x : ℕ) → bit_and 0 x ≢ 0 → X
nothing_shared x h = absurd (h (and_zero_l x))

-- a running machine whose step was told of no interrupt makes an instruction
pub ran_event :
    (s : BusState) (fetch reads free : List ℕ) (e : Event) (n : ℕ) (new : BusState) → is_possible s (event.Run fetch reads) ≡ true
    → IsInOrder s.memory s.processor fetch reads free → new ≡ next s e
    → IsChoice (resting_cpu s.processor) (bit_and 0 (s.memory.storage.ie % 32)) s e → n ≡ event_cycles s e → Took s free e
    → IsEvent s (event.Run fetch reads) n new
unfolding is_possible
ran_event s fetch reads free (event.Run f r) n new possible order is choice cycles took =
    let running = first_of_three (is_running s) (is_bytes 3 fetch) (is_bytes 2 reads) possible in
    let made : is_possible s (event.Run f r) ≡ true = all_three (is_running s) (is_bytes 3 f) (is_bytes 2 r) running took.three took.two in
    let same = same_run s fetch reads free f r n new order took (is ∙ possible_next s (event.Run f r) made) cycles in
    record { state = same.0 ∙ sym (possible_next s (event.Run fetch reads) possible); cycles = same.1 }
ran_event s fetch reads free event.HaltStay n new possible order is choice cycles took = nothing_shared (s.memory.storage.ie % 32) choice.3
ran_event s fetch reads free event.HaltBug n new possible order is choice cycles took = nothing_shared (s.memory.storage.ie % 32) choice.3
ran_event s fetch reads free (event.Irq i) n new possible order is choice cycles took = absurd choice
ran_event s fetch reads free (event.Wait m) n new possible order is choice cycles took =
    not_waiting s (bit_and 0 (s.memory.storage.ie % 32)) m (first_of_three (is_running s) (is_bytes 3 fetch) (is_bytes 2 reads) possible) choice

pub ran :
    (s : BusState) (fetch reads free : List ℕ) (made : Stepped) (new : BusState) → is_possible s (event.Run fetch reads) ≡ true
    → IsInOrder s.memory s.processor fetch reads free → IsStepWith free 0 s made new → IsEvent s (event.Run fetch reads) made.cycles new
ran s fetch reads free made new possible order step =
    ran_event s fetch reads free made.event made.cycles new possible order step.next step.choice step.cycles step.took

-- ---- HALT, whose opcode is handed in where PC's byte is free

by_halt : (f : Bool) (fixed : ℕ) (behind : List ℕ) → (f || (fixed == 0x76)) ≡ true → (read_by f fixed (0x76 ∷ behind)).value ≡ 0x76
by_halt true fixed behind h = refl
by_halt false fixed behind h = eqb-true fixed 0x76 h

halt_read : (s : BusState) (behind : List ℕ) → has_halt s ≡ true → slice_index (fetched s.memory s.processor (0x76 ∷ behind)) 0 ≡ 0x76
unfolding fetched read_at
halt_read s behind h = by_halt (is_free s.memory s.processor.pc) (byte_at s.memory s.processor.pc) behind h

record AreFour (a b c d : Bool) : Type 0 where
  pub first : a ≡ true
  pub second : b ≡ true
  pub third : c ≡ true
  pub fourth : d ≡ true

four : (a b c d : Bool) → (a && b && c && d) ≡ true → AreFour a b c d
four true true true true h = record { first = refl; second = refl; third = refl; fourth = refl }
four true true true false h = absurd (let bad : false ≡ true = h in cc)
four true true false d h = absurd (let bad : false ≡ true = h in cc)
four true false c d h = absurd (let bad : false ≡ true = h in cc)
four false b c d h = absurd (let bad : false ≡ true = h in cc)

is_the : (i j : Ime) → is_ime i j ≡ true → i ≡ j
is_the ime.Off ime.Off h = refl
is_the ime.Pending ime.Pending h = refl
is_the ime.On ime.On h = refl
is_the ime.Off ime.Pending h = absurd (let bad : false ≡ true = h in cc)
is_the ime.Off ime.On h = absurd (let bad : false ≡ true = h in cc)
is_the ime.Pending ime.Off h = absurd (let bad : false ≡ true = h in cc)
is_the ime.Pending ime.On h = absurd (let bad : false ≡ true = h in cc)
is_the ime.On ime.Off h = absurd (let bad : false ≡ true = h in cc)
is_the ime.On ime.Pending h = absurd (let bad : false ≡ true = h in cc)

shares : (ie : ℕ) → not (ie % 32 == 0) ≡ true → bit_and (ie % 32) (ie % 32) ≢ 0
shares ie h z =
    let is : ie % 32 ≡ 0 = sym (itself (ie % 32) (omega arith)) ∙ z in
    let bad : false ≡ true = rw is at h in
    cc

-- what is possible of a HALT with interrupts as they are
record IsHalt (s : BusState) (i : Ime) : Type 0 where
  pub running : is_running s ≡ true
  pub halt : has_halt s ≡ true
  pub ime : s.processor.ime ≡ i
  pub shared : bit_and (s.memory.storage.ie % 32) (s.memory.storage.ie % 32) ≢ 0

is_halt : (s : BusState) (i : Ime) → (is_running s && has_halt s && is_ime s.processor.ime i && has_enabled s) ≡ true → IsHalt s i
is_halt s i h =
    let all = four (is_running s) (has_halt s) (is_ime s.processor.ime i) (has_enabled s) h in
    record { running = all.first; halt = all.second; ime = is_the s.processor.ime i all.third; shared = shares s.memory.storage.ie all.fourth }

-- neither an instruction nor nothing is made of it, but one of the special cases
not_run : {X : Type 0} (s : BusState) (i : Ime) (behind f r : List ℕ) → IsHalt s i → (i ≡ ime.On → ⊥) → IsChoice (resting_cpu s.processor) (bit_and (s.memory.storage.ie % 32) (s.memory.storage.ie % 32)) s (event.Run f r) → TookRun s (0x76 ∷ behind) f r → X
not_run s i behind f r is off choice took =
    let opcode : slice_index (fetched s.memory s.processor f) 0 ≡ 0x76 = ap (λ xs. slice_index xs 0) (sym took.fetches) ∙ halt_read s behind is.halt in
    absurd (off (sym is.ime ∙ choice.2 opcode is.shared))

stayed_event :
    (s : BusState) (behind : List ℕ) (e : Event) (n : ℕ) (new : BusState) → is_possible s event.HaltStay ≡ true → new ≡ next s e
    → IsChoice (resting_cpu s.processor) (bit_and (s.memory.storage.ie % 32) (s.memory.storage.ie % 32)) s e
    → n ≡ event_cycles s e → Took s (0x76 ∷ behind) e → IsEvent s event.HaltStay n new
unfolding is_possible
stayed_event s behind (event.Run f r) n new possible is choice cycles took =
    not_run s ime.Pending behind f r (is_halt s ime.Pending possible) (λ e. absurd (cc e)) choice took
stayed_event s behind event.HaltStay n new possible is choice cycles took = record { state = is; cycles = cycles }
stayed_event s behind event.HaltBug n new possible is choice cycles took =
    let both : ime.Pending ≡ ime.Off = sym (is_halt s ime.Pending possible).ime ∙ choice.2 in absurd (cc both)
stayed_event s behind (event.Irq i) n new possible is choice cycles took = absurd choice
stayed_event s behind (event.Wait m) n new possible is choice cycles took =
    not_waiting s (bit_and (s.memory.storage.ie % 32) (s.memory.storage.ie % 32)) m (is_halt s ime.Pending possible).running choice

marked_event :
    (s : BusState) (behind : List ℕ) (e : Event) (n : ℕ) (new : BusState) → is_possible s event.HaltBug ≡ true → new ≡ next s e
    → IsChoice (resting_cpu s.processor) (bit_and (s.memory.storage.ie % 32) (s.memory.storage.ie % 32)) s e
    → n ≡ event_cycles s e → Took s (0x76 ∷ behind) e → IsEvent s event.HaltBug n new
unfolding is_possible
marked_event s behind (event.Run f r) n new possible is choice cycles took =
    not_run s ime.Off behind f r (is_halt s ime.Off possible) (λ e. absurd (cc e)) choice took
marked_event s behind event.HaltStay n new possible is choice cycles took =
    let both : ime.Off ≡ ime.Pending = sym (is_halt s ime.Off possible).ime ∙ choice.2 in absurd (cc both)
marked_event s behind event.HaltBug n new possible is choice cycles took = record { state = is; cycles = cycles }
marked_event s behind (event.Irq i) n new possible is choice cycles took = absurd choice
marked_event s behind (event.Wait m) n new possible is choice cycles took =
    not_waiting s (bit_and (s.memory.storage.ie % 32) (s.memory.storage.ie % 32)) m (is_halt s ime.Off possible).running choice

pub stayed :
    (s : BusState) (behind : List ℕ) (pending : ℕ) (made : Stepped) (new : BusState) → is_possible s event.HaltStay ≡ true
    → pending ≡ s.memory.storage.ie % 32 → IsStepWith (0x76 ∷ behind) pending s made new → IsEvent s event.HaltStay made.cycles new
stayed s behind pending made new possible is step =
    stayed_event s behind made.event made.cycles new possible step.next (rw is at step.choice) step.cycles step.took

pub marked :
    (s : BusState) (behind : List ℕ) (pending : ℕ) (made : Stepped) (new : BusState) → is_possible s event.HaltBug ≡ true
    → pending ≡ s.memory.storage.ie % 32 → IsStepWith (0x76 ∷ behind) pending s made new → IsEvent s event.HaltBug made.cycles new
marked s behind pending made new possible is step =
    marked_event s behind made.event made.cycles new possible step.next (rw is at step.choice) step.cycles step.took
