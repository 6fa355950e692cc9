-- An instruction, of which nothing is told but its M-cycles, is a step.
use Rattle.std.proofs.Common.{◌≡◌, ℕ, ◌<◌, Bool, true, false, not, ◌||◌, ◌&&◌, ◌==◌, nat_le, nat_lt, List, [], ◌∷◌, slice_index, refl, sym, ap, ◌∙◌, arith}
use Rattle.std.proofs.lemmas.Bool.Decides.{nat_tests}
use Rattle.gb_ops.specs.declared.machine.Event.TheVariants as event
use Rattle.gb_ops.specs.declared.registers.Processor.{Processor}
use Rattle.gb_ops.specs.Accesses.{Access, Reads, Joined, fetch_log, accesses_of, event_cycles}
use Rattle.gb_ops.specs.Machine as Machine
use Rattle.gb_ops.specs.Machine.{BusState, fetched, is_running, is_bytes, only, is_possible, happened, run, length_of, second_address, third_address}
use Rattle.gb_ops.specs.Memory.{View, is_free}
use Rattle.gb_ops.specs.Table.{decoded}
use Rattle.gb_cpu.specs.declared.step.Cpu.{Cpu}
use Rattle.gb_accesses.specs.Access.{Gave, queued, free_fetches}
use Rattle.gb_cpu.specs.Choice.{is_idle}
use Rattle.gb_cpu.specs.Run.{IsRowRun, IsOpcodeRun, IsSomeStep}
use Rattle.gb_cpu.specs.Step.{state}
use Rattle.gb_accesses.proofs.Fetching.{fetched_is}
use Rattle.gb_accesses.proofs.Joining.{joined_append}
use Rattle.gb_cpu.proofs.Kept.{step_is}

running : (locked stopped : Bool) → (locked || stopped) ≡ false → (not locked && not stopped) ≡ true
running true stopped h = absurd (let bad : true ≡ false = h in cc)
running false true h = absurd (let bad : true ≡ false = h in cc)
running false false h = refl

all_true : (a b c : Bool) → a ≡ true → b ≡ true → c ≡ true → (a && b && c) ≡ true
all_true a b c ha hb hc = rw (ha, hb, hc) refl

next_is : (s : BusState) (fetch reads : List ℕ) → is_running s ≡ true → is_bytes 3 fetch ≡ true → is_bytes 2 reads ≡ true
    → Machine.next s (event.Run fetch reads) ≡ Machine.run_row (decoded (fetched s.memory s.processor fetch)) s reads
unfolding Machine.next only is_possible happened run
next_is s fetch reads goes three two = rw (all_true _ _ _ goes three two) refl

-- what is fetched, and the free bytes of that
pub record IsFetch {S : Type 0} (shows : S → View) (does : S → Access → S → Type 0) (p : Processor) (old : S) (fetch bytes : List ℕ) (mid : S) : Type 0 where
  pub view : shows mid ≡ shows old
  pub bytes_are : fetched (shows old) p fetch ≡ bytes
  pub free : fetch ≡ free_fetches (shows old) p bytes
  pub in_range : is_bytes 3 fetch ≡ true
  pub joined : Joined does old (fetch_log p bytes) mid

seen : {S : Type 0} (shows : S → View) (does : S → Access → S → Type 0) (cpu after : Cpu) (old mid new : S) (fetch : List ℕ) (n : ℕ) (v : View)
    → v ≡ shows old → is_idle cpu ≡ false → cpu.is_waiting ≡ false → IsFetch shows does cpu.processor old fetch (fetched (shows old) cpu.processor fetch) mid
    → IsRowRun shows does (decoded (fetched (shows old) cpu.processor fetch)) cpu.processor mid n after.processor new
    → after.is_waiting ≡ (slice_index (fetched (shows old) cpu.processor fetch) 0 == 0x76)
    → IsSomeStep shows does 0 cpu old n after new
unfolding accesses_of event_cycles
seen shows does cpu after old mid new fetch n v is goes awake f r waits =
    let here : state cpu.processor (shows mid) ≡ state cpu.processor (shows old) = ap (λ m. state cpu.processor m) f.view in
    let leads = rw here at r.leads in
    let rest = rw here at r.joined in
    record {
      event = event.Run fetch r.reads;
      machine = step_is _ _ _ (leads ∙ sym (next_is (state cpu.processor (shows old)) fetch r.reads (running _ _ goes) f.in_range r.in_range));
      joined = joined_append does _ _ old mid new f.joined rest;
      choice = (goes, rw awake refl, λ h none. absurd (none refl));
      cycles = rw here at r.cycles;
      free = (f.free, rw here at r.free);
      waiting = waits;
    }

pub some_step : {S : Type 0} (shows : S → View) (does : S → Access → S → Type 0) (shared : ℕ) (cpu after : Cpu) (old mid new : S) (fetch bytes : List ℕ) (n : ℕ)
    → shared ≡ 0 → is_idle cpu ≡ false → cpu.is_waiting ≡ false → IsFetch shows does cpu.processor old fetch bytes mid
    → IsRowRun shows does (decoded bytes) cpu.processor mid n after.processor new
    → after.is_waiting ≡ (slice_index bytes 0 == 0x76)
    → IsSomeStep shows does shared cpu old n after new
some_step shows does shared cpu after old mid new fetch bytes n none goes awake f r waits =
    let e : bytes ≡ fetched (shows old) cpu.processor fetch = sym f.bytes_are in
    rw none (seen shows does cpu after old mid new fetch n (shows old) refl goes awake (rw e at f) (rw e at r) (rw e at waits))

-- ---- by its opcode

free_is : (m : View) (p : Processor) (b0 b1 b2 : ℕ) (f0 f1 f2 : Bool) → f0 ≡ is_free m p.pc → f1 ≡ (nat_le 2 (length_of b0) && is_free m (second_address p))
    → f2 ≡ (nat_le 3 (length_of b0) && is_free m (third_address p))
    → queued f0 b0 (queued f1 b1 (queued f2 b2 (0 ∷ 0 ∷ 0 ∷ []))) ≡ free_fetches m p (b0 ∷ b1 ∷ b2 ∷ [])
unfolding free_fetches
free_is m p b0 b1 b2 f0 f1 f2 h0 h1 h2 = rw (h0, h1, h2) refl

is_byte : (b : ℕ) → b < 256 → nat_lt b 256 ≡ true
is_byte b h = grind (arith, nat_tests)

bytes_free : (b0 b1 b2 : ℕ) (f0 f1 f2 : Bool) → nat_lt b0 256 ≡ true → nat_lt b1 256 ≡ true → nat_lt b2 256 ≡ true
    → is_bytes 3 (queued f0 b0 (queued f1 b1 (queued f2 b2 (0 ∷ 0 ∷ 0 ∷ [])))) ≡ true
bytes_free b0 b1 b2 true true true h0 h1 h2 = simp (h0, h1, h2)
bytes_free b0 b1 b2 true true false h0 h1 h2 = simp (h0, h1, h2)
bytes_free b0 b1 b2 true false true h0 h1 h2 = simp (h0, h1, h2)
bytes_free b0 b1 b2 true false false h0 h1 h2 = simp (h0, h1, h2)
bytes_free b0 b1 b2 false true true h0 h1 h2 = simp (h0, h1, h2)
bytes_free b0 b1 b2 false true false h0 h1 h2 = simp (h0, h1, h2)
bytes_free b0 b1 b2 false false true h0 h1 h2 = simp (h0, h1, h2)
bytes_free b0 b1 b2 false false false h0 h1 h2 = refl

-- the first byte as it was read
pub record IsOpcodeRead {S : Type 0} (shows : S → View) (does : S → Access → S → Type 0) (p : Processor) (old : S) (opcode : ℕ) (f : Bool) (start : S) : Type 0 where
  pub view : shows start ≡ shows old
  pub gave : Gave true (shows old) p.pc f opcode
  pub free : f ≡ is_free (shows old) p.pc
  pub byte : opcode < 256
  pub joined : Joined does old (Reads p.pc opcode ∷ []) start

whole_fetch : {S : Type 0} (shows : S → View) (does : S → Access → S → Type 0) (p q : Processor) (old start new : S) (opcode n : ℕ) (f : Bool)
    → IsOpcodeRead shows does p old opcode f start → (r : IsOpcodeRun shows does opcode p start n q new)
    → IsFetch shows does p old (queued f opcode (queued r.is_second_free r.second (queued r.is_third_free r.third (0 ∷ 0 ∷ 0 ∷ [])))) (opcode ∷ r.second ∷ r.third ∷ []) r.mid
unfolding fetch_log
whole_fetch shows does p q old start new opcode n f o r = record {
  view = r.view ∙ o.view;
  bytes_are = fetched_is (shows old) p opcode r.second r.third f r.is_second_free r.is_third_free o.gave (rw o.view at r.second_gave) (rw o.view at r.third_gave);
  free = free_is (shows old) p opcode r.second r.third f r.is_second_free r.is_third_free o.free (rw o.view at r.second_free) (rw o.view at r.third_free);
  in_range = bytes_free opcode r.second r.third f r.is_second_free r.is_third_free (is_byte _ o.byte) (is_byte _ r.second_byte) (is_byte _ r.third_byte);
  joined = joined_append does (Reads p.pc opcode ∷ []) _ old start r.mid o.joined r.joined;
}

pub opcode_step : {S : Type 0} (shows : S → View) (does : S → Access → S → Type 0) (shared : ℕ) (cpu after : Cpu) (old start new : S) (opcode n : ℕ) (f : Bool)
    → shared ≡ 0 → is_idle cpu ≡ false → cpu.is_waiting ≡ false → IsOpcodeRead shows does cpu.processor old opcode f start
    → IsOpcodeRun shows does opcode cpu.processor start n after.processor new
    → after.is_waiting ≡ (opcode == 0x76)
    → IsSomeStep shows does shared cpu old n after new
opcode_step shows does shared cpu after old start new opcode n f none goes awake o r waits =
    some_step shows does shared cpu after old r.mid new _ (opcode ∷ r.second ∷ r.third ∷ []) n none goes awake
    (whole_fetch shows does cpu.processor after.processor old start new opcode n f o r) r.runs waits
