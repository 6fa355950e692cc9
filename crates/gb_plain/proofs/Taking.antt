-- The reads of an instruction take the bytes that an event hands in.
use Rattle.std.proofs.Common.{◌≡◌, ℕ, ◌+◌, ◌%◌, ◌<◌, Bool, true, false, List, [], ◌∷◌, ◌++◌, nat_le, refl, ap, ◌∙◌, slice_index, Option, Some, None, arith}
use Rattle.std.proofs.lemmas.Bool.{lt-ltb}
use Rattle.std.proofs.lemmas.List.{append_assoc}
use Rattle.gb_ops.specs.declared.machine.Read.{Read}
use Rattle.gb_ops.specs.declared.machine.Read.TheVariants as read
use Rattle.gb_ops.specs.declared.machine.Event.{Event}
use Rattle.gb_ops.specs.declared.machine.Event.TheVariants as event
use Rattle.gb_ops.specs.declared.op.Row.{Row}
use Rattle.gb_ops.specs.declared.registers.Processor.{Processor}
use Rattle.gb_ops.specs.Accesses.{Access, Joined, where_wanted, fetch_log, load_log, store_log, execute_log, row_log, accesses_of}
use Rattle.gb_ops.specs.Accesses as access
use Rattle.gb_ops.specs.Effects.{read_of}
use Rattle.gb_ops.specs.Machine.{BusState, Reading, read_at, read_where, fetched, loaded, length_of, second_address, third_address, advanced, effect_at, cycles_of, is_bytes}
use Rattle.gb_ops.specs.Memory.{View, is_free}
use Rattle.gb_ops.specs.Table.{decoded}
use Rattle.gb_cpu.specs.Below.gb_accesses.Access.{queued, queued_two, free_fetches, free_reads, row_free_reads, HasFreeBytes}
use Rattle.gb_plain.proofs.Ordering.{left_is}
use Rattle.gb_plain.specs.Handed.{view_of, left, Takes, left_by_fetches, TookRun, Took}
use Rattle.gb_plain.specs.declared.machine.PlainMachine.{PlainMachine}

-- a read gave a byte, and then came other accesses
pub record Taken (m : View) (reading : Reading) (v : ℕ) (log : List Access) (new : PlainMachine) : Type 0 where
  pub mid : PlainMachine
  pub view : view_of mid ≡ m
  pub gives : reading ≡ record { value = v; rest = left mid }
  pub small : v < 256
  pub joined : Joined Takes mid log new

taken :
    (m : View) (a v : ℕ) (log : List Access) (old new : PlainMachine) → view_of old ≡ m
    → Joined Takes old (access.Reads a v ∷ log) new → Taken m (read_at m a (left old)) v log new
taken m a v log old new is h =
    record { mid = h.0; view = h.1.0 ∙ is; gives = rw is at h.1.2; small = h.1.1; joined = h.2 }

taken_where :
    (wanted : Bool) (m : View) (a v : ℕ) (log : List Access) (old new : PlainMachine) → view_of old ≡ m
    → (wanted ≡ false → v ≡ 0) → Joined Takes old (where_wanted wanted (access.Reads a v) ++ log) new
    → Taken m (read_where wanted m a (left old)) v log new
unfolding read_where
taken_where true m a v log old new is none h = taken m a v log old new is h
taken_where false m a v log old new is none h =
    record { mid = old; view = is; gives = rw (none refl) refl; small = rw (none refl) (omega arith); joined = h }

unwanted : (wanted : Bool) (m : View) (a : ℕ) (free : List ℕ) → wanted ≡ false → (read_where wanted m a free).value ≡ 0
unfolding read_where
unwanted true m a free h = absurd (let bad : true ≡ false = h in cc)
unwanted false m a free h = refl

-- three bytes were fetched, and then came other accesses
pub record Fetches (m : View) (p : Processor) (bytes : List ℕ) (log : List Access) (old new : PlainMachine) : Type 0 where
  pub mid : PlainMachine
  pub view : view_of mid ≡ m
  pub same : fetched m p (left old) ≡ bytes
  pub rest : left_by_fetches m p (left old) ≡ left mid
  pub first : slice_index bytes 0 < 256
  pub second : slice_index bytes 1 < 256
  pub third : slice_index bytes 2 < 256
  pub joined : Joined Takes mid log new

fetches :
    (m : View) (p : Processor) (b0 b1 b2 : ℕ) (log : List Access) (old new : PlainMachine) → view_of old ≡ m
    → (nat_le 2 (length_of b0) ≡ false → b1 ≡ 0) → (nat_le 3 (length_of b0) ≡ false → b2 ≡ 0)
    → Joined Takes old (fetch_log p (b0 ∷ b1 ∷ b2 ∷ []) ++ log) new → Fetches m p (b0 ∷ b1 ∷ b2 ∷ []) log old new
unfolding fetch_log fetched
fetches m p b0 b1 b2 log old new is none_1 none_2 h =
    let w1 = where_wanted (nat_le 2 (length_of b0)) (access.Reads (second_address p) b1) in
    let w2 = where_wanted (nat_le 3 (length_of b0)) (access.Reads (third_address p) b2) in
    let all : Joined Takes old (access.Reads p.pc b0 ∷ (w1 ++ w2 ++ log)) new = h in
    let one_by_one : Joined Takes old (access.Reads p.pc b0 ∷ (w1 ++ (w2 ++ log))) new = rw (append_assoc w1 w2 log) at all in
    let one = taken m p.pc b0 (w1 ++ (w2 ++ log)) old new is one_by_one in
    let two = taken_where (nat_le 2 (length_of b0)) m (second_address p) b1 (w2 ++ log) one.mid new one.view none_1 one.joined in
    let three = taken_where (nat_le 3 (length_of b0)) m (third_address p) b2 log two.mid new two.view none_2 two.joined in
    record {
      mid = three.mid;
      view = three.view;
      same = simp (one.gives, two.gives, three.gives);
      rest = left_is m p (left old) ∙ simp (one.gives, two.gives, three.gives);
      first = one.small;
      second = two.small;
      third = three.small;
      joined = three.joined;
    }

fetches_free :
    (m : View) (p : Processor) (free : List ℕ) (log : List Access) (old new : PlainMachine) → view_of old ≡ m
    → Joined Takes old (fetch_log p (fetched m p free) ++ log) new → Fetches m p (fetched m p free) log old new
unfolding fetched
fetches_free m p free log old new is h =
    let first = read_at m p.pc free in
    let second = read_where (nat_le 2 (length_of first.value)) m (second_address p) first.rest in
    let third = read_where (nat_le 3 (length_of first.value)) m (third_address p) second.rest in
    fetches m p first.value second.value third.value log old new is
    (unwanted (nat_le 2 (length_of first.value)) m (second_address p) first.rest)
    (unwanted (nat_le 3 (length_of first.value)) m (third_address p) second.rest)
    h

-- bytes that were queued are bytes
three_are :
    (f0 f1 f2 : Bool) (b0 b1 b2 : ℕ) → b0 < 256 → b1 < 256 → b2 < 256
    → is_bytes 3 (queued f0 b0 (queued f1 b1 (queued f2 b2 (0 ∷ 0 ∷ 0 ∷ [])))) ≡ true
three_are true true true b0 b1 b2 h0 h1 h2 = rw (lt-ltb b0 256 h0, lt-ltb b1 256 h1, lt-ltb b2 256 h2) refl
three_are true true false b0 b1 b2 h0 h1 h2 = rw (lt-ltb b0 256 h0, lt-ltb b1 256 h1) refl
three_are true false true b0 b1 b2 h0 h1 h2 = rw (lt-ltb b0 256 h0, lt-ltb b2 256 h2) refl
three_are true false false b0 b1 b2 h0 h1 h2 = rw (lt-ltb b0 256 h0) refl
three_are false true true b0 b1 b2 h0 h1 h2 = rw (lt-ltb b1 256 h1, lt-ltb b2 256 h2) refl
three_are false true false b0 b1 b2 h0 h1 h2 = rw (lt-ltb b1 256 h1) refl
three_are false false true b0 b1 b2 h0 h1 h2 = rw (lt-ltb b2 256 h2) refl
three_are false false false b0 b1 b2 h0 h1 h2 = refl

two_are :
    (f0 f1 : Bool) (b0 b1 : ℕ) → b0 < 256 → b1 < 256
    → is_bytes 2 (queued_two f0 b0 (queued_two f1 b1 (0 ∷ 0 ∷ []))) ≡ true
two_are true true b0 b1 h0 h1 = rw (lt-ltb b0 256 h0, lt-ltb b1 256 h1) refl
two_are true false b0 b1 h0 h1 = rw (lt-ltb b0 256 h0) refl
two_are false true b0 b1 h0 h1 = rw (lt-ltb b1 256 h1) refl
two_are false false b0 b1 h0 h1 = refl

one_is : (f : Bool) (b : ℕ) → b < 256 → is_bytes 2 (queued_two f b (0 ∷ 0 ∷ [])) ≡ true
one_is true b h = rw (lt-ltb b 256 h) refl
one_is false b h = refl

-- what reads of data gave
pub record Loads (m : View) (what : Read) (reads : List ℕ) (old : PlainMachine) : Type 0 where
  pub same : loaded m what (left old) ≡ loaded m what reads
  pub two : is_bytes 2 (free_reads m what (loaded m what reads)) ≡ true

loads :
    (m : View) (what : Read) (reads : List ℕ) (log : List Access) (old new : PlainMachine) → view_of old ≡ m
    → Joined Takes old (load_log what (loaded m what reads) ++ log) new → Loads m what reads old
unfolding load_log loaded free_reads
loads m read.Nothing reads log old new is h = record { same = refl; two = refl }
loads m (read.Byte a) reads log old new is h =
    let one = taken m a (read_at m a reads).value log old new is h in
    record { same = rw one.gives refl; two = one_is (is_free m a) (read_at m a reads).value one.small }
loads m (read.Word a) reads log old new is h =
    let first = read_at m a reads in
    let b = (a + 1) % 65536 in
    let second = read_at m b first.rest in
    let one = taken m a first.value (access.Reads b second.value ∷ log) old new is h in
    let two = taken m b second.value log one.mid new one.view one.joined in
    record { same = simp (one.gives, two.gives); two = two_are (is_free m a) (is_free m b) first.value second.value one.small two.small }

row_loads :
    (s : BusState) (row : Row) (reads : List ℕ) (old new : PlainMachine) → view_of old ≡ s.memory
    → Joined Takes old (execute_log s row reads) new → Loads s.memory (read_of row.op (advanced s.processor row)) reads old
unfolding execute_log
row_loads s row reads old new is h =
    let what = read_of row.op (advanced s.processor row) in
    let effect = effect_at s row reads in
    let reading = load_log what (loaded s.memory what reads) in
    let passing = access.Passes (cycles_of row effect.is_taken) ∷ [] in
    let all : Joined Takes old (reading ++ store_log effect.write ++ passing) new = h in
    let apart : Joined Takes old (reading ++ (store_log effect.write ++ passing)) new = rw (append_assoc reading (store_log effect.write) passing) at all in
    loads s.memory what reads (store_log effect.write ++ passing) old new is apart

row_reads :
    (row : Option Row) (s : BusState) (reads : List ℕ) (old new : PlainMachine) → view_of old ≡ s.memory
    → Joined Takes old (row_log row s reads) new → is_bytes 2 (row_free_reads row s reads) ≡ true
row_reads None s reads old new is h = refl
row_reads (Some row) s reads old new is h = (row_loads s row reads old new is h).two

-- of a row that is known
row_gives :
    (row : Option Row) (x : Row) (s : BusState) (reads : List ℕ) (old new : PlainMachine) → row ≡ Some x → view_of old ≡ s.memory
    → Joined Takes old (row_log row s reads) new → Loads s.memory (read_of x.op (advanced s.processor x)) reads old
row_gives row x s reads old new e is h = row_loads s x reads old new is (rw e at h)

took_run :
    (s : BusState) (fetch reads : List ℕ) (old new : PlainMachine) → view_of old ≡ s.memory
    → fetch ≡ free_fetches s.memory s.processor (fetched s.memory s.processor fetch)
    → reads ≡ row_free_reads (decoded (fetched s.memory s.processor fetch)) s reads
    → Joined Takes old (accesses_of s (event.Run fetch reads)) new → TookRun s (left old) fetch reads
unfolding accesses_of free_fetches
took_run s fetch reads old new is free_1 free_2 h =
    let row = decoded (fetched s.memory s.processor fetch) in
    let t = fetches_free s.memory s.processor fetch (row_log row s reads) old new is h in
    record {
      fetches = t.same;
      loads = λ x e. ap (λ xs. loaded s.memory (read_of x.op (advanced s.processor x)) xs) t.rest ∙ (row_gives row x s reads t.mid new e t.view t.joined).same;
      three = ap (λ xs. is_bytes 3 xs) free_1 ∙ three_are _ _ _ _ _ _ t.first t.second t.third;
      two = ap (λ xs. is_bytes 2 xs) free_2 ∙ row_reads row s reads t.mid new t.view t.joined;
    }

-- what an event took that a step made
pub took :
    (s : BusState) (e : Event) (old new : PlainMachine) → view_of old ≡ s.memory
    → HasFreeBytes s e → Joined Takes old (accesses_of s e) new → Took s (left old) e
took s (event.Run fetch reads) old new is free h = took_run s fetch reads old new is free.0 free.1 h
took s event.HaltStay old new is free h = tt
took s event.HaltBug old new is free h = tt
took s (event.Irq i) old new is free h = tt
took s (event.Wait n) old new is free h = tt
