-- Plain storage reads back what was written to it last.
use Rattle.std.proofs.Common.{◌≡◌, ◌≢◌, ℕ, ◌+◌, ◌-◌, ◌%◌, ◌<◌, ◌≤◌, Bool, true, false, not, ◌&&◌, ◌⊎◌, inl, inr, cond, List, [], ◌∷◌, length, slice_index, refl, sym, ◌∙◌, ap, arith, get_or-set_same, get_or-set_other}
use Rattle.std.proofs.lemmas.Bool.{eqb-true, eqb-false}
use Rattle.std.proofs.lemmas.Bool.Decides.{nat_tests}
use Rattle.std.proofs.Math.ListN.{length-set}
use Rattle.gb_ops.specs.declared.machine.Mapped.{Mapped}
use Rattle.gb_ops.specs.declared.machine.Mapped.TheVariants as mapped
use Rattle.gb_ops.specs.Memory.{View, mapped_at, is_closed, is_free, is_free_place, place_of, place_by, byte_at, byte_by, wrote, wrote_by, kept_or, passed}
use Rattle.gb_ops.specs.Accesses.{Access, Reads, Writes, Passes, Acknowledges}
use Rattle.gb_ops.specs.ReadsBack.{is_plain, unechoed, is_same_byte, IsSized, after_access, after_accesses, byte_after, last_written, AreAddresses, IsStored}

-- ---- where a byte of plain storage is kept

data Plain : Type 0 where
  Work : ℕ → Plain
  High : ℕ → Plain
  Enable : Plain

abbrev mapped_of : Plain → Mapped
mapped_of (Work i) = mapped.WorkRam i
mapped_of (High i) = mapped.HighRam i
mapped_of Enable = mapped.InterruptEnable

abbrev address_of : Plain → ℕ
address_of (Work i) = 0xC000 + i
address_of (High i) = 0xFF80 + i
address_of Enable = 0xFFFF

abbrev IsInside : Plain → Type 0
IsInside (Work i) = i < 8192
IsInside (High i) = i < 127
IsInside Enable = Unit {0}

record IsKept (p : Plain) (a : ℕ) : Type 0 where
  mapped : mapped_at a ≡ mapped_of p
  address : unechoed a ≡ address_of p
  inside : IsInside p

areas : (a : ℕ) → is_plain a ≡ true → ((0xC000 ≤ a) × (a < 0xFE00)) ⊎ (((0xFF80 ≤ a) × (a < 0xFFFF)) ⊎ (a ≡ 0xFFFF))
unfolding is_plain
areas a h = grind (arith, nat_tests)

work_mapped : (a : ℕ) → 0xC000 ≤ a → a < 0xFE00 → mapped_at a ≡ mapped.WorkRam ((a - 0xC000) % 0x2000)
unfolding mapped_at
work_mapped a low high = grind (arith, nat_tests)

work_address : (a : ℕ) → 0xC000 ≤ a → a < 0xFE00 → unechoed a ≡ 0xC000 + (a - 0xC000) % 0x2000
unfolding unechoed
work_address a low high = grind (arith, nat_tests)

high_mapped : (a : ℕ) → 0xFF80 ≤ a → a < 0xFFFF → mapped_at a ≡ mapped.HighRam (a - 0xFF80)
unfolding mapped_at
high_mapped a low high = grind (arith, nat_tests)

high_address : (a : ℕ) → 0xFF80 ≤ a → a < 0xFFFF → unechoed a ≡ 0xFF80 + (a - 0xFF80)
unfolding unechoed
high_address a low high = grind (arith, nat_tests)

kept_at : (a : ℕ) → is_plain a ≡ true → (p : Plain) × IsKept p a
unfolding mapped_at unechoed
kept_at a h =
    elim (areas a h) [
      | inl w ↦ (
        Work ((a - 0xC000) % 0x2000),
        record { mapped = work_mapped a w.0 w.1; address = work_address a w.0 w.1; inside = omega arith },
      )
      | inr (inl w) ↦
          (High (a - 0xFF80), record { mapped = high_mapped a w.0 w.1; address = high_address a w.0 w.1; inside = omega arith })
      | inr (inr e) ↦ (Enable, record { mapped = rw e refl; address = rw e refl; inside = tt })
    ]

one_place : (p q : Plain) → address_of p ≡ address_of q → IsInside p → IsInside q → p ≡ q
one_place (Work i) (Work j) e h k = ap Work (omega arith)
one_place (Work i) (High j) e h k = absurd (omega arith)
one_place (Work i) Enable e h k = absurd (omega arith)
one_place (High i) (Work j) e h k = absurd (omega arith)
one_place (High i) (High j) e h k = ap High (omega arith)
one_place (High i) Enable e h k = absurd (omega arith)
one_place Enable (Work j) e h k = absurd (omega arith)
one_place Enable (High j) e h k = absurd (omega arith)
one_place Enable Enable e h k = refl

-- ---- a write, by where its address is kept

stored_in : (p : Plain) (m : View) (a v b : ℕ) → IsSized m → IsInside p → byte_by (mapped_of p) (wrote_by (mapped_of p) m a v) b ≡ v
stored_in (Work i) m a v b s h = let lt : i < length m.storage.work = (let n = s.work in omega arith) in get_or-set_same m.storage.work i v 0 lt
stored_in (High i) m a v b s h = let lt : i < length m.storage.high = (let n = s.high in omega arith) in get_or-set_same m.storage.high i v 0 lt
stored_in Enable m a v b s h = refl

alike : (p : Plain) (m n : View) (b : ℕ) → n.storage.work ≡ m.storage.work → n.storage.high ≡ m.storage.high → n.storage.ie ≡ m.storage.ie
    → byte_by (mapped_of p) n b ≡ byte_by (mapped_of p) m b
alike (Work i) m n b w h e = ap (λ bytes. slice_index bytes i) w
alike (High i) m n b w h e = ap (λ bytes. slice_index bytes i) h
alike Enable m n b w h e = e

-- the address without the echo of what a map shows; 0 where it isn't plain storage
abbrev address_by : Mapped → ℕ
address_by (mapped.WorkRam i) = 0xC000 + i
address_by (mapped.HighRam i) = 0xFF80 + i
address_by mapped.InterruptEnable = 0xFFFF
address_by _ = 0

other_in : (k : Mapped) (p : Plain) (m : View) (a v b : ℕ) → (address_by k ≡ address_of p → ⊥)
    → byte_by (mapped_of p) (wrote_by k m a v) b ≡ byte_by (mapped_of p) m b
other_in mapped.Rom p m a v b n = alike p _ _ b refl refl refl
other_in mapped.CartridgeRam p m a v b n = alike p _ _ b refl refl refl
other_in mapped.Transfer p m a v b n = alike p _ _ b refl refl refl
other_in mapped.Hardware p m a v b n = alike p _ _ b refl refl refl
other_in (mapped.WorkRam i) (Work j) m a v b n = let ne : j ≢ i = (λ e. n (omega arith)) in get_or-set_other m.storage.work i j v 0 ne
other_in (mapped.WorkRam i) (High j) m a v b n = refl
other_in (mapped.WorkRam i) Enable m a v b n = refl
other_in (mapped.HighRam i) (Work j) m a v b n = refl
other_in (mapped.HighRam i) (High j) m a v b n = let ne : j ≢ i = (λ e. n (omega arith)) in get_or-set_other m.storage.high i j v 0 ne
other_in (mapped.HighRam i) Enable m a v b n = refl
other_in mapped.InterruptEnable (Work j) m a v b n = refl
other_in mapped.InterruptEnable (High j) m a v b n = refl
other_in mapped.InterruptEnable Enable m a v b n = absurd (n refl)

address_by_either : (b : Bool) (k l : Mapped) → address_by (cond b k l) ≡ cond b (address_by k) (address_by l)
address_by_either true k l = refl
address_by_either false k l = refl

address_by_at : (a : ℕ) → a < 65536 → address_by (mapped_at a) ≡ cond (is_plain a) (unechoed a) 0
unfolding mapped_at is_plain unechoed
address_by_at a h = simp address_by_either (grind (arith, nat_tests))

-- an address of another byte
apart : (a b : ℕ) (p : Plain) → a < 65536 → IsKept p b → is_same_byte a b ≡ false → address_by (mapped_at a) ≡ address_of p → ⊥
unfolding is_same_byte
apart a b p small kept other e =
    let ne : unechoed a ≡ unechoed b → ⊥ = eqb-false (unechoed a) (unechoed b) other in
    by_area (is_plain a) (address_by_at a small)
  where
    some : (p : Plain) → 0 < address_of p
    some (Work i) = omega arith
    some (High i) = omega arith
    some Enable = omega arith

    by_area : (plain : Bool) → address_by (mapped_at a) ≡ cond plain (unechoed a) 0 → ⊥
    by_area true is = eqb-false (unechoed a) (unechoed b) other (sym is ∙ e ∙ sym kept.address)
    by_area false is = let zero : address_of p ≡ 0 = sym e ∙ is in let more = some p in absurd (omega arith)

-- ---- one write

pub others_stay : (m : View) (a v b : ℕ) → a < 65536 → is_plain b ≡ true → is_same_byte a b ≡ false → byte_at (wrote m a v) b ≡ byte_at m b
unfolding wrote byte_at
others_stay m a v b small plain other =
    let q = kept_at b plain in
    rw q.1.mapped (by_closed (is_closed m.storage a) q.0 (apart a b q.0 small q.1 other))
  where
    by_closed : (closed : Bool) (p : Plain) → (address_by (mapped_at a) ≡ address_of p → ⊥)
        → byte_by (mapped_of p) (kept_or closed m (wrote_by (mapped_at a) m a v)) b ≡ byte_by (mapped_of p) m b
    by_closed true p n = refl
    by_closed false p n = other_in (mapped_at a) p m a v b n

same_plain : (a b : ℕ) → is_plain b ≡ true → is_same_byte a b ≡ true → is_plain a ≡ true
unfolding is_plain is_same_byte unechoed
same_plain a b plain same = grind (arith, nat_tests)

turned : (a b : ℕ) → is_same_byte a b ≡ true → is_same_byte b a ≡ true
unfolding is_same_byte
turned a b same = grind (arith, nat_tests)

same_place : (a b : ℕ) (p q : Plain) → IsKept p a → IsKept q b → is_same_byte a b ≡ true → p ≡ q
unfolding is_same_byte
same_place a b p q k l same =
    let one : unechoed a ≡ unechoed b = eqb-true (unechoed a) (unechoed b) same in
    one_place p q (sym k.address ∙ one ∙ l.address) k.inside l.inside

-- the byte is v, at each of its addresses
pub byte_stored : (m : View) (a v b : ℕ) → IsSized m → is_plain b ≡ true → is_same_byte a b ≡ true → is_closed m.storage a ≡ false → byte_at (wrote m a v) b ≡ v
unfolding wrote byte_at
byte_stored m a v b sized plain same opened =
    let k = kept_at a (same_plain a b plain same) in
    let l = kept_at b plain in
    let one : k.0 ≡ l.0 = same_place a b k.0 l.0 k.1 l.1 same in
    rw (opened, k.1.mapped, l.1.mapped, ← one) (stored_in k.0 m a v b sized k.1.inside)

-- ---- a write to plain storage

others_in : (p : Plain) (k : Mapped) (m : View) (a v b : ℕ) → (address_of p ≡ address_by k → ⊥)
    → byte_by k (wrote_by (mapped_of p) m a v) b ≡ byte_by k m b
others_in (Work i) mapped.Rom m a v b n = refl
others_in (High i) mapped.Rom m a v b n = refl
others_in Enable mapped.Rom m a v b n = refl
others_in p mapped.CartridgeRam m a v b n = refl
others_in p mapped.Transfer m a v b n = refl
others_in p mapped.Hardware m a v b n = refl
others_in (Work i) (mapped.WorkRam j) m a v b n = other_in (mapped.WorkRam i) (Work j) m a v b n
others_in (High i) (mapped.WorkRam j) m a v b n = refl
others_in Enable (mapped.WorkRam j) m a v b n = refl
others_in (Work i) (mapped.HighRam j) m a v b n = refl
others_in (High i) (mapped.HighRam j) m a v b n = other_in (mapped.HighRam i) (High j) m a v b n
others_in Enable (mapped.HighRam j) m a v b n = refl
others_in (Work i) mapped.InterruptEnable m a v b n = refl
others_in (High i) mapped.InterruptEnable m a v b n = refl
others_in Enable mapped.InterruptEnable m a v b n = absurd (n refl)

banks_in : (p : Plain) (m : View) (a v : ℕ) → (wrote_by (mapped_of p) m a v).storage.banks ≡ m.storage.banks
banks_in (Work i) m a v = refl
banks_in (High i) m a v = refl
banks_in Enable m a v = refl

rom_in : (k : Mapped) (m : View) (a v : ℕ) → (wrote_by k m a v).rom ≡ m.rom
rom_in mapped.Rom m a v = refl
rom_in mapped.CartridgeRam m a v = refl
rom_in (mapped.WorkRam i) m a v = refl
rom_in (mapped.HighRam i) m a v = refl
rom_in mapped.InterruptEnable m a v = refl
rom_in mapped.Transfer m a v = refl
rom_in mapped.Hardware m a v = refl

count_in : (k : Mapped) (m : View) (a v : ℕ) → (wrote_by k m a v).storage.count ≡ m.storage.count
count_in mapped.Rom m a v = refl
count_in mapped.CartridgeRam m a v = refl
count_in (mapped.WorkRam i) m a v = refl
count_in (mapped.HighRam i) m a v = refl
count_in mapped.InterruptEnable m a v = refl
count_in mapped.Transfer m a v = refl
count_in mapped.Hardware m a v = refl

fixed_in : (p : Plain) (m : View) (b : ℕ) → is_free_place (place_by (mapped_of p) m b) ≡ false
fixed_in (Work i) m b = refl
fixed_in (High i) m b = refl
fixed_in Enable m b = refl

rom_stored : (m : View) (a v : ℕ) → (wrote m a v).rom ≡ m.rom
unfolding wrote
rom_stored m a v = by_closed (is_closed m.storage a)
  where
    by_closed : (closed : Bool) → (kept_or closed m (wrote_by (mapped_at a) m a v)).rom ≡ m.rom
    by_closed true = refl
    by_closed false = rom_in (mapped_at a) m a v

count_stored : (m : View) (a v : ℕ) → (wrote m a v).storage.count ≡ m.storage.count
unfolding wrote
count_stored m a v = by_closed (is_closed m.storage a)
  where
    by_closed : (closed : Bool) → (kept_or closed m (wrote_by (mapped_at a) m a v)).storage.count ≡ m.storage.count
    by_closed true = refl
    by_closed false = count_in (mapped_at a) m a v

-- a byte of plain storage that no transfer closes isn't free
pub plain_fixed : (m : View) (b : ℕ) → is_plain b ≡ true → is_closed m.storage b ≡ false → is_free m b ≡ false
unfolding is_free place_of
plain_fixed m b plain opened = let q = kept_at b plain in rw (opened, q.1.mapped) (fixed_in q.0 m b)

fixed_stored : (m : View) (a v b : ℕ) → is_plain b ≡ true → is_closed m.storage b ≡ false → is_free (wrote m a v) b ≡ false
unfolding is_closed
fixed_stored m a v b plain opened = plain_fixed (wrote m a v) b plain (rw (count_stored m a v) opened)

apart_plain : (a b : ℕ) (p : Plain) → b < 65536 → IsKept p a → is_same_byte a b ≡ false → address_of p ≡ address_by (mapped_at b) → ⊥
apart_plain a b p small kept other e = apart b a p small kept (unturned (is_same_byte b a) refl) (sym e)
  where
    unturned : (same : Bool) → is_same_byte b a ≡ same → is_same_byte b a ≡ false
    unturned true is = absurd (let bad : true ≡ false = sym (turned b a is) ∙ other in cc)
    unturned false is = is

others_stored : (m : View) (a v b : ℕ) → is_plain a ≡ true → is_closed m.storage a ≡ false → b < 65536 → is_same_byte a b ≡ false → byte_at (wrote m a v) b ≡ byte_at m b
unfolding wrote byte_at
others_stored m a v b plain opened small other =
    let k = kept_at a plain in
    rw (opened, k.1.mapped) (others_in k.0 (mapped_at b) m a v b (apart_plain a b k.0 small k.1 other))

banks_stored : (m : View) (a v : ℕ) → is_plain a ≡ true → is_closed m.storage a ≡ false → (wrote m a v).storage.banks ≡ m.storage.banks
unfolding wrote
banks_stored m a v plain opened = let k = kept_at a plain in rw (opened, k.1.mapped) (banks_in k.0 m a v)

pub stores : (m : View) (a v : ℕ) → IsSized m → is_plain a ≡ true → is_closed m.storage a ≡ false → IsStored m a v
stores m a v sized plain opened =
    record {
      byte = λ b same. byte_stored m a v b sized (same_plain b a plain (turned a b same)) same opened;
      fixed = λ b same here. fixed_stored m a v b (same_plain b a plain (turned a b same)) here;
      others = λ b small other. others_stored m a v b plain opened small other;
      rom = rom_stored m a v;
      controller = banks_stored m a v plain opened;
    }

-- ---- any accesses

sized_in : (k : Mapped) (m : View) (a v : ℕ) → IsSized m → IsSized (wrote_by k m a v)
sized_in mapped.Rom m a v s = record { work = s.work; high = s.high }
sized_in mapped.CartridgeRam m a v s = s
sized_in (mapped.WorkRam i) m a v s = record { work = length-set m.storage.work i v ∙ s.work; high = s.high }
sized_in (mapped.HighRam i) m a v s = record { work = s.work; high = length-set m.storage.high i v ∙ s.high }
sized_in mapped.InterruptEnable m a v s = record { work = s.work; high = s.high }
sized_in mapped.Transfer m a v s = record { work = s.work; high = s.high }
sized_in mapped.Hardware m a v s = s

sized_or : (closed : Bool) (m n : View) → IsSized m → IsSized n → IsSized (kept_or closed m n)
sized_or true m n s t = s
sized_or false m n s t = t

sized_after : (m : View) (x : Access) → IsSized m → IsSized (after_access m x)
unfolding after_access wrote passed
sized_after m (Reads a v) s = s
sized_after m (Writes a v) s = sized_or (is_closed m.storage a) m _ s (sized_in (mapped_at a) m a v s)
sized_after m (Passes n) s = record { work = s.work; high = s.high }
sized_after m (Acknowledges i) s = s

-- a write that a transfer closes changes nothing
dropped : (m : View) (a v : ℕ) → is_closed m.storage a ≡ true → wrote m a v ≡ m
unfolding wrote
dropped m a v closed = rw closed refl

write_read : (m : View) (a v b : ℕ) → IsSized m → a < 65536 → is_plain b ≡ true
    → byte_at (wrote m a v) b ≡ cond (is_same_byte a b && not (is_closed m.storage a)) v (byte_at m b)
write_read m a v b sized small plain = by_both (is_same_byte a b) (is_closed m.storage a) refl refl
  where
    by_both : (same closed : Bool) → is_same_byte a b ≡ same → is_closed m.storage a ≡ closed
        → byte_at (wrote m a v) b ≡ cond (same && not closed) v (byte_at m b)
    by_both true true same closed = ap (λ n. byte_at n b) (dropped m a v closed)
    by_both true false same opened = byte_stored m a v b sized plain same opened
    by_both false _ other _ = others_stay m a v b small plain other

pass_read : (m : View) (n b : ℕ) → is_plain b ≡ true → byte_at (passed m n) b ≡ byte_at m b
unfolding passed byte_at
pass_read m n b plain = let q = kept_at b plain in rw q.1.mapped (alike q.0 m _ b refl refl refl)

access_read : (m : View) (x : Access) (rest : List Access) (b : ℕ) → IsSized m → AreAddresses (x ∷ rest) → is_plain b ≡ true
    → (byte_at (after_access m x) b ≡ byte_after m x b (byte_at m b)) × AreAddresses rest
unfolding after_access byte_after
access_read m (Reads a v) rest b s h plain = (refl, h)
access_read m (Writes a v) rest b s h plain = (write_read m a v b s h.0 plain, h.1)
access_read m (Passes n) rest b s h plain = (pass_read m n b plain, h)
access_read m (Acknowledges i) rest b s h plain = (refl, h)

pub reads_back : (m : View) (accesses : List Access) (b : ℕ) → IsSized m → AreAddresses accesses → is_plain b ≡ true
    → byte_at (after_accesses m accesses) b ≡ last_written m accesses b (byte_at m b)
unfolding after_accesses last_written
reads_back m [] b sized small plain = refl
reads_back m (x ∷ rest) b sized small plain =
    let one = access_read m x rest b sized small plain in
    reads_back (after_access m x) rest b (sized_after m x sized) one.1 plain ∙ ap (last_written (after_access m x) rest b) one.0

access_rom : (m : View) (x : Access) → (after_access m x).rom ≡ m.rom
unfolding after_access passed
access_rom m (Reads a v) = refl
access_rom m (Writes a v) = rom_stored m a v
access_rom m (Passes n) = refl
access_rom m (Acknowledges i) = refl

pub rom_stays : (m : View) (accesses : List Access) → (after_accesses m accesses).rom ≡ m.rom
unfolding after_accesses
rom_stays m [] = refl
rom_stays m (x ∷ rest) = rom_stays (after_access m x) rest ∙ access_rom m x

pub ruleset laws = (stores, reads_back, rom_stays)
