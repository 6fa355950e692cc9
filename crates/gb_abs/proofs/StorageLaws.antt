-- A byte of RAM: what the machine's reads give and its writes leave, and what an abstract state means then.
use Rattle.std.proofs.Common.{◌≡◌, ◌≢◌, ℕ, ◌+◌, ◌-◌, ◌≤◌, ◌<◌, Bool, true, false, ◌||◌, not, ◌⊎◌, inl, inr, ◌==◌, nat_lt, cond, List, [], ◌∷◌, zero, suc, length, slice_index, slice_set, refl, sym, ◌∙◌, ap, subst, arith, get_or-set_same, get_or-set_other}
use Rattle.std.proofs.lemmas.Bool.Decides.{nat_tests}
use Rattle.std.proofs.Math.ListN.{length-set}
use Rattle.gb_ops.specs.declared.machine.Mapped.{Mapped}
use Rattle.gb_ops.specs.declared.machine.Mapped.TheVariants as mapped
use Rattle.gb_ops.specs.Cartridge.{is_within}
use Rattle.gb_ops.specs.Memory.{Storage, View, mapped_at, is_closed, is_free, is_free_place, place_of, place_by, byte_at, byte_by, wrote, wrote_by, kept_or}
use Rattle.gb_abs.specs.Storage.{is_ram, peek, peek_by}
use Rattle.gb_ops.specs.declared.machine.Region.{Region}
use Rattle.gb_ops.specs.Play.{MState}
use Rattle.gb_ops.specs.Machine.{read_at}
use Rattle.gb_ops.specs.Faults.{no_faults, access_faults}
use Rattle.gb_domain.specs.declared.types.Val.{Val}
use Rattle.gb_domain.specs.declared.types.Core.{Core}
use Rattle.gb_domain.specs.declared.types.Cell.{Cell}
use Rattle.gb_domain.specs.Types.{AbsState}
use Rattle.gb_domain.specs.Areas.{IsRegion, meets}
use Rattle.gb_abs.specs.Meaning.{Activation, Holds, HoldsController, MeansCore, AreItems, MeansParts, IsMemory}
use Rattle.gb_abs.specs.Cells.{IsPlaced, ArePlaced, is_below, is_above, is_at, entered, with_cell, is_outside, without_cells}
use Rattle.gb_abs.specs.Stack.{AreInRegion}
use Rattle.gb_abs.proofs.CoveringLaws.{AreCells}
use Rattle.gb_abs.proofs.CellLaws.{AllByRecursion-where, AllByRecursion-append}
use Rattle.std.specs.List.{filter, list_any}
use Rattle.gb_abs.specs.Poked.{IsPoked}
use Rattle.gb_abs.specs.Sound.{IsSoundEntry, IsSoundDrop}

-- ---- where a byte of RAM is kept

-- in work RAM, or else in high RAM
abbrev place : Bool → ℕ → Mapped
place true i = mapped.WorkRam i
place false i = mapped.HighRam i

abbrev first_of : Bool → ℕ
first_of true = 0xC000
first_of false = 0xFF80

abbrev size_of : Bool → ℕ
size_of true = 8192
size_of false = 127

record IsKept (in_work : Bool) (i a : ℕ) : Type 0 where
  mapped : mapped_at a ≡ place in_work i
  address : a ≡ first_of in_work + i
  inside : i < size_of in_work

in-areas : (a : ℕ) → is_ram a ≡ true → ((0xC000 ≤ a) × (a < 0xE000)) ⊎ ((0xFF80 ≤ a) × (a < 0xFFFF))
in-areas a h = grind (arith, nat_tests)

work-at : (a : ℕ) → 0xC000 ≤ a → a < 0xE000 → mapped_at a ≡ mapped.WorkRam (a - 0xC000)
unfolding mapped_at
work-at a low high = grind (arith, nat_tests)

pub high-at : (a : ℕ) → 0xFF80 ≤ a → a < 0xFFFF → mapped_at a ≡ mapped.HighRam (a - 0xFF80)
unfolding mapped_at
high-at a low high = grind (arith, nat_tests)

kept-at : (a : ℕ) → is_ram a ≡ true → (in_work : Bool) × (i : ℕ) × IsKept in_work i a
kept-at a h =
    elim (in-areas a h) [
      | inl p ↦ (true, a - 0xC000, record { mapped = work-at a p.0 p.1; address = omega arith; inside = omega arith })
      | inr p ↦ (false, a - 0xFF80, record { mapped = high-at a p.0 p.1; address = omega arith; inside = omega arith })
    ]

-- ---- a write, by where its address is kept

abbrev peek_in : Mapped → Storage → ℕ
peek_in k s = peek_by k s.work s.high

same-in : (w : Bool) (i : ℕ) (m : View) (a v : ℕ) → IsMemory m.storage → i < size_of w → peek_in (place w i) (wrote_by (place w i) m a v).storage ≡ v
same-in true i m a v k h = let lt : i < length m.storage.work = (let q = k.work in omega arith) in get_or-set_same m.storage.work i v 0 lt
same-in false i m a v k h = let lt : i < length m.storage.high = (let q = k.high in omega arith) in get_or-set_same m.storage.high i v 0 lt

other-in :
    (w u : Bool) (i j : ℕ) (m : View) (a v : ℕ) → (first_of w + i ≡ first_of u + j → ⊥) → peek_in (place u j) (wrote_by (place w i) m a v).storage ≡ peek_in (place u j) m.storage
other-in true true i j m a v n = let ne : j ≢ i = (λ e. n (omega arith)) in get_or-set_other m.storage.work i j v 0 ne
other-in true false i j m a v n = refl
other-in false true i j m a v n = refl
other-in false false i j m a v n = let ne : j ≢ i = (λ e. n (omega arith)) in get_or-set_other m.storage.high i j v 0 ne

-- bytes stay bytes
set-byte : (xs : List ℕ) (i j v : ℕ) → v ≤ 255 → slice_index xs j ≤ 255 → slice_index (slice_set xs i v) j ≤ 255
set-byte [] i j v h k = k
set-byte (x ∷ xs) zero zero v h k = h
set-byte (x ∷ xs) zero (suc j) v h k = k
set-byte (x ∷ xs) (suc i) zero v h k = k
set-byte (x ∷ xs) (suc i) (suc j) v h k = set-byte xs i j v h k

byte-in :
    (w : Bool) (l : Mapped) (i : ℕ) (m : View) (a v : ℕ) → v ≤ 255 → peek_in l m.storage ≤ 255 → peek_in l (wrote_by (place w i) m a v).storage ≤ 255
byte-in true (mapped.WorkRam j) i m a v h k = set-byte m.storage.work i j v h k
byte-in true l i m a v h k = k
byte-in false (mapped.HighRam j) i m a v h k = set-byte m.storage.high i j v h k
byte-in false l i m a v h k = k

memory-in : (w : Bool) (i : ℕ) (m : View) (a v : ℕ) → v ≤ 255 → IsMemory m.storage → IsMemory (wrote_by (place w i) m a v).storage
unfolding peek
memory-in true i m a v h k =
    record {
      work = length-set m.storage.work i v ∙ k.work;
      high = k.high;
      bytes = λ b. byte-in true (mapped_at b) i m a v h (k.bytes b);
    }
memory-in false i m a v h k =
    record {
      work = k.work;
      high = length-set m.storage.high i v ∙ k.high;
      bytes = λ b. byte-in false (mapped_at b) i m a v h (k.bytes b);
    }

banks-in : (w : Bool) (i : ℕ) (m : View) (a v : ℕ) → (wrote_by (place w i) m a v).storage.banks ≡ m.storage.banks
banks-in true i m a v = refl
banks-in false i m a v = refl

ie-in : (w : Bool) (i : ℕ) (m : View) (a v : ℕ) → (wrote_by (place w i) m a v).storage.ie ≡ m.storage.ie
ie-in true i m a v = refl
ie-in false i m a v = refl

count-in : (w : Bool) (i : ℕ) (m : View) (a v : ℕ) → (wrote_by (place w i) m a v).storage.count ≡ m.storage.count
count-in true i m a v = refl
count-in false i m a v = refl

starting-in : (w : Bool) (i : ℕ) (m : View) (a v : ℕ) → (wrote_by (place w i) m a v).starting ≡ m.starting
starting-in true i m a v = refl
starting-in false i m a v = refl

rom-in : (w : Bool) (i : ℕ) (m : View) (a v : ℕ) → (wrote_by (place w i) m a v).rom ≡ m.rom
rom-in true i m a v = refl
rom-in false i m a v = refl

poked-in :
    (w : Bool) (i : ℕ) (m : View) (a v : ℕ) → IsMemory m.storage → IsKept w i a → v ≤ 255 → IsPoked a v m.storage (wrote_by (place w i) m a v).storage
unfolding peek
poked-in w i m a v k p h =
    record {
      memory = memory-in w i m a v h k;
      banks = banks-in w i m a v;
      ie = ie-in w i m a v;
      count = count-in w i m a v;
      byte = subst (λ l. peek_in l (wrote_by (place w i) m a v).storage ≡ v) (sym p.mapped) (same-in w i m a v k p.inside);
      others = λ b ram n. other b (kept-at b ram) n;
    }
  where
    apart : (b a : ℕ) → (b == a) ≡ false → (a ≡ b → ⊥)
    apart b a n e = absurd (grind (arith, nat_tests))

    other :
        (b : ℕ) → (u : Bool) × (j : ℕ) × IsKept u j b → (b == a) ≡ false
        → peek_in (mapped_at b) (wrote_by (place w i) m a v).storage ≡ peek_in (mapped_at b) m.storage
    other b q n =
        subst (λ l. peek_in l (wrote_by (place w i) m a v).storage ≡ peek_in l m.storage) (sym q.2.mapped)
        (other-in w q.0 i q.1 m a v (λ e. apart b a n (p.address ∙ e ∙ sym q.2.address)))

-- a write that no OAM transfer closes
written : (m : View) (a v : ℕ) (w : Bool) (i : ℕ) → IsKept w i a → is_closed m.storage a ≡ false → wrote m a v ≡ wrote_by (place w i) m a v
unfolding wrote
written m a v w i p free = ap (λ c. kept_or c m (wrote_by (mapped_at a) m a v)) free ∙ ap (λ l. wrote_by l m a v) p.mapped

-- the machine's write to RAM changes one byte
pub wrote-poked :
    (m : View) (a v : ℕ) → IsMemory m.storage → is_ram a ≡ true → v ≤ 255 → is_closed m.storage a ≡ false → IsPoked a v m.storage (wrote m a v).storage
wrote-poked m a v k ram h free =
    let p = kept-at a ram in
    subst (λ (n : View). IsPoked a v m.storage n.storage) (sym (written m a v p.0 p.1 p.2 free)) (poked-in p.0 p.1 m a v k p.2 h)

-- a write to RAM starts no OAM transfer
pub wrote_ram-starting : (m : View) (a v : ℕ) → is_ram a ≡ true → is_closed m.storage a ≡ false → (wrote m a v).starting ≡ m.starting
wrote_ram-starting m a v ram free =
    let p = kept-at a ram in
    ap (λ (n : View). n.starting) (written m a v p.0 p.1 p.2 free) ∙ starting-in p.0 p.1 m a v

pub wrote_ram-rom : (m : View) (a v : ℕ) → is_ram a ≡ true → is_closed m.storage a ≡ false → (wrote m a v).rom ≡ m.rom
wrote_ram-rom m a v ram free =
    let p = kept-at a ram in
    ap (λ (n : View). n.rom) (written m a v p.0 p.1 p.2 free) ∙ rom-in p.0 p.1 m a v

-- ---- a read

plain-in : (w : Bool) (i : ℕ) (m : View) (a : ℕ) → is_free_place (place_by (place w i) m a) ≡ false
plain-in true i m a = refl
plain-in false i m a = refl

shown-in : (w : Bool) (i : ℕ) (m : View) (a : ℕ) → byte_by (place w i) m a ≡ peek_in (place w i) m.storage
shown-in true i m a = refl
shown-in false i m a = refl

ram-free : (m : View) (a : ℕ) → is_ram a ≡ true → is_closed m.storage a ≡ false → is_free m a ≡ false
unfolding is_free place_of
ram-free m a ram free = let p = kept-at a ram in rw (free, p.2.mapped) (plain-in p.0 p.1 m a)

ram-byte : (m : View) (a : ℕ) → is_ram a ≡ true → byte_at m a ≡ peek m.storage a
unfolding byte_at peek
ram-byte m a ram = let p = kept-at a ram in rw p.2.mapped (shown-in p.0 p.1 m a)

-- a byte of RAM that no OAM transfer closes is read as it stands
pub read_ram :
    (m : View) (a : ℕ) (queue : List ℕ) → is_ram a ≡ true → is_closed m.storage a ≡ false → read_at m a queue ≡ record { value = peek m.storage a; rest = queue }
unfolding read_at
read_ram m a queue ram free = rw (ram-free m a ram free, ram-byte m a ram) refl

pub read_ram-faultless : (m : View) (a : ℕ) → is_ram a ≡ true → is_closed m.storage a ≡ false → access_faults m a ≡ no_faults
unfolding access_faults
read_ram-faultless m a ram free = let outside : is_within 0xA000 0xBFFF a ≡ false = grind (arith, nat_tests) in rw (outside, free) refl

-- ---- what a changed byte leaves of a state's meaning

-- a core holds of another storage with the same IE, controller and count
pub MeansCore-storage :
    (core : Core) (entry : Activation) (x : MState) (t : Storage) → t.banks ≡ x.storage.banks → t.ie ≡ x.storage.ie → t.count ≡ x.storage.count
    → MeansCore core entry x → MeansCore core entry (record x { storage = t })
MeansCore-storage core entry x t banks ie count m =
    record {
      registers = m.registers;
      flags = m.flags;
      ie = subst (λ n. Holds core.ie entry n) (sym ie) m.ie;
      ime = m.ime;
      controller = subst (λ b. HoldsController core.ctl entry b) (sym banks) m.controller;
      count = subst (λ n. n ≤ core.bound) (sym count) m.count;
      locked = m.locked;
      stopped = m.stopped;
    }

-- the items keep their bytes
pub AreItems-same :
    (items : List Val) (entry : Activation) (first top : ℕ) (s t : Storage)
    → first + length items ≤ top → ((b : ℕ) → first ≤ b → b < top → peek t b ≡ peek s b) → AreItems items entry top s → AreItems items entry top t
AreItems-same [] entry first top s t room same h = tt
AreItems-same (v ∷ items) entry first top s t room same h = (
  subst (λ n. Holds v entry n) (sym (same (top - 1) (omega arith) (omega arith))) h.0,
  AreItems-same items entry first (top - 1) s t (omega arith) (λ b low high. same b low (omega arith)) h.1,
)

-- the region lies in RAM
pub region_in_ram : (region : Region) (b : ℕ) → IsRegion region → region.first ≤ b → b ≤ region.last → is_ram b ≡ true
region_in_ram region b r low high = let h = r.area in grind (arith, nat_tests)

outside-region : (region : Region) (a b : ℕ) → meets region a a ≡ false → region.first ≤ b → b ≤ region.last → (b == a) ≡ false
outside-region region a b h low high = grind (arith, nat_tests)

-- the items stay where the byte lies outside the region
pub AreItems-poked :
    (region : Region) (items : List Val) (entry : Activation) (base a n : ℕ) (s t : Storage)
    → IsPoked a n s t → IsRegion region → AreInRegion region base (length items) → meets region a a ≡ false
    → AreItems items entry base s → AreItems items entry base t
AreItems-poked region items entry base a n s t p r i apart h =
    AreItems-same items entry region.first base s t i.first
    (λ b low high.
    let end : b ≤ region.last = (let q = i.last in omega arith) in
    p.others b (region_in_ram region b r low end) (outside-region region a b apart low end))
    h

pub placed_in_ram : (region : Region) (c : Cell) → IsPlaced region c → is_ram c.address ≡ true
placed_in_ram region c p = let h = p.area in grind (arith, nat_tests)

-- cells at other addresses keep their bytes
AreCells-poked :
    (region : Region) (test : Cell → Bool) (cells : List Cell) (entry : Activation) (a n : ℕ) (s t : Storage)
    → IsPoked a n s t → ((c : Cell) → test c ≡ true → (c.address == a) ≡ false) → ArePlaced region cells → AreCells cells entry s → AreCells (filter test cells) entry t
AreCells-poked region test cells entry a n s t p other placed h =
    AllByRecursion-where (IsPlaced region) (λ c. Holds c.val entry (peek s c.address)) (λ c. Holds c.val entry (peek t c.address)) test
    (λ c e q k. subst (λ y. Holds c.val entry y) (sym (p.others c.address (placed_in_ram region c q) (other c e))) k)
    cells placed h

AreCells-apart :
    (region : Region) (cells : List Cell) (entry : Activation) (a n : ℕ) (s t : Storage)
    → IsPoked a n s t → list_any (is_at a) cells ≡ false → ArePlaced region cells → AreCells cells entry s → AreCells cells entry t
AreCells-apart region [] entry a n s t p none placed h = tt
AreCells-apart region (c ∷ cells) entry a n s t p none placed h =
    let q = neither (c.address == a) (list_any (is_at a) cells) none in (
      subst (λ y. Holds c.val entry y) (sym (p.others c.address (placed_in_ram region c placed.0) q.0)) h.0,
      AreCells-apart region cells entry a n s t p q.1 placed.1 h.1,
    )
  where
    neither : (b c : Bool) → (b || c) ≡ false → (b ≡ false) × (c ≡ false)
    neither true c h = cc
    neither false c h = (refl, h)

lower : (a b : ℕ) → nat_lt b a ≡ true → (b == a) ≡ false
lower a b h = grind (arith, nat_tests)

higher : (a b : ℕ) → nat_lt a b ≡ true → (b == a) ≡ false
higher a b h = grind (arith, nat_tests)

AreCells-entered :
    (region : Region) (cells : List Cell) (entry : Activation) (a n : ℕ) (v : Val) (s t : Storage)
    → IsPoked a n s t → Holds v entry n → ArePlaced region cells → AreCells cells entry s
    → AreCells (entered (record { address = a; val = v }) cells) entry t
unfolding entered
AreCells-entered region cells entry a n v s t p k placed h =
    AllByRecursion-append (λ c. Holds c.val entry (peek t c.address)) (filter (is_below a) cells) (record { address = a; val = v } ∷ filter (is_above a) cells)
    (AreCells-poked region (is_below a) cells entry a n s t p (λ c e. lower a c.address e) placed h)
    (subst (λ y. Holds v entry y) (sym p.byte) k, AreCells-poked region (is_above a) cells entry a n s t p (λ c e. higher a c.address e) placed h)

AreCells-with_cell :
    (region : Region) (room : ℕ) (cells : List Cell) (entry : Activation) (a n : ℕ) (v : Val) (s t : Storage)
    → IsPoked a n s t → Holds v entry n → ArePlaced region cells → AreCells cells entry s
    → AreCells (with_cell room (record { address = a; val = v }) cells) entry t
unfolding with_cell
AreCells-with_cell region room cells entry a n v s t p k placed h = choose (list_any (is_at a) cells) (nat_lt (length cells) room) refl
  where
    choose : (held fits : Bool) → list_any (is_at a) cells ≡ held → AreCells (cond (held || fits) (entered (record { address = a; val = v }) cells) cells) entry t
    choose true fits e = AreCells-entered region cells entry a n v s t p k placed h
    choose false true e = AreCells-entered region cells entry a n v s t p k placed h
    choose false false e = AreCells-apart region cells entry a n s t p e placed h

-- a byte is stored at one address: its cell gets the value
pub MeansParts-with_cell :
    (region : Region) (most : ℕ) (s : AbsState) (entry : Activation) (base : ℕ) (x : MState) (t : Storage) (a n : ℕ) (v : Val)
    → MeansParts s entry base x → IsPoked a n x.storage t → Holds v entry n → IsPlaced region (record { address = a; val = v })
    → ArePlaced region s.cells → AreInRegion region base (length s.items) → IsRegion region
    → MeansParts (record s { cells = with_cell most (record { address = a; val = v }) s.cells }) entry base (record x { storage = t })
MeansParts-with_cell region most s entry base x t a n v m p k place placed room r =
    record {
      core = MeansCore-storage s.core entry x t p.banks p.ie p.count m.core;
      memory = p.memory;
      sp = m.sp;
      stack = m.stack;
      items = AreItems-poked region s.items entry base a n x.storage t p r room place.apart m.items;
      cells = AreCells-with_cell region most s.cells entry a n v x.storage t p k placed m.cells;
    }

pub meets-inside : (region : Region) (first last a : ℕ) → meets region first last ≡ false → first ≤ a → a ≤ last → meets region a a ≡ false
meets-inside region first last a h low high = grind (arith, nat_tests)

outside-differs : (first last a b : ℕ) → first ≤ a → a ≤ last → not (is_within first last b) ≡ true → (b == a) ≡ false
outside-differs first last a b low high h = grind (arith, nat_tests)

AreCells-without_cells :
    (region : Region) (cells : List Cell) (entry : Activation) (a n first last : ℕ) (s t : Storage)
    → IsPoked a n s t → first ≤ a → a ≤ last → ArePlaced region cells → AreCells cells entry s → AreCells (without_cells first last cells) entry t
unfolding without_cells
AreCells-without_cells region cells entry a n first last s t p low high placed h =
    AreCells-poked region (is_outside first last) cells entry a n s t p (λ c e. outside-differs first last a c.address low high e) placed h

-- a byte is stored at one of several addresses: their cells are dropped
pub MeansParts-without_cells :
    (region : Region) (s : AbsState) (entry : Activation) (base : ℕ) (x : MState) (t : Storage) (a n first last : ℕ)
    → MeansParts s entry base x → IsPoked a n x.storage t → first ≤ a → a ≤ last → meets region first last ≡ false
    → ArePlaced region s.cells → AreInRegion region base (length s.items) → IsRegion region
    → MeansParts (record s { cells = without_cells first last s.cells }) entry base (record x { storage = t })
MeansParts-without_cells region s entry base x t a n first last m p low high apart placed room r =
    record {
      core = MeansCore-storage s.core entry x t p.banks p.ie p.count m.core;
      memory = p.memory;
      sp = m.sp;
      stack = m.stack;
      items = AreItems-poked region s.items entry base a n x.storage t p r room (meets-inside region first last a apart low high) m.items;
      cells = AreCells-without_cells region s.cells entry a n first last x.storage t p low high placed m.cells;
    }

-- ---- the operations

pub with_cell_sound :
    (s o : AbsState) (most a : ℕ) (v : Val) → o ≡ record s { cells = with_cell most (record { address = a; val = v }) s.cells } → IsSoundEntry a v s o
with_cell_sound s o most a v e =
    record {
      gives = λ region entry base x t n m p k place placed room r. subst (λ (w : AbsState). MeansParts w entry base (record x { storage = t })) (sym e)
          (MeansParts-with_cell region most s entry base x t a n v m p k place placed room r);
    }

pub without_cells_sound : (s o : AbsState) (first last : ℕ) → o ≡ record s { cells = without_cells first last s.cells } → IsSoundDrop first last s o
without_cells_sound s o first last e =
    record {
      gives = λ region entry base x t a n m p low high apart placed room r. subst (λ (w : AbsState). MeansParts w entry base (record x { storage = t })) (sym e)
          (MeansParts-without_cells region s entry base x t a n first last m p low high apart placed room r);
    }
