-- A word is pushed, and a word is popped: what the machine's stack holds then.
use Rattle.std.proofs.Common.{◌≡◌, ℕ, zero, suc, ◌+◌, ◌-◌, ◌/◌, ◌%◌, ◌≤◌, ◌<◌, Bool, true, false, not, ◌&&◌, ◌==◌, nat_lt, ◌⊎◌, inl, inr, cond, List, [], ◌∷◌, ◌++◌, length, take, slice_get, slice_index_or, Option, Some, None, refl, sym, ◌∙◌, ap, subst, arith, length-append, length-take-le}
use Rattle.std.proofs.lemmas.Bool.{eqb-true}
use Rattle.std.proofs.lemmas.Option.{slice_get-get_or}
use Rattle.std.specs.Prelude.{IfSome}
use Rattle.std.proofs.lemmas.Bool.Decides.{nat_tests}
use Rattle.gb_ops.specs.declared.machine.Region.{Region}
use Rattle.gb_ops.specs.declared.machine.Read.TheVariants as read
use Rattle.gb_ops.specs.declared.machine.Write.TheVariants as write
use Rattle.gb_ops.specs.declared.machine.Loaded.{Loaded}
use Rattle.gb_ops.specs.declared.registers.Processor.{Processor}
use Rattle.gb_ops.specs.Cartridge.{is_within}
use Rattle.gb_ops.specs.Memory.{Storage, View, mapped_at, is_closed, is_high, wrote, stored}
use Rattle.gb_ops.specs.Machine.{loaded}
use Rattle.gb_ops.specs.Effects.{with_sp}
use Rattle.gb_ops.specs.Faults.{no_faults, either_faults, push_faults, write_faults, access_faults, store_faults, load_faults}
use Rattle.gb_ops.specs.Play.{MState}
use Rattle.gb_domain.specs.declared.types.Core.{Core}
use Rattle.gb_domain.specs.declared.types.Val.{Val}
use Rattle.gb_domain.specs.declared.types.Halves.{Halves}
use Rattle.gb_domain.specs.declared.types.Cell.{Cell}
use Rattle.gb_domain.specs.Types.{AbsState}
use Rattle.gb_domain.specs.Areas.{IsRegion, meets}
use Rattle.gb_abs.specs.Storage.{is_ram, peek, peek_by}
use Rattle.gb_abs.specs.Operations.{with_core}
use Rattle.gb_abs.specs.Meaning.{Activation, Holds, MeansCore, AreItems, MeansParts, IsMemory, located_by, is_located}
use Rattle.gb_abs.specs.Cells.{ArePlaced}
use Rattle.gb_abs.specs.Stack.{AreInRegion, pushed, word_of, last_word, youngest, popped}
use Rattle.gb_abs.specs.Poked.{IsPoked}
use Rattle.gb_abs.specs.Sound.{IsRegionOpen, with_stack, Pushes, Pops, IsSoundPush, IsSoundPop}
use Rattle.gb_abs.proofs.LocationLaws.{located-more}
use Rattle.gb_abs.proofs.CoveringLaws.{AreCells}
use Rattle.gb_abs.proofs.StorageLaws.{high-at, region_in_ram, placed_in_ram, wrote-poked, wrote_ram-starting, wrote_ram-rom, read_ram, read_ram-faultless, AreItems-same, MeansCore-storage}

-- ---- an open region

-- as it is known of an abstract state
pub IsRegionOpen-bound :
    (core : Core) (entry : Activation) (x : MState) (region : Region) → MeansCore core entry x → (core.bound ≡ 0) ⊎ (0xFF80 ≤ region.first) → IsRegionOpen x.storage region
IsRegionOpen-bound core entry x region m (inl none) = let most = m.count in inl (omega arith)
IsRegionOpen-bound core entry x region m (inr high) = inr high

IsRegionOpen-count : (s t : Storage) (region : Region) → t.count ≡ s.count → IsRegionOpen s region → IsRegionOpen t region
IsRegionOpen-count s t region e (inl none) = inl (e ∙ none)
IsRegionOpen-count s t region e (inr high) = inr high

not-closed : (running high : Bool) → (running ≡ false) ⊎ (high ≡ true) → (running && not high) ≡ false
not-closed true high (inl h) = cc
not-closed true true (inr h) = refl
not-closed true false (inr h) = cc
not-closed false high h = refl

pub region_not_closed : (s : Storage) (region : Region) (a : ℕ) → IsRegion region → IsRegionOpen s region → region.first ≤ a → a ≤ region.last → is_closed s a ≡ false
unfolding is_closed
region_not_closed s region a r (inl none) low high = not-closed (not (s.count == 0)) (is_high (mapped_at a)) (inl (grind (arith, nat_tests)))
region_not_closed s region a r (inr first) low high =
    let area = r.area in
    let end : a < 0xFFFF = grind (arith, nat_tests) in
    not-closed (not (s.count == 0)) (is_high (mapped_at a)) (inr (ap is_high (high-at a (omega arith) end)))

-- ---- the two bytes of a push

-- where the bytes of a push stand
record IsTop (region : Region) (sp : ℕ) : Type 0 where
  high : (sp + 65535) % 65536 ≡ sp - 1
  low : (sp + 65534) % 65536 ≡ sp - 2
  some : 2 ≤ sp
  first : region.first ≤ sp - 2
  last : sp - 1 ≤ region.last

top-of : (region : Region) (sp : ℕ) → IsRegion region → AreInRegion region sp 2 → IsTop region sp
top-of region sp r i =
    let area = r.area in
    let first = i.first in
    let last = i.last in
    let end : region.last < 0xFFFF = grind (arith, nat_tests) in
    record { high = omega arith; low = omega arith; some = omega arith; first = omega arith; last = omega arith }

stored-push :
    (region : Region) (m : View) (sp w : ℕ) → IsTop region sp → stored m (write.Push sp w) ≡ wrote (wrote m (sp - 1) (w / 256)) (sp - 2) (w % 256)
unfolding stored
stored-push region m sp w p = rw (p.high, p.low) refl

high-byte : (w : ℕ) → w < 65536 → w / 256 ≤ 255
high-byte w h = omega arith

low-byte : (w : ℕ) → w % 256 ≤ 255
low-byte w = omega arith

-- ---- no faults

faultless-at :
    (region : Region) (m : View) (a v : ℕ) → is_within region.first region.last a ≡ true → is_within 0xA000 0xBFFF a ≡ false → (a == 0xFF46) ≡ false
    → is_closed m.storage a ≡ false → push_faults region m a v ≡ no_faults
unfolding push_faults write_faults access_faults
faultless-at region m a v inside ram transfer closed = rw (inside, ram, transfer, closed) refl

faultless :
    (region : Region) (m : View) (a v : ℕ) → IsRegion region → IsRegionOpen m.storage region → region.first ≤ a → a ≤ region.last → push_faults region m a v ≡ no_faults
faultless region m a v r clear low high =
    let area = r.area in
    faultless-at region m a v (grind (arith, nat_tests)) (grind (arith, nat_tests)) (grind (arith, nat_tests))
    (region_not_closed m.storage region a r clear low high)

-- ---- both bytes

first-poked :
    (region : Region) (m : View) (sp w : ℕ) → IsRegion region → IsTop region sp → IsRegionOpen m.storage region → IsMemory m.storage → w < 65536
    → IsPoked (sp - 1) (w / 256) m.storage (wrote m (sp - 1) (w / 256)).storage
first-poked region m sp w r p clear k lt =
    let some = p.some in
    let first = p.first in
    let low : region.first ≤ sp - 1 = omega arith in
    wrote-poked m (sp - 1) (w / 256) k (region_in_ram region (sp - 1) r low p.last) (high-byte w lt)
    (region_not_closed m.storage region (sp - 1) r clear low p.last)

-- what a push of the machine faults: nothing
pub push-faultless :
    (region : Region) (m : View) (sp w : ℕ) → IsRegion region → AreInRegion region sp 2 → IsRegionOpen m.storage region → IsMemory m.storage → w < 65536
    → store_faults region m (write.Push sp w) ≡ no_faults
unfolding store_faults either_faults
push-faultless region m sp w r i clear k lt =
    let p = top-of region sp r i in
    let some = p.some in
    let low = p.first in
    let high = p.last in
    let still = IsRegionOpen-count m.storage (wrote m (sp - 1) (w / 256)).storage region (first-poked region m sp w r p clear k lt).count clear in
    rw (
      p.high,
      p.low,
      faultless region m (sp - 1) (w / 256) r clear (omega arith) high,
      faultless region (wrote m (sp - 1) (w / 256)) (sp - 2) (w % 256) r still low (omega arith),
    ) refl

-- the storage after a push: the high byte changed, and then the low one
record ArePushed (sp w : ℕ) (s t : Storage) : Type 0 where
  between : Storage
  high : IsPoked (sp - 1) (w / 256) s between
  low : IsPoked (sp - 2) (w % 256) between t

are-pushed :
    (region : Region) (m : View) (sp w : ℕ) → IsRegion region → IsTop region sp → IsRegionOpen m.storage region → IsMemory m.storage → w < 65536
    → ArePushed sp w m.storage (stored m (write.Push sp w)).storage
are-pushed region m sp w r p clear k lt =
    let first = wrote m (sp - 1) (w / 256) in
    let some = p.some in
    let low = p.first in
    let high : sp - 2 ≤ region.last = (let q = p.last in omega arith) in
    let poked = first-poked region m sp w r p clear k lt in
    let again =
    wrote-poked first (sp - 2) (w % 256) poked.memory (region_in_ram region (sp - 2) r low high) (low-byte w)
    (region_not_closed first.storage region (sp - 2) r (IsRegionOpen-count m.storage first.storage region poked.count clear) low high) in
    record {
      between = first.storage;
      high = poked;
      low = subst (λ (n : View). IsPoked (sp - 2) (w % 256) first.storage n.storage) (sym (stored-push region m sp w p)) again;
    }

differs : (a b : ℕ) → (a ≡ b → ⊥) → (a == b) ≡ false
differs a b h = choose (a == b) refl
  where
    choose : (c : Bool) → (a == b) ≡ c → (a == b) ≡ false
    choose true e = absurd (h (eqb-true a b e))
    choose false e = e

-- bytes of RAM at other addresses stay
pushed-others :
    (region : Region) (sp w : ℕ) (s t : Storage) (b : ℕ) → ArePushed sp w s t → is_ram b ≡ true → (b ≡ sp - 1 → ⊥) → (b ≡ sp - 2 → ⊥) → peek t b ≡ peek s b
pushed-others region sp w s t b p ram n o = p.low.others b ram (differs b (sp - 2) o) ∙ p.high.others b ram (differs b (sp - 1) n)

-- ---- items and cells after a push

AreItems-more :
    (items : List Val) (i : Halves) (entry : Activation) (sp top : ℕ) (t : Storage) → sp + length items ≡ top
    → Holds i.high entry (peek t (sp - 1)) → Holds i.low entry (peek t (sp - 2)) → AreItems items entry top t
    → AreItems (items ++ i.high ∷ i.low ∷ []) entry top t
AreItems-more [] i entry sp top t e high low h =
    let same : sp ≡ top = omega arith in
    let below : sp - 2 ≡ top - 1 - 1 = omega arith in
    (subst (λ n. Holds i.high entry (peek t (n - 1))) same high, (subst (λ n. Holds i.low entry (peek t n)) below low, tt))
AreItems-more (v ∷ items) i entry sp top t e high low h = (h.0, AreItems-more items i entry sp (top - 1) t (omega arith) high low h.1)

AreCells-region :
    (region : Region) (cells : List Cell) (entry : Activation) (s t : Storage)
    → ((b : ℕ) → is_ram b ≡ true → meets region b b ≡ false → peek t b ≡ peek s b) → ArePlaced region cells → AreCells cells entry s → AreCells cells entry t
AreCells-region region [] entry s t same placed h = tt
AreCells-region region (c ∷ cells) entry s t same placed h = (
  subst (λ y. Holds c.val entry y) (sym (same c.address (placed_in_ram region c placed.0) placed.0.apart)) h.0,
  AreCells-region region cells entry s t same placed.1 h.1,
)

pub MeansCore-sp : (core : Core) (entry : Activation) (x : MState) (sp : ℕ) → MeansCore core entry x → MeansCore core entry (record x { processor = with_sp x.processor sp })
MeansCore-sp core entry x sp m =
    record {
      registers = m.registers;
      flags = m.flags;
      ie = m.ie;
      ime = m.ime;
      controller = m.controller;
      count = m.count;
      locked = m.locked;
      stopped = m.stopped;
    }

apart-from : (region : Region) (a b : ℕ) → region.first ≤ a → a ≤ region.last → meets region b b ≡ false → b ≡ a → ⊥
apart-from region a b low high h e = grind (arith, nat_tests)

MeansParts-pushed-to :
    (region : Region) (s : AbsState) (entry : Activation) (base : ℕ) (x : MState) (i : Halves) (w sp : ℕ) (t : Storage)
    → IsRegion region → AreInRegion region base (length s.items + 2) → ArePlaced region s.cells → is_located s ≡ true
    → Holds i.high entry (w / 256) → Holds i.low entry (w % 256) → IsTop region x.processor.sp → ArePushed x.processor.sp w x.storage t
    → MeansParts s entry base x → MeansParts (pushed i s) entry base (with_stack x (x.processor.sp - 2) t)
unfolding pushed
MeansParts-pushed-to region s entry base x i w sp t r room placed set high low top p m =
    let stack = m.stack set in
    let some = top.some in
    let first = top.first in
    let last = top.last in
    let inside = room.last in
    let same =
    (λ (b : ℕ) (above : x.processor.sp ≤ b) (end : b < base).
    pushed-others region x.processor.sp w x.storage t b p (region_in_ram region b r (omega arith) (omega arith)) (λ e. omega arith) (λ e. omega arith)) in
    let others =
    (λ (b : ℕ) (ram : is_ram b ≡ true) (apart : meets region b b ≡ false).
    pushed-others region x.processor.sp w x.storage t b p ram
    (apart-from region (x.processor.sp - 1) b (omega arith) last apart)
    (apart-from region (x.processor.sp - 2) b first (omega arith) apart)) in
    let high_ram = region_in_ram region (x.processor.sp - 1) r (omega arith) last in
    let high_is = p.low.others (x.processor.sp - 1) high_ram (differs (x.processor.sp - 1) (x.processor.sp - 2) (λ e. omega arith)) ∙ p.high.byte in
    record {
      core = MeansCore-storage s.core entry (record x { processor = with_sp x.processor (x.processor.sp - 2) }) t
          (p.low.banks ∙ p.high.banks) (p.low.ie ∙ p.high.ie) (p.low.count ∙ p.high.count)
          (MeansCore-sp s.core entry x (x.processor.sp - 2) m.core);
      memory = p.low.memory;
      sp = let small = m.sp in omega arith;
      stack = λ e. more s.items stack;
      items = AreItems-more s.items i entry x.processor.sp base t stack
          (subst (λ n. Holds i.high entry n) (sym high_is) high)
          (subst (λ n. Holds i.low entry n) (sym p.low.byte) low)
          (AreItems-same s.items entry x.processor.sp base x.storage t (omega arith) same m.items);
      cells = AreCells-region region s.cells entry x.storage t others placed m.cells;
    }
  where
    more : (items : List Val) → x.processor.sp + length items ≡ base → x.processor.sp - 2 + length (items ++ i.high ∷ i.low ∷ []) ≡ base
    more items e = let some = top.some in let n = length-append items (i.high ∷ i.low ∷ []) in omega arith

top_in_region : (region : Region) (base sp bytes : ℕ) → AreInRegion region base (bytes + 2) → sp + bytes ≡ base → AreInRegion region sp 2
top_in_region region base sp bytes i e = let first = i.first in let last = i.last in record { first = omega arith; last = omega arith }

stored-starting :
    (region : Region) (m : View) (sp w : ℕ) → IsRegion region → IsTop region sp → IsRegionOpen m.storage region → IsMemory m.storage → w < 65536
    → ((stored m (write.Push sp w)).starting ≡ m.starting) × ((stored m (write.Push sp w)).rom ≡ m.rom)
stored-starting region m sp w r p clear k lt =
    let first = wrote m (sp - 1) (w / 256) in
    let some = p.some in
    let low = p.first in
    let high : sp - 2 ≤ region.last = (let q = p.last in omega arith) in
    let above : region.first ≤ sp - 1 = omega arith in
    let ram = region_in_ram region (sp - 1) r above p.last in
    let ram' = region_in_ram region (sp - 2) r low high in
    let free = region_not_closed m.storage region (sp - 1) r clear above p.last in
    let free' =
    region_not_closed first.storage region (sp - 2) r
    (IsRegionOpen-count m.storage first.storage region (first-poked region m sp w r p clear k lt).count clear) low high in
    let is = stored-push region m sp w p in (
      ap (λ (n : View). n.starting) is ∙ wrote_ram-starting first (sp - 2) (w % 256) ram' free' ∙ wrote_ram-starting m (sp - 1) (w / 256) ram free,
      ap (λ (n : View). n.rom) is ∙ wrote_ram-rom first (sp - 2) (w % 256) ram' free' ∙ wrote_ram-rom m (sp - 1) (w / 256) ram free,
    )

abbrev machine : Processor → Storage → MState
machine p t = record { processor = p; storage = t }

pushes :
    (region : Region) (s : AbsState) (entry : Activation) (base : ℕ) (p : Processor) (m : View) (i : Halves) (w : ℕ)
    → MeansParts s entry base (machine p m.storage) → is_located s ≡ true → AreInRegion region base (length s.items + 2)
    → IsRegion region → ArePlaced region s.cells → IsRegionOpen m.storage region → Holds i.high entry (w / 256) → Holds i.low entry (w % 256) → w < 65536
    → Pushes region (pushed i s) entry base (machine p m.storage) m w
pushes region s entry base p m i w means set room r placed clear high low lt =
    let inside = top_in_region region base p.sp (length s.items) room (means.stack set) in
    let top = top-of region p.sp r inside in
    let done = are-pushed region m p.sp w r top clear means.memory lt in
    let others = stored-starting region m p.sp w r top clear means.memory lt in
    record {
      means = subst (λ n. MeansParts (pushed i s) entry base (with_stack (machine p m.storage) n (stored m (write.Push p.sp w)).storage)) (sym top.low)
          (MeansParts-pushed-to region s entry base (machine p m.storage) i w p.sp (stored m (write.Push p.sp w)).storage r room placed set high low top done means);
      faults = push-faultless region m p.sp w r inside clear means.memory lt;
      starting = others.0;
      rom = others.1;
      banks = done.low.banks ∙ done.high.banks;
      ie = done.low.ie ∙ done.high.ie;
      count = done.low.count ∙ done.high.count;
      others = λ b ram n o. done.low.others b ram o ∙ done.high.others b ram n;
    }

-- a word is pushed: the high byte at SP-1, the low byte at SP-2
pub MeansParts-pushed :
    (region : Region) (s : AbsState) (entry : Activation) (base : ℕ) (x : MState) (m : View) (i : Halves) (w : ℕ)
    → MeansParts s entry base x → m.storage ≡ x.storage → is_located s ≡ true → AreInRegion region base (length s.items + 2)
    → IsRegion region → ArePlaced region s.cells → IsRegionOpen x.storage region → Holds i.high entry (w / 256) → Holds i.low entry (w % 256) → w < 65536
    → Pushes region (pushed i s) entry base x m w
MeansParts-pushed region s entry base x m i w means same set room r placed clear high low lt =
    let moved = ap (machine x.processor) same in
    let held = pushes region s entry base x.processor m i w (subst (λ y. MeansParts s entry base y) (sym moved) means) set room r placed
    (subst (λ t. IsRegionOpen t region) (sym same) clear) high low lt in
    subst (λ y. Pushes region (pushed i s) entry base y m w) moved held

-- ---- a pop

-- the youngest word stands on top, n bytes below it
pub record AreTop (items : List Val) (n : ℕ) (i : Halves) (entry : Activation) (sp top : ℕ) (t : Storage) : Type 0 where
  pub high : Holds i.high entry (peek t (sp + 1))
  pub low : Holds i.low entry (peek t sp)
  pub rest : AreItems (take n items) entry top t

halves-same : (high low : Val) (i : Halves) → word_of (Some high) (Some low) ≡ Some i → (i.high ≡ high) × (i.low ≡ low)
halves-same high low i h = (cc, cc)

are-top :
    (items : List Val) (n : ℕ) (i : Halves) (entry : Activation) (sp top : ℕ) (t : Storage)
    → word_of (slice_get items n) (slice_get items (suc n)) ≡ Some i → length items ≡ suc (suc n)
    → sp + length items ≡ top → AreItems items entry top t → AreTop items n i entry sp top t
are-top [] n i entry sp top t is many e h = cc
are-top (u ∷ []) n i entry sp top t is many e h = cc
are-top (u ∷ v ∷ items) zero i entry sp top t is many e h =
    let same = halves-same u v i is in
    let none : length items ≡ 0 = omega arith in
    let one : top - 1 ≡ sp + 1 = omega arith in
    let two : top - 1 - 1 ≡ sp = omega arith in
    record {
      high = subst (λ w. Holds w entry (peek t (sp + 1))) (sym same.0) (subst (λ n. Holds u entry (peek t n)) one h.0);
      low = subst (λ w. Holds w entry (peek t sp)) (sym same.1) (subst (λ n. Holds v entry (peek t n)) two h.1.0);
      rest = tt;
    }
are-top (u ∷ v ∷ items) (suc n) i entry sp top t is many e h =
    let rest = are-top (v ∷ items) n i entry sp (top - 1) t is (omega arith) (omega arith) h.1 in
    record { high = rest.high; low = rest.low; rest = (h.0, rest.rest) }

-- a word that is there has two bytes
record IsLast (items : List Val) (i : Halves) : Type 0 where
  some : 2 ≤ length items
  is : word_of (slice_get items (length items - 2)) (slice_get items (length items - 1)) ≡ Some i

is-last : (items : List Val) (i : Halves) → last_word items ≡ Some i → IsLast items i
is-last items i h = choose (nat_lt (length items) 2) refl h
  where
    choose : (b : Bool) → nat_lt (length items) 2 ≡ b
        → cond b None (word_of (slice_get items (length items - 2)) (slice_get items (length items - 1))) ≡ Some i → IsLast items i
    choose true e k = cc
    choose false e k = record { some = grind (arith, nat_tests); is = k }

-- the word that was pushed last stands where SP points
pub AreTop-youngest :
    (s : AbsState) (i : Halves) (entry : Activation) (sp top : ℕ) (t : Storage)
    → youngest s ≡ Some i → sp + length s.items ≡ top → AreItems s.items entry top t → AreTop s.items (length s.items - 2) i entry sp top t
unfolding youngest
AreTop-youngest s i entry sp top t is stack h =
    let last = is-last s.items i is in
    let some = last.some in
    let next : suc (length s.items - 2) ≡ length s.items - 1 = omega arith in
    let bytes = subst (λ n. word_of (slice_get s.items (length s.items - 2)) (slice_get s.items n) ≡ Some i) (sym next) last.is in
    are-top s.items (length s.items - 2) i entry sp top t bytes (omega arith) stack h

-- of two bytes or more, the last two are a word
pub youngest_is :
    (s : AbsState) (items : List Val) (d : Val) → items ≡ s.items → 2 ≤ length items
    → youngest s ≡ Some (record { high = slice_index_or items (length items - 2) d; low = slice_index_or items (length items - 1) d })
unfolding youngest
youngest_is s items d same some = ap last_word (sym same) ∙ whole
  where
    first : slice_get items (length items - 2) ≡ Some (slice_index_or items (length items - 2) d)
    first = slice_get-get_or items (length items - 2) d (omega arith)

    second : slice_get items (length items - 1) ≡ Some (slice_index_or items (length items - 1) d)
    second = slice_get-get_or items (length items - 1) d (omega arith)

    enough : nat_lt (length items) 2 ≡ false
    enough = grind (arith, nat_tests)

    whole : last_word items ≡ Some (record { high = slice_index_or items (length items - 2) d; low = slice_index_or items (length items - 1) d })
    whole = rw (enough, first, second) refl

-- where the two bytes of a pop stand
record IsTwo (region : Region) (sp : ℕ) : Type 0 where
  second : (sp + 1) % 65536 ≡ sp + 1
  behind : (sp + 2) % 65536 ≡ sp + 2
  first : region.first ≤ sp
  last : sp + 1 ≤ region.last

word-at : (region : Region) (base sp bytes : ℕ) → IsRegion region → AreInRegion region base bytes → 2 ≤ bytes → sp + bytes ≡ base → IsTwo region sp
word-at region base sp bytes r i some e =
    let area = r.area in
    let first = i.first in
    let last = i.last in
    let end : region.last < 0xFFFF = grind (arith, nat_tests) in
    record { second = omega arith; behind = omega arith; first = omega arith; last = omega arith }

loaded-word :
    (m : View) (sp : ℕ) (free : List ℕ) → (sp + 1) % 65536 ≡ sp + 1 → is_ram sp ≡ true → is_ram (sp + 1) ≡ true
    → is_closed m.storage sp ≡ false → is_closed m.storage (sp + 1) ≡ false
    → loaded m (read.Word sp) free ≡ record { low = peek m.storage sp; high = peek m.storage (sp + 1) }
unfolding loaded
loaded-word m sp free e ram ram' clear clear' = rw (e, read_ram m sp free ram clear, read_ram m (sp + 1) free ram' clear') refl

loaded-faultless :
    (m : View) (sp : ℕ) → (sp + 1) % 65536 ≡ sp + 1 → is_ram sp ≡ true → is_ram (sp + 1) ≡ true
    → is_closed m.storage sp ≡ false → is_closed m.storage (sp + 1) ≡ false → load_faults m (read.Word sp) ≡ no_faults
unfolding load_faults either_faults
loaded-faultless m sp e ram ram' clear clear' = rw (e, read_ram-faultless m sp ram clear, read_ram-faultless m (sp + 1) ram' clear') refl

pops :
    (region : Region) (s : AbsState) (entry : Activation) (base : ℕ) (p : Processor) (m : View) (i : Halves) (free : List ℕ)
    → MeansParts s entry base (machine p m.storage) → is_located s ≡ true → youngest s ≡ Some i → AreInRegion region base (length s.items)
    → IsRegion region → IsRegionOpen m.storage region → Pops (popped s) i entry base (machine p m.storage) m free
unfolding popped youngest
pops region s entry base p m i free means set is room r clear =
    let stack = means.stack set in
    let last = is-last s.items i is in
    let some = last.some in
    let word = word-at region base p.sp (length s.items) r room some stack in
    let low = word.first in
    let high = word.last in
    let under : p.sp ≤ region.last = omega arith in
    let above : region.first ≤ p.sp + 1 = omega arith in
    let ram = region_in_ram region p.sp r low under in
    let ram' = region_in_ram region (p.sp + 1) r above high in
    let near = region_not_closed m.storage region p.sp r clear low under in
    let far = region_not_closed m.storage region (p.sp + 1) r clear above high in
    let top = AreTop-youngest s i entry p.sp base m.storage is stack means.items in
    let given = loaded-word m p.sp free word.second ram ram' near far in
    record {
      low = subst (λ (v : Loaded). Holds i.low entry v.low) (sym given) top.low;
      high = subst (λ (v : Loaded). Holds i.high entry v.high) (sym given) top.high;
      faults = loaded-faultless m p.sp word.second ram ram' near far;
      means = record {
        core = MeansCore-sp s.core entry (machine p m.storage) ((p.sp + 2) % 65536) means.core;
        memory = means.memory;
        sp = omega arith;
        stack = λ e. less s.items word.behind some stack;
        items = top.rest;
        cells = means.cells;
      };
    }
  where
    less :
        (items : List Val) → (p.sp + 2) % 65536 ≡ p.sp + 2 → 2 ≤ length items → p.sp + length items ≡ base
        → (p.sp + 2) % 65536 + length (take (length items - 2) items) ≡ base
    less items behind some e = let n : length (take (length items - 2) items) ≡ length items - 2 = length-take-le (length items - 2) items (omega arith) in omega arith

-- a word is popped: the two bytes that the machine reads are the youngest word's
pub Pops-popped :
    (region : Region) (s : AbsState) (entry : Activation) (base : ℕ) (x : MState) (m : View) (i : Halves) (free : List ℕ)
    → MeansParts s entry base x → m.storage ≡ x.storage → is_located s ≡ true → youngest s ≡ Some i → AreInRegion region base (length s.items)
    → IsRegion region → IsRegionOpen x.storage region → Pops (popped s) i entry base x m free
Pops-popped region s entry base x m i free means same set is room r clear =
    let moved = ap (machine x.processor) same in
    let held = pops region s entry base x.processor m i free (subst (λ y. MeansParts s entry base y) (sym moved) means) set is room r
    (subst (λ t. IsRegionOpen t region) (sym same) clear) in
    subst (λ y. Pops (popped s) i entry base y m free) moved held

-- ---- another core

peek-same : (s t : Storage) (b : ℕ) → t.work ≡ s.work → t.high ≡ s.high → peek t b ≡ peek s b
unfolding peek
peek-same s t b work high = ap (λ xs. peek_by (mapped_at b) xs t.high) work ∙ ap (λ xs. peek_by (mapped_at b) s.work xs) high

IsMemory-same : (s t : Storage) → t.work ≡ s.work → t.high ≡ s.high → IsMemory s → IsMemory t
IsMemory-same s t work high k =
    record {
      work = ap length work ∙ k.work;
      high = ap length high ∙ k.high;
      bytes = λ b. subst (λ n. n ≤ 255) (sym (peek-same s t b work high)) (k.bytes b);
    }

AreItems-all :
    (items : List Val) (entry : Activation) (top : ℕ) (s t : Storage) → ((b : ℕ) → peek t b ≡ peek s b) → AreItems items entry top s → AreItems items entry top t
AreItems-all [] entry top s t same h = tt
AreItems-all (v ∷ items) entry top s t same h =
    (subst (λ n. Holds v entry n) (sym (same (top - 1))) h.0, AreItems-all items entry (top - 1) s t same h.1)

AreCells-all :
    (cells : List Cell) (entry : Activation) (s t : Storage) → ((b : ℕ) → peek t b ≡ peek s b) → AreCells cells entry s → AreCells cells entry t
AreCells-all [] entry s t same h = tt
AreCells-all (c ∷ cells) entry s t same h = (subst (λ n. Holds c.val entry n) (sym (same c.address)) h.0, AreCells-all cells entry s t same h.1)

-- a core that holds of a machine with the same memory, its stack pointer where the items say
pub MeansParts-with_stack :
    (s : AbsState) (core : Core) (entry : Activation) (base : ℕ) (x y : MState)
    → MeansParts s entry base x → MeansCore core entry y → y.storage.work ≡ x.storage.work → y.storage.high ≡ x.storage.high → y.processor.sp < 65536
    → (located_by s.summary.aside core.stack_set ≡ true → y.processor.sp + length s.items ≡ base) → MeansParts (with_core s core) entry base y
MeansParts-with_stack s core entry base x y m c work high sp stack =
    record {
      core = c;
      memory = IsMemory-same x.storage y.storage work high m.memory;
      sp = sp;
      stack = stack;
      items = AreItems-all s.items entry base x.storage y.storage (λ b. peek-same x.storage y.storage b work high) m.items;
      cells = AreCells-all s.cells entry x.storage y.storage (λ b. peek-same x.storage y.storage b work high) m.cells;
    }

-- a core that holds of a machine with the same memory and stack pointer
pub MeansParts-with_core :
    (s : AbsState) (core : Core) (entry : Activation) (base : ℕ) (x y : MState)
    → MeansParts s entry base x → MeansCore core entry y → y.storage.work ≡ x.storage.work → y.storage.high ≡ x.storage.high
    → y.processor.sp ≡ x.processor.sp → (core.stack_set ≡ true → s.core.stack_set ≡ true) → MeansParts (with_core s core) entry base y
MeansParts-with_core s core entry base x y m c work high sp set =
    MeansParts-with_stack s core entry base x y m c work high (subst (λ n. n < 65536) (sym sp) m.sp) (λ e. ap (λ n. n + length s.items) sp ∙ m.stack (located-more s.summary.aside s.core.stack_set core.stack_set set e))

-- ---- the operations

pub push_sound : (s : AbsState) (i : Halves) (room : ℕ) (o : Option AbsState) → o ≡ cond (nat_lt room (length s.items + 2)) None (Some (pushed i s)) → IfSome o (λ after. IsSoundPush s i after)
push_sound s i room o e = subst (λ r. IfSome r (λ after. IsSoundPush s i after)) (sym e) (choose (nat_lt room (length s.items + 2)))
  where
    choose : (b : Bool) → IfSome (cond b None (Some (pushed i s))) (λ after. IsSoundPush s i after)
    choose true = tt
    choose false =
        record { gives = λ region entry base x m w means same set room r placed clear high low lt. MeansParts-pushed region s entry base x m i w means same set room r placed clear high low lt }

pub pop_sound : (s : AbsState) (i : Halves) (after : AbsState) → youngest s ≡ Some i → after ≡ popped s → IsSoundPop s i after
pop_sound s i after is e =
    subst (λ t. IsSoundPop s i t) (sym e)
    (record { gives = λ region entry base x m free means same set room r clear. Pops-popped region s entry base x m i free means same set is room r clear })
