-- The cells of a state that may hold another value too.
use Rattle.std.proofs.Common.{◌≡◌, ℕ, zero, suc, ◌≤◌, ◌<◌, Bool, true, false, ◌&&◌, ◌||◌, ◌==◌, nat_lt, nat_le, cond, List, [], ◌∷◌, ◌++◌, length, drop, map, Option, Some, None, refl, sym, ◌∙◌, ap, subst, arith, length-append, length-drop}
use Rattle.std.proofs.lemmas.Bool.{eqb-true}
use Rattle.std.proofs.lemmas.List.{length-map}
use Rattle.std.proofs.lemmas.Bool.Decides.{nat_tests}
use Rattle.gb_ops.specs.declared.machine.Region.{Region}
use Rattle.gb_ops.specs.Cartridge.{is_within}
use Rattle.gb_ops.specs.Memory.{Storage}
use Rattle.gb_ops.specs.Play.{MState}
use Rattle.gb_domain.specs.declared.interval.StridedInterval.{StridedInterval}
use Rattle.gb_domain.specs.declared.types.Cell.{Cell}
use Rattle.gb_domain.specs.declared.types.Val.{Val}
use Rattle.gb_domain.specs.declared.types.Origin.{Origin}
use Rattle.gb_domain.specs.Types.{AbsState}
use Rattle.gb_domain.specs.Areas.{IsRegion, meets}
use Rattle.gb_domain.specs.Interval.{join}
use Rattle.gb_domain.specs.Meaning.{In, IsStrided, IsOfBytes}
use Rattle.gb_domain.specs.Rules.{IsVal, IsCell, after_cell}
use Rattle.gb_domain.specs.Values.{interval_of, have_same}
use Rattle.gb_domain.proofs.IntervalLaws.{In-join_first, In-join_second, IsOfBytes-join}
use Rattle.gb_domain.proofs.ValueLaws.{Has-same, same-Has, IsStrided-val}
use Rattle.gb_abs.specs.declared.span.Span.{Span}
use Rattle.gb_abs.specs.Storage.{peek}
use Rattle.gb_abs.specs.Covering.{covers_origin}
use Rattle.gb_abs.specs.Cells.{IsPlaced, ArePlaced, AreInOrder, common_origin, of_interval, widened, widened_at, widened_cells, IsWideningInOrder}
use Rattle.gb_abs.specs.Meaning.{Activation, origin_value, Holds, MeansParts}
use Rattle.gb_abs.specs.Span.{IsIn, counts}
use Rattle.gb_abs.specs.Stack.{AreInRegion}
use Rattle.gb_abs.specs.Poked.{IsPoked}
use Rattle.gb_abs.specs.Sound.{IsSoundWidening}
use Rattle.gb_abs.proofs.CoveringLaws.{AreCells, origin_from}
use Rattle.gb_abs.proofs.SpanLaws.{apart-from}
use Rattle.gb_abs.proofs.StorageLaws.{AreItems-poked, MeansCore-storage, placed_in_ram}

-- ---- lists

-- a loop over a list of at most 64 that has kept what each becomes has room for the next
pub mapped_room : {X Y : Type 0} (f : X → Y) (kept : List Y) (xs : List X) (i : ℕ) → kept ++ map f (drop i xs) ≡ map f xs → i < length xs → length xs ≤ 64 → length kept < 64
mapped_room f kept xs i e lt few =
    let whole = length-append kept (map f (drop i xs)) in
    let same = ap length e in
    let all = length-map xs f in
    let rest = length-map (drop i xs) f in
    let left = length-drop i xs in
    omega arith

-- ---- values

none_same : (o : Origin) → None ≡ Some o → ⊥
none_same o h = cc

pub origin_kept : (from to : Option Origin) (b : Bool) → covers_origin from to ≡ b → (o : Origin) → cond b to None ≡ Some o → (from ≡ Some o) × (to ≡ Some o)
origin_kept from to true h o e = (origin_from from to o h e, e)
origin_kept from to false h o e = absurd (none_same o e)

common_kept : (from to : Option Origin) (o : Origin) → common_origin from to ≡ Some o → (from ≡ Some o) × (to ≡ Some o)
common_kept from to o e = origin_kept from to (covers_origin from to) refl o e

In-value : (v : Val) (entry : Activation) (n : ℕ) → Holds v entry n → In (interval_of v) n
In-value v entry n h = record { least = h.least; most = h.most; low = Has-same v.low_bits n v.lo h.low }

Holds-of_interval : (i : StridedInterval) (from : Option Origin) (entry : Activation) (n : ℕ) → In i n → ((o : Origin) → from ≡ Some o → n ≡ origin_value o entry) → Holds (of_interval i from) entry n
Holds-of_interval i from entry n m own = record { least = m.least; most = m.most; low = same-Has i.count n i.lo m.low; origin = own }

pub Holds-widened : (whole : Bool) (v w : Val) (entry : Activation) (n : ℕ) → Holds v entry n → Holds (widened whole v w) entry n
Holds-widened true v w entry n h =
    Holds-of_interval (join (interval_of v) (interval_of w)) (common_origin v.origin w.origin) entry n (In-join_first (interval_of v) (interval_of w) n (In-value v entry n h))
    (λ o e. h.origin o (common_kept v.origin w.origin o e).0)
Holds-widened false v w entry n h =
    let least = h.least in
    let most = h.most in
    record {
      least = grind (arith, nat_tests);
      most = grind (arith, nat_tests);
      low = refl;
      origin = λ o e. h.origin o (common_kept v.origin w.origin o e).0;
    }

Holds-widening : (whole : Bool) (v w : Val) (entry : Activation) (n : ℕ) → Holds w entry n → Holds (widened whole v w) entry n
Holds-widening true v w entry n h =
    Holds-of_interval (join (interval_of v) (interval_of w)) (common_origin v.origin w.origin) entry n (In-join_second (interval_of v) (interval_of w) n (In-value w entry n h))
    (λ o e. h.origin o (common_kept v.origin w.origin o e).1)
Holds-widening false v w entry n h =
    let least = h.least in
    let most = h.most in
    record {
      least = grind (arith, nat_tests);
      most = grind (arith, nat_tests);
      low = refl;
      origin = λ o e. h.origin o (common_kept v.origin w.origin o e).1;
    }

-- low bits that are known, of two ends that differ
strided : (n lo hi : ℕ) → n < 8 → lo ≤ hi → (lo ≡ hi → n ≡ 0) → have_same n hi lo ≡ true → (n == 0 || nat_le n 7 && (nat_lt lo hi && have_same n hi lo)) ≡ true
strided zero lo hi few order one same = refl
strided (suc n) lo hi few order one same = rw same (tests (suc n) lo hi few order (λ e. none n (one e)))
  where
    none : (n : ℕ) → suc n ≡ 0 → ⊥
    none n e = omega arith

    tests : (n lo hi : ℕ) → n < 8 → lo ≤ hi → (lo ≡ hi → ⊥) → (n == 0 || nat_le n 7 && (nat_lt lo hi && true)) ≡ true
    tests n lo hi few order other = grind (arith, nat_tests)

-- an interval of bytes that is strided is a value
pub IsVal-of_interval : (i : StridedInterval) (from : Option Origin) → IsOfBytes i → IsVal (of_interval i from)
IsVal-of_interval i from h =
    let s : IsStrided i = h.strided in
    record {
      order = s.least.most;
      hi = h.most;
      strided = strided i.count i.lo i.hi s.count s.least.most s.one (same-Has i.count i.hi i.lo s.greatest.low);
    }

IsOfBytes-value : (v : Val) → IsVal v → IsOfBytes (interval_of v)
IsOfBytes-value v h = record { strided = IsStrided-val v h; most = h.hi }

pub IsVal-widened : (whole : Bool) (v w : Val) → IsVal v → IsVal w → IsVal (widened whole v w)
IsVal-widened true v w p q =
    IsVal-of_interval (join (interval_of v) (interval_of w)) (common_origin v.origin w.origin)
    (IsOfBytes-join (interval_of v) (interval_of w) (IsOfBytes-value v p) (IsOfBytes-value w q))
IsVal-widened false v w p q =
    let order = p.order in
    let hi = p.hi in
    let order' = q.order in
    let hi' = q.hi in
    record { order = grind (arith, nat_tests); hi = grind (arith, nat_tests); strided = refl }

-- ---- cells

-- a cell holds of its byte after a store to one of the addresses
Holds-widened_at :
    (whole : Bool) (region : Region) (c : Cell) (entry : Activation) (a n : ℕ) (span : Span) (v : Val) (s t : Storage)
    → IsPoked a n s t → Holds v entry n → IsIn span a → IsPlaced region c → Holds c.val entry (peek s c.address)
    → Holds (widened_at whole span v c).val entry (peek t (widened_at whole span v c).address)
Holds-widened_at whole region c entry a n span v s t p k i placed h = choose (counts span c.address) refl
  where
    old : (c.address == a) ≡ false → peek s c.address ≡ peek t c.address
    old e = sym (p.others c.address (placed_in_ram region c placed) e)

    here : (b : Bool) → (c.address == a) ≡ b → Holds (widened whole c.val v) entry (peek t c.address)
    here true e =
        let same : a ≡ c.address = sym (eqb-true c.address a e) in
        subst (λ b. Holds (widened whole c.val v) entry (peek t b)) same (subst (λ m. Holds (widened whole c.val v) entry m) (sym p.byte) (Holds-widening whole c.val v entry n k))
    here false e = subst (λ m. Holds (widened whole c.val v) entry m) (old e) (Holds-widened whole c.val v entry _ h)

    choose : (b : Bool) → counts span c.address ≡ b
        → Holds (cond b (record { address = c.address; val = widened whole c.val v }) c).val entry (peek t (cond b (record { address = c.address; val = widened whole c.val v }) c).address)
    choose true e = here (c.address == a) refl
    choose false e = subst (λ m. Holds c.val entry m) (old (apart-from span a c.address i e)) h

AreCells-widened :
    (whole : Bool) (region : Region) (cells : List Cell) (entry : Activation) (a n : ℕ) (span : Span) (v : Val) (s t : Storage)
    → IsPoked a n s t → Holds v entry n → IsIn span a → ArePlaced region cells → AreCells cells entry s → AreCells (widened_cells whole span v cells) entry t
unfolding widened_cells
AreCells-widened whole region [] entry a n span v s t p k i placed h = tt
AreCells-widened whole region (c ∷ cells) entry a n span v s t p k i placed h = (
  Holds-widened_at whole region c entry a n span v s t p k i placed.0 h.0,
  AreCells-widened whole region cells entry a n span v s t p k i placed.1 h.1,
)

IsPlaced-widened : (whole : Bool) (region : Region) (span : Span) (v : Val) (c : Cell) → IsPlaced region c → IsPlaced region (widened_at whole span v c)
IsPlaced-widened whole region span v c p = choose (counts span c.address)
  where
    choose : (b : Bool) → IsPlaced region (cond b (record { address = c.address; val = widened whole c.val v }) c)
    choose true = record { area = p.area; apart = p.apart }
    choose false = p

pub ArePlaced-widened : (whole : Bool) (region : Region) (span : Span) (v : Val) (cells : List Cell) → ArePlaced region cells → ArePlaced region (widened_cells whole span v cells)
unfolding widened_cells
ArePlaced-widened whole region span v [] h = tt
ArePlaced-widened whole region span v (c ∷ cells) h = (IsPlaced-widened whole region span v c h.0, ArePlaced-widened whole region span v cells h.1)

-- a byte is stored at one of several addresses: their cells may hold it too
pub MeansParts-widened_cells :
    (whole : Bool) (region : Region) (s : AbsState) (entry : Activation) (base : ℕ) (x : MState) (t : Storage) (a n : ℕ) (span : Span) (v : Val)
    → MeansParts s entry base x → IsPoked a n x.storage t → Holds v entry n → IsIn span a → meets region a a ≡ false
    → ArePlaced region s.cells → AreInRegion region base (length s.items) → IsRegion region
    → MeansParts (record s { cells = widened_cells whole span v s.cells }) entry base (record x { storage = t })
MeansParts-widened_cells whole region s entry base x t a n span v m p k i apart placed room r =
    record {
      core = MeansCore-storage s.core entry x t p.banks p.ie p.count m.core;
      memory = p.memory;
      sp = m.sp;
      stack = m.stack;
      items = AreItems-poked region s.items entry base a n x.storage t p r room apart m.items;
      cells = AreCells-widened whole region s.cells entry a n span v x.storage t p k i placed m.cells;
    }

-- ---- in order of address

IsCell-widened : (whole : Bool) (region : Region) (least : ℕ) (span : Span) (v : Val) (c : Cell) → IsVal v → IsCell region least c → IsCell region least (widened_at whole span v c)
IsCell-widened whole region least span v c q k = choose (counts span c.address)
  where
    choose : (b : Bool) → IsCell region least (cond b (record { address = c.address; val = widened whole c.val v }) c)
    choose true = record { order = k.order; area = k.area; apart = k.apart; val = IsVal-widened whole c.val v k.val q }
    choose false = k

after_same : (whole : Bool) (span : Span) (v : Val) (c : Cell) → after_cell c ≡ after_cell (widened_at whole span v c)
after_same whole span v c = choose (counts span c.address)
  where
    choose : (b : Bool) → after_cell c ≡ after_cell (cond b (record { address = c.address; val = widened whole c.val v }) c)
    choose true = refl
    choose false = refl

AreInOrder-widened :
    (whole : Bool) (region : Region) (least : ℕ) (span : Span) (v : Val) (cells : List Cell) → IsVal v → AreInOrder region least cells → AreInOrder region least (widened_cells whole span v cells)
unfolding widened_cells
AreInOrder-widened whole region least span v [] q h = tt
AreInOrder-widened whole region least span v (c ∷ cells) q h = (
  IsCell-widened whole region least span v c q h.0,
  subst (λ n. AreInOrder region n (widened_cells whole span v cells)) (after_same whole span v c) (AreInOrder-widened whole region (after_cell c) span v cells q h.1),
)

-- ---- the operation

pub widened_sound :
    (s o : AbsState) (whole : Bool) (span : Span) (v : Val) → o ≡ record s { cells = widened_cells whole span v s.cells } → IsSoundWidening span v s o
widened_sound s o whole span v e =
    record {
      gives = λ region entry base x t a n m p k i apart placed room r. subst (λ (w : AbsState). MeansParts w entry base (record x { storage = t })) (sym e)
          (MeansParts-widened_cells whole region s entry base x t a n span v m p k i apart placed room r);
    }

pub widened_ordered :
    (s o : AbsState) (whole : Bool) (span : Span) (v : Val) → o ≡ record s { cells = widened_cells whole span v s.cells } → IsWideningInOrder v s.cells o.cells
widened_ordered s o whole span v e =
    record { gives = λ region least q h. subst (λ (w : AbsState). AreInOrder region least w.cells) (sym e) (AreInOrder-widened whole region least span v s.cells q h) }
