-- The cells of a state as a list: what is kept when one gets a value and when some are dropped.
use Rattle.std.proofs.Common.{◌≡◌, ℕ, zero, suc, ◌+◌, ◌≤◌, ◌<◌, Bool, true, false, ◌||◌, ◌==◌, nat_lt, cond, List, [], ◌∷◌, ◌++◌, length, drop, get_or, None, refl, sym, ◌∙◌, ap, subst, arith, length-append}
use Rattle.std.proofs.lemmas.Bool.{and_parts}
use Rattle.std.proofs.lemmas.Bool.Decides.{nat_tests}
use Rattle.std.proofs.lemmas.List.Sums.{length-filter, count_by-le-length}
use Rattle.std.specs.List.{AllByRecursion, filter, list_all, list_any}
use Rattle.gb_ops.specs.declared.machine.Region.{Region}
use Rattle.gb_domain.specs.declared.types.Cell.{Cell}
use Rattle.gb_domain.specs.Types.{AbsState}
use Rattle.gb_domain.specs.Rules.{IsChain, IsCell, after_cell}
use Rattle.gb_abs.specs.Cells.{is_below, is_above, is_at, entered, with_cell, is_outside, without_cells, IsPlaced, ArePlaced, AreInOrder, IsEntryInOrder, IsDropInOrder}

-- ---- lists

pub AllByRecursion-where :
    {X : Type 0} (P Q R : X → Type 0) (test : X → Bool) → ((x : X) → test x ≡ true → P x → Q x → R x) → (xs : List X)
    → AllByRecursion P xs → AllByRecursion Q xs → AllByRecursion R (filter test xs)
AllByRecursion-where P Q R test f [] p q = tt
AllByRecursion-where P Q R test f (x ∷ xs) p q = choose (test x) refl (AllByRecursion-where P Q R test f xs p.1 q.1)
  where
    choose : (b : Bool) → test x ≡ b → AllByRecursion R (filter test xs) → AllByRecursion R (cond b (x ∷ filter test xs) (filter test xs))
    choose true e rest = (f x e p.0 q.0, rest)
    choose false e rest = rest

pub AllByRecursion-append : {X : Type 0} (P : X → Type 0) (xs ys : List X) → AllByRecursion P xs → AllByRecursion P ys → AllByRecursion P (xs ++ ys)
AllByRecursion-append P [] ys p q = q
AllByRecursion-append P (x ∷ xs) ys p q = (p.0, AllByRecursion-append P xs ys p.1 q)

-- ---- a cell behind all others

not_above : (a b : ℕ) → nat_lt b a ≡ true → nat_lt a b ≡ false
not_above a b h = grind (arith, nat_tests)

all_below : (a : ℕ) (cells : List Cell) → list_all (is_below a) cells ≡ true → filter (is_below a) cells ≡ cells
all_below a [] h = refl
all_below a (c ∷ cells) h = choose (nat_lt c.address a) (and_parts _ _ h).0 (all_below a cells (and_parts _ _ h).1)
  where
    choose : (b : Bool) → b ≡ true → filter (is_below a) cells ≡ cells → cond b (c ∷ filter (is_below a) cells) (filter (is_below a) cells) ≡ c ∷ cells
    choose true e rest = ap (λ cs. c ∷ cs) rest
    choose false e rest = cc

none_above : (a : ℕ) (cells : List Cell) → list_all (is_below a) cells ≡ true → filter (is_above a) cells ≡ []
none_above a [] h = refl
none_above a (c ∷ cells) h = choose (nat_lt a c.address) (not_above a c.address (and_parts _ _ h).0) (none_above a cells (and_parts _ _ h).1)
  where
    choose : (b : Bool) → b ≡ false → filter (is_above a) cells ≡ [] → cond b (c ∷ filter (is_above a) cells) (filter (is_above a) cells) ≡ []
    choose true e rest = cc
    choose false e rest = rest

-- all others are below it
pub entered_last : (c : Cell) (cells : List Cell) → list_all (is_below c.address) cells ≡ true → entered c cells ≡ cells ++ c ∷ []
unfolding entered
entered_last c cells h =
    ap (λ xs. xs ++ c ∷ filter (is_above c.address) cells) (all_below c.address cells h) ∙ ap (λ xs. cells ++ c ∷ xs) (none_above c.address cells h)

-- ---- in their places

pub ArePlaced-chain : (region : Region) (least : ℕ) (cells : List Cell) → IsChain (IsCell region) after_cell least cells → ArePlaced region cells
ArePlaced-chain region least [] h = tt
ArePlaced-chain region least (c ∷ cells) h = (record { area = h.0.area; apart = h.0.apart }, ArePlaced-chain region (after_cell c) cells h.1)

pub ArePlaced-where : (region : Region) (test : Cell → Bool) (cells : List Cell) → ArePlaced region cells → ArePlaced region (filter test cells)
ArePlaced-where region test cells h = AllByRecursion-where (IsPlaced region) (IsPlaced region) (IsPlaced region) test (λ c e p q. p) cells h h

pub ArePlaced-entered : (region : Region) (c : Cell) (cells : List Cell) → IsPlaced region c → ArePlaced region cells → ArePlaced region (entered c cells)
unfolding entered
ArePlaced-entered region c cells p h =
    AllByRecursion-append (IsPlaced region) (filter (is_below c.address) cells) (c ∷ filter (is_above c.address) cells)
    (ArePlaced-where region (is_below c.address) cells h) (p, ArePlaced-where region (is_above c.address) cells h)

pub ArePlaced-with_cell : (region : Region) (room : ℕ) (c : Cell) (cells : List Cell) → IsPlaced region c → ArePlaced region cells → ArePlaced region (with_cell room c cells)
unfolding with_cell
ArePlaced-with_cell region room c cells p h = choose (list_any (is_at c.address) cells || nat_lt (length cells) room)
  where
    choose : (b : Bool) → ArePlaced region (cond b (entered c cells) cells)
    choose true = ArePlaced-entered region c cells p h
    choose false = h

pub ArePlaced-without_cells : (region : Region) (first last : ℕ) (cells : List Cell) → ArePlaced region cells → ArePlaced region (without_cells first last cells)
unfolding without_cells
ArePlaced-without_cells region first last cells h = ArePlaced-where region (is_outside first last) cells h

-- ---- in order of address

lowered : (region : Region) (least least' : ℕ) (cells : List Cell) → least' ≤ least → AreInOrder region least cells → AreInOrder region least' cells
lowered region least least' [] le h = tt
lowered region least least' (c ∷ cells) le h =
    (record { order = (let o = h.0.order in omega arith); area = h.0.area; apart = h.0.apart; val = h.0.val }, h.1)

AreInOrder-where :
    (region : Region) (test : Cell → Bool) (least : ℕ) (cells : List Cell) → AreInOrder region least cells → AreInOrder region least (filter test cells)
AreInOrder-where region test least [] h = tt
AreInOrder-where region test least (c ∷ cells) h = choose (test c) (AreInOrder-where region test (after_cell c) cells h.1)
  where
    choose : (b : Bool) → AreInOrder region (after_cell c) (filter test cells) → AreInOrder region least (cond b (c ∷ filter test cells) (filter test cells))
    choose true rest = (h.0, rest)
    choose false rest = lowered region (after_cell c) least (filter test cells) (let o = h.0.order in omega arith) rest

-- from an address on, below which no cell passes the test
AreInOrder-from :
    (region : Region) (test : Cell → Bool) (from least : ℕ) (cells : List Cell)
    → ((c : Cell) → test c ≡ true → from ≤ c.address) → AreInOrder region least cells → AreInOrder region from (filter test cells)
AreInOrder-from region test from least [] f h = tt
AreInOrder-from region test from least (c ∷ cells) f h = choose (test c) refl (AreInOrder-from region test from (after_cell c) cells f h.1)
  where
    choose : (b : Bool) → test c ≡ b → AreInOrder region from (filter test cells) → AreInOrder region from (cond b (c ∷ filter test cells) (filter test cells))
    choose true e rest =
        (record { order = f c e; area = h.0.area; apart = h.0.apart; val = h.0.val }, AreInOrder-where region test (after_cell c) cells h.1)
    choose false e rest = rest

AreInOrder-joined :
    (region : Region) (least : ℕ) (before : List Cell) (c : Cell) (behind : List Cell)
    → AreInOrder region least before → AllByRecursion (λ d. d.address < c.address) before → IsCell region least c
    → AreInOrder region (after_cell c) behind → AreInOrder region least (before ++ c ∷ behind)
AreInOrder-joined region least [] c behind h below k rest = (k, rest)
AreInOrder-joined region least (d ∷ before) c behind h below k rest =
    let order : d.address + 1 ≤ c.address = (let q = below.0 in omega arith) in
    (h.0, AreInOrder-joined region (after_cell d) before c behind h.1 below.1 (record { order = order; area = k.area; apart = k.apart; val = k.val }) rest)

below : (a b : ℕ) → nat_lt b a ≡ true → b < a
below a b h = grind (arith, nat_tests)

pub AreInOrder-entered :
    (region : Region) (least : ℕ) (c : Cell) (cells : List Cell) → IsCell region least c → AreInOrder region least cells → AreInOrder region least (entered c cells)
unfolding entered
AreInOrder-entered region least c cells k h =
    let placed = ArePlaced-chain region least cells h in
    AreInOrder-joined region least (filter (is_below c.address) cells) c (filter (is_above c.address) cells)
    (AreInOrder-where region (is_below c.address) least cells h)
    (AllByRecursion-where (IsPlaced region) (IsPlaced region) (λ d. d.address < c.address) (is_below c.address) (λ d e p q. below c.address d.address e) cells placed placed)
    k
    (AreInOrder-from region (is_above c.address) (after_cell c) least cells (λ d e. let q = below d.address c.address e in omega arith) h)

-- a state's cells stay in order where one gets a value
pub AreInOrder-with_cell :
    (region : Region) (least room : ℕ) (c : Cell) (cells : List Cell) → IsCell region least c → AreInOrder region least cells → AreInOrder region least (with_cell room c cells)
unfolding with_cell
AreInOrder-with_cell region least room c cells k h = choose (list_any (is_at c.address) cells || nat_lt (length cells) room)
  where
    choose : (b : Bool) → AreInOrder region least (cond b (entered c cells) cells)
    choose true = AreInOrder-entered region least c cells k h
    choose false = h

-- a state's cells stay in order where some are dropped
pub AreInOrder-without_cells :
    (region : Region) (least first last : ℕ) (cells : List Cell) → AreInOrder region least cells → AreInOrder region least (without_cells first last cells)
unfolding without_cells
AreInOrder-without_cells region least first last cells h = AreInOrder-where region (is_outside first last) least cells h

pub with_cell_ordered : (s o : AbsState) (room : ℕ) (c : Cell) → o ≡ record s { cells = with_cell room c s.cells } → IsEntryInOrder c s.cells o.cells
with_cell_ordered s o room c e =
    record { gives = λ region least k h. subst (λ (w : AbsState). AreInOrder region least w.cells) (sym e) (AreInOrder-with_cell region least room c s.cells k h) }

pub without_cells_ordered : (s o : AbsState) (first last : ℕ) → o ≡ record s { cells = without_cells first last s.cells } → IsDropInOrder s.cells o.cells
without_cells_ordered s o first last e =
    record { gives = λ region least h. subst (λ (w : AbsState). AreInOrder region least w.cells) (sym e) (AreInOrder-without_cells region least first last s.cells h) }

-- ---- how many there are

at_one : (a b : ℕ) → cond (nat_lt b a) 1 0 + cond (b == a) 1 0 + cond (nat_lt a b) 1 0 ≡ 1
at_one a b = grind (arith, nat_tests)

length-one : {X : Type 0} (b : Bool) (x : X) (xs : List X) → length (cond b (x ∷ xs) xs) ≡ cond b 1 0 + length xs
length-one true x xs = omega arith
length-one false x xs = omega arith

-- each cell is below the address, there or above
length-three : (a : ℕ) (cells : List Cell) → length (filter (is_below a) cells) + length (filter (is_at a) cells) + length (filter (is_above a) cells) ≡ length cells
length-three a [] = refl
length-three a (c ∷ cells) =
    let rest = length-three a cells in
    let one = at_one a c.address in
    let below = length-one (is_below a c) c (filter (is_below a) cells) in
    let at = length-one (is_at a c) c (filter (is_at a) cells) in
    let above = length-one (is_above a c) c (filter (is_above a) cells) in
    omega arith

passed : {X : Type 0} (b : Bool) (x : X) (xs : List X) → b ≡ true → 1 ≤ length (cond b (x ∷ xs) xs)
passed true x xs h = omega arith
passed false x xs h = cc

some-at : {X : Type 0} (test : X → Bool) (xs : List X) → list_any test xs ≡ true → 1 ≤ length (filter test xs)
some-at test [] h = cc
some-at test (x ∷ xs) h = choose (test x) h (some-at test xs)
  where
    choose : (b : Bool) → (b || list_any test xs) ≡ true → (list_any test xs ≡ true → 1 ≤ length (filter test xs)) → 1 ≤ length (cond b (x ∷ filter test xs) (filter test xs))
    choose true h rest = omega arith
    choose false h rest = rest h

-- a cell that finds its place leaves at most 64
pub entered_fits :
    (room : ℕ) (c : Cell) (cells : List Cell)
    → room ≤ 64 → (list_any (is_at c.address) cells || nat_lt (length cells) room) ≡ true → length cells ≤ 64 → length (entered c cells) ≤ 64
unfolding entered
entered_fits room c cells small h most =
    let three = length-three c.address cells in
    let sum = length-append (filter (is_below c.address) cells) (c ∷ filter (is_above c.address) cells) in
    let left = spare (list_any (is_at c.address) cells) (length cells) (length (filter (is_at c.address) cells)) h (some-at (is_at c.address) cells) most in
    omega arith
  where
    spare : (b : Bool) (n k : ℕ) → (b || nat_lt n room) ≡ true → (b ≡ true → 1 ≤ k) → n ≤ 64 → n < 64 + k
    spare true n k h some most = let one = some refl in omega arith
    spare false n k h some most = grind (arith, nat_tests)

pub length-where : {X : Type 0} (test : X → Bool) (xs : List X) → length (filter test xs) ≤ length xs
length-where test xs = let n = length-filter test xs in let m = count_by-le-length test xs in omega arith

-- what a loop over cells takes for a cell behind the last
abbrev pub blank : Cell
blank = record { address = 0; val = record { lo = 0; hi = 0; low_bits = 0; origin = None } }

-- what is left of a list has an element that passes
left : {X : Type 0} (test : X → Bool) (xs : List X) (i : ℕ) (d : X) → i < length xs → test (get_or xs i d) ≡ true → 1 ≤ length (filter test (drop i xs))
left test [] i d lt h = absurd (omega arith)
left test (x ∷ xs) zero d lt h = passed (test x) x (filter test xs) h
left test (x ∷ xs) (suc i) d lt h = left test xs i d (omega arith) h

-- a loop over a list that has kept what passes has room for the next
pub room_left :
    {X : Type 0} (test : X → Bool) (kept xs before : List X) (i : ℕ) (d : X) → kept ++ filter test (drop i xs) ≡ before ++ filter test xs → i < length xs
    → test (get_or xs i d) ≡ true → length before + length (filter test xs) ≤ 64 → length kept < 64
room_left test kept xs before i d e lt h most =
    let some = left test xs i d lt h in
    let one = length-append kept (filter test (drop i xs)) in
    let two = length-append before (filter test xs) in
    let same = ap length e in
    omega arith
