-- Cells that get their places by address: what holds of each of them, and that of many the first come out alike.
use Rattle.std.proofs.Common.{◌≡◌, ℕ, zero, suc, ◌+◌, ◌≤◌, ◌<◌, Bool, true, false, nat_lt, cond, List, [], ◌∷◌, ◌++◌, length, map, take, drop, insert, get_or, refl, sym, ◌∙◌, ap, arith}
use Rattle.std.proofs.lemmas.List.{length-map, take-take, take_all, at_drop_more}
use Rattle.std.specs.List.{AllByRecursion, filter}
use Rattle.gb_domain.specs.declared.types.Cell.{Cell}
use Rattle.gb_domain.specs.declared.types.Range.{Range}
use Rattle.gb_calls.specs.Resuming.{is_in_ranges, is_out_of_ranges, inserted, merged, all_cells_back}

-- ---- what holds of each

AllByRecursion-inserted : (P : Cell → Type 0) (c : Cell) (cells : List Cell) → P c → AllByRecursion P cells → AllByRecursion P (inserted c cells)
AllByRecursion-inserted P c [] p h = (p, tt)
AllByRecursion-inserted P c (d ∷ ds) p h = choose (nat_lt c.address d.address) (AllByRecursion-inserted P c ds p h.1)
  where
    choose : (b : Bool) → AllByRecursion P (inserted c ds) → AllByRecursion P (cond b (c ∷ d ∷ ds) (d ∷ inserted c ds))
    choose true rest = (p, h)
    choose false rest = (h.0, rest)

pub AllByRecursion-merged :
    (P : Cell → Type 0) (cs others : List Cell) → AllByRecursion P cs → AllByRecursion P others → AllByRecursion P (merged cs others)
AllByRecursion-merged P [] others p h = h
AllByRecursion-merged P (c ∷ cs) others p h = AllByRecursion-merged P cs (inserted c others) p.1 (AllByRecursion-inserted P c others p.0 h)

pub AllByRecursion-take : {X : Type 0} (P : X → Type 0) (n : ℕ) (xs : List X) → AllByRecursion P xs → AllByRecursion P (take n xs)
AllByRecursion-take P zero xs h = tt
AllByRecursion-take P (suc n) [] h = tt
AllByRecursion-take P (suc n) (x ∷ xs) h = (h.0, AllByRecursion-take P n xs h.1)

-- ---- the first of many

take-front : (n : ℕ) (d : Cell) (ds : List Cell) → take n (d ∷ take n ds) ≡ take n (d ∷ ds)
take-front zero d ds = refl
take-front (suc n) d ds = ap (λ xs. d ∷ xs) (take-take n (suc n) ds (omega arith))

-- where the last fall, it doesn't matter whether they fell before
take-inserted : (n : ℕ) (c : Cell) (ds : List Cell) → take n (inserted c (take n ds)) ≡ take n (inserted c ds)
take-inserted zero c ds = refl
take-inserted (suc n) c [] = refl
take-inserted (suc n) c (d ∷ ds) = choose (nat_lt c.address d.address) (take-inserted n c ds)
  where
    choose :
        (b : Bool) → take n (inserted c (take n ds)) ≡ take n (inserted c ds)
        → take (suc n) (cond b (c ∷ d ∷ take n ds) (d ∷ inserted c (take n ds))) ≡ take (suc n) (cond b (c ∷ d ∷ ds) (d ∷ inserted c ds))
    choose true rest = ap (λ xs. c ∷ xs) (take-front n d ds)
    choose false rest = ap (λ xs. d ∷ xs) rest

take-merged : (n : ℕ) (cs ds : List Cell) → take n (merged cs (take n ds)) ≡ take n (merged cs ds)
take-merged n [] ds = take-take n n ds (omega arith)
take-merged n (c ∷ cs) ds =
    sym (take-merged n cs (inserted c (take n ds)))
    ∙ ap (λ xs. take n (merged cs xs)) (take-inserted n c ds)
    ∙ take-merged n cs (inserted c ds)

-- ---- a place among others

-- one that isn't above the cell is passed
pub inserted-passed :
    (c : Cell) (xs : List Cell) (i : ℕ) (d : Cell) → i < length xs → nat_lt c.address (get_or xs i d).address ≡ false
    → take (i + 1) xs ++ inserted c (drop (i + 1) xs) ≡ take i xs ++ inserted c (drop i xs)
inserted-passed c [] i d lt h = absurd (omega arith)
inserted-passed c (x ∷ xs) zero d lt h = ap (λ b. cond b (c ∷ x ∷ xs) (x ∷ inserted c xs)) (sym h)
inserted-passed c (x ∷ xs) (suc i) d lt h =
    let e : suc i + 1 ≡ suc (i + 1) = omega arith in
    rw e (ap (λ ys. x ∷ ys) (inserted-passed c xs i d (omega arith) h))

-- before one that is above it, the cell stands
pub inserted-here :
    (c : Cell) (xs : List Cell) (i : ℕ) (d : Cell) → i < length xs → nat_lt c.address (get_or xs i d).address ≡ true
    → inserted c (drop i xs) ≡ c ∷ drop i xs
inserted-here c [] i d lt h = absurd (omega arith)
inserted-here c (x ∷ xs) zero d lt h = ap (λ b. cond b (c ∷ x ∷ xs) (x ∷ inserted c xs)) h
inserted-here c (x ∷ xs) (suc i) d lt h = inserted-here c xs i d (omega arith) h

-- the last fall before or after
insert-taken : (n i : ℕ) (c : Cell) (xs : List Cell) → i ≤ n → i ≤ length xs → insert (take n xs) i c ≡ take (suc n) (insert xs i c)
insert-taken n zero c xs most within = refl
insert-taken zero (suc i) c xs most within = absurd (omega arith)
insert-taken (suc n) (suc i) c [] most within = absurd (omega arith)
insert-taken (suc n) (suc i) c (x ∷ xs) most within = ap (λ ys. x ∷ ys) (insert-taken n i c xs (omega arith) (omega arith))

insert-fallen : (n : ℕ) (c : Cell) (xs : List Cell) → n ≤ length xs → take n (insert xs n c) ≡ take n xs
insert-fallen zero c xs within = refl
insert-fallen (suc n) c [] within = absurd (omega arith)
insert-fallen (suc n) c (x ∷ xs) within = ap (λ ys. x ∷ ys) (insert-fallen n c xs (omega arith))

-- with 63 places before it, a cell is put in its own
pub put-inside :
    (c : Cell) (xs : List Cell) (place : ℕ) → inserted c xs ≡ insert xs place c → place < 64 → place ≤ length xs
    → insert (take 63 xs) place c ≡ take 64 (inserted c xs)
put-inside c xs place is few within = insert-taken 63 place c xs (omega arith) within ∙ ap (λ ys. take 64 ys) (sym is)

-- with 64 before it, it falls itself
pub put-behind :
    (c : Cell) (xs : List Cell) (place : ℕ) → inserted c xs ≡ insert xs place c → 64 ≤ place → place ≤ length xs → length xs ≤ 64
    → xs ≡ take 64 (inserted c xs)
put-behind c xs place is many within few =
    let at : place ≡ 64 = omega arith in
    sym (ap (λ ys. take 64 ys) (is ∙ ap (λ n. insert xs n c) at) ∙ insert-fallen 64 c xs (omega arith) ∙ take_all 64 xs few)

-- ---- one after the other

-- those of an exit's cells that pass a test, as they are given back
abbrev pub written : (Cell → Cell) → (Cell → Bool) → List Cell → List Cell
written given test xs = map given (filter test xs)

written-cons : (given : Cell → Cell) (test : Cell → Bool) (x : Cell) (xs : List Cell) (b : Bool) → test x ≡ b
    → written given test (x ∷ xs) ≡ cond b (given x ∷ written given test xs) (written given test xs)
written-cons given test x xs true e = ap (λ b. map given (cond b (x ∷ filter test xs) (filter test xs))) e
written-cons given test x xs false e = ap (λ b. map given (cond b (x ∷ filter test xs) (filter test xs))) e

-- a cell that passes is put in its place
pub merged-put :
    (given : Cell → Cell) (test : Cell → Bool) (from held : List Cell) (i : ℕ) (d : Cell) → i < length from → test (get_or from i d) ≡ true
    → take 64 (merged (written given test (drop (i + 1) from)) (take 64 (inserted (given (get_or from i d)) held)))
    ≡ take 64 (merged (written given test (drop i from)) held)
merged-put given test from held i d lt e =
    take-merged 64 (written given test (drop (i + 1) from)) (inserted (given (get_or from i d)) held)
    ∙ ap (λ cs. take 64 (merged cs held)) (sym (at_drop_more (written given test) from i d lt ∙ written-cons given test (get_or from i d) (drop (i + 1) from) true e))

-- another one is passed
pub merged-passed :
    (given : Cell → Cell) (test : Cell → Bool) (from held : List Cell) (i : ℕ) (d : Cell) → i < length from → test (get_or from i d) ≡ false
    → take 64 (merged (written given test (drop (i + 1) from)) held) ≡ take 64 (merged (written given test (drop i from)) held)
merged-passed given test from held i d lt e =
    ap (λ cs. take 64 (merged cs held)) (sym (at_drop_more (written given test) from i d lt ∙ written-cons given test (get_or from i d) (drop (i + 1) from) false e))

-- ---- fewer of them

pub take_fewer : (n : ℕ) (xs : List Cell) → n ≤ 64 → take n (take 64 xs) ≡ take n xs
take_fewer n xs h = taken n 64 xs h
  where
    taken : (n m : ℕ) (xs : List Cell) → n ≤ m → take n (take m xs) ≡ take n xs
    taken zero m xs h = refl
    taken (suc n) zero xs h = absurd (omega arith)
    taken (suc n) (suc m) [] h = refl
    taken (suc n) (suc m) (x ∷ xs) h = ap (λ ys. x ∷ ys) (taken n m xs (omega arith))

-- ---- how many there are

length-inserted : (c : Cell) (cells : List Cell) → length (inserted c cells) ≡ suc (length cells)
length-inserted c [] = refl
length-inserted c (d ∷ ds) = choose (nat_lt c.address d.address) (length-inserted c ds)
  where
    choose : (b : Bool) → length (inserted c ds) ≡ suc (length ds) → length (cond b (c ∷ d ∷ ds) (d ∷ inserted c ds)) ≡ suc (suc (length ds))
    choose true e = refl
    choose false e = ap suc e

length-merged : (cs others : List Cell) → length (merged cs others) ≡ length cs + length others
length-merged [] others = omega arith
length-merged (c ∷ cs) others =
    let rest = length-merged cs (inserted c others) in
    let more = length-inserted c others in
    omega arith

pub all_counted :
    (given : Cell → Cell) (ranges : List Range) (caller exit : List Cell)
    → length (all_cells_back given ranges caller exit) ≡ length (filter (is_out_of_ranges ranges) caller) + length (filter (is_in_ranges ranges) exit)
all_counted given ranges caller exit =
    let all = length-merged (map given (filter (is_in_ranges ranges) exit)) (filter (is_out_of_ranges ranges) caller) in
    let same = length-map (filter (is_in_ranges ranges) exit) given in
    omega arith
