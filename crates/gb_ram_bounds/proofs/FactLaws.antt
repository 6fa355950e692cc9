-- Facts hold after stores, and give a byte's values.
use Rattle.std.proofs.Common.{◌≡◌, ℕ, suc, ◌+◌, ◌-◌, ◌%◌, ◌<◌, ◌≤◌, Bool, true, false, not, ◌&&◌, ◌||◌, ◌==◌, nat_le, cond, List, [], ◌∷◌, length, take, Option, Some, None, refl, sym, ◌∙◌, ap, subst, arith}
use Rattle.std.proofs.lemmas.Bool.{and_parts, eqb-true}
use Rattle.std.proofs.lemmas.Bool.Decides.{nat_tests}
use Rattle.std.proofs.Math.Nat.{mod-mod_of_dvd, dvd_of_mod-eq-zero}
use Rattle.std.specs.Prelude.{min, max}
use Rattle.std.specs.List.{list_all}
use Rattle.gb_domain.specs.declared.interval.StridedInterval.{StridedInterval}
use Rattle.gb_domain.specs.LowBits.{modulus, are_congruent}
use Rattle.gb_domain.specs.Interval.{cut, lies_in}
use Rattle.gb_domain.specs.Meaning.{In, InSome}
use Rattle.gb_domain.specs.Values.{interval_of}
use Rattle.gb_domain.proofs.ModulusLaws.{each_modulus}
use Rattle.gb_domain.proofs.IntervalLaws.{cut_leaves, In-lies_in}
use Rattle.gb_domain.specs.declared.types.Cell.{Cell}
use Rattle.gb_ram_bounds.specs.declared.addresses.AddressSet.{AddressSet}
use Rattle.gb_domain.specs.declared.summary.Fact.{Fact}
use Rattle.gb_ram_bounds.specs.Cells.{cell_at, is_there, has_cell}
use Rattle.gb_ram_bounds.specs.Addresses.{is_in, is_one}
use Rattle.gb_ram_bounds.specs.Facts.{has_address, or_same, cut_or_same, cut_by_fact, cut_by_facts, is_met_at, meets, is_apart, is_broken, unbroken, is_to_cell, level_after, allows, is_given_back, keeps_facts}
use Rattle.gb_ram_bounds.specs.Meaning.{HoldCells, HoldsFact, HoldFacts, IsStored, HasCellsOf, IsSoundByFacts, IsSoundLevel, AreKept}
use Rattle.gb_ram_bounds.proofs.AddressLaws.{some_of-at, some_of-no}

-- ---- the byte at an address

or_same-In : (v : StridedInterval) (o : Option StridedInterval) (x : ℕ) → InSome o x → In (or_same v o) x
or_same-In v None x h = absurd h
or_same-In v (Some w) x h = h

pub cut_or_same-In : (v w : StridedInterval) (x : ℕ) → In v x → In w x → In (cut_or_same v w) x
unfolding cut_or_same
cut_or_same-In v w x h g =
    let left = cut_leaves v w (cut v w) refl in
    or_same-In v (cut v w) x (left.keeps x (record { first = h; second = g }))

cut_by_fact-In :
    (f : Fact) (a : ℕ) (v : StridedInterval) (cells : List Cell) (memory : ℕ → ℕ)
    → HoldsFact cells memory f → has_cell cells a ≡ false → In v (memory a) → In (cut_by_fact f a v) (memory a)
unfolding cut_by_fact
cut_by_fact-In f a v cells memory h free m = choose (has_address f a) refl
  where
    choose : (b : Bool) → has_address f a ≡ b → In (cond b (cut_or_same v f.value) v) (memory a)
    choose true e = cut_or_same-In v f.value (memory a) m (h.gives a e free)
    choose false e = m

pub cut_by_facts-In :
    (facts : List Fact) (a : ℕ) (v : StridedInterval) (cells : List Cell) (memory : ℕ → ℕ)
    → HoldFacts facts cells memory → has_cell cells a ≡ false → In v (memory a) → In (cut_by_facts facts a v) (memory a)
cut_by_facts-In [] a v cells memory h free m = m
cut_by_facts-In (f ∷ facts) a v cells memory h free m =
    cut_by_facts-In facts a (cut_by_fact f a v) cells memory h.1 free (cut_by_fact-In f a v cells memory h.0 free m)

pub cut_by_facts_sound :
    (facts : List Fact) (a : ℕ) (v o : StridedInterval) → o ≡ cut_by_facts facts a v → IsSoundByFacts facts a v o
cut_by_facts_sound facts a v o e =
    subst (λ r. IsSoundByFacts facts a v r) (sym e) (record { gives = λ cells memory. cut_by_facts-In facts a v cells memory })

-- ---- a store

-- an address that both have is met
pub record IsBetween (first last a : ℕ) : Type 0 where
  pub least : first ≤ a
  pub most : a ≤ last

at_most : (x y : ℕ) → nat_le x y ≡ true → x ≤ y
at_most x y h = grind (arith, nat_tests)

pub has_address-between : (f : Fact) (a : ℕ) → has_address f a ≡ true → IsBetween f.first f.last a
unfolding has_address
has_address-between f a h =
    let p = and_parts _ _ h in
    let q = and_parts _ _ p.0 in
    let r = and_parts _ _ q.0 in
    record { least = at_most f.first a r.0; most = at_most a f.last r.1 }

pub is_in-between : (s : AddressSet) (a : ℕ) → is_in s a ≡ true → IsBetween s.first s.last a
unfolding is_in
is_in-between s a h =
    let p = and_parts _ _ h in
    let q = and_parts _ _ p.0 in
    record { least = at_most s.first a q.0; most = at_most a s.last q.1 }

is_in-low : (s : AddressSet) (a : ℕ) → is_in s a ≡ true → a % modulus s.low.count ≡ s.low.bits % modulus s.low.count
unfolding is_in are_congruent
is_in-low s a h = let p = and_parts _ _ h in eqb-true (a % modulus s.low.count) (s.low.bits % modulus s.low.count) p.1

within_both : (a p q r s : ℕ) → p ≤ a → a ≤ q → r ≤ a → a ≤ s → (max p r ≤ a) × (a < max p r + (min q s + 1 - max p r))
within_both a p q r s h i j k = (omega arith, omega arith)

meets-at : (f : Fact) (s : AddressSet) (a : ℕ) → has_address f a ≡ true → is_in s a ≡ true → meets f s ≡ true
unfolding meets is_met_at
meets-at f s a h i =
    let p = has_address-between f a h in
    let q = is_in-between s a i in
    let w = within_both a f.first f.last s.first s.last p.least p.most q.least q.most in
    let both : (has_address f a && is_in s a) ≡ true = subst (λ b. (b && is_in s a) ≡ true) (sym h) i in
    some_of-at (is_met_at f s) (min f.last s.last + 1 - max f.first s.first) (max f.first s.first) a w.0 w.1 both

-- ---- low bits in common

abbrev AreAlike : ℕ → Type 0
AreAlike m = (first a : ℕ) → first ≤ a → (a - first) % m ≡ 0 → a % m ≡ first % m

alike : (n : ℕ) → AreAlike (modulus n)
alike =
    each_modulus AreAlike (λ first a l e. omega arith) (λ first a l e. omega arith) (λ first a l e. omega arith)
    (λ first a l e. omega arith) (λ first a l e. omega arith) (λ first a l e. omega arith)
    (λ first a l e. omega arith) (λ first a l e. omega arith) (λ first a l e. omega arith)

zero-left : (n : ℕ) → 0 % modulus n ≡ 0
zero-left = each_modulus (λ m. 0 % m ≡ 0) refl refl refl refl refl refl refl refl refl

-- what divides a step divides all that the step divides
multiple-left : (n x s : ℕ) → x % s ≡ 0 → s % modulus n ≡ 0 → x % modulus n ≡ 0
multiple-left n x s e d =
    sym (mod-mod_of_dvd (modulus n) x (dvd_of_mod-eq-zero (modulus n) d)) ∙ ap (λ z. z % modulus n) e ∙ zero-left n

address-alike : (n : ℕ) (f : Fact) (a : ℕ) → has_address f a ≡ true → f.step % modulus n ≡ 0 % modulus n → a % modulus n ≡ f.first % modulus n
unfolding has_address
address-alike n f a h d =
    let p = and_parts _ _ h in
    let b = has_address-between f a h in
    alike n f.first a b.least (multiple-left n (a - f.first) f.step (eqb-true ((a - f.first) % f.step) 0 p.1) (d ∙ zero-left n))

not_met : (f : Fact) (s : AddressSet) (a : ℕ) → is_apart f s ≡ true → is_met_at f s a ≡ false
unfolding is_met_at is_apart are_congruent
not_met f s a h = choose (has_address f a) refl (is_in s a) refl
  where
    differ : (x y : ℕ) → not (x == y) ≡ true → x ≡ y → ⊥
    differ x y e p = grind (arith, nat_tests)

    choose : (b : Bool) → has_address f a ≡ b → (c : Bool) → is_in s a ≡ c → (b && c) ≡ false
    choose false e c i = refl
    choose true e false i = refl
    choose true e true i =
        let p = and_parts (f.step % modulus s.low.count == 0 % modulus s.low.count) (not (f.first % modulus s.low.count == s.low.bits % modulus s.low.count)) h in
        let same = address-alike s.low.count f a e (eqb-true (f.step % modulus s.low.count) (0 % modulus s.low.count) p.0) in
        absurd (differ (f.first % modulus s.low.count) (s.low.bits % modulus s.low.count) p.1 (sym same ∙ is_in-low s a i))

pub meets_apart : (f : Fact) (s : AddressSet) → is_apart f s ≡ true → meets f s ≡ false
unfolding meets
meets_apart f s h =
    some_of-no (is_met_at f s) (min f.last s.last + 1 - max f.first s.first) (max f.first s.first) (λ a. not_met f s a h)

-- ---- what isn't broken

not_broken : (m l : Bool) → (m && not l) ≡ false → m ≡ true → l ≡ true
not_broken true true h e = refl
not_broken true false h e = cc
not_broken false l h e = cc

-- a fact that isn't broken allows what was stored
lies-unbroken :
    (s : AddressSet) (v : StridedInterval) (f : Fact) (a : ℕ)
    → is_broken s v f ≡ false → has_address f a ≡ true → is_in s a ≡ true → lies_in v f.value ≡ true
unfolding is_broken
lies-unbroken s v f a h i j = not_broken (meets f s) (lies_in v f.value) h (meets-at f s a i j)

-- a fact holds after a store that leaves its values where the fact has the address
HoldsFact-stored :
    (before after : List Cell) (memory stored : ℕ → ℕ) (s : AddressSet) (v : StridedInterval) (f : Fact)
    → HasCellsOf before after → (w : IsStored s v memory stored) → HoldsFact before memory f
    → (has_address f w.address ≡ true → has_cell after w.address ≡ false → In f.value (stored w.address))
    → HoldsFact after stored f
HoldsFact-stored before after memory stored s v f c w h there =
    record { gives = λ a has free. choose a has free (a == w.address) refl }
  where
    choose : (a : ℕ) → has_address f a ≡ true → has_cell after a ≡ false → (b : Bool) → (a == w.address) ≡ b → In f.value (stored a)
    choose a has free true e =
        let same : a ≡ w.address = eqb-true a w.address e in
        subst (λ z. In f.value (stored z)) (sym same)
        (there (subst (λ z. has_address f z ≡ true) same has) (subst (λ z. has_cell after z ≡ false) same free))
    choose a has free false e =
        let same : stored a ≡ memory a = w.others a (other a w.address e) in
        subst (λ z. In f.value z) (sym same) (h.gives a has (c.gives a free))
      where
        other : (a b : ℕ) → (a == b) ≡ false → a ≡ b → ⊥
        other a b e p = grind (arith, nat_tests)

HoldFacts-unbroken :
    (facts : List Fact) (before after : List Cell) (memory stored : ℕ → ℕ) (s : AddressSet) (v : StridedInterval)
    → HasCellsOf before after → IsStored s v memory stored → HoldFacts facts before memory
    → HoldFacts (take (unbroken s v facts) facts) after stored
HoldFacts-unbroken [] before after memory stored s v c w h = tt
HoldFacts-unbroken (f ∷ facts) before after memory stored s v c w h =
    choose (is_broken s v f) refl (HoldFacts-unbroken facts before after memory stored s v c w h.1)
  where
    choose :
        (b : Bool) → is_broken s v f ≡ b → HoldFacts (take (unbroken s v facts) facts) after stored
        → HoldFacts (take (cond b 0 (suc (unbroken s v facts))) (f ∷ facts)) after stored
    choose true e rest = tt
    choose false e rest = (
      HoldsFact-stored before after memory stored s v f c w h.0
          (λ has free. In-lies_in v f.value (stored w.address) (lies-unbroken s v f w.address e has w.among) w.value),
      rest,
    )

-- a store to a byte that has a cell now
HoldFacts-to_cell :
    (facts : List Fact) (before after : List Cell) (memory stored : ℕ → ℕ) (s : AddressSet) (v : StridedInterval)
    → HasCellsOf before after → (w : IsStored s v memory stored) → has_cell after w.address ≡ true → HoldFacts facts before memory
    → HoldFacts facts after stored
HoldFacts-to_cell [] before after memory stored s v c w has h = tt
HoldFacts-to_cell (f ∷ facts) before after memory stored s v c w has h = (
  HoldsFact-stored before after memory stored s v f c w h.0 (λ p free. absurd (not_both (has_cell after w.address) has free)),
  HoldFacts-to_cell facts before after memory stored s v c w has h.1,
)
  where
    not_both : (b : Bool) → b ≡ true → b ≡ false → ⊥
    not_both true p q = cc
    not_both false p q = cc

take-all : {A : Type 0} (xs : List A) → take (length xs) xs ≡ xs
take-all [] = refl
take-all (x ∷ xs) = ap (λ ys. x ∷ ys) (take-all xs)

one-address : (s : AddressSet) (a : ℕ) → is_one s ≡ true → is_in s a ≡ true → a ≡ s.first
unfolding is_one
one-address s a h i =
    let b = is_in-between s a i in
    let same : s.first ≡ s.last = eqb-true s.first s.last h in
    let low : s.first ≤ a = b.least in
    let high : a ≤ s.last = b.most in
    omega arith

pub to_cell-has : (after : List Cell) (s : AddressSet) (a : ℕ) → is_to_cell after s ≡ true → is_in s a ≡ true → has_cell after a ≡ true
unfolding is_to_cell
to_cell-has after s a e i =
    let p = and_parts _ _ e in
    subst (λ z. has_cell after z ≡ true) (sym (one-address s a p.0 i)) p.1

HoldFacts-level :
    (facts : List Fact) (before after : List Cell) (memory stored : ℕ → ℕ) (s : AddressSet) (v : StridedInterval)
    → HasCellsOf before after → IsStored s v memory stored → HoldFacts facts before memory
    → HoldFacts (take (level_after facts after s v) facts) after stored
unfolding level_after
HoldFacts-level facts before after memory stored s v c w h = choose (is_to_cell after s) refl
  where
    choose :
        (b : Bool) → is_to_cell after s ≡ b
        → HoldFacts (take (cond b (length facts) (unbroken s v facts)) facts) after stored
    choose true e =
        subst (λ fs. HoldFacts fs after stored) (sym (take-all facts))
        (HoldFacts-to_cell facts before after memory stored s v c w (to_cell-has after s w.address e w.among) h)
    choose false e = HoldFacts-unbroken facts before after memory stored s v c w h

pub level_after_sound :
    (facts : List Fact) (after : List Cell) (s : AddressSet) (v : StridedInterval) (n : ℕ)
    → n ≡ level_after facts after s v → IsSoundLevel facts after s v n
level_after_sound facts after s v n e =
    subst (λ k. IsSoundLevel facts after s v k) (sym e)
    (record { gives = λ before memory stored. HoldFacts-level facts before after memory stored s v })

-- ---- cells that go

-- the fact has another address, or the value lies in the fact's
abbrev allows_at : ℕ → StridedInterval → Fact → Bool
allows_at a v f = not (has_address f a) || lies_in v f.value

-- where a cell that is given back isn't kept, each fact allows it
allowed-given_back :
    (facts : List Fact) (kept : List Cell) (c : Cell)
    → is_given_back facts kept c ≡ true → has_cell kept c.address ≡ false
    → list_all (allows_at c.address (interval_of c.val)) facts ≡ true
unfolding is_given_back allows
allowed-given_back facts kept c h free = second (has_cell kept c.address) (list_all (allows c) facts) h free
  where
    second : (x y : Bool) → (x || y) ≡ true → x ≡ false → y ≡ true
    second false y h p = h
    second true y h p = cc

-- what each cell that goes says, each of the facts allows
abbrev AreAllowed : List Fact → List Cell → List Cell → Type 0
AreAllowed facts cells kept =
    (a : ℕ) (v : StridedInterval)
    → cell_at cells a ≡ Some v → has_cell kept a ≡ false → list_all (allows_at a v) facts ≡ true

-- a cell that is found is one of them
AreAllowed-given_back :
    (facts : List Fact) (kept cells : List Cell) → list_all (is_given_back facts kept) cells ≡ true → AreAllowed facts cells kept
AreAllowed-given_back facts kept [] h a v e free = cc
AreAllowed-given_back facts kept (c ∷ cells) h a v e free =
    let p = and_parts _ _ h in
    choose (c.address == a) refl e
    (allowed-given_back facts kept c p.0) (AreAllowed-given_back facts kept cells p.1 a v)
  where
    some_same : (x y : StridedInterval) → Some x ≡ Some y → x ≡ y
    some_same x y e = cc

    choose :
        (b : Bool) → (c.address == a) ≡ b → cond b (Some (interval_of c.val)) (cell_at cells a) ≡ Some v
        → (has_cell kept c.address ≡ false → list_all (allows_at c.address (interval_of c.val)) facts ≡ true)
        → (cell_at cells a ≡ Some v → has_cell kept a ≡ false → list_all (allows_at a v) facts ≡ true)
        → list_all (allows_at a v) facts ≡ true
    choose true same found first rest =
        let at : c.address ≡ a = eqb-true c.address a same in
        let value : interval_of c.val ≡ v = some_same (interval_of c.val) v found in
        subst (λ w. list_all (allows_at a w) facts ≡ true) value
        (subst (λ z. has_cell kept z ≡ false → list_all (allows_at z (interval_of c.val)) facts ≡ true) at first free)
    choose false other found first rest = rest found free

lies-allowed : (f : Fact) (a : ℕ) (v : StridedInterval) → allows_at a v f ≡ true → has_address f a ≡ true → lies_in v f.value ≡ true
lies-allowed f a v h has = second (has_address f a) (lies_in v f.value) h has
  where
    second : (x y : Bool) → (not x || y) ≡ true → x ≡ true → y ≡ true
    second true y h p = h
    second false y h p = cc

HoldsFact-kept :
    (f : Fact) (cells kept : List Cell) (memory : ℕ → ℕ)
    → ((a : ℕ) (v : StridedInterval) → cell_at cells a ≡ Some v → has_cell kept a ≡ false → allows_at a v f ≡ true)
    → HoldCells cells memory → HoldsFact cells memory f → HoldsFact kept memory f
unfolding has_cell
HoldsFact-kept f cells kept memory k c h = record { gives = λ a has free. choose a has free (cell_at cells a) refl }
  where
    choose :
        (a : ℕ) → has_address f a ≡ true → has_cell kept a ≡ false → (o : Option StridedInterval) → cell_at cells a ≡ o
        → In f.value (memory a)
    choose a has free None e = h.gives a has (ap is_there e)
    choose a has free (Some v) e = In-lies_in v f.value (memory a) (lies-allowed f a v (k a v e free) has) (c.gives a v e)

HoldFacts-kept :
    (facts : List Fact) (cells kept : List Cell) (memory : ℕ → ℕ)
    → AreAllowed facts cells kept → HoldCells cells memory → HoldFacts facts cells memory → HoldFacts facts kept memory
HoldFacts-kept [] cells kept memory k c h = tt
HoldFacts-kept (f ∷ facts) cells kept memory k c h = (
  HoldsFact-kept f cells kept memory (λ a v e free. (and_parts _ _ (k a v e free)).0) c h.0,
  HoldFacts-kept facts cells kept memory (λ a v e free. (and_parts _ _ (k a v e free)).1) c h.1,
)

pub keeps_facts_sound :
    (facts : List Fact) (cells kept : List Cell) (o : Bool) → o ≡ keeps_facts facts cells kept → o ≡ true → AreKept facts cells kept
unfolding keeps_facts
keeps_facts_sound facts cells kept o e h =
    record {
      gives = λ memory.
          HoldFacts-kept facts cells kept memory (AreAllowed-given_back facts kept cells (sym e ∙ h));
    }
