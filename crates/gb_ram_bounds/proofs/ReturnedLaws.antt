-- Facts and fills where a routine returns hold.
use Rattle.std.proofs.Common.{◌≡◌, ℕ, zero, suc, ◌+◌, ◌-◌, ◌<◌, ◌≤◌, Bool, true, false, not, ◌&&◌, ◌||◌, nat_le, nat_lt, min, cond, List, [], ◌∷◌, length, take, Option, Some, None, inl, inr, refl, sym, ◌∙◌, ap, subst, arith}
use Rattle.std.proofs.lemmas.Bool.{and_parts, or_cases}
use Rattle.std.proofs.lemmas.Bool.Decides.{nat_tests}
use Rattle.std.specs.List.{list_any, list_all}
use Rattle.gb_domain.specs.declared.types.Range.{Range}
use Rattle.gb_domain.specs.declared.pairs.Bounds.{Bounds}
use Rattle.gb_domain.specs.Meaning.{In}
use Rattle.gb_domain.specs.declared.types.Cell.{Cell}
use Rattle.gb_domain.specs.declared.summary.Fact.{Fact}
use Rattle.gb_ram_bounds.specs.declared.pointers.Pointers.{Pointers}
use Rattle.gb_domain.specs.declared.summary.FillEnd.{FillEnd}
use Rattle.gb_domain.specs.declared.summary.Fill.{Fill}
use Rattle.gb_ram_bounds.specs.Cells.{has_cell}
use Rattle.gb_ram_bounds.specs.Addresses.{each_between}
use Rattle.gb_ram_bounds.specs.Facts.{has_address}
use Rattle.gb_ram_bounds.specs.Fills.{at_pointer, is_reached, reaches, is_between, bytes_of, fixed_at}
use Rattle.gb_ram_bounds.specs.Meaning.{HoldsFact, HoldFacts, HoldsFill, HoldsSome, PointersIn}
use Rattle.gb_ram_bounds.specs.Returned.{is_in_range, is_in_ranges, lies_in_range, lies_in_one, misses_range, misses_all, claims, stays_at, stays, staying, kept_or_fixed, left_of_caller, IsReturn, IsSoundReturnedLevel, IsSoundExitFill, KeepsPointers, IsSoundCallerFill}
use Rattle.gb_ram_bounds.proofs.AddressLaws.{each_of-all, each_of-at}
use Rattle.gb_ram_bounds.proofs.FactLaws.{has_address-between}
use Rattle.gb_ram_bounds.proofs.FillLaws.{HoldsSome-fixed, HoldsFill-elsewhere, HoldsFill-none, at_most}

-- ---- facts

claimed : (has cell claim : Bool) → (not has || cell || claim) ≡ true → has ≡ true → cell ≡ false → claim ≡ true
claimed true false claim h i j = h
claimed true true claim h i j = cc
claimed false cell claim h i j = cc

counted : (first last a : ℕ) → first ≤ a → a ≤ last → a < first + (last + 1 - first)
counted first last a low high = omega arith

-- at an address without a cell the fact's byte is the exit's or the caller's
In-claimed :
    (ranges : List Range) (exit caller cells : List Cell) (before after : ℕ → ℕ) (in_exit in_caller : Bool) (f : Fact) (a : ℕ)
    → IsReturn ranges exit caller cells before after
    → (in_exit ≡ true → HoldsFact exit after f) → (in_caller ≡ true → HoldsFact caller before f)
    → has_address f a ≡ true → has_cell cells a ≡ false
    → claims (is_in_ranges ranges a) in_exit in_caller (has_cell exit a) ≡ true → In f.value (after a)
In-claimed ranges exit caller cells before after in_exit in_caller f a r x c has free h = place (is_in_ranges ranges a) refl h
  where
    by_exit : in_exit ≡ true → has_cell exit a ≡ false → In f.value (after a)
    by_exit e none = (x e).gives a has none

    by_caller : is_in_ranges ranges a ≡ false → in_caller ≡ true → In f.value (after a)
    by_caller out e = subst (λ n. In f.value n) (sym (r.memory a out)) ((c e).gives a has (r.outside a out free))

    none_of : (b : Bool) → not b ≡ true → b ≡ false
    none_of true i = cc
    none_of false i = refl

    place : (b : Bool) → is_in_ranges ranges a ≡ b → claims b in_exit in_caller (has_cell exit a) ≡ true → In f.value (after a)
    place true inside i = by_exit i (r.inside a inside free)
    place false out i = elim (or_cases in_caller (in_exit && not (has_cell exit a)) i) [
      | inl e ↦ by_caller out e
      | inr e ↦ let both = and_parts in_exit (not (has_cell exit a)) e in by_exit both.0 (none_of (has_cell exit a) both.1)
    ]

HoldsFact-stays :
    (ranges : List Range) (exit caller cells : List Cell) (before after : ℕ → ℕ) (in_exit in_caller : Bool) (f : Fact)
    → IsReturn ranges exit caller cells before after
    → (in_exit ≡ true → HoldsFact exit after f) → (in_caller ≡ true → HoldsFact caller before f)
    → stays ranges exit cells in_exit in_caller f ≡ true → HoldsFact cells after f
unfolding stays stays_at
HoldsFact-stays ranges exit caller cells before after in_exit in_caller f r x c h =
    let each = (and_parts (in_exit || in_caller) (each_between f.first f.last (stays_at ranges exit cells in_exit in_caller f)) h).1 in
    record {
      gives = λ a has free.
          let b = has_address-between f a has in
          let at : stays_at ranges exit cells in_exit in_caller f a ≡ true =
          each_of-at (stays_at ranges exit cells in_exit in_caller f) (f.last + 1 - f.first) f.first a b.least (counted f.first f.last a b.least b.most) each in
          In-claimed ranges exit caller cells before after in_exit in_caller f a r x c has free
          (claimed (has_address f a) (has_cell cells a) (claims (is_in_ranges ranges a) in_exit in_caller (has_cell exit a)) at has free);
    }

-- what both say stays: inside the ranges the exit says it, and outside the caller
pub stays_by_both :
    (ranges : List Range) (exit cells : List Cell) (in_exit in_caller : Bool) (f : Fact)
    → in_exit ≡ true → in_caller ≡ true → stays ranges exit cells in_exit in_caller f ≡ true
unfolding stays stays_at
stays_by_both ranges exit cells in_exit in_caller f x c =
    rw x (rw c (each_of-all (stays_at ranges exit cells true true f) (f.last + 1 - f.first) f.first (λ a low high. at a)))
  where
    claimed-by-both : (inside has : Bool) → claims inside true true has ≡ true
    claimed-by-both true has = refl
    claimed-by-both false has = refl

    passes : (has cell claim : Bool) → claim ≡ true → (not has || cell || claim) ≡ true
    passes false cell claim e = refl
    passes true true claim e = refl
    passes true false claim e = e

    at : (a : ℕ) → stays_at ranges exit cells true true f a ≡ true
    at a = passes (has_address f a) (has_cell cells a) (claims (is_in_ranges ranges a) true true (has_cell exit a))
        (claimed-by-both (is_in_ranges ranges a) (has_cell exit a))

none_stays : (ranges : List Range) (exit cells : List Cell) (f : Fact) → stays ranges exit cells false false f ≡ false
unfolding stays
none_stays ranges exit cells f = refl

-- where as many hold at the exit and in the caller, so many stay
pub staying_alike :
    (ranges : List Range) (exit cells : List Cell) (facts : List Fact) (n m : ℕ) → n ≡ m → staying ranges exit cells facts n m ≡ min n (length facts)
staying_alike ranges exit cells facts n m e = ap (λ k. staying ranges exit cells facts n k) (sym e) ∙ by facts n
  where
    some : (k : ℕ) → nat_lt 0 (suc k) ≡ true
    some k = grind (arith, nat_tests)

    before : (k : ℕ) → suc k - 1 ≡ k
    before k = omega arith

    none_first : (k : ℕ) → 0 ≡ min 0 (suc k)
    none_first k = omega arith

    one_more : (j k : ℕ) → suc (min j k) ≡ min (suc j) (suc k)
    one_more j k = omega arith

    none_left : (k : ℕ) → 0 ≡ min k 0
    none_left k = omega arith

    by : (facts : List Fact) (n : ℕ) → staying ranges exit cells facts n n ≡ min n (length facts)
    by [] n = none_left n
    by (f ∷ facts) zero = ap (λ b. cond b (suc (staying ranges exit cells facts (0 - 1) (0 - 1))) 0) (none_stays ranges exit cells f) ∙ none_first (length facts)
    by (f ∷ facts) (suc k) =
        ap (λ b. cond b (suc (staying ranges exit cells facts (suc k - 1) (suc k - 1))) 0) (stays_by_both ranges exit cells (nat_lt 0 (suc k)) (nat_lt 0 (suc k)) f (some k) (some k))
        ∙ (ap (λ j. suc (staying ranges exit cells facts j j)) (before k) ∙ (ap suc (by facts k) ∙ one_more k (length facts)))

first-holds : (n : ℕ) (f : Fact) (facts : List Fact) (cells : List Cell) (memory : ℕ → ℕ) → HoldFacts (take n (f ∷ facts)) cells memory → nat_lt 0 n ≡ true → HoldsFact cells memory f
first-holds zero f facts cells memory h some = cc
first-holds (suc n) f facts cells memory h some = h.0

others-hold : (n : ℕ) (f : Fact) (facts : List Fact) (cells : List Cell) (memory : ℕ → ℕ) → HoldFacts (take n (f ∷ facts)) cells memory → HoldFacts (take (n - 1) facts) cells memory
others-hold zero f facts cells memory h = none facts
  where
    none : (xs : List Fact) → HoldFacts (take 0 xs) cells memory
    none [] = tt
    none (g ∷ xs) = tt
others-hold (suc n) f facts cells memory h =
    let same : n ≡ suc n - 1 = omega arith in subst (λ k. HoldFacts (take k facts) cells memory) same h.1

HoldFacts-staying :
    (facts : List Fact) (n m : ℕ) (ranges : List Range) (exit caller cells : List Cell) (before after : ℕ → ℕ)
    → IsReturn ranges exit caller cells before after
    → HoldFacts (take n facts) exit after → HoldFacts (take m facts) caller before
    → HoldFacts (take (staying ranges exit cells facts n m) facts) cells after
HoldFacts-staying [] n m ranges exit caller cells before after r x c = tt
HoldFacts-staying (f ∷ facts) n m ranges exit caller cells before after r x c =
    choose (stays ranges exit cells (nat_lt 0 n) (nat_lt 0 m) f) refl
    (HoldFacts-staying facts (n - 1) (m - 1) ranges exit caller cells before after r (others-hold n f facts exit after x) (others-hold m f facts caller before c))
  where
    choose :
        (b : Bool) → stays ranges exit cells (nat_lt 0 n) (nat_lt 0 m) f ≡ b
        → HoldFacts (take (staying ranges exit cells facts (n - 1) (m - 1)) facts) cells after
        → HoldFacts (take (cond b (suc (staying ranges exit cells facts (n - 1) (m - 1))) 0) (f ∷ facts)) cells after
    choose true e rest = (
      HoldsFact-stays ranges exit caller cells before after (nat_lt 0 n) (nat_lt 0 m) f r
          (first-holds n f facts exit after x) (first-holds m f facts caller before c) e,
      rest,
    )
    choose false e rest = tt

pub staying_sound :
    (ranges : List Range) (exit cells : List Cell) (facts : List Fact) (n m level : ℕ)
    → level ≡ staying ranges exit cells facts n m → IsSoundReturnedLevel ranges exit cells facts n m level
staying_sound ranges exit cells facts n m level e =
    subst (λ k. IsSoundReturnedLevel ranges exit cells facts n m k) (sym e)
    (record { gives = λ caller before after. HoldFacts-staying facts n m ranges exit caller cells before after })

-- ---- fills

between-ends : (f : Fill) (a : ℕ) → is_between f a ≡ true → (f.first ≤ a) × (a ≤ f.last)
between-ends f a h = let b = and_parts (nat_le f.first a) (nat_le a f.last) h in (at_most f.first a b.0, at_most a f.last b.1)

inside-range : (f : Fill) (r : Range) (a : ℕ) → lies_in_range f r ≡ true → is_between f a ≡ true → is_in_range a r ≡ true
inside-range f r a h i =
    let b = between-ends f a i in
    let e = and_parts (nat_le r.first f.first) (nat_le f.last r.last) h in
    range r.first r.last f.first f.last (at_most r.first f.first e.0) (at_most f.last r.last e.1) b.0 b.1
  where
    range : (low high first last : ℕ) → low ≤ first → last ≤ high → first ≤ a → a ≤ last → (nat_le low a && nat_le a high) ≡ true
    range low high first last p q s t = grind (arith, nat_tests)

inside-ranges : (ranges : List Range) (f : Fill) (a : ℕ) → list_any (lies_in_range f) ranges ≡ true → is_between f a ≡ true → list_any (is_in_range a) ranges ≡ true
inside-ranges [] f a h i = cc
inside-ranges (r ∷ ranges) f a h i = elim (or_cases (lies_in_range f r) (list_any (lies_in_range f) ranges) h) [
  | inl one ↦ ap (λ b. b || list_any (is_in_range a) ranges) (inside-range f r a one i)
  | inr others ↦ or-second (is_in_range a r) (list_any (is_in_range a) ranges) (inside-ranges ranges f a others i)
]
  where
    or-second : (b c : Bool) → c ≡ true → (b || c) ≡ true
    or-second true c e = refl
    or-second false c e = e

HoldsFill-exit :
    (ranges : List Range) (f : Fill) (exit caller cells : List Cell) (before after : ℕ → ℕ) (y : Pointers ℕ)
    → lies_in_one ranges f ≡ true → IsReturn ranges exit caller cells before after → HoldsFill exit after y f → HoldsFill cells after y f
unfolding lies_in_one is_in_ranges
HoldsFill-exit ranges f exit caller cells before after y inside r h =
    record { gives = λ a between reached free. h.gives a between reached (r.inside a (inside-ranges ranges f a inside between) free) }

pub exit_fill_sound : (ranges : List Range) (f : Fill) (o : Bool) → o ≡ lies_in_one ranges f → o ≡ true → IsSoundExitFill ranges f
exit_fill_sound ranges f o e is =
    record { gives = λ exit caller cells before after y. HoldsFill-exit ranges f exit caller cells before after y (sym e ∙ is) }

outside-range : (f : Fill) (r : Range) (a : ℕ) → misses_range f r ≡ true → is_between f a ≡ true → is_in_range a r ≡ false
outside-range f r a h i = let b = between-ends f a i in range r.first r.last f.first f.last h b.0 b.1
  where
    range : (low high first last : ℕ) → (nat_lt last low || nat_lt high first) ≡ true → first ≤ a → a ≤ last → (nat_le low a && nat_le a high) ≡ false
    range low high first last p s t = grind (arith, nat_tests)

outside-ranges : (ranges : List Range) (f : Fill) (a : ℕ) → list_all (misses_range f) ranges ≡ true → is_between f a ≡ true → list_any (is_in_range a) ranges ≡ false
outside-ranges [] f a h i = refl
outside-ranges (r ∷ ranges) f a h i =
    let both = and_parts (misses_range f r) (list_all (misses_range f) ranges) h in
    neither (is_in_range a r) (list_any (is_in_range a) ranges) (outside-range f r a both.0 i) (outside-ranges ranges f a both.1 i)
  where
    neither : (b c : Bool) → b ≡ false → c ≡ false → (b || c) ≡ false
    neither b c p q = rw p q

HoldsFill-outside :
    (ranges : List Range) (f : Fill) (exit caller cells : List Cell) (before after : ℕ → ℕ) (x : Pointers ℕ)
    → misses_all ranges f ≡ true → IsReturn ranges exit caller cells before after → HoldsFill caller before x f → HoldsFill cells after x f
unfolding misses_all is_in_ranges
HoldsFill-outside ranges f exit caller cells before after x outside r h =
    record {
      gives = λ a between reached free.
          let out = outside-ranges ranges f a outside between in
          subst (λ n. In (bytes_of f) n) (sym (r.memory a out)) (h.gives a between reached (r.outside a out free));
    }

HoldsFill-kept :
    (e : FillEnd) (f : Fill) (cells : List Cell) (memory : ℕ → ℕ) (x y : Pointers ℕ)
    → f.end ≡ Some e → at_pointer e.pointer y ≡ at_pointer e.pointer x → HoldsFill cells memory x f → HoldsFill cells memory y f
HoldsFill-kept e f cells memory x y ends same h =
    HoldsFill-elsewhere f cells memory x y
    (λ a reached.
    subst (λ o. reaches o x a ≡ true) (sym ends)
    (subst (λ z. is_reached e z a ≡ true) same (subst (λ o. reaches o y a ≡ true) ends reached)))
    h

HoldsSome-left :
    (ranges : List Range) (kept : Pointers Bool) (p : Pointers Bounds) (f : Fill) (exit caller cells : List Cell) (before after : ℕ → ℕ) (x y : Pointers ℕ)
    → IsReturn ranges exit caller cells before after → PointersIn p x → KeepsPointers kept x y
    → HoldsFill caller before x f → HoldsSome (left_of_caller ranges kept p f) cells after y
unfolding left_of_caller
HoldsSome-left ranges kept p f exit caller cells before after x y r i k h = choose (misses_all ranges f) refl
  where
    by_end : (o : Option FillEnd) → f.end ≡ o → HoldsFill cells after x f → HoldsSome (kept_or_fixed o kept p f) cells after y
    by_end None ends now = HoldsFill-none f cells after x y ends now
    by_end (Some e) ends now = by_kept (at_pointer e.pointer kept) refl
      where
        by_kept : (b : Bool) → at_pointer e.pointer kept ≡ b → HoldsSome (cond b (Some f) (fixed_at e p f)) cells after y
        by_kept true is = HoldsFill-kept e f cells after x y ends (k.same e.pointer is) now
        by_kept false is = HoldsSome-fixed e p f cells after x y i ends now

    choose : (b : Bool) → misses_all ranges f ≡ b → HoldsSome (cond b (kept_or_fixed f.end kept p f) None) cells after y
    choose true e = by_end f.end refl (HoldsFill-outside ranges f exit caller cells before after x e r h)
    choose false e = tt

pub caller_fill_sound :
    (ranges : List Range) (kept : Pointers Bool) (p : Pointers Bounds) (f : Fill) (o : Option Fill)
    → o ≡ left_of_caller ranges kept p f → IsSoundCallerFill ranges kept p f o
caller_fill_sound ranges kept p f o e =
    subst (λ w. IsSoundCallerFill ranges kept p f w) (sym e)
    (record { gives = λ exit caller cells before after x y. HoldsSome-left ranges kept p f exit caller cells before after x y })
