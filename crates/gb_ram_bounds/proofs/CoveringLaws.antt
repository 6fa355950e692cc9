-- What a state knows of a byte holds, and so do the facts and fills that it gives.
use Rattle.std.proofs.Common.{◌≡◌, ℕ, ◌+◌, ◌-◌, ◌<◌, ◌≤◌, Bool, true, false, not, ◌&&◌, ◌||◌, nat_le, nat_lt, List, [], ◌∷◌, Option, Some, None, inl, inr, refl, sym, ◌∙◌, ap, subst, arith}
use Rattle.std.proofs.lemmas.Bool.{and_parts, or_cases}
use Rattle.std.proofs.lemmas.Bool.Decides.{nat_tests}
use Rattle.std.specs.List.{list_all, list_any}
use Rattle.gb_domain.specs.declared.pairs.Bounds.{Bounds}
use Rattle.gb_domain.specs.declared.interval.StridedInterval.{StridedInterval}
use Rattle.gb_domain.specs.Interval.{any_byte, lies_in}
use Rattle.gb_domain.specs.Meaning.{In}
use Rattle.gb_domain.proofs.IntervalLaws.{In-lies_in}
use Rattle.gb_domain.specs.declared.types.Cell.{Cell}
use Rattle.gb_domain.specs.declared.summary.Fact.{Fact}
use Rattle.gb_ram_bounds.specs.declared.pointers.Pointers.{Pointers}
use Rattle.gb_domain.specs.declared.summary.Reach.{Reach}
use Rattle.gb_domain.specs.declared.summary.Reach.TheVariants.{Below, Above}
use Rattle.gb_domain.specs.declared.summary.FillEnd.{FillEnd}
use Rattle.gb_domain.specs.declared.summary.Fill.{Fill}
use Rattle.gb_ram_bounds.specs.Cells.{cell_at, is_there, has_cell}
use Rattle.gb_ram_bounds.specs.Facts.{has_address, cut_by_facts}
use Rattle.gb_ram_bounds.specs.Fills.{at_pointer, is_same_pointer, is_on, is_reached, farthest, may_be_reached, may_reach, reaches, bytes_of, cut_by_fills}
use Rattle.gb_ram_bounds.specs.Covering.{cell_or, byte_at, is_given_at, gives_fact, gives_facts, reaches_as_far, ends_as_far, says_at, is_said_at, is_filled_at, gives_fill, gives_fills}
use Rattle.gb_ram_bounds.specs.Meaning.{HoldsFact, HoldFacts, HoldsFill, HoldFills, PointersIn, HoldsState, IsSoundByte, GivesFacts, GivesFills}
use Rattle.gb_ram_bounds.proofs.AddressLaws.{each_of-at}
use Rattle.gb_ram_bounds.proofs.FactLaws.{has_address-between, cut_by_facts-In}
use Rattle.gb_ram_bounds.proofs.FillLaws.{In-bounds, cut_by_fills-In, same_pointer, at_most}

-- ---- the byte at an address

In-byte_at :
    (facts : List Fact) (cells : List Cell) (fills : List Fill) (p : Pointers Bounds) (a : ℕ) (memory : ℕ → ℕ) (x : Pointers ℕ)
    → HoldsState facts cells fills p memory x → In (byte_at facts cells fills p a) (memory a)
unfolding byte_at has_cell
In-byte_at facts cells fills p a memory x h = choose (cell_at cells a) refl
  where
    any : In any_byte (memory a)
    any = let small : memory a < 256 = h.bytes a in In-bounds 0 255 (memory a) (omega arith) (omega arith)

    choose :
        (o : Option StridedInterval) → cell_at cells a ≡ o
        → In (cell_or o (cut_by_fills p fills a (cut_by_facts facts a any_byte))) (memory a)
    choose None e =
        cut_by_fills-In p fills a (cut_by_facts facts a any_byte) cells memory x h.pointers h.fills_hold (ap is_there e)
        (cut_by_facts-In facts a any_byte cells memory h.facts_hold (ap is_there e) any)
    choose (Some v) e = h.cells_hold.gives a v e

pub byte_at_sound :
    (facts : List Fact) (cells : List Cell) (fills : List Fill) (p : Pointers Bounds) (a : ℕ) (o : StridedInterval)
    → o ≡ byte_at facts cells fills p a → IsSoundByte facts cells fills p a o
byte_at_sound facts cells fills p a o e =
    subst (λ r. IsSoundByte facts cells fills p a r) (sym e) (record { gives = λ memory x. In-byte_at facts cells fills p a memory x })

-- ---- facts

third : (x y z : Bool) → (not x || y || z) ≡ true → x ≡ true → y ≡ false → z ≡ true
third true false z h p q = h
third true true z h p q = cc
third false y z h p q = cc

lies-given :
    (facts : List Fact) (cells : List Cell) (fills : List Fill) (p : Pointers Bounds) (kept : List Cell) (f : Fact) (a : ℕ)
    → is_given_at facts cells fills p kept f a ≡ true → has_address f a ≡ true → has_cell kept a ≡ false
    → lies_in (byte_at facts cells fills p a) f.value ≡ true
unfolding is_given_at
lies-given facts cells fills p kept f a h has free =
    third (has_address f a) (has_cell kept a) (lies_in (byte_at facts cells fills p a) f.value) h has free

counted : (first last a : ℕ) → first ≤ a → a ≤ last → a < first + (last + 1 - first)
counted first last a low high = omega arith

HoldsFact-given :
    (facts : List Fact) (cells : List Cell) (fills : List Fill) (p : Pointers Bounds) (kept : List Cell) (f : Fact)
    (memory : ℕ → ℕ) (x : Pointers ℕ)
    → gives_fact facts cells fills p kept f ≡ true → HoldsState facts cells fills p memory x → HoldsFact kept memory f
unfolding gives_fact
HoldsFact-given facts cells fills p kept f memory x g h =
    record {
      gives = λ a has free.
          (let b = has_address-between f a has in
          let given : is_given_at facts cells fills p kept f a ≡ true =
          each_of-at (is_given_at facts cells fills p kept f) (f.last + 1 - f.first) f.first a b.least (counted f.first f.last a b.least b.most) g in
          In-lies_in (byte_at facts cells fills p a) f.value (memory a)
          (lies-given facts cells fills p kept f a given has free) (In-byte_at facts cells fills p a memory x h));
    }

HoldFacts-given :
    (facts : List Fact) (cells : List Cell) (fills : List Fill) (p : Pointers Bounds) (kept : List Cell) (wanted : List Fact)
    (memory : ℕ → ℕ) (x : Pointers ℕ)
    → list_all (gives_fact facts cells fills p kept) wanted ≡ true → HoldsState facts cells fills p memory x
    → HoldFacts wanted kept memory
HoldFacts-given facts cells fills p kept [] memory x g h = tt
HoldFacts-given facts cells fills p kept (f ∷ wanted) memory x g h =
    let both = and_parts _ _ g in
    (HoldsFact-given facts cells fills p kept f memory x both.0 h, HoldFacts-given facts cells fills p kept wanted memory x both.1 h)

pub gives_facts_sound :
    (facts : List Fact) (cells : List Cell) (fills : List Fill) (p : Pointers Bounds) (kept : List Cell) (wanted : List Fact) (o : Bool)
    → o ≡ gives_facts facts cells fills p kept wanted → o ≡ true → GivesFacts facts cells fills p kept wanted
unfolding gives_facts
gives_facts_sound facts cells fills p kept wanted o e g =
    record { gives = λ memory x. HoldFacts-given facts cells fills p kept wanted memory x (sym e ∙ g) }

-- ---- fills

-- what is reached with one value is reached with the farthest one
is_on-farthest :
    (r : Reach) (b : Bounds) (x offset a : ℕ)
    → b.first ≤ x → x ≤ b.last → is_on r x offset a ≡ true → is_on r (farthest r b) offset a ≡ true
is_on-farthest Below b x offset a low high h = further b.last x offset a high h
  where
    further : (p x offset a : ℕ) → x ≤ p → nat_lt (a + 32768) (x + offset) ≡ true → nat_lt (a + 32768) (p + offset) ≡ true
    further p x offset a low h = grind (arith, nat_tests)
is_on-farthest Above b x offset a low high h = further b.first x offset a low h
  where
    further : (p x offset a : ℕ) → p ≤ x → nat_lt (x + offset) (a + 32768) ≡ true → nat_lt (p + offset) (a + 32768) ≡ true
    further p x offset a low h = grind (arith, nat_tests)

may-reached :
    (e : FillEnd) (p : Pointers Bounds) (x : Pointers ℕ) (a : ℕ)
    → PointersIn p x → is_reached e (at_pointer e.pointer x) a ≡ true → may_be_reached e p a ≡ true
unfolding may_be_reached is_reached
may-reached e p x a i h =
    is_on-farthest e.reach (at_pointer e.pointer p) (at_pointer e.pointer x) e.offset a (i.least e.pointer) (i.most e.pointer) h

may_reach-reaches :
    (o : Option FillEnd) (p : Pointers Bounds) (x : Pointers ℕ) (a : ℕ)
    → PointersIn p x → reaches o x a ≡ true → may_reach o p a ≡ true
may_reach-reaches None p x a i h = refl
may_reach-reaches (Some e) p x a i h = may-reached e p x a i h

-- an end as far reaches what the other one does
is_on-as_far :
    (r s : Reach) (x m n a : ℕ) → reaches_as_far r s m n ≡ true → is_on s x n a ≡ true → is_on r x m a ≡ true
is_on-as_far Below Below x m n a f h = below x m n a f h
  where
    below : (x m n a : ℕ) → nat_le n m ≡ true → nat_lt (a + 32768) (x + n) ≡ true → nat_lt (a + 32768) (x + m) ≡ true
    below x m n a f h = grind (arith, nat_tests)
is_on-as_far Above Above x m n a f h = above x m n a f h
  where
    above : (x m n a : ℕ) → nat_le m n ≡ true → nat_lt (x + n) (a + 32768) ≡ true → nat_lt (x + m) (a + 32768) ≡ true
    above x m n a f h = grind (arith, nat_tests)
is_on-as_far Below Above x m n a f h = cc
is_on-as_far Above Below x m n a f h = cc

reached-as_far :
    (e d : FillEnd) (x : Pointers ℕ) (a : ℕ)
    → (is_same_pointer e.pointer d.pointer && reaches_as_far e.reach d.reach e.offset d.offset) ≡ true
    → is_reached d (at_pointer d.pointer x) a ≡ true → is_reached e (at_pointer e.pointer x) a ≡ true
unfolding is_reached
reached-as_far e d x a f h =
    let both = and_parts _ _ f in
    let same : at_pointer d.pointer x ≡ at_pointer e.pointer x = ap (λ q. at_pointer q x) (sym (same_pointer e.pointer d.pointer both.0)) in
    is_on-as_far e.reach d.reach (at_pointer e.pointer x) e.offset d.offset a both.1
    (subst (λ z. is_on d.reach z d.offset a ≡ true) same h)

reaches-as_far : (o r : Option FillEnd) (x : Pointers ℕ) (a : ℕ) → ends_as_far o r ≡ true → reaches r x a ≡ true → reaches o x a ≡ true
reaches-as_far None r x a f h = refl
reaches-as_far (Some e) None x a f h = cc
reaches-as_far (Some e) (Some d) x a f h = reached-as_far e d x a f h

-- a fill that says of an address what f does gives it
In-said :
    (f g : Fill) (cells : List Cell) (memory : ℕ → ℕ) (x : Pointers ℕ) (a : ℕ)
    → says_at f a g ≡ true → HoldsFill cells memory x g → reaches f.end x a ≡ true → has_cell cells a ≡ false
    → In (bytes_of f) (memory a)
unfolding says_at
In-said f g cells memory x a s h reached free =
    let hi = and_parts _ _ s in
    let lo = and_parts _ _ hi.0 in
    let between = and_parts _ _ lo.0 in
    let m = h.gives a between.1 (reaches-as_far g.end f.end x a between.0 reached) free in
    let low : f.lo ≤ g.lo = at_most f.lo g.lo lo.1 in
    let high : g.hi ≤ f.hi = at_most g.hi f.hi hi.1 in
    let least : g.lo ≤ memory a = m.least in
    let most : memory a ≤ g.hi = m.most in
    In-bounds f.lo f.hi (memory a) (omega arith) (omega arith)

In-said_by_one :
    (f : Fill) (fills : List Fill) (cells : List Cell) (memory : ℕ → ℕ) (x : Pointers ℕ) (a : ℕ)
    → list_any (says_at f a) fills ≡ true → HoldFills fills cells memory x → reaches f.end x a ≡ true → has_cell cells a ≡ false
    → In (bytes_of f) (memory a)
In-said_by_one f [] cells memory x a s h reached free = cc
In-said_by_one f (g ∷ fills) cells memory x a s h reached free = elim (or_cases _ _ s) [
  | inl one ↦ In-said f g cells memory x a one h.0 reached free
  | inr others ↦ In-said_by_one f fills cells memory x a others h.1 reached free
]

-- four ways to be filled, of which the first two don't apply
data IsFilled (lies said : Bool) : Type 0 where
  Lies : lies ≡ true → IsFilled lies said
  Said : said ≡ true → IsFilled lies said

filled-by : (kept may lies said : Bool) → (not may || kept || said || lies) ≡ true → kept ≡ false → may ≡ true → IsFilled lies said
filled-by false true lies true h p q = Said refl
filled-by false true lies false h p q = Lies h
filled-by true may lies said h p q = cc
filled-by false false lies said h p q = cc

is_false : (b : Bool) → not b ≡ true → b ≡ false
is_false true h = cc
is_false false h = refl

In-filled_at :
    (facts : List Fact) (cells : List Cell) (fills : List Fill) (p : Pointers Bounds) (kept : List Cell) (f : Fill)
    (memory : ℕ → ℕ) (x : Pointers ℕ) (a : ℕ)
    → is_filled_at facts cells fills p kept f a ≡ true → HoldsState facts cells fills p memory x
    → reaches f.end x a ≡ true → has_cell kept a ≡ false → In (bytes_of f) (memory a)
unfolding is_filled_at
In-filled_at facts cells fills p kept f memory x a g h reached free =
    choose (filled-by (has_cell kept a) (may_reach f.end p a) (lies_in (byte_at facts cells fills p a) (bytes_of f)) (not (has_cell cells a) && is_said_at f a fills) g free (may_reach-reaches f.end p x a h.pointers reached))
  where
    choose :
        IsFilled (lies_in (byte_at facts cells fills p a) (bytes_of f)) (not (has_cell cells a) && is_said_at f a fills)
        → In (bytes_of f) (memory a)
    choose (Lies l) = In-lies_in (byte_at facts cells fills p a) (bytes_of f) (memory a) l (In-byte_at facts cells fills p a memory x h)
    choose (Said s) =
        let both = and_parts _ _ s in
        In-said_by_one f fills cells memory x a both.1 h.fills_hold reached (is_false (has_cell cells a) both.0)

HoldsFill-given :
    (facts : List Fact) (cells : List Cell) (fills : List Fill) (p : Pointers Bounds) (kept : List Cell) (f : Fill)
    (memory : ℕ → ℕ) (x : Pointers ℕ)
    → gives_fill facts cells fills p kept f ≡ true → HoldsState facts cells fills p memory x → HoldsFill kept memory x f
unfolding gives_fill
HoldsFill-given facts cells fills p kept f memory x g h =
    record {
      gives = λ a between reached free.
          (let b = and_parts _ _ between in
          let low : f.first ≤ a = at_most f.first a b.0 in
          let high : a ≤ f.last = at_most a f.last b.1 in
          let given : is_filled_at facts cells fills p kept f a ≡ true =
          each_of-at (is_filled_at facts cells fills p kept f) (f.last + 1 - f.first) f.first a low (counted f.first f.last a low high) g in
          In-filled_at facts cells fills p kept f memory x a given h reached free);
    }

HoldFills-given :
    (facts : List Fact) (cells : List Cell) (fills : List Fill) (p : Pointers Bounds) (kept : List Cell) (wanted : List Fill)
    (memory : ℕ → ℕ) (x : Pointers ℕ)
    → list_all (gives_fill facts cells fills p kept) wanted ≡ true → HoldsState facts cells fills p memory x
    → HoldFills wanted kept memory x
HoldFills-given facts cells fills p kept [] memory x g h = tt
HoldFills-given facts cells fills p kept (f ∷ wanted) memory x g h =
    let both = and_parts _ _ g in
    (HoldsFill-given facts cells fills p kept f memory x both.0 h, HoldFills-given facts cells fills p kept wanted memory x both.1 h)

pub gives_fills_sound :
    (facts : List Fact) (cells : List Cell) (fills : List Fill) (p : Pointers Bounds) (kept : List Cell) (wanted : List Fill) (o : Bool)
    → o ≡ gives_fills facts cells fills p kept wanted → o ≡ true → GivesFills facts cells fills p kept wanted
unfolding gives_fills
gives_fills_sound facts cells fills p kept wanted o e g =
    record { gives = λ memory x. HoldFills-given facts cells fills p kept wanted memory x (sym e ∙ g) }
