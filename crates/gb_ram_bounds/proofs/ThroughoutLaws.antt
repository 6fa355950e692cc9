-- What holds throughout holds at each address.
use Rattle.std.proofs.Common.{◌≡◌, ℕ, ◌+◌, ◌-◌, ◌%◌, ◌<◌, ◌≤◌, Bool, true, false, not, ◌&&◌, ◌||◌, ◌==◌, nat_le, nat_lt, cond, List, [], ◌∷◌, Option, Some, None, inl, inr, refl, sym, ap, subst, arith}
use Rattle.std.proofs.lemmas.Bool.{and_parts, or_cases, eqb-true}
use Rattle.std.proofs.lemmas.Bool.Decides.{nat_tests}
use Rattle.std.specs.List.{list_all, list_any}
use Rattle.std.specs.Prelude.{min, max}
use Rattle.gb_domain.specs.declared.pairs.Bounds.{Bounds}
use Rattle.gb_domain.specs.declared.low_bits.LowBits.{LowBits}
use Rattle.gb_domain.specs.declared.interval.StridedInterval.{StridedInterval}
use Rattle.gb_domain.specs.declared.types.Cell.{Cell}
use Rattle.gb_domain.specs.LowBits.{modulus, low_bits, are_congruent, covers}
use Rattle.gb_domain.specs.Interval.{bounds, any_byte, low_bits_of, least, greatest, strided, with_low_bits, agree, more, cut, lies_in}
use Rattle.gb_domain.specs.Meaning.{In, InSome}
use Rattle.gb_domain.proofs.ModulusLaws.{Has-low_bits}
use Rattle.gb_domain.proofs.IntervalLaws.{least-above, cut_leaves}
use Rattle.gb_domain.specs.Values.{interval_of}
use Rattle.gb_domain.specs.declared.summary.Fact.{Fact}
use Rattle.gb_ram_bounds.specs.declared.pointers.Pointers.{Pointers}
use Rattle.gb_domain.specs.declared.summary.FillEnd.{FillEnd}
use Rattle.gb_domain.specs.declared.summary.Fill.{Fill}
use Rattle.gb_ram_bounds.specs.Cells.{cell_at, is_there, has_cell}
use Rattle.gb_ram_bounds.specs.Facts.{has_address, or_same, cut_or_same, cut_by_fact, cut_by_facts}
use Rattle.gb_ram_bounds.specs.Fills.{surely_reaches, may_reach, is_between, bytes_of, is_in_extent, cut_by_fill, cut_by_fills}
use Rattle.gb_ram_bounds.specs.Covering.{cell_or, byte_at, ends_as_far, says_at, is_said_at, is_given_at, gives_fact, is_filled_at, gives_fill}
use Rattle.gb_ram_bounds.specs.Throughout.{has_stretch, says_all, is_endless, holds_all, misses, has_byte, fact_has_least, fill_has_least, is_held_throughout, fits, is_filled_throughout, stretch_of, is_given_throughout}
use Rattle.gb_ram_bounds.proofs.AddressLaws.{each_of-all}
use Rattle.gb_ram_bounds.proofs.FactLaws.{has_address-between, cut_or_same-In}
use Rattle.gb_ram_bounds.proofs.FillLaws.{In-bounds, at_most}

or-second : (b c : Bool) → c ≡ true → (b || c) ≡ true
or-second true c e = refl
or-second false c e = e

-- ---- at one address

stretch-has : (g f : Fill) (a : ℕ) → f.first ≤ a → a ≤ f.last → has_stretch g f ≡ true → is_between g a ≡ true
stretch-has g f a low high h = range g.first g.last f.first f.last low high h
  where
    range :
        (first last low high : ℕ) → low ≤ a → a ≤ high → (nat_le first low && nat_le high last) ≡ true
        → (nat_le first a && nat_le a last) ≡ true
    range first last low high p q h = grind (arith, nat_tests)

says-at : (f g : Fill) (a : ℕ) → f.first ≤ a → a ≤ f.last → says_all f g ≡ true → says_at f a g ≡ true
unfolding says_all says_at
says-at f g a low high h =
    other (ends_as_far g.end f.end) (has_stretch g f) (is_between g a) (nat_le f.lo g.lo) (nat_le g.hi f.hi)
    (stretch-has g f a low high) h
  where
    other : (e m n l h : Bool) → (m ≡ true → n ≡ true) → (e && m && l && h) ≡ true → (e && n && l && h) ≡ true
    other true true n l h k s = rw (k refl) s
    other true false n l h k s = cc
    other false m n l h k s = cc

said-at : (f : Fill) (fills : List Fill) (a : ℕ) → f.first ≤ a → a ≤ f.last → list_any (says_all f) fills ≡ true → is_said_at f a fills ≡ true
said-at f [] a low high h = cc
said-at f (g ∷ fills) a low high h = elim (or_cases (says_all f g) (list_any (says_all f) fills) h) [
  | inl one ↦ ap (λ b. b || is_said_at f a fills) (says-at f g a low high one)
  | inr others ↦ or-second (says_at f a g) (is_said_at f a fills) (said-at f fills a low high others)
]

-- ---- cuts stay within what they cut to, where they leave a byte

record IsInside (lo hi : ℕ) (v : StridedInterval) : Type 0 where
  least : lo ≤ v.lo
  most : v.hi ≤ hi

abbrev InsideSome : ℕ → ℕ → Option StridedInterval → Type 0
InsideSome lo hi None = Unit {0}
InsideSome lo hi (Some r) = IsInside lo hi r

greatest-below : (hi : ℕ) (k : LowBits) → greatest hi k ≤ hi
unfolding greatest
greatest-below hi k = omega arith

with_low_bits-inside : (lo hi : ℕ) (k : LowBits) → InsideSome lo hi (with_low_bits lo hi k)
unfolding with_low_bits
with_low_bits-inside lo hi k = choose (nat_le (least lo k) hi)
  where
    choose : (b : Bool) → InsideSome lo hi (cond b (Some (strided (least lo k) (greatest hi k) (min k.count 8))) None)
    choose true = record { least = least-above lo k; most = greatest-below hi k }
    choose false = tt

cut-inside : (lo hi : ℕ) (v w : StridedInterval) → lo ≤ max v.lo w.lo → min v.hi w.hi ≤ hi → InsideSome lo hi (cut v w)
unfolding cut
cut-inside lo hi v w low high = choose (agree (low_bits_of v) (low_bits_of w))
  where
    wider : (o : Option StridedInterval) → InsideSome (max v.lo w.lo) (min v.hi w.hi) o → InsideSome lo hi o
    wider None h = tt
    wider (Some r) h =
        let from : max v.lo w.lo ≤ r.lo = h.least in
        let to : r.hi ≤ min v.hi w.hi = h.most in
        record { least = omega arith; most = omega arith }

    choose :
        (b : Bool)
        → InsideSome lo hi (cond b (with_low_bits (max v.lo w.lo) (min v.hi w.hi) (more (low_bits_of v) (low_bits_of w))) None)
    choose true =
        wider (with_low_bits (max v.lo w.lo) (min v.hi w.hi) (more (low_bits_of v) (low_bits_of w)))
        (with_low_bits-inside (max v.lo w.lo) (min v.hi w.hi) (more (low_bits_of v) (low_bits_of w)))
    choose false = tt

cut_or_same-inside :
    (lo hi x : ℕ) (v w : StridedInterval) → In v x → In w x → lo ≤ max v.lo w.lo → min v.hi w.hi ≤ hi
    → IsInside lo hi (cut_or_same v w)
unfolding cut_or_same
cut_or_same-inside lo hi x v w h g low high =
    let left = cut_leaves v w (cut v w) refl in
    choose (cut v w) (left.keeps x (record { first = h; second = g })) (cut-inside lo hi v w low high)
  where
    choose : (o : Option StridedInterval) → InSome o x → InsideSome lo hi o → IsInside lo hi (or_same v o)
    choose None i j = absurd i
    choose (Some r) i j = j

second : (m b : Bool) → (m || b) ≡ true → m ≡ false → b ≡ true
second false b h e = h
second true b h e = cc

not_missed : (f : Fill) (first last a : ℕ) → f.first ≤ a → a ≤ f.last → first ≤ a → a ≤ last → misses f first last ≡ false
not_missed f first last a low high least most = met f.first f.last low high
  where
    met : (from to : ℕ) → from ≤ a → a ≤ to → (nat_lt last from || nat_lt to first) ≡ false
    met from to p q = grind (arith, nat_tests)

-- ---- f's least byte stays

In-has_byte : (v : StridedInterval) (x : ℕ) → has_byte v x ≡ true → In v x
unfolding has_byte are_congruent
In-has_byte v x h =
    let p = and_parts _ _ h in
    let q = and_parts _ _ p.0 in
    record {
      least = at_most v.lo x q.0;
      most = at_most x v.hi q.1;
      low = Has-low_bits v.count x v.lo (eqb-true (x % modulus v.count) (v.lo % modulus v.count) p.1);
    }

In-cut_by_fact :
    (f : Fill) (h : Fact) (a : ℕ) (v : StridedInterval) → f.first ≤ a → a ≤ f.last → fact_has_least f h ≡ true → In v f.lo
    → In (cut_by_fact h a v) f.lo
unfolding cut_by_fact fact_has_least
In-cut_by_fact f h a v low high has m = choose (has_address h a) refl
  where
    choose : (b : Bool) → has_address h a ≡ b → In (cond b (cut_or_same v h.value) v) f.lo
    choose true e =
        let b = has_address-between h a e in
        cut_or_same-In v h.value f.lo m
        (In-has_byte h.value f.lo
        (second (misses f h.first h.last) (has_byte h.value f.lo) has (not_missed f h.first h.last a low high b.least b.most)))
    choose false e = m

In-cut_by_facts :
    (f : Fill) (facts : List Fact) (a : ℕ) (v : StridedInterval)
    → f.first ≤ a → a ≤ f.last → list_all (fact_has_least f) facts ≡ true → In v f.lo → In (cut_by_facts facts a v) f.lo
In-cut_by_facts f [] a v low high has m = m
In-cut_by_facts f (h ∷ facts) a v low high has m =
    let p = and_parts (fact_has_least f h) (list_all (fact_has_least f) facts) has in
    In-cut_by_facts f facts a (cut_by_fact h a v) low high p.1 (In-cut_by_fact f h a v low high p.0 m)

In-fill : (f g : Fill) (a : ℕ) → f.first ≤ a → a ≤ f.last → fill_has_least f g ≡ true → is_between g a ≡ true → In (bytes_of g) f.lo
unfolding fill_has_least
In-fill f g a low high has i =
    let b = and_parts (nat_le g.first a) (nat_le a g.last) i in
    let met = not_missed f g.first g.last a low high (at_most g.first a b.0) (at_most a g.last b.1) in
    let p =
    and_parts (nat_le g.lo f.lo) (nat_le f.lo g.hi) (second (misses f g.first g.last) (nat_le g.lo f.lo && nat_le f.lo g.hi) has met) in
    In-bounds g.lo g.hi f.lo (at_most g.lo f.lo p.0) (at_most f.lo g.hi p.1)

In-cut_by_fill :
    (p : Pointers Bounds) (f g : Fill) (a : ℕ) (v : StridedInterval) → f.first ≤ a → a ≤ f.last → fill_has_least f g ≡ true
    → In v f.lo → In (cut_by_fill p g a v) f.lo
unfolding cut_by_fill is_in_extent
In-cut_by_fill p f g a v low high has m = choose (is_between g a && surely_reaches g.end p a) refl
  where
    choose :
        (b : Bool) → (is_between g a && surely_reaches g.end p a) ≡ b → In (cond b (cut_or_same v (bytes_of g)) v) f.lo
    choose true e =
        let both = and_parts (is_between g a) (surely_reaches g.end p a) e in
        cut_or_same-In v (bytes_of g) f.lo m (In-fill f g a low high has both.0)
    choose false e = m

-- ---- and the bytes are f's

inside-cut_by_fill :
    (p : Pointers Bounds) (f g : Fill) (a : ℕ) (v : StridedInterval) → f.first ≤ a → a ≤ f.last → fill_has_least f g ≡ true
    → In v f.lo → IsInside f.lo f.hi v → IsInside f.lo f.hi (cut_by_fill p g a v)
unfolding cut_by_fill is_in_extent
inside-cut_by_fill p f g a v low high has m inside = choose (is_between g a && surely_reaches g.end p a) refl
  where
    choose :
        (b : Bool) → (is_between g a && surely_reaches g.end p a) ≡ b
        → IsInside f.lo f.hi (cond b (cut_or_same v (bytes_of g)) v)
    choose true e =
        let both = and_parts (is_between g a) (surely_reaches g.end p a) e in
        let from : f.lo ≤ v.lo = inside.least in
        let to : v.hi ≤ f.hi = inside.most in
        cut_or_same-inside f.lo f.hi f.lo v (bytes_of g) m (In-fill f g a low high has both.0) (omega arith) (omega arith)
    choose false e = inside

endless-reaches : (o : Option FillEnd) (p : Pointers Bounds) (a : ℕ) → is_endless o ≡ true → surely_reaches o p a ≡ true
endless-reaches None p a h = refl
endless-reaches (Some e) p a h = cc

held-cut_by_fill :
    (p : Pointers Bounds) (f g : Fill) (a : ℕ) (v : StridedInterval) → f.first ≤ a → a ≤ f.last → fill_has_least f g ≡ true
    → In v f.lo → holds_all f g ≡ true → IsInside f.lo f.hi (cut_by_fill p g a v)
unfolding cut_by_fill is_in_extent holds_all
held-cut_by_fill p f g a v low high has m h =
    let hi = and_parts _ _ h in
    let lo = and_parts _ _ hi.0 in
    let parts = and_parts (is_endless g.end) (has_stretch g f) lo.0 in
    let between : is_between g a ≡ true = stretch-has g f a low high parts.1 in
    let from : f.lo ≤ g.lo = at_most f.lo g.lo lo.1 in
    let to : g.hi ≤ f.hi = at_most g.hi f.hi hi.1 in
    subst (λ b. IsInside f.lo f.hi (cond b (cut_or_same v (bytes_of g)) v))
    (sym (both (is_between g a) (surely_reaches g.end p a) between (endless-reaches g.end p a parts.0)))
    (cut_or_same-inside f.lo f.hi f.lo v (bytes_of g) m (In-fill f g a low high has between) (omega arith) (omega arith))
  where
    both : (b c : Bool) → b ≡ true → c ≡ true → (b && c) ≡ true
    both b c p q = rw p q

inside-cut_by_fills :
    (p : Pointers Bounds) (f : Fill) (fills : List Fill) (a : ℕ) (v : StridedInterval)
    → f.first ≤ a → a ≤ f.last → list_all (fill_has_least f) fills ≡ true → In v f.lo → IsInside f.lo f.hi v
    → IsInside f.lo f.hi (cut_by_fills p fills a v)
inside-cut_by_fills p f [] a v low high has m inside = inside
inside-cut_by_fills p f (g ∷ fills) a v low high has m inside =
    let h = and_parts (fill_has_least f g) (list_all (fill_has_least f) fills) has in
    inside-cut_by_fills p f fills a (cut_by_fill p g a v) low high h.1 (In-cut_by_fill p f g a v low high h.0 m)
    (inside-cut_by_fill p f g a v low high h.0 m inside)

held-cut_by_fills :
    (p : Pointers Bounds) (f : Fill) (fills : List Fill) (a : ℕ) (v : StridedInterval)
    → f.first ≤ a → a ≤ f.last → list_all (fill_has_least f) fills ≡ true → In v f.lo → list_any (holds_all f) fills ≡ true
    → IsInside f.lo f.hi (cut_by_fills p fills a v)
held-cut_by_fills p f [] a v low high has m some = cc
held-cut_by_fills p f (g ∷ fills) a v low high has m some =
    let h = and_parts (fill_has_least f g) (list_all (fill_has_least f) fills) has in
    let next = In-cut_by_fill p f g a v low high h.0 m in
    elim (or_cases (holds_all f g) (list_any (holds_all f) fills) some) [
      | inl one ↦
          inside-cut_by_fills p f fills a (cut_by_fill p g a v) low high h.1 next (held-cut_by_fill p f g a v low high h.0 m one)
      | inr others ↦ held-cut_by_fills p f fills a (cut_by_fill p g a v) low high h.1 next others
    ]

covers-none : (j : LowBits) (x : ℕ) → covers j (low_bits 0 x) ≡ true
unfolding covers low_bits are_congruent modulus
covers-none j x = none j.count j.bits x
  where
    none : (n b x : ℕ) → (nat_le 0 n && (b % 1 == x % 1 % 1)) ≡ true
    none n b x = grind (arith, nat_tests)

inside-lies : (lo hi : ℕ) (v : StridedInterval) → IsInside lo hi v → lies_in v (bounds lo hi) ≡ true
unfolding lies_in
inside-lies lo hi v i = all (nat_le lo v.lo) (nat_le v.hi hi) (covers (low_bits_of v) (low_bits 0 lo)) (le lo v.lo i.least) (le v.hi hi i.most) (covers-none (low_bits_of v) lo)
  where
    le : (x y : ℕ) → x ≤ y → nat_le x y ≡ true
    le x y h = grind (arith, nat_tests)

    all : (b c d : Bool) → b ≡ true → c ≡ true → d ≡ true → (b && c && d) ≡ true
    all true true d p q r = r
    all false c d p q r = cc
    all true false d p q r = cc

held-lies :
    (facts : List Fact) (fills : List Fill) (p : Pointers Bounds) (f : Fill) (a : ℕ)
    → f.lo < 256 → f.first ≤ a → a ≤ f.last → is_held_throughout facts fills f ≡ true
    → lies_in (cut_by_fills p fills a (cut_by_facts facts a any_byte)) (bytes_of f) ≡ true
unfolding is_held_throughout
held-lies facts fills p f a byte low high h =
    let q = and_parts _ _ h in
    let r = and_parts (list_any (holds_all f) fills) (list_all (fact_has_least f) facts) q.0 in
    let any : In any_byte f.lo = In-bounds 0 255 f.lo (omega arith) (omega arith) in
    inside-lies f.lo f.hi (cut_by_fills p fills a (cut_by_facts facts a any_byte))
    (held-cut_by_fills p f fills a (cut_by_facts facts a any_byte) low high q.1
    (In-cut_by_facts f facts a any_byte low high r.1 any) r.0)

-- ---- at one address, by fills and cells

fits-inside :
    (kept : List Cell) (f : Fill) (c : Cell)
    → fits kept f c ≡ true → is_between f c.address ≡ true
    → (has_cell kept c.address || lies_in (interval_of c.val) (bytes_of f)) ≡ true
unfolding fits
fits-inside kept f c h i =
    rest (is_between f c.address) (has_cell kept c.address) (lies_in (interval_of c.val) (bytes_of f)) h i
  where
    rest : (b k l : Bool) → (not b || k || l) ≡ true → b ≡ true → (k || l) ≡ true
    rest true k l h i = h
    rest false k l h i = cc

-- a cell that is found fits
fits-found :
    (kept cells : List Cell) (f : Fill) (a : ℕ) (v : StridedInterval)
    → list_all (fits kept f) cells ≡ true → cell_at cells a ≡ Some v → is_between f a ≡ true
    → (has_cell kept a || lies_in v (bytes_of f)) ≡ true
fits-found kept [] f a v h e i = cc
fits-found kept (c ∷ cells) f a v h e i =
    let p = and_parts _ _ h in
    choose (c.address == a) refl e p.0 (fits-found kept cells f a v p.1)
  where
    some_same : (x y : StridedInterval) → Some x ≡ Some y → x ≡ y
    some_same x y e = cc

    choose :
        (b : Bool) → (c.address == a) ≡ b → cond b (Some (interval_of c.val)) (cell_at cells a) ≡ Some v → fits kept f c ≡ true
        → (cell_at cells a ≡ Some v → is_between f a ≡ true → (has_cell kept a || lies_in v (bytes_of f)) ≡ true)
        → (has_cell kept a || lies_in v (bytes_of f)) ≡ true
    choose true same found fit others =
        let at : c.address ≡ a = eqb-true c.address a same in
        let value : interval_of c.val ≡ v = some_same (interval_of c.val) v found in
        subst (λ w. (has_cell kept a || lies_in w (bytes_of f)) ≡ true) value
        (subst
        (λ z. is_between f z ≡ true → (has_cell kept z || lies_in (interval_of c.val) (bytes_of f)) ≡ true)
        at (fits-inside kept f c fit) i)
    choose false other found fit others = others found i

by_said : (may kept cell said lies : Bool) → cell ≡ false → said ≡ true → (not may || kept || not cell && said || lies) ≡ true
by_said false kept cell said lies p q = refl
by_said true true cell said lies p q = refl
by_said true false false true lies p q = refl
by_said true false false false lies p q = cc
by_said true false true said lies p q = cc

by_cell : (may kept said lies : Bool) → (kept || lies) ≡ true → (not may || kept || said || lies) ≡ true
by_cell false kept said lies h = refl
by_cell true true said lies h = refl
by_cell true false true lies h = refl
by_cell true false false lies h = h

filled-throughout :
    (facts : List Fact) (cells : List Cell) (fills : List Fill) (p : Pointers Bounds) (kept : List Cell) (f : Fill) (a : ℕ)
    → f.lo < 256 → f.first ≤ a → a ≤ f.last → (list_any (says_all f) fills || is_held_throughout facts fills f) ≡ true
    → list_all (fits kept f) cells ≡ true → is_filled_at facts cells fills p kept f a ≡ true
unfolding is_filled_at byte_at has_cell
filled-throughout facts cells fills p kept f a byte low high known fit = choose (cell_at cells a) refl
  where
    between : (first last a : ℕ) → first ≤ a → a ≤ last → (nat_le first a && nat_le a last) ≡ true
    between first last a low high = grind (arith, nat_tests)

    choose :
        (o : Option StridedInterval) → cell_at cells a ≡ o
        → (not (may_reach f.end p a) || is_there (cell_at kept a) || not (is_there o) && is_said_at f a fills || lies_in (cell_or o (cut_by_fills p fills a (cut_by_facts facts a any_byte))) (bytes_of f)) ≡ true
    choose None e = elim (or_cases (list_any (says_all f) fills) (is_held_throughout facts fills f) known) [
      | inl said ↦
          by_said (may_reach f.end p a) (is_there (cell_at kept a)) false (is_said_at f a fills)
          (lies_in (cut_by_fills p fills a (cut_by_facts facts a any_byte)) (bytes_of f)) refl (said-at f fills a low high said)
      | inr held ↦
          by_cell (may_reach f.end p a) (is_there (cell_at kept a)) (is_said_at f a fills)
          (lies_in (cut_by_fills p fills a (cut_by_facts facts a any_byte)) (bytes_of f))
          (or-second (is_there (cell_at kept a)) (lies_in (cut_by_fills p fills a (cut_by_facts facts a any_byte)) (bytes_of f)) (held-lies facts fills p f a byte low high held))
    ]
    choose (Some v) e =
        by_cell (may_reach f.end p a) (is_there (cell_at kept a)) false (lies_in v (bytes_of f))
        (fits-found kept cells f a v fit e (between f.first f.last a low high))

up_to : (first last a : ℕ) → first ≤ a → a < first + (last + 1 - first) → a ≤ last
up_to first last a low h = omega arith

pub gives_fill_throughout :
    (facts : List Fact) (cells : List Cell) (fills : List Fill) (p : Pointers Bounds) (kept : List Cell) (f : Fill)
    → f.lo < 256 → is_filled_throughout facts cells fills kept f ≡ true → gives_fill facts cells fills p kept f ≡ true
unfolding gives_fill is_filled_throughout
gives_fill_throughout facts cells fills p kept f byte h =
    let both = and_parts (list_any (says_all f) fills || is_held_throughout facts fills f) (list_all (fits kept f) cells) h in
    each_of-all (is_filled_at facts cells fills p kept f) (f.last + 1 - f.first) f.first
    (λ a low high. filled-throughout facts cells fills p kept f a byte low (up_to f.first f.last a low high) both.0 both.1)

-- ---- facts

known-throughout :
    (facts : List Fact) (cells : List Cell) (fills : List Fill) (p : Pointers Bounds) (kept : List Cell) (f : Fill) (a : ℕ)
    → f.lo < 256 → f.first ≤ a → a ≤ f.last → is_held_throughout facts fills f ≡ true → list_all (fits kept f) cells ≡ true
    → (has_cell kept a || lies_in (byte_at facts cells fills p a) (bytes_of f)) ≡ true
unfolding byte_at
known-throughout facts cells fills p kept f a byte low high held fit = choose (cell_at cells a) refl
  where
    between : (first last a : ℕ) → first ≤ a → a ≤ last → (nat_le first a && nat_le a last) ≡ true
    between first last a low high = grind (arith, nat_tests)

    choose :
        (o : Option StridedInterval) → cell_at cells a ≡ o
        → (has_cell kept a || lies_in (cell_or o (cut_by_fills p fills a (cut_by_facts facts a any_byte))) (bytes_of f)) ≡ true
    choose None e =
        or-second (has_cell kept a) (lies_in (cut_by_fills p fills a (cut_by_facts facts a any_byte)) (bytes_of f))
        (held-lies facts fills p f a byte low high held)
    choose (Some v) e = fits-found kept cells f a v fit e (between f.first f.last a low high)

plain-value : (v : StridedInterval) → v.count ≡ 0 → bounds v.lo v.hi ≡ v
plain-value v e = ap (λ n. record { lo = v.lo; hi = v.hi; count = n }) (sym e)

given-throughout :
    (facts : List Fact) (cells : List Cell) (fills : List Fill) (p : Pointers Bounds) (kept : List Cell) (f : Fact) (a : ℕ)
    → f.value.lo < 256 → f.first ≤ a → a ≤ f.last → f.value.count ≡ 0 → is_held_throughout facts fills (stretch_of f) ≡ true
    → list_all (fits kept (stretch_of f)) cells ≡ true → is_given_at facts cells fills p kept f a ≡ true
unfolding is_given_at
given-throughout facts cells fills p kept f a byte low high plain held fit =
    third (has_address f a) (has_cell kept a) (lies_in (byte_at facts cells fills p a) f.value)
    (subst (λ w. (has_cell kept a || lies_in (byte_at facts cells fills p a) w) ≡ true) (plain-value f.value plain)
    (known-throughout facts cells fills p kept (stretch_of f) a byte low high held fit))
  where
    third : (x k l : Bool) → (k || l) ≡ true → (not x || k || l) ≡ true
    third false k l h = refl
    third true k l h = h

pub gives_fact_throughout :
    (facts : List Fact) (cells : List Cell) (fills : List Fill) (p : Pointers Bounds) (kept : List Cell) (f : Fact)
    → f.value.lo < 256 → is_given_throughout facts cells fills kept f ≡ true → gives_fact facts cells fills p kept f ≡ true
unfolding gives_fact is_given_throughout
gives_fact_throughout facts cells fills p kept f byte h =
    let q = and_parts (f.value.count == 0 && is_held_throughout facts fills (stretch_of f)) (list_all (fits kept (stretch_of f)) cells) h in
    let r = and_parts (f.value.count == 0) (is_held_throughout facts fills (stretch_of f)) q.0 in
    each_of-all (is_given_at facts cells fills p kept f) (f.last + 1 - f.first) f.first
    (λ a low high.
    given-throughout facts cells fills p kept f a byte low (up_to f.first f.last a low high) (eqb-true f.value.count 0 r.0) r.1 q.1)
