-- Fills hold after stores and as pointers change, and give a byte's values.
use Rattle.std.proofs.Common.{◌≡◌, ℕ, ◌+◌, ◌-◌, ◌<◌, ◌≤◌, ◌%◌, Bool, true, false, not, ◌&&◌, ◌==◌, nat_le, nat_lt, cond, List, [], ◌∷◌, Option, Some, None, refl, sym, ◌∙◌, ap, subst, arith}
use Rattle.std.proofs.lemmas.Bool.{and_parts, eqb-true}
use Rattle.std.proofs.lemmas.Bool.Decides.{nat_tests}
use Rattle.std.specs.Prelude.{min, max}
use Rattle.gb_domain.specs.declared.pairs.Bounds.{Bounds}
use Rattle.gb_domain.specs.declared.interval.StridedInterval.{StridedInterval}
use Rattle.gb_domain.specs.LowBits.{modulus}
use Rattle.gb_domain.specs.Interval.{bounds}
use Rattle.gb_domain.specs.Meaning.{In}
use Rattle.gb_domain.proofs.ModulusLaws.{Has-low_bits}
use Rattle.gb_domain.specs.declared.types.Cell.{Cell}
use Rattle.gb_ram_bounds.specs.declared.addresses.AddressSet.{AddressSet}
use Rattle.gb_ops.specs.declared.op.Pointer.{Pointer}
use Rattle.gb_ops.specs.declared.op.Pointer.TheVariants.{Bc, De, Hl, HighC}
use Rattle.gb_ram_bounds.specs.declared.pointers.Pointers.{Pointers}
use Rattle.gb_domain.specs.declared.summary.Reach.{Reach}
use Rattle.gb_domain.specs.declared.summary.Reach.TheVariants.{Below, Above}
use Rattle.gb_domain.specs.declared.summary.FillEnd.{FillEnd}
use Rattle.gb_domain.specs.declared.summary.Fill.{Fill}
use Rattle.gb_ram_bounds.specs.Cells.{has_cell}
use Rattle.gb_ram_bounds.specs.Addresses.{is_in}
use Rattle.gb_ram_bounds.specs.Facts.{cut_or_same, is_to_cell}
use Rattle.gb_ram_bounds.specs.Fills.{at_pointer, is_same_pointer, is_on, is_reached, nearest, is_surely_reached, surely_reaches, reaches, is_between, bytes_of, is_in_extent, cut_by_fill, cut_by_fills, grown, one_more, ends_at, is_touched, grown_if_touched, extended_if, filled_by, filled, near_end, cut_to_extent, fixed_at, after_write, written, with_offset, after_rise, after_fall, raised, lowered}
use Rattle.gb_ram_bounds.specs.Meaning.{HoldsFill, HoldFills, HoldsSome, PointersIn, OthersStay, GoesThrough, IsStored, HasCellsOf, IsSoundByFills, IsSoundStore, IsSoundWrite, IsSoundRise, IsSoundFall}
use Rattle.gb_ram_bounds.proofs.AddressLaws.{some_of-at}
use Rattle.gb_ram_bounds.proofs.FactLaws.{cut_or_same-In, is_in-between, to_cell-has}

-- ---- bounds

pub In-bounds : (lo hi x : ℕ) → lo ≤ x → x ≤ hi → In (bounds lo hi) x
unfolding modulus
In-bounds lo hi x low high = record { least = low; most = high; low = Has-low_bits 0 x lo (one x lo) }
  where
    one : (x y : ℕ) → x % 1 ≡ y % 1
    one x y = omega arith

In-grown_old : (v : StridedInterval) (f : Fill) (x : ℕ) → In (bytes_of f) x → In (bytes_of (grown v f)) x
In-grown_old v f x h =
    let low : f.lo ≤ x = h.least in
    let high : x ≤ f.hi = h.most in
    In-bounds (min f.lo v.lo) (max f.hi v.hi) x (omega arith) (omega arith)

In-grown_new : (v : StridedInterval) (f : Fill) (x : ℕ) → In v x → In (bytes_of (grown v f)) x
In-grown_new v f x h =
    let low : v.lo ≤ x = h.least in
    let high : x ≤ v.hi = h.most in
    In-bounds (min f.lo v.lo) (max f.hi v.hi) x (omega arith) (omega arith)

-- ---- pointers

pub same_pointer : (p q : Pointer) → is_same_pointer p q ≡ true → p ≡ q
same_pointer Bc Bc h = refl
same_pointer De De h = refl
same_pointer Hl Hl h = refl
same_pointer HighC HighC h = refl
same_pointer Bc De h = cc
same_pointer Bc Hl h = cc
same_pointer Bc HighC h = cc
same_pointer De Bc h = cc
same_pointer De Hl h = cc
same_pointer De HighC h = cc
same_pointer Hl Bc h = cc
same_pointer Hl De h = cc
same_pointer Hl HighC h = cc
same_pointer HighC Bc h = cc
same_pointer HighC De h = cc
same_pointer HighC Hl h = cc

-- what the nearest value reaches, each value reaches
is_on-nearest :
    (r : Reach) (b : Bounds) (x offset a : ℕ)
    → b.first ≤ x → x ≤ b.last → is_on r (nearest r b) offset a ≡ true → is_on r x offset a ≡ true
is_on-nearest Below b x offset a low high h = further b.first x offset a low h
  where
    further : (p x offset a : ℕ) → p ≤ x → nat_lt (a + 32768) (p + offset) ≡ true → nat_lt (a + 32768) (x + offset) ≡ true
    further p x offset a low h = grind (arith, nat_tests)
is_on-nearest Above b x offset a low high h = further b.last x offset a high h
  where
    further : (p x offset a : ℕ) → x ≤ p → nat_lt (p + offset) (a + 32768) ≡ true → nat_lt (x + offset) (a + 32768) ≡ true
    further p x offset a low h = grind (arith, nat_tests)

reached-surely :
    (e : FillEnd) (p : Pointers Bounds) (x : Pointers ℕ) (a : ℕ)
    → PointersIn p x → is_surely_reached e p a ≡ true → is_reached e (at_pointer e.pointer x) a ≡ true
unfolding is_surely_reached is_reached
reached-surely e p x a i h =
    is_on-nearest e.reach (at_pointer e.pointer p) (at_pointer e.pointer x) e.offset a (i.least e.pointer) (i.most e.pointer) h

reaches-surely :
    (o : Option FillEnd) (p : Pointers Bounds) (x : Pointers ℕ) (a : ℕ)
    → PointersIn p x → surely_reaches o p a ≡ true → reaches o x a ≡ true
reaches-surely None p x a i h = refl
reaches-surely (Some e) p x a i h = reached-surely e p x a i h

-- ---- the byte at an address

cut_by_fill-In :
    (p : Pointers Bounds) (f : Fill) (a : ℕ) (v : StridedInterval) (cells : List Cell) (memory : ℕ → ℕ) (x : Pointers ℕ)
    → PointersIn p x → HoldsFill cells memory x f → has_cell cells a ≡ false → In v (memory a)
    → In (cut_by_fill p f a v) (memory a)
unfolding cut_by_fill is_in_extent
cut_by_fill-In p f a v cells memory x i h free m = choose (is_between f a && surely_reaches f.end p a) refl
  where
    choose :
        (b : Bool) → (is_between f a && surely_reaches f.end p a) ≡ b
        → In (cond b (cut_or_same v (bytes_of f)) v) (memory a)
    choose true e =
        let both = and_parts _ _ e in
        cut_or_same-In v (bytes_of f) (memory a) m (h.gives a both.0 (reaches-surely f.end p x a i both.1) free)
    choose false e = m

pub cut_by_fills-In :
    (p : Pointers Bounds) (fills : List Fill) (a : ℕ) (v : StridedInterval) (cells : List Cell) (memory : ℕ → ℕ) (x : Pointers ℕ)
    → PointersIn p x → HoldFills fills cells memory x → has_cell cells a ≡ false → In v (memory a)
    → In (cut_by_fills p fills a v) (memory a)
cut_by_fills-In p [] a v cells memory x i h free m = m
cut_by_fills-In p (f ∷ fills) a v cells memory x i h free m =
    cut_by_fills-In p fills a (cut_by_fill p f a v) cells memory x i h.1 free (cut_by_fill-In p f a v cells memory x i h.0 free m)

pub cut_by_fills_sound :
    (p : Pointers Bounds) (fills : List Fill) (a : ℕ) (v o : StridedInterval)
    → o ≡ cut_by_fills p fills a v → IsSoundByFills p fills a v o
cut_by_fills_sound p fills a v o e =
    subst (λ r. IsSoundByFills p fills a v r) (sym e) (record { gives = λ cells memory x. cut_by_fills-In p fills a v cells memory x })

-- ---- a store

differ : (a b : ℕ) → (a == b) ≡ false → a ≡ b → ⊥
differ a b e p = grind (arith, nat_tests)

-- a fill g holds after a store where what it has elsewhere f had, and it has what was stored
HoldsFill-store :
    (before after : List Cell) (memory stored : ℕ → ℕ) (x : Pointers ℕ) (s : AddressSet) (v : StridedInterval) (f g : Fill)
    → HasCellsOf before after → (w : IsStored s v memory stored) → HoldsFill before memory x f
    → ((z : ℕ) → In (bytes_of f) z → In (bytes_of g) z)
    → ((a : ℕ) → is_between g a ≡ true → reaches g.end x a ≡ true → (a ≡ w.address → ⊥) → (is_between f a ≡ true) × (reaches f.end x a ≡ true))
    → (is_between g w.address ≡ true → has_cell after w.address ≡ false → In (bytes_of g) (stored w.address))
    → HoldsFill after stored x g
HoldsFill-store before after memory stored x s v f g c w h wider elsewhere there =
    record { gives = λ a between reached free. choose a between reached free (a == w.address) refl }
  where
    choose :
        (a : ℕ) → is_between g a ≡ true → reaches g.end x a ≡ true → has_cell after a ≡ false
        → (b : Bool) → (a == w.address) ≡ b → In (bytes_of g) (stored a)
    choose a between reached free true e =
        let same : a ≡ w.address = eqb-true a w.address e in
        subst (λ z. In (bytes_of g) (stored z)) (sym same)
        (there (subst (λ z. is_between g z ≡ true) same between) (subst (λ z. has_cell after z ≡ false) same free))
    choose a between reached free false e =
        let other : a ≡ w.address → ⊥ = differ a w.address e in
        let same : stored a ≡ memory a = w.others a other in
        let old = elsewhere a between reached other in
        subst (λ z. In (bytes_of g) z) (sym same) (wider (memory a) (h.gives a old.0 old.1 (c.gives a free)))

pub at_most : (x y : ℕ) → nat_le x y ≡ true → x ≤ y
at_most x y h = grind (arith, nat_tests)

within_both : (a p q r s : ℕ) → p ≤ a → a ≤ q → r ≤ a → a ≤ s → (max p r ≤ a) × (a < max p r + (min q s + 1 - max p r))
within_both a p q r s h i j k = (omega arith, omega arith)

touched-at : (s : AddressSet) (f : Fill) (a : ℕ) → is_between f a ≡ true → is_in s a ≡ true → is_touched s f ≡ true
unfolding is_touched
touched-at s f a h i =
    let p = and_parts _ _ h in
    let q = is_in-between s a i in
    let w = within_both a f.first f.last s.first s.last (at_most f.first a p.0) (at_most a f.last p.1) q.least q.most in
    some_of-at (is_in s) (min f.last s.last + 1 - max f.first s.first) (max f.first s.first) a w.0 w.1 i

HoldsFill-grown_if_touched :
    (before after : List Cell) (memory stored : ℕ → ℕ) (x : Pointers ℕ) (s : AddressSet) (v : StridedInterval) (f : Fill)
    → HasCellsOf before after → IsStored s v memory stored → HoldsFill before memory x f
    → HoldsFill after stored x (grown_if_touched after s v f)
unfolding grown_if_touched
HoldsFill-grown_if_touched before after memory stored x s v f c w h =
    choose (is_to_cell after s) refl (is_touched s f) refl
  where
    clash : (b : Bool) → b ≡ true → b ≡ false → ⊥
    clash true p q = cc
    clash false p q = cc

    grows : HoldsFill after stored x (grown v f)
    grows =
        HoldsFill-store before after memory stored x s v f (grown v f) c w h
        (In-grown_old v f) (λ a between reached other. (between, reached)) (λ between free. In-grown_new v f (stored w.address) w.value)

    stays : (is_between f w.address ≡ true → has_cell after w.address ≡ false → ⊥) → HoldsFill after stored x f
    stays out =
        HoldsFill-store before after memory stored x s v f f c w h
        (λ z m. m) (λ a between reached other. (between, reached)) (λ between free. absurd (out between free))

    choose :
        (b : Bool) → is_to_cell after s ≡ b → (t : Bool) → is_touched s f ≡ t
        → HoldsFill after stored x (cond (not b && t) (grown v f) f)
    choose true e t d = stays (λ between free. clash (has_cell after w.address) (to_cell-has after s w.address e w.among) free)
    choose false e true d = grows
    choose false e false d = stays (λ between free. clash (is_touched s f) (touched-at s f w.address between w.among) d)

-- through the pointer at which the fill ends: one address more
record EndsThere (through : Option Pointer) (e : FillEnd) (x : Pointers ℕ) (a : ℕ) : Type 0 where
  address : a ≡ at_pointer e.pointer x
  offset : e.offset ≡ 32768

EndsThere-from : (through : Option Pointer) (e : FillEnd) (x : Pointers ℕ) (a : ℕ) → ends_at through e ≡ true → GoesThrough through x a → EndsThere through e x a
EndsThere-from None e x a h g = cc
EndsThere-from (Some q) e x a h g =
    let p = and_parts _ _ h in
    record {
      address = g ∙ ap (λ r. at_pointer r x) (same_pointer q e.pointer p.0);
      offset = eqb-true e.offset 32768 p.1;
    }

-- all but the pointer's own address were reached before
before-one_more :
    (r : Reach) (p offset a : ℕ) → offset ≡ 32768 → is_on r p (one_more r) a ≡ true → (a ≡ p → ⊥) → is_on r p offset a ≡ true
before-one_more Below p offset a e h other = below p offset a e h other
  where
    below : (p offset a : ℕ) → offset ≡ 32768 → nat_lt (a + 32768) (p + 32769) ≡ true → (a ≡ p → ⊥) → nat_lt (a + 32768) (p + offset) ≡ true
    below p offset a e h other = grind (arith, nat_tests)
before-one_more Above p offset a e h other = above p offset a e h other
  where
    above : (p offset a : ℕ) → offset ≡ 32768 → nat_lt (p + 32767) (a + 32768) ≡ true → (a ≡ p → ⊥) → nat_lt (p + offset) (a + 32768) ≡ true
    above p offset a e h other = grind (arith, nat_tests)

reached-before :
    (e : FillEnd) (p a : ℕ) → e.offset ≡ 32768 → is_reached (record e { offset = one_more e.reach }) p a ≡ true → (a ≡ p → ⊥)
    → is_reached e p a ≡ true
unfolding is_reached
reached-before e p a o h other = before-one_more e.reach p e.offset a o h other

HoldsFill-extended :
    (before after : List Cell) (memory stored : ℕ → ℕ) (x : Pointers ℕ) (s : AddressSet) (v : StridedInterval) (f : Fill) (e : FillEnd)
    → HasCellsOf before after → (w : IsStored s v memory stored) → w.address ≡ at_pointer e.pointer x → e.offset ≡ 32768
    → f.end ≡ Some e → HoldsFill before memory x f
    → HoldsFill after stored x (record (grown v f) { end = Some (record e { offset = one_more e.reach }) })
HoldsFill-extended before after memory stored x s v f e c w at offset ends h =
    HoldsFill-store before after memory stored x s v f (record (grown v f) { end = Some (record e { offset = one_more e.reach }) }) c w h
    (In-grown_old v f)
    (λ a between reached other.
    let away : a ≡ at_pointer e.pointer x → ⊥ = (λ p. other (p ∙ sym at)) in
    (between, subst (λ o. reaches o x a ≡ true) (sym ends) (reached-before e (at_pointer e.pointer x) a offset reached away)))
    (λ between free. In-grown_new v f (stored w.address) w.value)

HoldsFill-filled :
    (before after : List Cell) (memory stored : ℕ → ℕ) (x : Pointers ℕ) (s : AddressSet) (through : Option Pointer)
    (v : StridedInterval) (f : Fill)
    → HasCellsOf before after → (w : IsStored s v memory stored) → GoesThrough through x w.address
    → HoldsFill before memory x f → HoldsFill after stored x (filled after s through v f)
unfolding filled
HoldsFill-filled before after memory stored x s through v f c w g h =
    by_end f.end refl (HoldsFill-grown_if_touched before after memory stored x s v f c w h)
  where
    by_end :
        (o : Option FillEnd) → f.end ≡ o → HoldsFill after stored x (grown_if_touched after s v f)
        → HoldsFill after stored x (filled_by o through v f (grown_if_touched after s v f))
    by_end None ends other = other
    by_end (Some e) ends other = choose (ends_at through e) refl
      where
        choose :
            (b : Bool) → ends_at through e ≡ b
            → HoldsFill after stored x (extended_if b e v f (grown_if_touched after s v f))
        choose true is =
            let there = EndsThere-from through e x w.address is g in
            HoldsFill-extended before after memory stored x s v f e c w there.address there.offset ends h
        choose false is = other

pub filled_sound :
    (after : List Cell) (s : AddressSet) (through : Option Pointer) (v : StridedInterval) (f o : Fill)
    → o ≡ filled after s through v f → IsSoundStore after s through v f o
filled_sound after s through v f o e =
    subst (λ r. IsSoundStore after s through v f r) (sym e)
    (record { gives = λ before memory stored x. HoldsFill-filled before after memory stored x s through v f })

-- ---- a pointer that is written

-- each address of the extent is reached for sure
extent-reached :
    (r : Reach) (p offset : ℕ) (f : Fill) (a : ℕ)
    → is_on r p offset (near_end r f) ≡ true → is_between (cut_to_extent r (p + offset) f) a ≡ true
    → (is_between f a ≡ true) × (is_on r p offset a ≡ true)
extent-reached Below p offset f a near h = below (p + offset) f.first f.last a near h
  where
    below :
        (edge first last a : ℕ)
        → nat_lt (first + 32768) edge ≡ true → (nat_le first a && nat_le a (min last (edge - 32769))) ≡ true
        → ((nat_le first a && nat_le a last) ≡ true) × (nat_lt (a + 32768) edge ≡ true)
    below edge first last a near h = (grind (arith, nat_tests), grind (arith, nat_tests))
extent-reached Above p offset f a near h = above (p + offset) f.first f.last a near h
  where
    above :
        (edge first last a : ℕ)
        → nat_lt edge (last + 32768) ≡ true → (nat_le (max first (edge + 1 - 32768)) a && nat_le a last) ≡ true
        → ((nat_le first a && nat_le a last) ≡ true) × (nat_lt edge (a + 32768) ≡ true)
    above edge first last a near h = (grind (arith, nat_tests), grind (arith, nat_tests))

-- what is known with any value of the pointer is known without it
HoldsFill-extent :
    (e : FillEnd) (p : Pointers Bounds) (f : Fill) (cells : List Cell) (memory : ℕ → ℕ) (x y : Pointers ℕ)
    → PointersIn p x → f.end ≡ Some e → HoldsFill cells memory x f → is_surely_reached e p (near_end e.reach f) ≡ true
    → HoldsFill cells memory y (cut_to_extent e.reach (nearest e.reach (at_pointer e.pointer p) + e.offset) f)
unfolding is_surely_reached is_reached
HoldsFill-extent e p f cells memory x y i ends h near =
    record { gives = λ a between reached free. choose e.reach refl a between free }
  where
    edge : ℕ
    edge = nearest e.reach (at_pointer e.pointer p)

    same_bytes : (r : Reach) (n z : ℕ) → In (bytes_of f) z → In (bytes_of (cut_to_extent r n f)) z
    same_bytes Below n z m = m
    same_bytes Above n z m = m

    choose :
        (r : Reach) → e.reach ≡ r → (a : ℕ) → is_between (cut_to_extent e.reach (edge + e.offset) f) a ≡ true → has_cell cells a ≡ false
        → In (bytes_of (cut_to_extent e.reach (edge + e.offset) f)) (memory a)
    choose r same a between free =
        let both = extent-reached e.reach edge e.offset f a near between in
        let now : is_reached e (at_pointer e.pointer x) a ≡ true = reached-surely e p x a i both.1 in
        same_bytes e.reach (edge + e.offset) (memory a)
        (h.gives a both.0 (subst (λ o. reaches o x a ≡ true) (sym ends) now) free)

pub HoldsSome-fixed :
    (e : FillEnd) (p : Pointers Bounds) (f : Fill) (cells : List Cell) (memory : ℕ → ℕ) (x y : Pointers ℕ)
    → PointersIn p x → f.end ≡ Some e → HoldsFill cells memory x f → HoldsSome (fixed_at e p f) cells memory y
unfolding fixed_at
HoldsSome-fixed e p f cells memory x y i ends h = choose (is_surely_reached e p (near_end e.reach f)) refl
  where
    choose :
        (b : Bool) → is_surely_reached e p (near_end e.reach f) ≡ b
        → HoldsSome
        (cond b (Some (cut_to_extent e.reach (nearest e.reach (at_pointer e.pointer p) + e.offset) f)) None) cells memory y
    choose true near = HoldsFill-extent e p f cells memory x y i ends h near
    choose false near = tt

-- with another pointer at its end, or none, the fill is about the same addresses
pub HoldsFill-elsewhere :
    (f : Fill) (cells : List Cell) (memory : ℕ → ℕ) (x y : Pointers ℕ)
    → ((a : ℕ) → reaches f.end y a ≡ true → reaches f.end x a ≡ true) → HoldsFill cells memory x f → HoldsFill cells memory y f
HoldsFill-elsewhere f cells memory x y same h = record { gives = λ a between reached. h.gives a between (same a reached) }

reaches-other :
    (e : FillEnd) (q : Pointer) (x y : Pointers ℕ) (a : ℕ)
    → OthersStay q x y → is_same_pointer q e.pointer ≡ false → reaches (Some e) y a ≡ true → reaches (Some e) x a ≡ true
reaches-other e q x y a o other h = subst (λ z. is_reached e z a ≡ true) (o.gives e.pointer other) h

HoldsFill-other :
    (e : FillEnd) (q : Pointer) (f : Fill) (cells : List Cell) (memory : ℕ → ℕ) (x y : Pointers ℕ)
    → OthersStay q x y → is_same_pointer q e.pointer ≡ false → f.end ≡ Some e → HoldsFill cells memory x f → HoldsFill cells memory y f
HoldsFill-other e q f cells memory x y o other ends h =
    HoldsFill-elsewhere f cells memory x y
    (λ a reached.
    subst (λ r. reaches r x a ≡ true) (sym ends) (reaches-other e q x y a o other (subst (λ r. reaches r y a ≡ true) ends reached)))
    h

pub HoldsFill-none :
    (f : Fill) (cells : List Cell) (memory : ℕ → ℕ) (x y : Pointers ℕ)
    → f.end ≡ None → HoldsFill cells memory x f → HoldsFill cells memory y f
HoldsFill-none f cells memory x y ends h =
    HoldsFill-elsewhere f cells memory x y (λ a reached. subst (λ r. reaches r x a ≡ true) (sym ends) refl) h

HoldsSome-written :
    (q : Pointer) (p : Pointers Bounds) (f : Fill) (cells : List Cell) (memory : ℕ → ℕ) (x y : Pointers ℕ)
    → PointersIn p x → OthersStay q x y → HoldsFill cells memory x f → HoldsSome (written q p f) cells memory y
unfolding written
HoldsSome-written q p f cells memory x y i o h = by_end f.end refl
  where
    by_end : (r : Option FillEnd) → f.end ≡ r → HoldsSome (after_write r q p f) cells memory y
    by_end None ends = HoldsFill-none f cells memory x y ends h
    by_end (Some e) ends = choose (is_same_pointer q e.pointer) refl
      where
        choose : (b : Bool) → is_same_pointer q e.pointer ≡ b → HoldsSome (cond b (fixed_at e p f) (Some f)) cells memory y
        choose true same = HoldsSome-fixed e p f cells memory x y i ends h
        choose false other = HoldsFill-other e q f cells memory x y o other ends h

pub written_sound : (q : Pointer) (p : Pointers Bounds) (f : Fill) (o : Option Fill) → o ≡ written q p f → IsSoundWrite q p f o
written_sound q p f o e =
    subst (λ r. IsSoundWrite q p f r) (sym e) (record { gives = λ cells memory x y. HoldsSome-written q p f cells memory x y })

-- ---- a pointer that moves

is_on-raised :
    (r : Reach) (p n offset a : ℕ) → n ≤ offset → is_on r (p + n) (offset - n) a ≡ true → is_on r p offset a ≡ true
is_on-raised Below p n offset a le h =
    let e : p + n + (offset - n) ≡ p + offset = omega arith in
    subst (λ z. nat_lt (a + 32768) z ≡ true) e h
is_on-raised Above p n offset a le h =
    let e : p + n + (offset - n) ≡ p + offset = omega arith in
    subst (λ z. nat_lt z (a + 32768) ≡ true) e h

is_on-lowered :
    (r : Reach) (p n offset a : ℕ) → is_on r p (offset + n) a ≡ true → is_on r (p + n) offset a ≡ true
is_on-lowered Below p n offset a h =
    let e : p + (offset + n) ≡ p + n + offset = omega arith in
    subst (λ z. nat_lt (a + 32768) z ≡ true) e h
is_on-lowered Above p n offset a h =
    let e : p + (offset + n) ≡ p + n + offset = omega arith in
    subst (λ z. nat_lt z (a + 32768) ≡ true) e h

-- with another distance the fill is about the same addresses
pub HoldsFill-moved :
    (e : FillEnd) (offset : ℕ) (f : Fill) (cells : List Cell) (memory : ℕ → ℕ) (x y : Pointers ℕ)
    → f.end ≡ Some e
    → ((a : ℕ) → is_reached (record e { offset = offset }) (at_pointer e.pointer y) a ≡ true → is_reached e (at_pointer e.pointer x) a ≡ true)
    → HoldsFill cells memory x f → HoldsFill cells memory y (with_offset e offset f)
HoldsFill-moved e offset f cells memory x y ends same h =
    record { gives = λ a between reached. h.gives a between (subst (λ r. reaches r x a ≡ true) (sym ends) (same a reached)) }

pub reached-raised :
    (e : FillEnd) (p r n a : ℕ) → n ≤ e.offset → r ≡ p + n → is_reached (record e { offset = e.offset - n }) r a ≡ true → is_reached e p a ≡ true
unfolding is_reached
reached-raised e p r n a le at h =
    is_on-raised e.reach p n e.offset a le (subst (λ z. is_on e.reach z (e.offset - n) a ≡ true) at h)

pub reached-lowered :
    (e : FillEnd) (p r n a : ℕ) → p ≡ r + n → is_reached (record e { offset = e.offset + n }) r a ≡ true → is_reached e p a ≡ true
unfolding is_reached
reached-lowered e p r n a at h = subst (λ z. is_on e.reach z e.offset a ≡ true) (sym at) (is_on-lowered e.reach r n e.offset a h)

HoldsSome-raised :
    (q : Pointer) (n : ℕ) (p : Pointers Bounds) (f : Fill) (cells : List Cell) (memory : ℕ → ℕ) (x y : Pointers ℕ)
    → PointersIn p x → OthersStay q x y → at_pointer q y ≡ at_pointer q x + n → HoldsFill cells memory x f
    → HoldsSome (raised q n p f) cells memory y
unfolding raised
HoldsSome-raised q n p f cells memory x y i o at h = by_end f.end refl
  where
    moves : (e : FillEnd) → f.end ≡ Some e → q ≡ e.pointer → n ≤ e.offset → HoldsFill cells memory y (with_offset e (e.offset - n) f)
    moves e ends same le =
        let step : at_pointer e.pointer y ≡ at_pointer e.pointer x + n = subst (λ r. at_pointer r y ≡ at_pointer r x + n) same at in
        HoldsFill-moved e (e.offset - n) f cells memory x y ends
        (λ a. reached-raised e (at_pointer e.pointer x) (at_pointer e.pointer y) n a le step) h

    by_end : (r : Option FillEnd) → f.end ≡ r → HoldsSome (after_rise r q n p f) cells memory y
    by_end None ends = HoldsFill-none f cells memory x y ends h
    by_end (Some e) ends = choose (is_same_pointer q e.pointer) refl (nat_le n e.offset) refl
      where
        choose :
            (b : Bool) → is_same_pointer q e.pointer ≡ b → (c : Bool) → nat_le n e.offset ≡ c
            → HoldsSome (cond b (cond c (Some (with_offset e (e.offset - n) f)) (fixed_at e p f)) (Some f)) cells memory y
        choose true same true le = moves e ends (same_pointer q e.pointer same) (at_most n e.offset le)
        choose true same false gt = HoldsSome-fixed e p f cells memory x y i ends h
        choose false other c d = HoldsFill-other e q f cells memory x y o other ends h

HoldsSome-lowered :
    (q : Pointer) (n : ℕ) (p : Pointers Bounds) (f : Fill) (cells : List Cell) (memory : ℕ → ℕ) (x y : Pointers ℕ)
    → PointersIn p x → OthersStay q x y → at_pointer q x ≡ at_pointer q y + n → HoldsFill cells memory x f
    → HoldsSome (lowered q n p f) cells memory y
unfolding lowered
HoldsSome-lowered q n p f cells memory x y i o at h = by_end f.end refl
  where
    moves : (e : FillEnd) → f.end ≡ Some e → q ≡ e.pointer → HoldsFill cells memory y (with_offset e (e.offset + n) f)
    moves e ends same =
        let step : at_pointer e.pointer x ≡ at_pointer e.pointer y + n = subst (λ r. at_pointer r x ≡ at_pointer r y + n) same at in
        HoldsFill-moved e (e.offset + n) f cells memory x y ends
        (λ a. reached-lowered e (at_pointer e.pointer x) (at_pointer e.pointer y) n a step) h

    by_end : (r : Option FillEnd) → f.end ≡ r → HoldsSome (after_fall r q n p f) cells memory y
    by_end None ends = HoldsFill-none f cells memory x y ends h
    by_end (Some e) ends = choose (is_same_pointer q e.pointer) refl (nat_lt (e.offset + n) 65536)
      where
        choose :
            (b : Bool) → is_same_pointer q e.pointer ≡ b → (c : Bool)
            → HoldsSome (cond b (cond c (Some (with_offset e (e.offset + n) f)) (fixed_at e p f)) (Some f)) cells memory y
        choose true same true = moves e ends (same_pointer q e.pointer same)
        choose true same false = HoldsSome-fixed e p f cells memory x y i ends h
        choose false other c = HoldsFill-other e q f cells memory x y o other ends h

pub raised_sound :
    (q : Pointer) (n : ℕ) (p : Pointers Bounds) (f : Fill) (o : Option Fill) → o ≡ raised q n p f → IsSoundRise q n p f o
raised_sound q n p f o e =
    subst (λ r. IsSoundRise q n p f r) (sym e) (record { gives = λ cells memory x y. HoldsSome-raised q n p f cells memory x y })

pub lowered_sound :
    (q : Pointer) (n : ℕ) (p : Pointers Bounds) (f : Fill) (o : Option Fill) → o ≡ lowered q n p f → IsSoundFall q n p f o
lowered_sound q n p f o e =
    subst (λ r. IsSoundFall q n p f r) (sym e) (record { gives = λ cells memory x y. HoldsSome-lowered q n p f cells memory x y })
