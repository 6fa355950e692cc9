-- Addresses that a fill's pointer doesn't reach pass, so that the others alone are asked.
use Rattle.std.proofs.Common.{◌≡◌, ℕ, zero, suc, ◌+◌, ◌-◌, ◌<◌, ◌≤◌, Bool, true, false, ◌&&◌, cond, nat_le, nat_lt, List, Option, Some, None, refl, sym, ◌∙◌, ap, subst, arith}
use Rattle.std.proofs.lemmas.Bool.Decides.{nat_tests}
use Rattle.gb_domain.specs.declared.pairs.Bounds.{Bounds}
use Rattle.gb_domain.specs.declared.types.Cell.{Cell}
use Rattle.gb_domain.specs.declared.summary.Fact.{Fact}
use Rattle.gb_domain.specs.declared.summary.Reach.{Reach}
use Rattle.gb_domain.specs.declared.summary.Reach.TheVariants.{Below, Above}
use Rattle.gb_domain.specs.declared.summary.FillEnd.{FillEnd}
use Rattle.gb_domain.specs.declared.summary.Fill.{Fill}
use Rattle.gb_ram_bounds.specs.declared.pointers.Pointers.{Pointers}
use Rattle.gb_ram_bounds.specs.Addresses.{each_of, each_between}
use Rattle.gb_ram_bounds.specs.Fills.{at_pointer, is_on, farthest, is_reached, may_be_reached, may_reach}
use Rattle.gb_ram_bounds.specs.Covering.{is_filled_at, gives_fill}
use Rattle.gb_ram_bounds.specs.Reached.{whole_stretch, stretch_at, stretch_by, reached_stretch, are_filled}
use Rattle.gb_ram_bounds.proofs.AddressLaws.{each_of-all}

-- ---- addresses in a row, of which the last or the first ones pass

each_of-front :
    (passes : ℕ → Bool) (n m a : ℕ) → m ≤ n → ((x : ℕ) → a + m ≤ x → x < a + n → passes x ≡ true)
    → each_of passes n a ≡ each_of passes m a
each_of-front passes n zero a less h = each_of-all passes n a (λ x low high. h x (omega arith) high)
each_of-front passes zero (suc m) a less h = absurd (omega arith)
each_of-front passes (suc n) (suc m) a less h =
    ap (λ b. passes a && b)
    (each_of-front passes n m (a + 1) (omega arith) (λ x low high. h x (omega arith) (omega arith)))

each_of-same : (passes : ℕ → Bool) (n m a b : ℕ) → n ≡ m → a ≡ b → each_of passes n a ≡ each_of passes m b
each_of-same passes n m a b e f = ap (λ k. each_of passes k a) e ∙ ap (λ k. each_of passes m k) f

each_of-back :
    (passes : ℕ → Bool) (n m a : ℕ) → m ≤ n → ((x : ℕ) → a ≤ x → x < a + m → passes x ≡ true)
    → each_of passes n a ≡ each_of passes (n - m) (a + m)
each_of-back passes n zero a less h = each_of-same passes n (n - 0) a (a + 0) (omega arith) (omega arith)
each_of-back passes zero (suc m) a less h = absurd (omega arith)
each_of-back passes (suc n) (suc m) a less h =
    ap (λ b. b && each_of passes n (a + 1)) (h a (omega arith) (omega arith))
    ∙ each_of-back passes n m (a + 1) (omega arith) (λ x low high. h x (omega arith) (omega arith))
    ∙ each_of-same passes (n - m) (suc n - suc m) (a + 1 + m) (a + suc m) (omega arith) (omega arith)

-- ---- what is on one side of an edge

abbrev each_in : Option Bounds → (ℕ → Bool) → Bool
each_in None passes = true
each_in (Some b) passes = each_between b.first b.last passes

beyond : (x edge : ℕ) → edge ≤ x + 32768 → nat_lt (x + 32768) edge ≡ false
beyond x edge h = grind (arith, nat_tests)

short : (x edge : ℕ) → x + 32768 ≤ edge → nat_lt edge (x + 32768) ≡ false
short x edge h = grind (arith, nat_tests)

le_of : (x y : ℕ) → nat_le x y ≡ true → x ≤ y
le_of x y h = grind (arith, nat_tests)

above_of : (x y : ℕ) → nat_le x y ≡ false → y < x
above_of x y h = grind (arith, nat_tests)

each_below :
    (edge : ℕ) (f : Fill) (passes : ℕ → Bool) → ((x : ℕ) → nat_lt (x + 32768) edge ≡ false → passes x ≡ true)
    → each_between f.first f.last passes ≡ each_in (stretch_at Below edge f) passes
unfolding stretch_at
each_below edge f passes h = choose (nat_le edge (f.first + 32768)) (nat_le edge (f.last + 32768)) refl refl
  where
    part : Bounds
    part = record { first = f.first; last = edge - 1 - 32768 }

    choose :
        (b c : Bool) → nat_le edge (f.first + 32768) ≡ b → nat_le edge (f.last + 32768) ≡ c
        → each_between f.first f.last passes ≡ each_in (cond b None (cond c (Some part) (Some (whole_stretch f)))) passes
    choose true c p q =
        let none = le_of edge (f.first + 32768) p in
        each_of-all passes (f.last + 1 - f.first) f.first (λ x low high. h x (beyond x edge (omega arith)))
    choose false true p q =
        let some = above_of edge (f.first + 32768) p in
        let most = le_of edge (f.last + 32768) q in
        each_of-front passes (f.last + 1 - f.first) (edge - 1 - 32768 + 1 - f.first) f.first (omega arith)
        (λ x low high. h x (beyond x edge (omega arith)))
    choose false false p q = refl

each_above :
    (edge : ℕ) (f : Fill) (passes : ℕ → Bool) → ((x : ℕ) → nat_lt edge (x + 32768) ≡ false → passes x ≡ true)
    → each_between f.first f.last passes ≡ each_in (stretch_at Above edge f) passes
unfolding stretch_at
each_above edge f passes h = choose (nat_le (f.last + 32768) edge) (nat_le (f.first + 32768) edge) refl refl
  where
    part : Bounds
    part = record { first = edge + 1 - 32768; last = f.last }

    choose :
        (b c : Bool) → nat_le (f.last + 32768) edge ≡ b → nat_le (f.first + 32768) edge ≡ c
        → each_between f.first f.last passes ≡ each_in (cond b None (cond c (Some part) (Some (whole_stretch f)))) passes
    choose true c p q =
        let none = le_of (f.last + 32768) edge p in
        each_of-all passes (f.last + 1 - f.first) f.first (λ x low high. h x (short x edge (omega arith)))
    choose false true p q =
        let some = above_of (f.last + 32768) edge p in
        let least = le_of (f.first + 32768) edge q in
        each_of-back passes (f.last + 1 - f.first) (edge + 1 - 32768 - f.first) f.first (omega arith)
        (λ x low high. h x (short x edge (omega arith)))
        ∙ each_of-same passes (f.last + 1 - f.first - (edge + 1 - 32768 - f.first)) (f.last + 1 - (edge + 1 - 32768))
        (f.first + (edge + 1 - 32768 - f.first)) (edge + 1 - 32768) (omega arith) (omega arith)
    choose false false p q = refl

each_at :
    (w : Reach) (edge : ℕ) (f : Fill) (passes : ℕ → Bool)
    → ((x : ℕ) → is_on w edge 0 x ≡ false → passes x ≡ true)
    → each_between f.first f.last passes ≡ each_in (stretch_at w edge f) passes
each_at Below edge f passes h =
    each_below edge f passes (λ x e. h x (subst (λ n. nat_lt (x + 32768) n ≡ false) (sym plus) e))
  where
    plus : edge + 0 ≡ edge
    plus = omega arith
each_at Above edge f passes h =
    each_above edge f passes (λ x e. h x (subst (λ n. nat_lt n (x + 32768) ≡ false) (sym plus) e))
  where
    plus : edge + 0 ≡ edge
    plus = omega arith

on_sum : (w : Reach) (p offset x : ℕ) → is_on w p offset x ≡ is_on w (p + offset) 0 x
on_sum Below p offset x = ap (λ n. nat_lt (x + 32768) n) (omega arith)
on_sum Above p offset x = ap (λ n. nat_lt n (x + 32768)) (omega arith)

each_by :
    (o : Option FillEnd) (p : Pointers Bounds) (f : Fill) (passes : ℕ → Bool)
    → ((x : ℕ) → may_reach o p x ≡ false → passes x ≡ true)
    → each_between f.first f.last passes ≡ each_in (stretch_by o p f) passes
unfolding may_be_reached is_reached
each_by None p f passes h = refl
each_by (Some e) p f passes h =
    let w = e.reach in
    let at = farthest e.reach (at_pointer e.pointer p) in
    each_at w (at + e.offset) f passes (λ x q. h x (on_sum w at e.offset x ∙ q))

-- ---- a fill

unreached-filled :
    (facts : List Fact) (cells : List Cell) (fills : List Fill) (p : Pointers Bounds) (kept : List Cell) (f : Fill) (a : ℕ)
    → may_reach f.end p a ≡ false → is_filled_at facts cells fills p kept f a ≡ true
unfolding is_filled_at
unreached-filled facts cells fills p kept f a e = rw e refl

each_reached :
    (facts : List Fact) (cells : List Cell) (fills : List Fill) (p : Pointers Bounds) (kept : List Cell) (f : Fill)
    → gives_fill facts cells fills p kept f ≡ each_in (reached_stretch p f) (is_filled_at facts cells fills p kept f)
unfolding gives_fill reached_stretch
each_reached facts cells fills p kept f =
    each_by f.end p f (is_filled_at facts cells fills p kept f) (λ x e. unreached-filled facts cells fills p kept f x e)

pub gives_fill_unreached :
    (facts : List Fact) (cells : List Cell) (fills : List Fill) (p : Pointers Bounds) (kept : List Cell) (f : Fill)
    → reached_stretch p f ≡ None → gives_fill facts cells fills p kept f ≡ true
gives_fill_unreached facts cells fills p kept f e =
    each_reached facts cells fills p kept f ∙ ap (λ o. each_in o (is_filled_at facts cells fills p kept f)) e

pub gives_fill_reached :
    (facts : List Fact) (cells : List Cell) (fills : List Fill) (p : Pointers Bounds) (kept : List Cell) (f : Fill) (b : Bounds)
    → reached_stretch p f ≡ Some b → gives_fill facts cells fills p kept f ≡ are_filled facts cells fills p kept f b
unfolding are_filled
gives_fill_reached facts cells fills p kept f b e =
    each_reached facts cells fills p kept f ∙ ap (λ o. each_in o (is_filled_at facts cells fills p kept f)) e
