-- Several M-cycles: one after another, and those in which nothing but the position changes.
use Rattle.std.proofs.Common.{◌≡◌, ◌≢◌, ℕ, zero, suc, ◌+◌, ◌-◌, ◌*◌, ◌/◌, ◌%◌, ◌<◌, ◌≤◌, Bool, true, false, refl, ap, ◌∙◌, arith, nat_eq, nat_lt, add-zero}
use Rattle.std.proofs.lemmas.Bool.Decides.{nat_tests}
use Rattle.std.specs.Prelude.{not, ◌&&◌, ◌||◌}
use Rattle.gb_ppu.specs.declared.picture.Picture.{Picture}
use Rattle.gb_ppu.specs.declared.picture.Requests.{Requests}
use Rattle.gb_ppu.specs.Control.{is_on}
use Rattle.gb_ppu.specs.Picture.{line_of, mode_at, mode_of, signal, rises, begins_drawing, arrived, ticked, requested, nothing, both, advanced, requested_in}
use Rattle.gb_ppu.specs.QuietCycles.{quiet_at}
use Rattle.gb_ppu.specs.WellFormed.{IsWellFormed}
use Rattle.gb_ppu.proofs.WellFormed.{IsWellFormed-ticked}

-- one after another
pub advanced-zero : (n : ℕ) (p : Picture) → n ≡ 0 → advanced n p ≡ p
unfolding advanced
advanced-zero n p e = rw e refl

pub requested_in-zero : (n : ℕ) (p : Picture) → n ≡ 0 → requested_in n p ≡ nothing
unfolding requested_in
requested_in-zero n p e = rw e refl

pub advanced-more : (n : ℕ) (p : Picture) → n ≢ 0 → advanced n p ≡ advanced (n - 1) (ticked p)
unfolding advanced
advanced-more zero p h = absurd (h refl)
advanced-more (suc n) p h = let e : suc n - 1 ≡ n = omega arith in rw e refl

pub requested_in-more : (n : ℕ) (p : Picture) → n ≢ 0 → requested_in n p ≡ both (requested p) (requested_in (n - 1) (ticked p))
unfolding requested_in
requested_in-more zero p h = absurd (h refl)
requested_in-more (suc n) p h = let e : suc n - 1 ≡ n = omega arith in rw e refl

pub ruleset steps = (advanced-zero, requested_in-zero, advanced-more, requested_in-more, IsWellFormed-ticked)

pub IsWellFormed-advanced : (n : ℕ) (p : Picture) → IsWellFormed p → IsWellFormed (advanced n p)
unfolding advanced
IsWellFormed-advanced zero p h = h
IsWellFormed-advanced (suc n) p h = IsWellFormed-advanced n (ticked p) (IsWellFormed-ticked p h)

advanced-split : (a b : ℕ) (p : Picture) → advanced (a + suc b) p ≡ advanced b (ticked (advanced a p))
unfolding advanced
advanced-split zero b p = let e : zero + suc b ≡ suc b = omega arith in rw e refl
advanced-split (suc a) b p = let e : suc a + suc b ≡ suc (a + suc b) = omega arith in rw e (advanced-split a b (ticked p))

or-assoc : (x y z : Bool) → (x || (y || z)) ≡ ((x || y) || z)
or-assoc true y z = refl
or-assoc false y z = refl

both-assoc : (a b c : Requests) → both a (both b c) ≡ both (both a b) c
both-assoc a b c = rw (or-assoc a.vblank b.vblank c.vblank, or-assoc a.stat b.stat c.stat) refl

pub requested_in-append : (a b : ℕ) (p : Picture) → requested_in (a + b) p ≡ both (requested_in a p) (requested_in b (advanced a p))
unfolding advanced requested_in
requested_in-append zero b p = let e : zero + b ≡ b = omega arith in rw e refl
requested_in-append (suc a) b p =
    let e : suc a + b ≡ suc (a + b) = omega arith in
    rw (e, requested_in-append a b (ticked p)) (both-assoc (requested p) (requested_in a (ticked p)) (requested_in b (advanced a (ticked p))))

requested_in-split : (a b : ℕ) (p : Picture) → requested_in a p ≡ nothing
    → requested_in (a + suc b) p ≡ both (requested (advanced a p)) (requested_in b (ticked (advanced a p)))
unfolding requested_in
requested_in-split a b p silent = rw (requested_in-append a (suc b) p, silent) refl

-- off
pub off-ticked : (p : Picture) → is_on p.lcdc ≡ false → ticked p ≡ p
unfolding ticked
off-ticked p off = rw off refl

off-requested : (p : Picture) → is_on p.lcdc ≡ false → requested p ≡ nothing
unfolding requested rises signal
off-requested p off = rw (off-ticked p off, off) refl

pub off-advanced : (n : ℕ) (p : Picture) → is_on p.lcdc ≡ false → advanced n p ≡ p
unfolding advanced
off-advanced zero p off = refl
off-advanced (suc n) p off = rw (off-ticked p off) (off-advanced n p off)

pub off-requested_in : (n : ℕ) (p : Picture) → is_on p.lcdc ≡ false → requested_in n p ≡ nothing
unfolding requested_in
off-requested_in zero p off = refl
off-requested_in (suc n) p off = rw (off-requested p off, off-ticked p off) (off-requested_in n p off)

-- a position behind which nothing happens
record IsQuiet (position : ℕ) : Type 0 where
  scan : position % 114 ≢ 19
  drawing : position % 114 ≢ 62
  blank : position % 114 ≢ 113

IsQuiet-at : (position : ℕ) → 0 < quiet_at position → IsQuiet position
unfolding quiet_at
IsQuiet-at position h = record {
  scan = λ e. grind (arith, nat_tests);
  drawing = λ e. grind (arith, nat_tests);
  blank = λ e. grind (arith, nat_tests);
}

quiet_at-next : (position : ℕ) → IsQuiet position → 0 < quiet_at position → quiet_at (position + 1) + 1 ≡ quiet_at position
unfolding quiet_at
quiet_at-next position q h =
    let e : (position + 1) % 114 ≡ position % 114 + 1 = omega (arith, q.blank) in
    rw e (grind (arith, nat_tests, q.scan, q.drawing, q.blank))

scan-same : (c : ℕ) → c ≢ 19 → nat_lt (c + 1) 20 ≡ nat_lt c 20
scan-same c h = grind (arith, nat_tests)

drawing-same : (c : ℕ) → c ≢ 62 → nat_lt (c + 1) 63 ≡ nat_lt c 63
drawing-same c h = grind (arith, nat_tests)

eq-false : (a b : ℕ) → a ≢ b → nat_eq a b ≡ false
eq-false a b h = grind (arith, nat_tests)

mode_at-next : (position : ℕ) → IsQuiet position → mode_at (position + 1) ≡ mode_at position
unfolding mode_at
mode_at-next position q =
    let line : (position + 1) / 114 ≡ position / 114 = omega (arith, q.blank) in
    let column : (position + 1) % 114 ≡ position % 114 + 1 = omega (arith, q.blank) in
    rw (line, column, scan-same (position % 114) q.scan, drawing-same (position % 114) q.drawing) refl

unfoldable next : Picture → Picture
next p = record p { position = p.position + 1 }

quiet-arrived : (p : Picture) → IsQuiet p.position → arrived (next p) ≡ next p
unfolding next arrived begins_drawing
quiet-arrived p q =
    let inside : nat_eq ((p.position + 1) % 114) 0 ≡ false = eq-false _ _ (λ e. omega (arith, q.blank)) in
    let scanning : nat_eq ((p.position + 1) % 114) 20 ≡ false = eq-false _ _ (λ e. omega (arith, q.scan)) in
    rw (inside, scanning) refl

quiet-ticked : (p : Picture) → p.position < 17556 → is_on p.lcdc ≡ true → IsQuiet p.position → ticked p ≡ next p
unfolding next ticked
quiet-ticked p within on q = rw on (by_position ∙ quiet-arrived p q)
  where
    by_position : arrived (record p { position = (p.position + 1) % 17556 }) ≡ arrived (next p)
    by_position = let e : (p.position + 1) % 17556 ≡ p.position + 1 = omega (arith, q.blank) in rw e refl

quiet-signal : (p : Picture) → IsQuiet p.position → signal (next p) ≡ signal p
unfolding next signal mode_of line_of
quiet-signal p q =
    let line : (p.position + 1) / 114 ≡ p.position / 114 = omega (arith, q.blank) in
    rw (line, mode_at-next p.position q) refl

not-and : (b : Bool) → (not b && b) ≡ false
not-and true = refl
not-and false = refl

quiet-requested : (p : Picture) → p.position < 17556 → is_on p.lcdc ≡ true → IsQuiet p.position → requested p ≡ nothing
unfolding next requested rises
quiet-requested p within on q =
    let frame : nat_eq (p.position + 1) (144 * 114) ≡ false = eq-false _ _ (λ e. omega (arith, q.blank)) in
    rw (quiet-ticked p within on q, quiet-signal p q, not-and (signal p), on, frame) refl

quiet-goes-on : (p : Picture) (n : ℕ) → p.position < 17556 → suc n ≤ quiet_at p.position → IsQuiet p.position × (p.position + 1 < 17556) × (n ≤ quiet_at (p.position + 1))
quiet-goes-on p n within quiet =
    let q : IsQuiet p.position = IsQuiet-at p.position (omega arith) in
    (q, omega (arith, q.blank), omega (arith, quiet_at-next p.position q (omega arith)))

pub quiet-advanced : (n : ℕ) (p : Picture) → p.position < 17556 → is_on p.lcdc ≡ true → n ≤ quiet_at p.position
    → advanced n p ≡ record p { position = p.position + n }
unfolding advanced next
quiet-advanced zero p within on quiet = rw add-zero refl
quiet-advanced (suc n) p within on quiet =
    let h = quiet-goes-on p n within quiet in
    let e : p.position + 1 + n ≡ p.position + suc n = omega arith in
    rw (quiet-ticked p within on h.0, quiet-advanced n (next p) h.1 on h.2, e) refl

pub quiet-requested_in : (n : ℕ) (p : Picture) → p.position < 17556 → is_on p.lcdc ≡ true → n ≤ quiet_at p.position
    → requested_in n p ≡ nothing
unfolding requested_in next
quiet-requested_in zero p within on quiet = refl
quiet-requested_in (suc n) p within on quiet =
    let h = quiet-goes-on p n within quiet in
    rw (quiet-requested p within on h.0, quiet-ticked p within on h.0, quiet-requested_in n (next p) h.1 on h.2) refl

pub IsWellFormed-quiet : (n : ℕ) (p : Picture) → IsWellFormed p → is_on p.lcdc ≡ true → n ≤ quiet_at p.position → IsWellFormed (record p { position = p.position + n })
IsWellFormed-quiet n p h on quiet = rw (quiet-advanced n p h.within on quiet) at (IsWellFormed-advanced n p h)

pub quiet_at-small : (position : ℕ) → quiet_at position < 114
unfolding quiet_at
quiet_at-small position = grind (arith, nat_tests)

pub ruleset quiet = (quiet-advanced, quiet-requested_in, quiet_at-small)

-- to a change and past it
pub advanced-past : (a n : ℕ) (p : Picture) → a < n → advanced n p ≡ advanced (n - 1 - a) (ticked (advanced a p))
advanced-past a n p h =
    let e : n ≡ a + suc (n - 1 - a) = omega arith in
    ap (λ k. advanced k p) e ∙ advanced-split a (n - 1 - a) p

pub requested_in-past : (a n : ℕ) (p : Picture) → a < n → requested_in a p ≡ nothing
    → requested_in n p ≡ both (requested (advanced a p)) (requested_in (n - 1 - a) (ticked (advanced a p)))
requested_in-past a n p h silent =
    let e : n ≡ a + suc (n - 1 - a) = omega arith in
    ap (λ k. requested_in k p) e ∙ requested_in-split a (n - 1 - a) p silent

pub ruleset course = (quiet_at-small, off-advanced, off-requested_in, IsWellFormed-advanced, IsWellFormed-ticked, advanced-past, requested_in-past)
