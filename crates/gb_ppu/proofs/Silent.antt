-- M-cycles in which nothing is requested and no line is drawn.
use Rattle.std.proofs.Common.{◌≡◌, ◌≢◌, ℕ, zero, suc, ◌+◌, ◌-◌, ◌/◌, ◌%◌, ◌<◌, ◌≤◌, Bool, true, false, not, ◌||◌, ◌&&◌, ◌==◌, ◌⊎◌, inl, inr, refl, sym, ap, subst, ◌∙◌, arith, nat_eq, add-zero}
use Rattle.std.proofs.lemmas.Bool.{cases_lt}
use Rattle.std.proofs.lemmas.Bool.Decides.{nat_tests}
use Rattle.gb_ppu.specs.declared.mode.Mode.{Mode}
use Rattle.gb_ppu.specs.declared.mode.Mode.TheVariants as mode
use Rattle.gb_ppu.specs.declared.picture.Picture.{Picture}
use Rattle.gb_ppu.specs.declared.picture.Requests.{Requests}
use Rattle.gb_ppu.specs.Control.{has_bit, is_on}
use Rattle.gb_ppu.specs.Picture.{line_of, mode_of, begins_drawing, chooses, signal, rises, ticked, requested, nothing, both, advanced, requested_in}
use Rattle.gb_ppu.specs.QuietCycles.{IsQuietFor, IsSilentFor, HasNoModeSource, IsUnheeded}
use Rattle.gb_ppu.specs.SameRegisters.{HasSameRegisters}
use Rattle.gb_ppu.specs.WellFormed.{IsWellFormed}
use Rattle.gb_ppu.proofs.Courses.{requested_in-append, off-requested_in}
use Rattle.gb_ppu.proofs.NextDrawing.{begins-not}
use Rattle.gb_ppu.proofs.Passing.{quiet-silent, quiet-undrawn}
use Rattle.gb_ppu.proofs.SameRegisters.{ticked-registers, ticked-position, advanced-registers, advanced-position}

-- ---- some of them

neither : (x y : Bool) → (x || y) ≡ false → (x ≡ false) × (y ≡ false)
neither true y h = absurd (let bad : true ≡ false = h in cc)
neither false y h = (refl, h)

nothing-both : (a b : Requests) → both a b ≡ nothing → (a ≡ nothing) × (b ≡ nothing)
nothing-both a b h =
    let vblank = neither a.vblank b.vblank (ap (λ (r : Requests). r.vblank) h) in
    let stat = neither a.stat b.stat (ap (λ (r : Requests). r.stat) h) in
    (λ i. record { vblank = vblank.0 i; stat = stat.0 i }, λ i. record { vblank = vblank.1 i; stat = stat.1 i })

nothing-parts : (a b : ℕ) (p : Picture) → requested_in (a + b) p ≡ nothing → (requested_in a p ≡ nothing) × (requested_in b (advanced a p) ≡ nothing)
nothing-parts a b p h = nothing-both _ _ (sym (requested_in-append a b p) ∙ h)

pub silent-first : (a b : ℕ) (p : Picture) → a ≤ b → IsSilentFor b p → IsSilentFor a p
silent-first a b p less h =
    let e : a + (b - a) ≡ b = omega arith in
    record {
      silent = (nothing-parts a (b - a) p (ap (λ (k : ℕ). requested_in k p) e ∙ h.silent)).0;
      undrawn = λ on j some few. h.undrawn on j some (omega (arith, few, less));
    }

undrawn-behind : (position a j : ℕ) (at : ℕ) → at ≡ (position + a) % 17556 → begins_drawing ((position + (a + j)) % 17556) ≡ false → begins_drawing ((at + j) % 17556) ≡ false
undrawn-behind position a j at is h = let e : (at + j) % 17556 ≡ (position + (a + j)) % 17556 = omega (arith, is) in rw e h

pub silent-behind : (a b : ℕ) (p : Picture) → IsWellFormed p → IsSilentFor (a + b) p → IsSilentFor b (advanced a p)
silent-behind a b p h s = record {
  silent = (nothing-parts a b p s.silent).1;
  undrawn = λ on j some few.
      let was : is_on p.lcdc ≡ true = ap (λ lcdc. is_on lcdc) (sym (advanced-registers a p).lcdc) ∙ on in
      undrawn-behind p.position a j _ (advanced-position a p h was) (s.undrawn was (a + j) (omega (arith, some)) (omega (arith, few)));
}

-- ---- where nothing but the position changes

pub quiet_is_silent : (n : ℕ) (p : Picture) → IsWellFormed p → IsQuietFor n p → IsSilentFor n p
quiet_is_silent n p h quiet = record {
  silent = quiet-silent n p h quiet;
  undrawn = λ on j some few. quiet-undrawn n j p h on quiet some few;
}

-- ---- where no mode's source is chosen

chosen-never : (stat : ℕ) → HasNoModeSource stat → (m : Mode) → chooses stat m ≡ false
chosen-never stat h mode.HBlank = h.blank
chosen-never stat h mode.VBlank = h.vblank
chosen-never stat h mode.ObjectScan = h.scan
chosen-never stat h mode.Drawing = refl

or-none : (b : Bool) → (b || false) ≡ b
or-none true = refl
or-none false = refl

signal-line : (p : Picture) → is_on p.lcdc ≡ true → HasNoModeSource p.stat → signal p ≡ (has_bit 6 p.stat && line_of p == p.lyc)
unfolding signal
signal-line p on h = rw (on, chosen-never p.stat h (mode_of p)) (or-none _)

-- the M-cycle behind a position requests nothing
record IsCalm (stat lyc position : ℕ) : Type 0 where
  inside : position + 1 < 17556
  visible : position + 1 ≢ 16416
  line : ((position + 1) / 114 ≡ position / 114) ⊎ (has_bit 6 stat ≡ true → (position + 1) / 114 ≢ lyc)

not-and : (b : Bool) → (not b && b) ≡ false
not-and true = refl
not-and false = refl

and-false : (b : Bool) → (b && false) ≡ false
and-false true = refl
and-false false = refl

eq-false : (a b : ℕ) → a ≢ b → nat_eq a b ≡ false
eq-false a b h = grind (arith, nat_tests)

calm-signal : (b : Bool) (old new lyc : ℕ) → (new ≡ old) ⊎ (b ≡ true → new ≢ lyc) → (not (b && old == lyc) && (b && new == lyc)) ≡ false
calm-signal false old new lyc h = refl
calm-signal true old new lyc (inl e) = rw e (not-and (old == lyc))
calm-signal true old new lyc (inr h) = rw (eq-false new lyc (h refl)) (and-false _)

signal-next : (p q : Picture) → is_on p.lcdc ≡ true → HasNoModeSource p.stat → HasSameRegisters p q → q.position ≡ p.position + 1
    → signal q ≡ (has_bit 6 p.stat && (p.position + 1) / 114 == p.lyc)
unfolding line_of
signal-next p q on h r is =
    signal-line q (ap (λ (k : ℕ). is_on k) r.lcdc ∙ on) (subst HasNoModeSource (sym r.stat) h)
    ∙ ap (λ (k : ℕ). has_bit 6 k && q.position / 114 == q.lyc) r.stat
    ∙ ap (λ (k : ℕ). has_bit 6 p.stat && k / 114 == q.lyc) is
    ∙ ap (λ (k : ℕ). has_bit 6 p.stat && (p.position + 1) / 114 == k) r.lyc

next-position : (p : Picture) → is_on p.lcdc ≡ true → p.position + 1 < 17556 → (ticked p).position ≡ p.position + 1
next-position p on inside = let e = ticked-position p on in omega (arith, e, inside)

calm-vblank : (p : Picture) → is_on p.lcdc ≡ true → IsCalm p.stat p.lyc p.position → (is_on p.lcdc && (ticked p).position == 16416) ≡ false
calm-vblank p on c = rw (on, next-position p on c.inside, eq-false _ _ c.visible) refl

calm-rises : (p : Picture) → is_on p.lcdc ≡ true → HasNoModeSource p.stat → IsCalm p.stat p.lyc p.position → rises p (ticked p) ≡ false
unfolding rises line_of
calm-rises p on h c =
    rw (signal-line p on h, signal-next p (ticked p) on h (ticked-registers p) (next-position p on c.inside))
    (calm-signal (has_bit 6 p.stat) (p.position / 114) ((p.position + 1) / 114) p.lyc c.line)

requested-calm : (p : Picture) → is_on p.lcdc ≡ true → HasNoModeSource p.stat → IsCalm p.stat p.lyc p.position → requested p ≡ nothing
unfolding requested
requested-calm p on h c = λ i. record { vblank = calm-vblank p on c i; stat = calm-rises p on h c i }

calm-later : (p : Picture) (k : ℕ) → (ticked p).position ≡ p.position + 1 → IsCalm p.stat p.lyc (p.position + suc k) → IsCalm (ticked p).stat (ticked p).lyc ((ticked p).position + k)
calm-later p k is c =
    let e : (ticked p).position + k ≡ p.position + suc k = omega (arith, is) in
    rw ((ticked-registers p).stat, (ticked-registers p).lyc, e) c

calm-requested_in : (n : ℕ) (p : Picture) → is_on p.lcdc ≡ true → HasNoModeSource p.stat → ((k : ℕ) → k < n → IsCalm p.stat p.lyc (p.position + k)) → requested_in n p ≡ nothing
unfolding requested_in
calm-requested_in zero p on h calm = refl
calm-requested_in (suc n) p on h calm =
    let here : IsCalm p.stat p.lyc p.position = rw add-zero at (calm 0 (omega arith)) in
    let r = ticked-registers p in
    let is = next-position p on here.inside in
    rw (
      requested-calm p on h here,
      calm-requested_in n (ticked p) (ap (λ (k : ℕ). is_on k) r.lcdc ∙ on) (subst HasNoModeSource (sym r.stat) h) (λ k less. calm-later p k is (calm (suc k) (omega (arith, less)))),
    )
    refl

-- ---- to the end of a scan, of a line, and into the next one

same-line : (stat lyc position k : ℕ) → position < 17556 → position % 114 + k + 1 < 114 → IsCalm stat lyc (position + k)
same-line stat lyc position k within few = record {
  inside = omega (arith, within, few);
  visible = λ e. omega (arith, few, e);
  line = inl (omega (arith, few));
}

next-line-at : (stat lyc position k line : ℕ) → position < 17556 → line ≡ position / 114 + 1 → IsUnheeded stat lyc line → 114 ≤ position % 114 + k + 1 → position % 114 + k + 1 < 134
    → ((position + k + 1) / 114 ≡ (position + k) / 114) ⊎ (has_bit 6 stat ≡ true → (position + k + 1) / 114 ≢ lyc)
next-line-at stat lyc position k line within is u many few = elim (cases_lt 114 (position % 114 + k + 1)) [
  | inl behind ↦ inl (omega (arith, many, few, behind))
  | inr here ↦ inr (λ b e. u.other b (omega (arith, is, many, few, here, e)))
]

next-line-calm : (stat lyc position k line : ℕ) → position < 17556 → line ≡ position / 114 + 1 → IsUnheeded stat lyc line → 114 ≤ position % 114 + k + 1 → position % 114 + k + 1 < 134
    → IsCalm stat lyc (position + k)
next-line-calm stat lyc position k line within is u many few = record {
  inside = let last : line ≢ 154 = u.first in omega (arith, within, is, many, few, last);
  visible = λ e. let first : line ≢ 144 = u.vblank in omega (arith, within, is, many, few, first, e);
  line = next-line-at stat lyc position k line within is u many few;
}

into-next-line : (stat lyc position k line : ℕ) → position < 17556 → line ≡ position / 114 + 1 → IsUnheeded stat lyc line → position % 114 + k + 1 < 134 → IsCalm stat lyc (position + k)
into-next-line stat lyc position k line within is u few = elim (cases_lt (position % 114 + k + 1) 114) [
  | inl before ↦ same-line stat lyc position k within before
  | inr behind ↦ next-line-calm stat lyc position k line within is u behind few
]

undrawn-line : (position j : ℕ) → position < 17556 → (position / 114 < 144 → 20 ≤ position % 114) → 0 < j → j ≤ 113 - position % 114 → begins_drawing ((position + j) % 17556) ≡ false
undrawn-line position j within past some few =
    begins-not _ (λ e.
    elim (cases_lt (position / 114) 144) [
      | inl drawn ↦ let column = past drawn in omega (arith, within, column, some, few, e)
      | inr blank ↦ omega (arith, within, blank, some, few)
    ])

undrawn-lines : (position j : ℕ) → position < 17556 → position / 114 + 1 ≢ 154 → (position / 114 < 144 → 20 ≤ position % 114) → 0 < j → j ≤ 133 - position % 114
    → begins_drawing ((position + j) % 17556) ≡ false
undrawn-lines position j within last past some few =
    begins-not _ (λ e.
    elim (cases_lt (position / 114) 144) [
      | inl drawn ↦ let column = past drawn in omega (arith, within, drawn, column, some, few, e)
      | inr blank ↦ omega (arith, within, last, blank, some, few)
    ])

-- the end of the line is not reached
pub silent-scan : (p : Picture) → IsWellFormed p → is_on p.lcdc ≡ true → HasNoModeSource p.stat → p.position % 114 < 20 → IsSilentFor (19 - p.position % 114) p
silent-scan p h on none scan = record {
  silent = calm-requested_in (19 - p.position % 114) p on none (λ k less. same-line p.stat p.lyc p.position k h.within (omega (arith, scan, less)));
  undrawn = λ _ j some few. let within = h.within in begins-not _ (λ e. omega (arith, within, scan, some, few, e));
}

pub silent-line : (p : Picture) → IsWellFormed p → is_on p.lcdc ≡ true → HasNoModeSource p.stat → (p.position / 114 < 144 → 20 ≤ p.position % 114) → IsSilentFor (113 - p.position % 114) p
silent-line p h on none past = record {
  silent = calm-requested_in (113 - p.position % 114) p on none (λ k less. same-line p.stat p.lyc p.position k h.within (omega (arith, less)));
  undrawn = λ _ j some few. undrawn-line p.position j h.within past some few;
}

-- the end of the line is passed
pub silent-lines : (p : Picture) (line : ℕ) → IsWellFormed p → is_on p.lcdc ≡ true → HasNoModeSource p.stat → (p.position / 114 < 144 → 20 ≤ p.position % 114) → line ≡ p.position / 114 + 1
    → IsUnheeded p.stat p.lyc line → IsSilentFor (133 - p.position % 114) p
silent-lines p line h on none past is u = record {
  silent = calm-requested_in (133 - p.position % 114) p on none (λ k less. into-next-line p.stat p.lyc p.position k line h.within is u (omega (arith, less)));
  undrawn = λ _ j some few. undrawn-lines p.position j h.within (λ e. u.first (is ∙ e)) past some few;
}

pub ruleset lines = (silent-scan, silent-line, silent-lines)

-- off
pub off_silent : (n : ℕ) (p : Picture) → is_on p.lcdc ≡ false → IsSilentFor n p
off_silent n p off = record {
  silent = off-requested_in n p off;
  undrawn = λ on. absurd (let bad : true ≡ false = sym on ∙ off in cc);
}
