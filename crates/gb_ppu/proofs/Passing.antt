-- Some M-cycles, and then more; and M-cycles in which nothing but the position changes.
use Rattle.std.proofs.Common.{◌≡◌, ℕ, zero, suc, ◌+◌, ◌%◌, ◌<◌, ◌≤◌, Bool, true, false, refl, sym, ap, ◌∙◌, arith}
use Rattle.std.proofs.lemmas.Bool.Decides.{nat_tests}
use Rattle.gb_ppu.specs.declared.picture.Picture.{Picture}
use Rattle.gb_ppu.specs.Control.{is_on}
use Rattle.gb_ppu.specs.Picture.{begins_drawing, ticked, requested_in, nothing, advanced}
use Rattle.gb_ppu.specs.QuietCycles.{quiet_at, IsQuietFor}
use Rattle.gb_ppu.specs.WellFormed.{IsWellFormed}
use Rattle.gb_ppu.proofs.Courses.{quiet-advanced, quiet-requested_in, off-requested_in}
use Rattle.gb_ppu.proofs.SameRegisters.{advanced-registers}

pub advanced-append : (a b : ℕ) (p : Picture) → advanced (a + b) p ≡ advanced b (advanced a p)
unfolding advanced
advanced-append zero b p = let e : zero + b ≡ b = omega arith in rw e refl
advanced-append (suc a) b p = let e : suc a + b ≡ suc (a + b) = omega arith in rw e (advanced-append a b (ticked p))

-- behind some quiet M-cycles there are so many less
quiet_at-behind : (position a b : ℕ) → a + b ≤ quiet_at position → b ≤ quiet_at (position + a)
unfolding quiet_at
quiet_at-behind position a b h = grind (arith, nat_tests)

pub quiet-first : (a b : ℕ) (p : Picture) → a ≤ b → IsQuietFor b p → IsQuietFor a p
quiet-first a b p less quiet = λ on. let most : b ≤ quiet_at p.position = quiet on in omega (arith, most)

pub quiet-behind : (a b : ℕ) (p : Picture) → IsWellFormed p → IsQuietFor (a + b) p → IsQuietFor b (advanced a p)
quiet-behind a b p h quiet = λ on.
    let was : is_on p.lcdc ≡ true = ap (λ lcdc. is_on lcdc) (sym (advanced-registers a p).lcdc) ∙ on in
    let most : a + b ≤ quiet_at p.position = quiet was in
    let e : advanced a p ≡ record p { position = p.position + a } = quiet-advanced a p h.within was (omega (arith, most)) in
    rw e (quiet_at-behind p.position a b most)

silent_by : (b : Bool) (n : ℕ) (p : Picture) → is_on p.lcdc ≡ b → IsWellFormed p → IsQuietFor n p → requested_in n p ≡ nothing
silent_by true n p on h quiet = quiet-requested_in n p h.within on (quiet on)
silent_by false n p off h quiet = off-requested_in n p off

-- nothing is requested
pub quiet-silent : (n : ℕ) (p : Picture) → IsWellFormed p → IsQuietFor n p → requested_in n p ≡ nothing
quiet-silent n p h quiet = silent_by (is_on p.lcdc) n p refl h quiet

no_drawing : (position j : ℕ) → position < 17556 → 0 < j → j ≤ quiet_at position → begins_drawing ((position + j) % 17556) ≡ false
unfolding quiet_at begins_drawing
no_drawing position j within some few = grind (arith, nat_tests)

-- no line is drawn
pub quiet-undrawn : (n j : ℕ) (p : Picture) → IsWellFormed p → is_on p.lcdc ≡ true → IsQuietFor n p → 0 < j → j ≤ n → begins_drawing ((p.position + j) % 17556) ≡ false
quiet-undrawn n j p h on quiet some few = let most : n ≤ quiet_at p.position = quiet on in no_drawing p.position j h.within some (omega (arith, most, few))
