-- What each picture keeps.
use Rattle.std.proofs.Common.{◌≡◌, ◌≢◌, ℕ, ◌+◌, ◌/◌, ◌%◌, ◌<◌, ◌≤◌, Bool, true, false, Option, Some, None, refl, arith, nat_eq}
use Rattle.std.proofs.lemmas.Bool.Decides.{nat_tests}
use Rattle.std.specs.Prelude.{if◌then◌else◌}
use Rattle.std.specs.Option.{ForSome}
use Rattle.gb_ppu.specs.declared.picture.Picture.{Picture}
use Rattle.gb_ppu.specs.declared.registers.LcdRegister.{LcdRegister}
use Rattle.gb_ppu.specs.declared.registers.LcdRegister.TheVariants as register
use Rattle.gb_ppu.specs.LcdRegisters.{lcdc_written, register_written}
use Rattle.gb_ppu.specs.Control.{is_on}
use Rattle.gb_ppu.specs.Window.{counted, kept, compared}
use Rattle.gb_ppu.specs.Picture.{line_of, line_begun, drawing_begun, begins_drawing, arrived, ticked}
use Rattle.gb_ppu.specs.PowerUp.{power_up}
use Rattle.gb_ppu.specs.WellFormed.{IsWellFormed}

counted-within : (shown : Bool) (window : Option ℕ) (l : ℕ) → ForSome window (λ n. n ≤ l) → ForSome (counted shown window) (λ n. n ≤ l + 1)
counted-within shown None l h = λ n e. cc
counted-within true (Some m) l h = λ n e. let le : m ≤ l = h m refl in let same : m + 1 ≡ n = cc in omega arith
counted-within false (Some m) l h = λ n e. let le : m ≤ l = h m refl in let same : m ≡ n = cc in omega arith

kept-within : (is_first : Bool) (window : Option ℕ) (l : ℕ) → (is_first ≡ false → ForSome window (λ n. n ≤ l)) → ForSome (kept is_first window) (λ n. n ≤ l)
kept-within true window l h = λ n e. cc
kept-within false window l h = h refl

compared-within : (is_equal : Bool) (window : Option ℕ) (l : ℕ) → ForSome window (λ n. n ≤ l) → ForSome (compared is_equal window) (λ n. n ≤ l)
compared-within true None l h = λ n e. let same : 0 ≡ n = cc in omega arith
compared-within false None l h = λ n e. cc
compared-within is_equal (Some m) l h = h

-- the window's own line stays within the frame's lines
window-within : (shown is_equal : Bool) (window : Option ℕ) (old new : ℕ) → (new ≢ 0 → new ≡ old + 1) → ForSome window (λ n. n ≤ old)
    → ForSome (compared is_equal (kept (nat_eq new 0) (counted shown window))) (λ n. n ≤ new)
window-within shown is_equal window old new next h =
    compared-within is_equal _ new (kept-within (nat_eq new 0) _ new
    (λ later n e.
    let after : new ≢ 0 = grind (arith, nat_tests) in
    let one : new ≡ old + 1 = next after in
    let le : n ≤ old + 1 = counted-within shown window old h n e in omega arith))

-- a position and what follows on it
line-begins : (position : ℕ) → position < 17556 → (position + 1) % 17556 % 114 ≡ 0 → (position + 1) % 17556 / 114 ≢ 0 → (position + 1) % 17556 / 114 ≡ position / 114 + 1
line-begins position lt begins later = omega arith

line-goes-on : (position : ℕ) → position < 17556 → (position + 1) % 17556 % 114 ≢ 0 → (position + 1) % 17556 / 114 ≡ position / 114
line-goes-on position lt inside = omega arith

pub either-formed : (b : Bool) (x y : Picture) → (b ≡ true → IsWellFormed x) → (b ≡ false → IsWellFormed y) → IsWellFormed (if b then x else y)
either-formed true x y h k = h refl
either-formed false x y h k = k refl

-- a picture that was moved on by one, before what happens there
record IsMoved (p : Picture) (old : ℕ) : Type 0 where
  before : old < 17556
  moved : p.position ≡ (old + 1) % 17556
  chosen : p.stat ≤ 0x78
  counted : ForSome p.window (λ n. n ≤ old / 114)
  on : is_on p.lcdc ≡ true

line_begun-formed : (p : Picture) (old : ℕ) → IsMoved p old → p.position % 114 ≡ 0 → IsWellFormed (line_begun p)
unfolding line_begun line_of
line_begun-formed p old h begins = record {
  within = omega (arith, h.moved);
  chosen = h.chosen;
  counted = window-within p.shows_window (nat_eq (p.position / 114) p.wy) p.window (old / 114) (p.position / 114) (λ later. omega (arith, h.before, h.moved)) h.counted;
  off = λ e. let on = h.on in cc;
}

-- where no line begins the line is the same
same-counted : (p : Picture) (old : ℕ) → IsMoved p old → p.position % 114 ≢ 0 → ForSome p.window (λ n. n ≤ p.position / 114)
same-counted p old h inside = λ n e. let le : n ≤ old / 114 = h.counted n e in omega (arith, h.before, h.moved)

drawing_begun-formed : (p : Picture) (old : ℕ) → IsMoved p old → p.position % 114 ≢ 0 → IsWellFormed (drawing_begun p)
unfolding drawing_begun
drawing_begun-formed p old h inside = record {
  within = omega (arith, h.moved);
  chosen = h.chosen;
  counted = same-counted p old h inside;
  off = λ e. let on = h.on in cc;
}

inside-formed : (p : Picture) (old : ℕ) → IsMoved p old → p.position % 114 ≢ 0 → IsWellFormed p
inside-formed p old h inside = record {
  within = omega (arith, h.moved);
  chosen = h.chosen;
  counted = same-counted p old h inside;
  off = λ e. let on = h.on in cc;
}

arrived-formed : (p : Picture) (old : ℕ) → IsMoved p old → IsWellFormed (arrived p)
unfolding arrived
arrived-formed p old h =
    either-formed (nat_eq (p.position % 114) 0) _ _
    (λ e. line_begun-formed p old h (grind (arith, nat_tests)))
    (λ e. let inside : p.position % 114 ≢ 0 = grind (arith, nat_tests) in
    either-formed (begins_drawing p.position) _ _ (λ d. drawing_begun-formed p old h inside) (λ d. inside-formed p old h inside))

pub IsWellFormed-ticked : (p : Picture) → IsWellFormed p → IsWellFormed (ticked p)
unfolding ticked
IsWellFormed-ticked p h =
    either-formed (is_on p.lcdc) _ _
    (λ on. arrived-formed (record p { position = (p.position + 1) % 17556 }) p.position
    (record { before = h.within; moved = refl; chosen = h.chosen; counted = h.counted; on = on }))
    (λ off. h)

-- a picture turned on or off, or with its registers written
pub IsWellFormed-begun : (p : Picture) → is_on p.lcdc ≡ true → p.stat ≤ 0x78 → p.position ≡ 0 → IsWellFormed (line_begun p)
unfolding line_begun line_of
IsWellFormed-begun p on chosen start = record {
  within = omega arith;
  chosen = chosen;
  counted = rw start (compared-within _ None 0 (λ n e. cc));
  off = λ e. cc;
}

-- ---- a register is written

lcdc_written-formed : (value : ℕ) (p : Picture) → IsWellFormed p → IsWellFormed (lcdc_written value p)
unfolding lcdc_written
lcdc_written-formed value p h =
    either-formed (is_on value) _ _
    (λ on. either-formed (is_on p.lcdc) _ _
    (λ was_on. record { within = h.within; chosen = h.chosen; counted = h.counted; off = λ e. cc })
    (λ was_off. IsWellFormed-begun _ on h.chosen refl))
    (λ off. record { within = omega arith; chosen = h.chosen; counted = λ n e. cc; off = λ e. refl })

pub IsWellFormed-written : (register : LcdRegister) (value : ℕ) (p : Picture) → IsWellFormed p → IsWellFormed (register_written register value p)
IsWellFormed-written register.Lcdc value p h = lcdc_written-formed value p h
IsWellFormed-written register.Stat value p h = record { within = h.within; chosen = omega arith; counted = h.counted; off = h.off }
IsWellFormed-written register.Scy value p h = record { within = h.within; chosen = h.chosen; counted = h.counted; off = h.off }
IsWellFormed-written register.Scx value p h = record { within = h.within; chosen = h.chosen; counted = h.counted; off = h.off }
IsWellFormed-written register.Ly value p h = h
IsWellFormed-written register.Lyc value p h = record { within = h.within; chosen = h.chosen; counted = h.counted; off = h.off }
IsWellFormed-written register.Bgp value p h = record { within = h.within; chosen = h.chosen; counted = h.counted; off = h.off }
IsWellFormed-written register.Obp0 value p h = record { within = h.within; chosen = h.chosen; counted = h.counted; off = h.off }
IsWellFormed-written register.Obp1 value p h = record { within = h.within; chosen = h.chosen; counted = h.counted; off = h.off }
IsWellFormed-written register.Wy value p h = record { within = h.within; chosen = h.chosen; counted = h.counted; off = h.off }
IsWellFormed-written register.Wx value p h = record { within = h.within; chosen = h.chosen; counted = h.counted; off = h.off }

-- ---- at power-up

pub IsWellFormed-power_up : IsWellFormed power_up
IsWellFormed-power_up = record {
  within = omega arith;
  chosen = omega arith;
  counted = λ n e. let same : 0 ≡ n = cc in omega arith;
  off = λ e. refl;
}

pub ruleset well_formed = (IsWellFormed-ticked)
