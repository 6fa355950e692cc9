-- Each picture that is on stands in a frame.
use Rattle.std.proofs.Common.{◌≡◌, ℕ, zero, suc, ◌+◌, ◌<◌, ◌≤◌, Bool, true, false, None, refl, sym, ap, ◌∙◌, inl, inr, arith, nat_le}
use Rattle.std.proofs.lemmas.Bool.{cases_lt}
use Rattle.std.proofs.lemmas.Bool.Decides.{nat_tests}
use Rattle.std.specs.Prelude.{if◌then◌else◌}
use Rattle.gb_ppu.specs.declared.picture.Picture.{Picture}
use Rattle.gb_ppu.specs.declared.registers.LcdRegister.{LcdRegister}
use Rattle.gb_ppu.specs.declared.registers.LcdRegister.TheVariants as register
use Rattle.gb_ppu.specs.Control.{is_on}
use Rattle.gb_ppu.specs.Picture.{line_begun, ticked, advanced}
use Rattle.gb_ppu.specs.LcdRegisters.{lcdc_written, register_written}
use Rattle.gb_ppu.specs.PowerUp.{power_up}
use Rattle.gb_ppu.specs.Frames.{BeginsFrame, powered_up, followed, turned_on, IsWritten, unwritten, written, IsFollowed, IsFrame, IsInFrame, IsFramed}
use Rattle.gb_ppu.proofs.SameRegisters.{ticked-registers}
use Rattle.gb_ppu.proofs.WindowLine.{stands, written-stands}

begun-in-frame : (p : Picture) → BeginsFrame p → IsInFrame p
begun-in-frame p begins = record {
  frame = λ k. p;
  cycles = 0;
  so_far = record { begins = begins; within = omega arith; each = λ k less. absurd (omega arith) };
  written = unwritten;
}

-- a frame with one picture more
unfoldable extended : (ℕ → Picture) → ℕ → Picture → ℕ → Picture
extended frame n p k = if nat_le k n then frame k else p

extended-old : (frame : ℕ → Picture) (n : ℕ) (p : Picture) (k : ℕ) → k ≤ n → extended frame n p k ≡ frame k
unfolding extended
extended-old frame n p k h = let e : nat_le k n ≡ true = grind (arith, nat_tests) in rw e refl

extended-new : (frame : ℕ → Picture) (n : ℕ) (p : Picture) → extended frame n p (n + 1) ≡ p
unfolding extended
extended-new frame n p = let e : nat_le (n + 1) n ≡ false = grind (arith, nat_tests) in rw e refl

extended-each : (frame : ℕ → Picture) (n : ℕ) (p : Picture) → IsFrame frame n → IsWritten (frame n) p → (k : ℕ) → k < n + 1
    → IsFollowed (extended frame n (ticked p) k) (extended frame n (ticked p) (k + 1))
extended-each frame n p h w k less = elim (cases_lt k n) [
  | inl before ↦ rw (extended-old frame n (ticked p) k (omega arith), extended-old frame n (ticked p) (k + 1) (omega arith)) (h.each k before)
  | inr last ↦
      let last_one : IsFollowed (extended frame n (ticked p) n) (extended frame n (ticked p) (n + 1)) =
      rw (extended-old frame n (ticked p) n (omega arith), extended-new frame n (ticked p)) (record { left = p; written = w; passed = refl }) in
      let e : k ≡ n = omega arith in rw e last_one
]

longer : (p : Picture) (h : IsInFrame p) → h.cycles + 1 < 17556 → IsInFrame (ticked p)
longer p h within = record {
  frame = extended h.frame h.cycles (ticked p);
  cycles = h.cycles + 1;
  so_far = record {
    begins = rw (extended-old h.frame h.cycles (ticked p) 0 (omega arith)) h.so_far.begins;
    within = within;
    each = extended-each h.frame h.cycles p h.so_far h.written;
  };
  written = rw (extended-new h.frame h.cycles (ticked p)) unwritten;
}

framed-on : (p : Picture) → is_on p.lcdc ≡ true → IsInFrame p → IsInFrame (ticked p)
framed-on p on h =
    let here = (written-stands h.frame h.cycles (h.frame h.cycles) p (stands h.frame h.cycles h.so_far) h.written).position in
    let within = h.so_far.within in
    elim (cases_lt (h.cycles + 1) 17556) [
      | inl before ↦ longer p h before
      | inr last ↦ begun-in-frame (ticked p) (followed p on (omega (arith, here, within, last)))
    ]

pub framed-ticked : (p : Picture) → IsFramed p → IsFramed (ticked p)
framed-ticked p h = λ on.
    let still : is_on p.lcdc ≡ true = ap (λ lcdc. is_on lcdc) (sym (ticked-registers p).lcdc) ∙ on in
    framed-on p still (h still)

pub framed-advanced : (n : ℕ) (p : Picture) → IsFramed p → IsFramed (advanced n p)
unfolding advanced
framed-advanced zero p h = h
framed-advanced (suc n) p h = framed-advanced n (ticked p) (framed-ticked p h)

lcdc-written : (value : ℕ) (p : Picture) → (lcdc_written value p).lcdc ≡ value
unfolding lcdc_written line_begun
lcdc-written value p = by (is_on value) (is_on p.lcdc)
  where
    by : (b c : Bool) → (if b then (if c then record p { lcdc = value } else line_begun (record p { lcdc = value; position = 0 })) else record p { lcdc = value; position = 0; window = None; shows_window = false }).lcdc ≡ value
    by true true = refl
    by true false = refl
    by false c = refl

turned-on : (register : LcdRegister) (value : ℕ) (p : Picture) → is_on p.lcdc ≡ false → is_on (register_written register value p).lcdc ≡ true
    → BeginsFrame (register_written register value p)
turned-on register.Lcdc value p off on = turned_on p value off (ap (λ lcdc. is_on lcdc) (sym (lcdc-written value p)) ∙ on)
turned-on register.Stat value p off on = absurd (cc)
turned-on register.Scy value p off on = absurd (cc)
turned-on register.Scx value p off on = absurd (cc)
turned-on register.Ly value p off on = absurd (cc)
turned-on register.Lyc value p off on = absurd (cc)
turned-on register.Bgp value p off on = absurd (cc)
turned-on register.Obp0 value p off on = absurd (cc)
turned-on register.Obp1 value p off on = absurd (cc)
turned-on register.Wy value p off on = absurd (cc)
turned-on register.Wx value p off on = absurd (cc)

written-by : (register : LcdRegister) (value : ℕ) (p : Picture) (was_on : Bool) → is_on p.lcdc ≡ was_on → IsFramed p → IsFramed (register_written register value p)
written-by register value p true was h = λ on.
    let in_frame = h was in
    record { frame = in_frame.frame; cycles = in_frame.cycles; so_far = in_frame.so_far; written = written p register value in_frame.written on }
written-by register value p false was h = λ on. begun-in-frame _ (turned-on register value p was on)

pub framed-written : (register : LcdRegister) (value : ℕ) (p : Picture) → IsFramed p → IsFramed (register_written register value p)
framed-written register value p h = written-by register value p (is_on p.lcdc) refl h

pub framed-power_up : IsFramed power_up
framed-power_up = λ on. begun-in-frame power_up powered_up
