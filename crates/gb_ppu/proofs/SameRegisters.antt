-- M-cycles leave the registers alone, and move the position on.
use Rattle.std.proofs.Common.{◌≡◌, ℕ, zero, suc, ◌+◌, ◌%◌, Bool, true, false, refl, ap, ◌∙◌, arith}
use Rattle.std.specs.Prelude.{if◌then◌else◌}
use Rattle.gb_ppu.specs.declared.picture.Picture.{Picture}
use Rattle.gb_ppu.specs.Control.{is_on}
use Rattle.gb_ppu.specs.Picture.{line_begun, drawing_begun, begins_drawing, arrived, ticked, advanced}
use Rattle.gb_ppu.specs.SameRegisters.{HasSameRegisters}
use Rattle.gb_ppu.specs.WellFormed.{IsWellFormed}
use Rattle.gb_ppu.proofs.WellFormed.{IsWellFormed-ticked}

-- the registers and the position
record IsLike (old new : Picture) : Type 0 where
  registers : HasSameRegisters old new
  position : new.position ≡ old.position

same : (p : Picture) → HasSameRegisters p p
same p = record { lcdc = refl; stat = refl; scy = refl; scx = refl; lyc = refl; bgp = refl; obp0 = refl; obp1 = refl; wy = refl; wx = refl }

trans : (p q r : Picture) → HasSameRegisters p q → HasSameRegisters q r → HasSameRegisters p r
trans p q r a b = record {
  lcdc = b.lcdc ∙ a.lcdc;
  stat = b.stat ∙ a.stat;
  scy = b.scy ∙ a.scy;
  scx = b.scx ∙ a.scx;
  lyc = b.lyc ∙ a.lyc;
  bgp = b.bgp ∙ a.bgp;
  obp0 = b.obp0 ∙ a.obp0;
  obp1 = b.obp1 ∙ a.obp1;
  wy = b.wy ∙ a.wy;
  wx = b.wx ∙ a.wx;
}

either-like : (b : Bool) (p x y : Picture) → IsLike p x → IsLike p y → IsLike p (if b then x else y)
either-like true p x y h k = h
either-like false p x y h k = k

begun-like : (p : Picture) → IsLike p (line_begun p)
unfolding line_begun
begun-like p = record {
  registers = record { lcdc = refl; stat = refl; scy = refl; scx = refl; lyc = refl; bgp = refl; obp0 = refl; obp1 = refl; wy = refl; wx = refl };
  position = refl;
}

drawing-like : (p : Picture) → IsLike p (drawing_begun p)
unfolding drawing_begun
drawing-like p = record {
  registers = record { lcdc = refl; stat = refl; scy = refl; scx = refl; lyc = refl; bgp = refl; obp0 = refl; obp1 = refl; wy = refl; wx = refl };
  position = refl;
}

arrived-like : (p : Picture) → IsLike p (arrived p)
unfolding arrived
arrived-like p =
    either-like _ p _ _ (begun-like p) (either-like (begins_drawing p.position) p _ _ (drawing-like p) (record { registers = same p; position = refl }))

either-same : (b : Bool) (p x : Picture) → HasSameRegisters p x → HasSameRegisters p (if b then x else p)
either-same true p x h = h
either-same false p x h = same p

moved-registers : (p : Picture) (position : ℕ) → HasSameRegisters p (arrived (record p { position = position }))
moved-registers p position =
    let h = (arrived-like (record p { position = position })).registers in
    record {
      lcdc = h.lcdc;
      stat = h.stat;
      scy = h.scy;
      scx = h.scx;
      lyc = h.lyc;
      bgp = h.bgp;
      obp0 = h.obp0;
      obp1 = h.obp1;
      wy = h.wy;
      wx = h.wx;
    }

pub ticked-registers : (p : Picture) → HasSameRegisters p (ticked p)
unfolding ticked
ticked-registers p = either-same (is_on p.lcdc) p _ (moved-registers p ((p.position + 1) % 17556))

pub ticked-position : (p : Picture) → is_on p.lcdc ≡ true → (ticked p).position ≡ (p.position + 1) % 17556
unfolding ticked
ticked-position p on = rw on (arrived-like (record p { position = (p.position + 1) % 17556 })).position

pub advanced-registers : (n : ℕ) (p : Picture) → HasSameRegisters p (advanced n p)
unfolding advanced
advanced-registers zero p = same p
advanced-registers (suc n) p = trans p (ticked p) _ (ticked-registers p) (advanced-registers n (ticked p))

pub advanced-position : (n : ℕ) (p : Picture) → IsWellFormed p → is_on p.lcdc ≡ true → (advanced n p).position ≡ (p.position + n) % 17556
unfolding advanced
advanced-position zero p h on = let within = h.within in omega arith
advanced-position (suc n) p h on =
    let still_on : is_on (ticked p).lcdc ≡ true = ap (λ lcdc. is_on lcdc) (ticked-registers p).lcdc ∙ on in
    let step : (ticked p).position ≡ (p.position + 1) % 17556 = ticked-position p on in
    let rest : (advanced n (ticked p)).position ≡ ((ticked p).position + n) % 17556 = advanced-position n (ticked p) (IsWellFormed-ticked p h) still_on in
    omega arith
