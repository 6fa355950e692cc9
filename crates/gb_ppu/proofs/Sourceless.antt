-- Where no source is chosen in STAT.
use Rattle.std.proofs.Common.{◌≡◌, ℕ, ◌==◌, Bool, true, false, ◌&&◌, ◌||◌, refl, sym, ap, ◌∙◌}
use Rattle.gb_ppu.specs.declared.mode.Mode.{Mode}
use Rattle.gb_ppu.specs.declared.mode.Mode.TheVariants as mode
use Rattle.gb_ppu.specs.declared.picture.Picture.{Picture}
use Rattle.gb_ppu.specs.Control.{is_on, has_bit, bit}
use Rattle.gb_ppu.specs.Picture.{line_of, mode_of, chooses, signal}

none_chosen : (m : Mode) → chooses 0 m ≡ false
unfolding has_bit bit
none_chosen mode.HBlank = refl
none_chosen mode.VBlank = refl
none_chosen mode.ObjectScan = refl
none_chosen mode.Drawing = refl

both_false : (a b : Bool) → b ≡ false → (a && b) ≡ false
both_false true b h = h
both_false false b h = refl

no_source : (p : Picture) → (has_bit 6 0 && line_of p == p.lyc || chooses 0 (mode_of p)) ≡ false
unfolding has_bit bit
no_source p = none_chosen (mode_of p)

pub sourceless : (p : Picture) → p.stat ≡ 0 → false ≡ signal p
unfolding signal
sourceless p none =
    sym (both_false (is_on p.lcdc) _ (ap (λ (n : ℕ). has_bit 6 n && line_of p == p.lyc || chooses n (mode_of p)) none ∙ no_source p))
