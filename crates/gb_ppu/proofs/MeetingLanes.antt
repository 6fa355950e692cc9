-- Four objects at once that have no row on a line.
use Rattle.std.proofs.Common.{◌≡◌, ℕ, ◌+◌, ◌-◌, ◌*◌, ◌%◌, ◌^◌, ◌<◌, ◌≤◌, Bool, true, false, ◌&&◌, nat_le, nat_lt, eqb, List, [], ◌∷◌, length, get_or, replicate, bit_or, refl, ap, ◌∙◌, inl, inr, arith, eqb→eq}
use Rattle.std.proofs.lemmas.Bool.{cases_lt}
use Rattle.std.proofs.lemmas.Bool.Decides.{nat_tests}
use Rattle.std.proofs.lemmas.Simd.{length-chunk, get_or-chunk}
use Rattle.std.specs.Int.Bits.{or_zero_r}
use Rattle.std.specs.Simd.Lanes.{chunk, zip2}
use Rattle.gb_ppu.specs.declared.objects.Object.{Object}
use Rattle.gb_ppu.specs.Control.{object_height}
use Rattle.gb_ppu.specs.Objects.{object_at, meets_line}
use Rattle.gb_ppu.proofs.LaneLaws.{itself, splat, paired, every_below}
use Rattle.gb_ppu.proofs.LineObjects.{chosen_before, chosen_before-apart}

abbrev pub minus : ℕ → ℕ → ℕ
minus a b = (a + (2 ^ 8 - b)) % 2 ^ 8

-- bits that make all bytes of four objects large but each one's Y
abbrev pub but_rows : List ℕ
but_rows = 0 ∷ 255 ∷ 255 ∷ 255 ∷ 0 ∷ 255 ∷ 255 ∷ 255 ∷ 0 ∷ 255 ∷ 255 ∷ 255 ∷ 0 ∷ 255 ∷ 255 ∷ 255 ∷ []

but_row : (k : ℕ) → k < 4 → get_or but_rows (4 * k) 0 ≡ 0
but_row k less = eqb→eq _ _ (every_below (λ j. eqb (get_or but_rows (4 * j) 0) 0) 4 tt k less)

-- how far a line is below an object's Y, around 256, is no less than its height
no_row : (lcdc y : ℕ) (object : Object) → y < 144 → object_height lcdc ≤ minus (y + 16) object.y → meets_line lcdc y object ≡ false
unfolding meets_line
no_row lcdc y object within far = elim (cases_lt (y + 16) object.y) [
  | inl above ↦ let e : nat_le object.y (y + 16) ≡ false = grind (arith, nat_tests) in rw e refl
  | inr from ↦
      let past : object.y + object_height lcdc ≤ y + 16 = omega arith in
      let e : nat_lt (y + 16) (object.y + object_height lcdc) ≡ false = grind (arith, nat_tests) in
      rw e (and_false (nat_le object.y (y + 16)))
]
  where
    and_false : (a : Bool) → (a && false) ≡ false
    and_false true = refl
    and_false false = refl

pub apart : (oam four : List ℕ) (lcdc y group k height : ℕ) → four ≡ chunk (16 * group) 16 oam → 16 * group + 16 ≤ length oam → y < 144 → height ≡ object_height lcdc
    → k < 4 → height ≤ get_or (zip2 bit_or (zip2 minus (replicate 16 (y + 16)) four) but_rows) (4 * k) 0
    → meets_line lcdc y (object_at oam (4 * group + k)) ≡ false
unfolding object_at
apart oam four lcdc y group k height is room within h less far =
    let long : length four ≡ 16 = ap length is ∙ length-chunk (16 * group) 16 oam room in
    let lane = (paired 0 bit_or (paired 0 minus (splat 0 16 (y + 16)) (itself 0 16 four long)) (itself 0 16 but_rows refl)).each (4 * k) (omega arith) in
    let byte : get_or four (4 * k) 0 ≡ get_or oam (4 * (4 * group + k)) 0 =
    ap (λ l. get_or l (4 * k) 0) is ∙ get_or-chunk (16 * group) 16 oam (4 * k) 0 (omega arith) ∙ ap (λ n. get_or oam n 0) (let e : 16 * group + 4 * k ≡ 4 * (4 * group + k) = omega arith in e) in
    let row : get_or (zip2 bit_or (zip2 minus (replicate 16 (y + 16)) four) but_rows) (4 * k) 0 ≡ minus (y + 16) (get_or oam (4 * (4 * group + k)) 0) =
    lane ∙ ap (bit_or (minus (y + 16) (get_or four (4 * k) 0))) (but_row k less) ∙ or_zero_r _ ∙ ap (minus (y + 16)) byte in
    no_row lcdc y _ within (omega (arith, far, h, row))

-- four objects more of which none meets the line
pub chosen_before-four : (lcdc : ℕ) (oam : List ℕ) (y group : ℕ) → ((k : ℕ) → k < 4 → meets_line lcdc y (object_at oam (4 * group + k)) ≡ false)
    → chosen_before lcdc oam y (4 * (group + 1)) ≡ chosen_before lcdc oam y (4 * group)
chosen_before-four lcdc oam y group none =
    let one : (n m k : ℕ) → n ≡ m + 1 → m ≡ 4 * group + k → k < 4 → chosen_before lcdc oam y n ≡ chosen_before lcdc oam y m = λ n m k e f less.
    ap (chosen_before lcdc oam y) e ∙ chosen_before-apart lcdc oam y m (ap (λ j. meets_line lcdc y (object_at oam j)) f ∙ none k less) in
    one (4 * (group + 1)) (4 * group + 3) 3 (omega arith) (omega arith) (omega arith)
    ∙ one (4 * group + 3) (4 * group + 2) 2 (omega arith) (omega arith) (omega arith)
    ∙ one (4 * group + 2) (4 * group + 1) 1 (omega arith) (omega arith) (omega arith)
    ∙ one (4 * group + 1) (4 * group) 0 (omega arith) (omega arith) (omega arith)
