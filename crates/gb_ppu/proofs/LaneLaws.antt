-- What the operations on vectors hold at each lane, and one lane of a tile's row and of a palette.
use Rattle.std.proofs.Common.{◌≡◌, ℕ, zero, suc, ◌+◌, ◌-◌, ◌*◌, ◌/◌, ◌%◌, ◌^◌, ◌<◌, Bool, true, false, ◌&&◌, cond, eqb, T, List, [], ◌∷◌, ◌++◌, length, get_or, map, replicate, bit_and, bit_or, refl, sym, ap, ◌∙◌, subst, inl, inr, arith, w8, Fits, eqb→eq, eq-zero-or-pos}
use Rattle.std.proofs.lemmas.List.{get_or-map, get_or_append_left}
use Rattle.std.proofs.lemmas.Simd.{swz_l, SwzOk, SwzOk-from_below, length-swz_l, get_or-swz_l_below, Each1-from_get_or, length-zip2, get_or-zip2, get_or-replicate, length-sel_l, get_or-sel_l, tops_compared}
use Rattle.std.specs.Simd.Lanes.{zip2, sel_l, top, Each1}
use lib.Ieee.Fits.{and_l, and_r}
use Rattle.gb_ppu.specs.Control.{bit}
use Rattle.gb_ppu.specs.Lanes.{HasLanes}
use Rattle.gb_ppu.specs.Tiles.{colour_in, shade_of}
use Rattle.gb_ppu.proofs.PaletteBits.{two_bits}

-- ---- vectors and masks, by structure

pub record Lanes {A : Type 0} (d : A) (n : ℕ) (v : List A) (lane : ℕ → A) : Type 0 where
  pub len : length v ≡ n
  pub each : (i : ℕ) → i < n → get_or v i d ≡ lane i

pub itself : {A : Type 0} (d : A) (n : ℕ) (v : List A) → length v ≡ n → Lanes d n v (λ i. get_or v i d)
itself d n v len = record { len = len; each = λ i less. refl }

pub splat : {A : Type 0} (d : A) (n : ℕ) (a : A) → Lanes d n (replicate n a) (λ _. a)
splat d n a = record { len = length-splat n a; each = λ i less. get_or-replicate n i a d less }
  where
    length-splat : {A : Type 0} (n : ℕ) (a : A) → length (replicate n a) ≡ n
    length-splat zero a = refl
    length-splat (suc n) a = ap suc (length-splat n a)

pub paired : {A B C : Type 0} {d : A} {e : B} (r : C) {n : ℕ} (op : A → B → C) {xs : List A} {ys : List B} {f : ℕ → A} {g : ℕ → B}
    → Lanes d n xs f → Lanes e n ys g → Lanes r n (zip2 op xs ys) (λ i. op (f i) (g i))
paired {d = d} {e = e} r op {xs} {ys} h k = record {
  len = length-zip2 op xs ys (h.len ∙ sym k.len) ∙ h.len;
  each = λ i less.
      get_or-zip2 op xs ys i d e r (omega (arith, h.len)) (omega (arith, k.len))
      ∙ (λ j. op (h.each i less j) (k.each i less j));
}

pub selected : {A : Type 0} {d : A} {n : ℕ} {ms : List Bool} {xs ys : List A} {m : ℕ → Bool} {f g : ℕ → A}
    → Lanes false n ms m → Lanes d n xs f → Lanes d n ys g → Lanes d n (sel_l ms xs ys) (λ i. cond (m i) (f i) (g i))
selected {d = d} {ms = ms} {xs} {ys} h k l = record {
  len = length-sel_l ms xs ys (h.len ∙ sym k.len) (h.len ∙ sym l.len) ∙ h.len;
  each = λ i less.
      get_or-sel_l ms xs ys i d (omega (arith, h.len)) (omega (arith, k.len)) (omega (arith, l.len))
      ∙ (λ j. cond (h.each i less j) (k.each i less j) (l.each i less j));
}

-- what `select` reads of the comparison of two vectors
pub compared : {n : ℕ} (t : ℕ → ℕ → Bool) {xs ys : List ℕ} {f g : ℕ → ℕ}
    → Lanes 0 n xs f → Lanes 0 n ys g → Lanes false n (map (top 7) (zip2 (λ a b. cond (t a b) 255 0) xs ys)) (λ i. t (f i) (g i))
compared {n} t {xs} {ys} {f} {g} h k =
    subst (λ ms. Lanes false n ms (λ i. t (f i) (g i))) (sym (tops_compared w8 t xs ys)) (paired false t h k)

-- the lanes in another way
pub as_lanes : {n : ℕ} {v : List ℕ} {f : ℕ → ℕ} {g : ℕ → ℕ} → Lanes 0 n v f → ((i : ℕ) → i < n → f i ≡ g i) → HasLanes n v g
as_lanes h same = record { len = h.len; lanes = λ i less. h.each i less ∙ same i less }

pub from_lanes : {n : ℕ} {v : List ℕ} {f : ℕ → ℕ} → HasLanes n v f → Lanes 0 n v f
from_lanes h = record { len = h.len; each = h.lanes }

-- a lane of a vector of bytes is a byte
pub lane_fits : (v : List ℕ) (i : ℕ) → Each1 (Fits w8) v → get_or v i 0 < 256
lane_fits [] i h = omega arith
lane_fits (x ∷ xs) zero h = h.0.fits
lane_fits (x ∷ xs) (suc i) h = lane_fits xs i h.1

-- ---- bytes, by computing each

abbrev pub all_below : (ℕ → Bool) → ℕ → Bool
all_below p zero = true
all_below p (suc n) = p n && all_below p n

pub every_below : (p : ℕ → Bool) (n : ℕ) → T (all_below p n) → (i : ℕ) → i < n → T (p i)
every_below p zero h i less = absurd (omega arith)
every_below p (suc n) h i less = elim (eq-zero-or-pos (n - i)) [
  | inl z ↦ let e : n ≡ i = omega arith in subst (λ x. T (p x)) e (and_l _ _ h)
  | inr g ↦ every_below p n (and_r (p n) _ h) i (omega arith)
]

-- two functions with the same values at all bytes
pub same_bytes : (f g : ℕ → ℕ) → T (all_below (λ b. eqb (f b) (g b)) 256) → (b : ℕ) → b < 256 → f b ≡ g b
same_bytes f g all b less = eqb→eq _ _ (every_below (λ b. eqb (f b) (g b)) 256 all b less)

-- ---- a tile's row

-- the bit plane of a column, as a lane has it
abbrev pub lane_bit : ℕ → ℕ → ℕ → ℕ
lane_bit value plane bits = cond (eqb (bit_and plane bits) bits) value 0

bit_small : (n byte : ℕ) → bit n byte < 2
unfolding bit
bit_small n byte = omega arith

low_bit : (i low : ℕ) → i < 8 → low < 256 → lane_bit 1 low (2 ^ (7 - i)) ≡ bit (7 - i) low
unfolding bit
low_bit i low column small =
    eqb→eq _ _ (every_below (λ b. eqb (lane_bit 1 b (2 ^ (7 - i))) (b / 2 ^ (7 - i) % 2)) 256
    (every_below (λ k. all_below (λ b. eqb (lane_bit 1 b (2 ^ (7 - k))) (b / 2 ^ (7 - k) % 2)) 256) 8 tt i column) low small)

high_bit : (i high : ℕ) → i < 8 → high < 256 → lane_bit 2 high (2 ^ (7 - i)) ≡ 2 * bit (7 - i) high
unfolding bit
high_bit i high column small =
    eqb→eq _ _ (every_below (λ b. eqb (lane_bit 2 b (2 ^ (7 - i))) (2 * (b / 2 ^ (7 - i) % 2))) 256
    (every_below (λ k. all_below (λ b. eqb (lane_bit 2 b (2 ^ (7 - k))) (2 * (b / 2 ^ (7 - k) % 2))) 256) 8 tt i column) high small)

joined_bits : (a b : ℕ) → a < 2 → b < 2 → bit_or a (2 * b) ≡ a + 2 * b
joined_bits zero zero p q = refl
joined_bits zero (suc zero) p q = refl
joined_bits (suc zero) zero p q = refl
joined_bits (suc zero) (suc zero) p q = refl
joined_bits zero (suc (suc b)) p q = absurd (omega arith)
joined_bits (suc zero) (suc (suc b)) p q = absurd (omega arith)
joined_bits (suc (suc a)) b p q = absurd (omega arith)

pub row_lane : (low high i bits : ℕ) → i < 8 → low < 256 → high < 256 → bits ≡ 2 ^ (7 - i) → bit_or (lane_bit 1 low bits) (lane_bit 2 high bits) ≡ colour_in low high i
unfolding colour_in
row_lane low high i bits column l h e =
    rw (e, low_bit i low column l, high_bit i high column h) (joined_bits _ _ (bit_small (7 - i) low) (bit_small (7 - i) high))

-- the bits of the columns, from the left
abbrev pub column_bits : List ℕ
column_bits = 128 ∷ 64 ∷ 32 ∷ 16 ∷ 8 ∷ 4 ∷ 2 ∷ 1 ∷ []

column_bit : (i : ℕ) → i < 8 → get_or column_bits i 0 ≡ 2 ^ (7 - i)
column_bit i column = eqb→eq _ _ (every_below (λ k. eqb (get_or column_bits k 0) (2 ^ (7 - k))) 8 tt i column)

-- what a value is in the lanes whose bits of a plane are set
abbrev pub plane_lanes : ℕ → ℕ → List ℕ
plane_lanes value plane =
    sel_l (map (top 7) (zip2 (λ a b. cond (eqb a b) 255 0) (zip2 bit_and (replicate 8 plane) column_bits) column_bits)) (replicate 8 value) (replicate 8 0)

plane_is : (value plane : ℕ) → Lanes 0 8 (plane_lanes value plane) (λ i. lane_bit value plane (get_or column_bits i 0))
plane_is value plane =
    let bits = itself 0 8 column_bits refl in
    selected (compared eqb (paired 0 bit_and (splat 0 8 plane) bits) bits) (splat 0 8 value) (splat 0 8 0)

pub row_lanes : (low high : ℕ) → low < 256 → high < 256 → HasLanes 8 (zip2 bit_or (plane_lanes 1 low) (plane_lanes 2 high)) (colour_in low high)
row_lanes low high l h = as_lanes (paired 0 bit_or (plane_is 1 low) (plane_is 2 high)) (λ i column. row_lane low high i _ column l h (column_bit i column))

-- ---- from right to left

abbrev pub backwards : List ℕ
backwards = 7 ∷ 6 ∷ 5 ∷ 4 ∷ 3 ∷ 2 ∷ 1 ∷ 0 ∷ []

backward : (i : ℕ) → i < 8 → get_or backwards i 0 ≡ 7 - i
backward i lane = eqb→eq _ _ (every_below (λ k. eqb (get_or backwards k 0) (7 - k)) 8 tt i lane)

pub reversed_lanes : (v : List ℕ) → length v ≡ 8 → HasLanes 8 (map (λ k. get_or (v ++ v) k 0) backwards) (λ i. get_or v (7 - i) 0)
reversed_lanes v long = record {
  len = refl;
  lanes = λ i lane.
      get_or-map (λ k. get_or (v ++ v) k 0) backwards i 0 0 lane
      ∙ ap (λ k. get_or (v ++ v) k 0) (backward i lane)
      ∙ get_or_append_left v v 0 (7 - i) (omega (arith, long));
}

-- ---- a palette's shades

-- the shade of each colour
abbrev pub shade_table : ℕ → List ℕ
shade_table palette = palette % 4 ∷ palette / 4 % 4 ∷ palette / 16 % 4 ∷ palette / 64 ∷ 0 ∷ 0 ∷ 0 ∷ 0 ∷ 0 ∷ 0 ∷ 0 ∷ 0 ∷ 0 ∷ 0 ∷ 0 ∷ 0 ∷ []

shade_lane : (palette colour : ℕ) → palette < 256 → colour < 4 → get_or (shade_table palette) colour 0 ≡ shade_of palette colour
shade_lane palette zero byte small = omega (arith, two_bits palette 0 small)
shade_lane palette (suc zero) byte small = omega (arith, two_bits palette 1 small)
shade_lane palette (suc (suc zero)) byte small = omega (arith, two_bits palette 2 small)
shade_lane palette (suc (suc (suc zero))) byte small = omega (arith, two_bits palette 3 small)
shade_lane palette (suc (suc (suc (suc n)))) byte small = absurd (omega arith)

module _ (palette : ℕ) (colours : List ℕ) (byte : palette < 256) (long : length colours ≡ 16) (small : (i : ℕ) → i < 16 → get_or colours i 0 < 4) where
  pub colours_within : SwzOk w8 16 16 0 colours
  colours_within =
      SwzOk-from_below w8 16 1 16 0 colours refl (omega (arith, long))
      (Each1-from_get_or (λ j. j < 16) colours 0 (λ i less. let h = small i (omega (arith, long)) in omega (arith, h)))

  pub shaded_lanes : HasLanes 16 (swz_l w8 16 (shade_table palette) 0 colours) (λ i. shade_of palette (get_or colours i 0))
  shaded_lanes = record {
    len = length-swz_l w8 16 (shade_table palette) 0 colours ∙ long;
    lanes = λ i less.
        let h = small i less in
        let first : 16 * ((0 + i) / 16) + get_or colours i 0 ≡ get_or colours i 0 = omega arith in
        get_or-swz_l_below w8 16 (shade_table palette) 0 colours i (omega (arith, long)) (omega (arith, h))
        ∙ ap (λ k. get_or (shade_table palette) k 0) first
        ∙ shade_lane palette _ byte h;
  }
