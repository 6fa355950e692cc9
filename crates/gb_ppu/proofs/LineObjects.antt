-- The first ten objects that meet a line, object by object.
use Rattle.std.proofs.Common.{◌≡◌, ℕ, ◌+◌, ◌<◌, ◌≤◌, Bool, true, false, cond, List, [], ◌∷◌, ◌++◌, length, take, refl, arith, append-nil}
use Rattle.std.proofs.lemmas.Grind.{common_steps}
use Rattle.std.proofs.lemmas.List.FromFn.{filter_of_map_range_with_len_more}
use Rattle.std.specs.List.{range_with_len}
use Rattle.std.specs.Prelude.{map, filter}
use Rattle.gb_ppu.specs.declared.objects.Object.{Object}
use Rattle.gb_ppu.specs.Objects.{object_at, objects, meets_line, line_objects}

-- those among the first i objects
unfoldable pub chosen_before : ℕ → List ℕ → ℕ → ℕ → List Object
chosen_before lcdc oam y i = take 10 (filter (meets_line lcdc y) (map (object_at oam) (range_with_len 0 i)))

take-push : {A : Type 0} (n : ℕ) (xs : List A) (y : A) → length (take n xs) < n → take n (xs ++ y ∷ []) ≡ take n xs ++ y ∷ []
take-push n xs y room = grind (arith, common_steps)

take-full : {A : Type 0} (n : ℕ) (xs ys : List A) → n ≤ length (take n xs) → take n (xs ++ ys) ≡ take n xs
take-full n xs ys full = grind (arith, common_steps)

filter-more : (p : Object → Bool) (f : ℕ → Object) (i : ℕ)
    → filter p (map f (range_with_len 0 (i + 1))) ≡ filter p (map f (range_with_len 0 i)) ++ cond (p (f i)) (f i ∷ []) []
filter-more p f i = filter_of_map_range_with_len_more p f 0 i i (omega arith)

pub chosen_before-met : (lcdc : ℕ) (oam : List ℕ) (y i : ℕ) → meets_line lcdc y (object_at oam i) ≡ true
    → length (chosen_before lcdc oam y i) < 10 → chosen_before lcdc oam y (i + 1) ≡ chosen_before lcdc oam y i ++ object_at oam i ∷ []
unfolding chosen_before
chosen_before-met lcdc oam y i met room =
    rw (filter-more (meets_line lcdc y) (object_at oam) i, met) (take-push 10 _ _ room)

pub chosen_before-apart : (lcdc : ℕ) (oam : List ℕ) (y i : ℕ) → meets_line lcdc y (object_at oam i) ≡ false
    → chosen_before lcdc oam y (i + 1) ≡ chosen_before lcdc oam y i
unfolding chosen_before
chosen_before-apart lcdc oam y i apart =
    rw (filter-more (meets_line lcdc y) (object_at oam) i, apart, append-nil) refl

pub chosen_before-full : (lcdc : ℕ) (oam : List ℕ) (y i : ℕ) → 10 ≤ length (chosen_before lcdc oam y i)
    → chosen_before lcdc oam y (i + 1) ≡ chosen_before lcdc oam y i
unfolding chosen_before
chosen_before-full lcdc oam y i full =
    rw (filter-more (meets_line lcdc y) (object_at oam) i) (take-full 10 _ _ full)

pub chosen_before-none : (lcdc : ℕ) (oam : List ℕ) (y : ℕ) → chosen_before lcdc oam y 0 ≡ []
unfolding chosen_before
chosen_before-none lcdc oam y = refl

pub chosen_before-all : (lcdc : ℕ) (oam : List ℕ) (y i : ℕ) → i ≡ 40 → chosen_before lcdc oam y i ≡ line_objects lcdc oam y
unfolding chosen_before line_objects objects
chosen_before-all lcdc oam y i e = rw e refl
