-- Items that are appended, and covered, from the front on.
use Rattle.std.proofs.Common.{◌≡◌, ℕ, ◌-◌, ◌≤◌, ◌<◌, Bool, true, false, ◌&&◌, List, [], ◌∷◌, ◌++◌, length, take, drop, slice_index, slice_index_or, refl, sym, ap, ◌∙◌, append_assoc, append-nil, arith, None}
use Rattle.std.proofs.lemmas.List.{take_all}
use Rattle.gb_domain.specs.declared.types.Cell.{Cell}
use Rattle.gb_domain.specs.declared.types.Val.{Val}
use Rattle.gb_cert.specs.Below.gb_states.WholeReading.{to_val}
use Rattle.gb_cert.specs.Below.gb_states.Checked.{listed_items, cell_of, listed_cells}
use Rattle.gb_cert.proofs.Below.gb_states_laws.ListedLaws.{no_items, items_front, no_cells, cells_front}
use Rattle.gb_product.specs.Below.gb_abs.Covering.{covers_val, covers_items}
use Rattle.gb_product.specs.Below.gb_abs.Origins.{without_origin}
use Rattle.gb_calls.specs.TakenOver.{returning}

-- of three items and more the first is no copy
pub returning_front : (xs : List Val) (x : Val) → 3 ≤ length xs → x ≡ without_origin (slice_index_or xs 0 (record { lo = 0; hi = 0; low_bits = 0; origin = None }))
    → returning xs ≡ x ∷ returning (take (length xs - 1) (drop 1 xs))
returning_front [] x h is = absurd (omega arith)
returning_front (a ∷ []) x h is = absurd (omega arith)
returning_front (a ∷ b ∷ []) x h is = absurd (omega arith)
returning_front (a ∷ b ∷ c ∷ rest) x h is =
    let long : length (a ∷ b ∷ c ∷ rest) - 1 ≡ length (b ∷ c ∷ rest) = omega arith in
    ap (λ (y : Val). y ∷ returning (b ∷ c ∷ rest)) (sym is)
    ∙ ap (λ (ys : List Val). x ∷ returning ys) (sym (ap (λ (n : ℕ). take n (b ∷ c ∷ rest)) long ∙ take_all (length (b ∷ c ∷ rest)) (b ∷ c ∷ rest) (omega arith)))

-- ---- cells in bytes

pub no_cells_behind : (cells : List Cell) (bytes : List ℕ) → length bytes < 5 → cells ≡ cells ++ listed_cells bytes
no_cells_behind cells bytes h = sym (ap (λ (xs : List Cell). cells ++ xs) (no_cells bytes h) ∙ append-nil cells)

pub cells_behind :
    (cells one all : List Cell) (bytes : List ℕ) (x : Cell) → 5 ≤ length bytes
    → all ≡ one ++ listed_cells (take (length bytes - 5) (drop 5 bytes)) → one ≡ cells ++ x ∷ []
    → x ≡ cell_of (slice_index bytes 0) (slice_index bytes 1) (slice_index bytes 2) (slice_index bytes 3) (slice_index bytes 4)
    → all ≡ cells ++ listed_cells bytes
cells_behind cells one all bytes x h rest first is =
    rest ∙ (ap (λ (xs : List Cell). xs ++ listed_cells (take (length bytes - 5) (drop 5 bytes))) first
    ∙ (append_assoc cells (x ∷ []) (listed_cells (take (length bytes - 5) (drop 5 bytes))) ∙ ap (λ (xs : List Cell). cells ++ xs) (sym (cells_front bytes x h is))))

-- ---- covered in bytes

abbrev first_of : List Val → Val
first_of s = slice_index_or s 0 (record { lo = 0; hi = 0; low_bits = 0; origin = None })

abbrev first_in : List ℕ → Val
first_in bytes = to_val ((slice_index bytes 0, slice_index bytes 1), slice_index bytes 2)

abbrev rest_in : List ℕ → List Val
rest_in bytes = listed_items (take (length bytes - 3) (drop 3 bytes))

pub none_covered : (s : List Val) (bytes : List ℕ) (b : Bool) → length bytes < 3 → b ≡ covers_items s [] → b ≡ covers_items s (listed_items bytes)
none_covered s bytes b h is = is ∙ ap (covers_items s) (sym (no_items bytes h))

pub fewer_covered : (s : List Val) (bytes : List ℕ) → length s < 1 → 3 ≤ length bytes → false ≡ covers_items s (listed_items bytes)
fewer_covered [] bytes h k = sym (ap (covers_items []) (items_front bytes (first_in bytes) k refl))
fewer_covered (v ∷ vs) bytes h k = absurd (omega arith)

both_covered : (s : List Val) (bytes : List ℕ) → 1 ≤ length s → 3 ≤ length bytes
    → covers_items s (listed_items bytes) ≡ (covers_val (first_of s) (first_in bytes) && covers_items (take (length s - 1) (drop 1 s)) (rest_in bytes))
both_covered [] bytes h k = absurd (omega arith)
both_covered (v ∷ vs) bytes h k =
    let long : length (v ∷ vs) - 1 ≡ length vs = omega arith in
    ap (covers_items (v ∷ vs)) (items_front bytes (first_in bytes) k refl)
    ∙ ap (λ (ys : List Val). covers_val v (first_in bytes) && covers_items ys (rest_in bytes)) (sym (ap (λ (n : ℕ). take n vs) long ∙ take_all (length vs) vs (omega arith)))

pub then_covered : (s : List Val) (bytes : List ℕ) (b r : Bool) → 1 ≤ length s → 3 ≤ length bytes → b ≡ covers_val (first_of s) (first_in bytes)
    → r ≡ covers_items (take (length s - 1) (drop 1 s)) (rest_in bytes) → b ≡ true → r ≡ covers_items s (listed_items bytes)
then_covered s bytes b r h k is are holds =
    are ∙ sym (both_covered s bytes h k ∙ ap (λ (x : Bool). x && covers_items (take (length s - 1) (drop 1 s)) (rest_in bytes)) (sym is ∙ holds))

pub else_covered : (s : List Val) (bytes : List ℕ) (b : Bool) → 1 ≤ length s → 3 ≤ length bytes → b ≡ covers_val (first_of s) (first_in bytes)
    → b ≡ false → b ≡ covers_items s (listed_items bytes)
else_covered s bytes b h k is fails =
    fails ∙ sym (both_covered s bytes h k ∙ ap (λ (x : Bool). x && covers_items (take (length s - 1) (drop 1 s)) (rest_in bytes)) (sym is ∙ fails))

pub some_uncovered : (s : List Val) → 1 ≤ length s → false ≡ covers_items s []
some_uncovered [] h = absurd (omega arith)
some_uncovered (v ∷ vs) h = refl
