-- Lists that stand in bytes, from their front on.
use Rattle.std.proofs.Common.{◌≡◌, ℕ, ◌-◌, ◌≤◌, ◌<◌, List, [], ◌∷◌, ◌++◌, length, take, drop, slice_index, refl, sym, ap, ◌∙◌, append_assoc, append-nil, arith}
use Rattle.std.proofs.lemmas.List.{take_all}
use Rattle.gb_domain.specs.declared.types.Cell.{Cell}
use Rattle.gb_domain.specs.declared.types.Val.{Val}
use Rattle.gb_domain.specs.Types.{AbsState}
use Rattle.gb_states.specs.WholeReading.{to_val}
use Rattle.gb_states.specs.Checked.{listed_items, cell_of, listed_cells}

-- fewer bytes than a value has
pub no_items : (bytes : List ℕ) → length bytes < 3 → listed_items bytes ≡ []
unfolding listed_items
no_items [] h = refl
no_items (a ∷ []) h = refl
no_items (a ∷ b ∷ []) h = refl
no_items (a ∷ b ∷ c ∷ rest) h = absurd (omega arith)

-- fewer than a cell has
pub no_cells : (bytes : List ℕ) → length bytes < 5 → listed_cells bytes ≡ []
unfolding listed_cells
no_cells [] h = refl
no_cells (a ∷ []) h = refl
no_cells (a ∷ b ∷ []) h = refl
no_cells (a ∷ b ∷ c ∷ []) h = refl
no_cells (a ∷ b ∷ c ∷ d ∷ []) h = refl
no_cells (a ∷ b ∷ c ∷ d ∷ e ∷ rest) h = absurd (omega arith)

-- the first, and what is behind it
pub items_front : (bytes : List ℕ) (v : Val) → 3 ≤ length bytes → v ≡ to_val ((slice_index bytes 0, slice_index bytes 1), slice_index bytes 2) → listed_items bytes ≡ v ∷ listed_items (take (length bytes - 3) (drop 3 bytes))
unfolding listed_items
items_front [] v h is = absurd (omega arith)
items_front (a ∷ []) v h is = absurd (omega arith)
items_front (a ∷ b ∷ []) v h is = absurd (omega arith)
items_front (a ∷ b ∷ c ∷ rest) v h is =
    let long : length (a ∷ b ∷ c ∷ rest) - 3 ≡ length rest = omega arith in
    ap (λ (w : Val). w ∷ listed_items rest) (sym is) ∙ ap (λ (xs : List ℕ). v ∷ listed_items xs) (sym (ap (λ (n : ℕ). take n rest) long ∙ take_all (length rest) rest (omega arith)))

pub cells_front : (bytes : List ℕ) (x : Cell) → 5 ≤ length bytes → x ≡ cell_of (slice_index bytes 0) (slice_index bytes 1) (slice_index bytes 2) (slice_index bytes 3) (slice_index bytes 4)
    → listed_cells bytes ≡ x ∷ listed_cells (take (length bytes - 5) (drop 5 bytes))
unfolding listed_cells
cells_front [] x h is = absurd (omega arith)
cells_front (a ∷ []) x h is = absurd (omega arith)
cells_front (a ∷ b ∷ []) x h is = absurd (omega arith)
cells_front (a ∷ b ∷ c ∷ []) x h is = absurd (omega arith)
cells_front (a ∷ b ∷ c ∷ d ∷ []) x h is = absurd (omega arith)
cells_front (a ∷ b ∷ c ∷ d ∷ e ∷ rest) x h is =
    let long : length (a ∷ b ∷ c ∷ d ∷ e ∷ rest) - 5 ≡ length rest = omega arith in
    ap (λ (y : Cell). y ∷ listed_cells rest) (sym is) ∙ ap (λ (xs : List ℕ). x ∷ listed_cells xs) (sym (ap (λ (n : ℕ). take n rest) long ∙ take_all (length rest) rest (omega arith)))

-- one behind the others, and then the rest
pub items_put : (s one all : AbsState) (x : Val) (xs ys : List Val) → all ≡ record one { items = one.items ++ xs } → one ≡ record s { items = s.items ++ x ∷ [] } → ys ≡ x ∷ xs → all ≡ record s { items = s.items ++ ys }
items_put s one all x xs ys rest first is =
    rest ∙ (ap (λ (w : AbsState). record w { items = w.items ++ xs }) first ∙ ap (λ (vs : List Val). record s { items = vs }) (append_assoc s.items (x ∷ []) xs ∙ ap (λ (vs : List Val). s.items ++ vs) (sym is)))

pub cells_put : (s one all : AbsState) (x : Cell) (xs ys : List Cell) → all ≡ record one { cells = one.cells ++ xs } → one ≡ record s { cells = s.cells ++ x ∷ [] } → ys ≡ x ∷ xs → all ≡ record s { cells = s.cells ++ ys }
cells_put s one all x xs ys rest first is =
    rest ∙ (ap (λ (w : AbsState). record w { cells = w.cells ++ xs }) first ∙ ap (λ (cs : List Cell). record s { cells = cs }) (append_assoc s.cells (x ∷ []) xs ∙ ap (λ (cs : List Cell). s.cells ++ cs) (sym is)))

-- none behind the others
pub no_items_put : (s : AbsState) (ys : List Val) → ys ≡ [] → s ≡ record s { items = s.items ++ ys }
no_items_put s ys is = sym (ap (λ (vs : List Val). record s { items = s.items ++ vs }) is ∙ ap (λ (vs : List Val). record s { items = vs }) (append-nil s.items))

pub no_cells_put : (s : AbsState) (ys : List Cell) → ys ≡ [] → s ≡ record s { cells = s.cells ++ ys }
no_cells_put s ys is = sym (ap (λ (cs : List Cell). record s { cells = s.cells ++ cs }) is ∙ ap (λ (cs : List Cell). record s { cells = cs }) (append-nil s.cells))
