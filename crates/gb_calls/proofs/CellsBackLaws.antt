-- Of the cells that count where a callee returns none is lost, where a state holds all of them.
use Rattle.std.proofs.Common.{◌≡◌, ℕ, ◌+◌, ◌≤◌, ◌==◌, Bool, true, false, nat_lt, cond, List, [], ◌∷◌, map, length, Some, refl, sym, ◌∙◌, ap, subst, arith}
use Rattle.std.proofs.lemmas.Bool.{eqb-true, leb-true}
use Rattle.std.proofs.lemmas.List.{take_all}
use Rattle.std.specs.List.{filter}
use Rattle.gb_domain.specs.declared.types.Cell.{Cell}
use Rattle.gb_domain.specs.declared.types.Range.{Range}
use Rattle.gb_domain.specs.declared.rules.Rules.TheVariants.{Extended}
use Rattle.gb_domain.specs.Limits.{cell_room}
use Rattle.gb_domain.specs.Values.{interval_of}
use Rattle.gb_product.specs.Below.gb_abs.Origins.{cell_without_origin}
use Rattle.gb_product.specs.Below.gb_summaries.Below.gb_ram_bounds.Cells.{cell_at, is_there, has_cell}
use Rattle.gb_product.specs.Below.gb_summaries.Below.gb_ram_bounds.Meaning.{HasCellsOf}
use Rattle.gb_product.specs.Below.gb_summaries.Below.gb_ram_bounds.Returned.{is_in_ranges as lies_in_ranges}
use Rattle.gb_product.specs.Below.gb_summaries.Returning.{AreCellsBack}
use Rattle.gb_calls.specs.Resuming.{is_address_in, is_in_ranges, is_out_of_ranges, inserted, merged, all_cells_back, cells_back, has_room}
use Rattle.gb_calls.proofs.CellLaws.{all_counted}

not_so : {X : Type 0} → true ≡ false → X
not_so h = cc

-- ---- one cell more

none_here : (c : Cell) (cells : List Cell) (a : ℕ) → has_cell (c ∷ cells) a ≡ false → ((c.address == a) ≡ false) × (has_cell cells a ≡ false)
unfolding has_cell
none_here c cells a h = choose (c.address == a) refl h
  where
    choose :
        (b : Bool) → (c.address == a) ≡ b → is_there (cond b (Some (interval_of c.val)) (cell_at cells a)) ≡ false
        → ((c.address == a) ≡ false) × (is_there (cell_at cells a) ≡ false)
    choose true e g = not_so g
    choose false e g = (e, g)

still_none : (c : Cell) (cells : List Cell) (a : ℕ) → (c.address == a) ≡ false → has_cell cells a ≡ false → has_cell (c ∷ cells) a ≡ false
unfolding has_cell
still_none c cells a e h = ap (λ b. is_there (cond b (Some (interval_of c.val)) (cell_at cells a))) e ∙ h

none_inserted : (c : Cell) (cells : List Cell) (a : ℕ) → has_cell (inserted c cells) a ≡ false → ((c.address == a) ≡ false) × (has_cell cells a ≡ false)
none_inserted c [] a h = none_here c [] a h
none_inserted c (d ∷ ds) a h = choose (nat_lt c.address d.address) h (none_inserted c ds a)
  where
    choose :
        (b : Bool) → has_cell (cond b (c ∷ d ∷ ds) (d ∷ inserted c ds)) a ≡ false
        → (has_cell (inserted c ds) a ≡ false → ((c.address == a) ≡ false) × (has_cell ds a ≡ false))
        → ((c.address == a) ≡ false) × (has_cell (d ∷ ds) a ≡ false)
    choose true g rest = none_here c (d ∷ ds) a g
    choose false g rest =
        let first = none_here d (inserted c ds) a g in
        let others = rest first.1 in
        (others.0, still_none d ds a first.0 others.1)

none_at_all : (a : ℕ) → has_cell [] a ≡ false
unfolding has_cell
none_at_all a = refl

none_merged : (cs others : List Cell) (a : ℕ) → has_cell (merged cs others) a ≡ false → (has_cell cs a ≡ false) × (has_cell others a ≡ false)
none_merged [] others a h = (none_at_all a, h)
none_merged (c ∷ cs) others a h =
    let rest = none_merged cs (inserted c others) a h in
    let first = none_inserted c others a rest.1 in
    (still_none c cs a first.0 rest.0, first.1)

-- ---- cells that are left out

none_passed : (p : Cell → Bool) (cells : List Cell) (a : ℕ) → ((c : Cell) → (c.address == a) ≡ true → p c ≡ true) → has_cell (filter p cells) a ≡ false → has_cell cells a ≡ false
none_passed p [] a all h = h
none_passed p (c ∷ cells) a all h = choose (p c) refl h (none_passed p cells a all)
  where
    other : p c ≡ false → (b : Bool) → (c.address == a) ≡ b → (c.address == a) ≡ false
    other e true at = not_so (sym (all c at) ∙ e)
    other e false at = at

    choose :
        (b : Bool) → p c ≡ b → has_cell (cond b (c ∷ filter p cells) (filter p cells)) a ≡ false
        → (has_cell (filter p cells) a ≡ false → has_cell cells a ≡ false) → has_cell (c ∷ cells) a ≡ false
    choose true e g rest = let first = none_here c (filter p cells) a g in still_none c cells a first.0 (rest first.1)
    choose false e g rest = still_none c cells a (other e (c.address == a) refl) (rest g)

-- a cell stays where it is
none_given : (given : Cell → Cell) → ((c : Cell) → (given c).address ≡ c.address) → (cells : List Cell) (a : ℕ) → has_cell (map given cells) a ≡ false → has_cell cells a ≡ false
none_given given same [] a h = h
none_given given same (c ∷ cells) a h =
    let first = none_here (given c) (map given cells) a h in
    still_none c cells a (ap (λ n. n == a) (sym (same c)) ∙ first.0) (none_given given same cells a first.1)

pub HasCellsOf-uncopied : (cells : List Cell) → HasCellsOf cells (map cell_without_origin cells)
HasCellsOf-uncopied cells = record { gives = none_given cell_without_origin (λ c. refl) cells }

-- ---- where the callee returns

pub same_ranges : (ranges : List Range) (a : ℕ) → is_address_in ranges a ≡ lies_in_ranges ranges a
unfolding lies_in_ranges
same_ranges ranges a = refl

inside_at : (ranges : List Range) (a : ℕ) → lies_in_ranges ranges a ≡ true → (c : Cell) → (c.address == a) ≡ true → is_in_ranges ranges c ≡ true
inside_at ranges a h c e = ap (is_address_in ranges) (eqb-true c.address a e) ∙ (same_ranges ranges a ∙ h)

outside_at : (ranges : List Range) (a : ℕ) → lies_in_ranges ranges a ≡ false → (c : Cell) → (c.address == a) ≡ true → is_out_of_ranges ranges c ≡ true
outside_at ranges a h c e = ap (λ b. cond b false true) (ap (is_address_in ranges) (eqb-true c.address a e) ∙ (same_ranges ranges a ∙ h))

none_back :
    (given : Cell → Cell) → ((c : Cell) → (given c).address ≡ c.address) → (ranges : List Range) (caller exit : List Cell) (a : ℕ)
    → has_cell (all_cells_back given ranges caller exit) a ≡ false
    → (has_cell (filter (is_in_ranges ranges) exit) a ≡ false) × (has_cell (filter (is_out_of_ranges ranges) caller) a ≡ false)
none_back given same ranges caller exit a h =
    let both = none_merged (map given (filter (is_in_ranges ranges) exit)) (filter (is_out_of_ranges ranges) caller) a h in
    (none_given given same (filter (is_in_ranges ranges) exit) a both.0, both.1)

all_back :
    (given : Cell → Cell) (ranges : List Range) (caller exit : List Cell) → has_room ranges caller exit ≡ true
    → cells_back (cell_room Extended) given ranges caller exit ≡ all_cells_back given ranges caller exit
unfolding cells_back cell_room
all_back given ranges caller exit h =
    let count = all_counted given ranges caller exit in
    let few : length (filter (is_out_of_ranges ranges) caller) + length (filter (is_in_ranges ranges) exit) ≤ 64 = leb-true _ 64 h in
    take_all 64 (all_cells_back given ranges caller exit) (omega arith)

pub cells_are_back :
    (given : Cell → Cell) → ((c : Cell) → (given c).address ≡ c.address) → (ranges : List Range) (caller exit : List Cell)
    → has_room ranges caller exit ≡ true → AreCellsBack ranges exit caller (cells_back (cell_room Extended) given ranges caller exit)
cells_are_back given same ranges caller exit room =
    subst (AreCellsBack ranges exit caller) (sym (all_back given ranges caller exit room))
    (record {
      inside = λ a in_ranges h. none_passed (is_in_ranges ranges) exit a (inside_at ranges a in_ranges) (none_back given same ranges caller exit a h).0;
      outside = λ a out h. none_passed (is_out_of_ranges ranges) caller a (outside_at ranges a out) (none_back given same ranges caller exit a h).1;
    })
