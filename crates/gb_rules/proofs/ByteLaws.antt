-- Value by value of a byte of RAM: the addresses at which nodes have cells, each tried once, are all that count.
use Rattle.gb_successors.specs.Below.gb_domain.declared.pairs.PairBounds.{PairBounds}
use Rattle.std.proofs.Common.{◌≡◌, ℕ, suc, ◌+◌, ◌≤◌, ◌<◌, ◌⊎◌, inl, inr, Bool, true, false, ◌&&◌, ◌||◌, ◌==◌, List, [], ◌∷◌, map, slice_get, Option, Some, None, refl, sym, ◌∙◌, ap, subst, arith}
use Rattle.std.proofs.lemmas.Bool.{and_parts, eqb-true, or_right}
use Rattle.std.proofs.lemmas.Bool.Decides.{nat_tests}
use Rattle.std.specs.Prelude.{IfSome}
use Rattle.std.specs.List.{list_any}
use Rattle.gb_calls.specs.Below.gb_rows.Rows.{IsFound}
use Rattle.gb_calls.specs.Below.gb_states.Rules.{key}
use Rattle.gb_successors.specs.Below.gb_domain.declared.rules.Rules.{Rules}
use Rattle.gb_successors.specs.Below.gb_domain.declared.types.Cell.{Cell}
use Rattle.gb_successors.specs.Below.gb_domain.Summaries.{Program}
use Rattle.gb_successors.specs.Below.gb_domain.Types.{AbsState, Node}
use Rattle.gb_successors.specs.Below.gb_abs.Cells.{is_at}
use Rattle.gb_rules.specs.Covered.{has_cell_there, is_covered_by_byte, is_covered_by_bytes, is_covered_by_cell, is_node_at, IsUpTo}
use Rattle.gb_rules.proofs.SearchLaws.{found_at, keyed}

or_left : (b c : Bool) → b ≡ true → (b || c) ≡ true
or_left true c e = refl
or_left false c e = cc

both : (b c : Bool) → b ≡ true → c ≡ true → (b && c) ≡ true
both true c e f = f
both false c e f = e

right_fails : (b c : Bool) → (b ≡ true → c ≡ false) → (b && c) ≡ false
right_fails true c h = h refl
right_fails false c h = refl

-- where each element that passes one test passes another one, some does
any_more : {X : Type 0} (p q : X → Bool) (xs : List X) → ((x : X) → p x ≡ true → q x ≡ true) → list_any p xs ≡ true → list_any q xs ≡ true
any_more p q [] h e = e
any_more p q (x ∷ xs) h e = by (p x) refl (any_more p q xs h) e
  where
    by : (b : Bool) → p x ≡ b → (list_any p xs ≡ true → list_any q xs ≡ true) → (b || list_any p xs) ≡ true → list_any q (x ∷ xs) ≡ true
    by true f rest g = or_left (q x) (list_any q xs) (h x f)
    by false f rest g = or_right (q x) (list_any q xs) (rest g)

-- ---- cells

-- a cell at the address passes, where a test goes by addresses
at_cell : (test : ℕ → Bool) (cells : List Cell) (at : ℕ) → list_any (is_at at) cells ≡ true → test at ≡ true → list_any (λ c. test c.address) cells ≡ true
at_cell test cells at there passes =
    any_more (is_at at) (λ c. test c.address) cells (λ c e. let same : c.address ≡ at = eqb-true _ _ e in subst (λ b. test b ≡ true) (sym same) passes) there

-- no cell passes, where the test fails at each address of a cell
at_no_cell : (test : ℕ → Bool) (cells : List Cell) → ((at : ℕ) → list_any (is_at at) cells ≡ true → test at ≡ false) → list_any (λ c. test c.address) cells ≡ false
at_no_cell test [] h = refl
at_no_cell test (c ∷ cells) h =
    rw (h c.address (or_left (c.address == c.address) (list_any (is_at c.address) cells) (same c.address)), at_no_cell test cells (λ at e. h at (or_right (c.address == at) (list_any (is_at at) cells) e))) refl
  where
    same : (a : ℕ) → (a == a) ≡ true
    same a = grind (arith, nat_tests)

-- ---- nodes

-- some node's cell is told apart, where one of the addresses is
pub bytes_found :
    (program : Program) (rules : Rules) (entered : PairBounds) (nodes : List Node) (procedure a : ℕ) (s : AbsState) (at : ℕ)
    → has_cell_there nodes procedure a at ≡ true → is_covered_by_byte program rules entered nodes procedure a s at ≡ true → is_covered_by_bytes program rules entered nodes procedure a s ≡ true
unfolding has_cell_there is_covered_by_bytes
bytes_found program rules entered nodes procedure a s at there covered =
    any_more (λ n. is_node_at procedure a n && list_any (is_at at) n.state.cells)
    (λ n. is_node_at procedure a n && list_any (is_covered_by_cell program rules entered nodes procedure a s) n.state.cells) nodes
    (λ n e.
    let p = and_parts _ _ e in
    both (is_node_at procedure a n) _ p.0 (at_cell (is_covered_by_byte program rules entered nodes procedure a s) n.state.cells at p.1 covered)) there

none_of : (test : ℕ → Bool) (nodes : List Node) (procedure a : ℕ) → ((at : ℕ) → list_any (λ n. is_node_at procedure a n && list_any (is_at at) n.state.cells) nodes ≡ true → test at ≡ false)
    → list_any (λ n. is_node_at procedure a n && list_any (λ c. test c.address) n.state.cells) nodes ≡ false
none_of test [] procedure a h = refl
none_of test (n ∷ nodes) procedure a h =
    rw (
      right_fails (is_node_at procedure a n) (list_any (λ c. test c.address) n.state.cells) (λ here.
          at_no_cell test n.state.cells (λ at e. h at (or_left (is_node_at procedure a n && list_any (is_at at) n.state.cells) _ (both _ _ here e)))),
      none_of test nodes procedure a (λ at e. h at (or_right (is_node_at procedure a n && list_any (is_at at) n.state.cells) _ e)),
    ) refl

-- none is, where none of them is
pub bytes_not_found :
    (program : Program) (rules : Rules) (entered : PairBounds) (nodes : List Node) (procedure a : ℕ) (s : AbsState)
    → ((at : ℕ) → has_cell_there nodes procedure a at ≡ true → is_covered_by_byte program rules entered nodes procedure a s at ≡ false) → is_covered_by_bytes program rules entered nodes procedure a s ≡ false
unfolding has_cell_there is_covered_by_bytes
bytes_not_found program rules entered nodes procedure a s h = none_of (is_covered_by_byte program rules entered nodes procedure a s) nodes procedure a h

-- ---- the nodes that are found

same_key : (procedure a p b : ℕ) → p ≡ procedure → b ≡ a → ((p == procedure) && (b == a)) ≡ true
same_key procedure a p b e f = grind (arith, nat_tests)

keyed_there : (n : Node) (procedure a : ℕ) → key n ≡ (procedure, a) → is_node_at procedure a n ≡ true
keyed_there n procedure a e = same_key procedure a n.procedure n.address (ap (λ k. k.0) e) (ap (λ k. k.1) e)

-- one of them with a cell there is a node there with such a cell
pub has_cell_found :
    (nodes : List Node) (procedure a at first after i : ℕ) (n : Node)
    → IsFound (map key nodes) (procedure, a) first after → first ≤ i → i < after → slice_get nodes i ≡ Some n → list_any (is_at at) n.state.cells ≡ true
    → has_cell_there nodes procedure a at ≡ true
unfolding has_cell_there
has_cell_found nodes procedure a at first after i n found least most here cell =
    let e = found.each i least most in
    let f = keyed nodes i n (key n) here refl in
    let same : key n ≡ (procedure, a) = cc in
    found_at (λ m. is_node_at procedure a m && list_any (is_at at) m.state.cells) nodes i n here
    (both (is_node_at procedure a n) (list_any (is_at at) n.state.cells) (keyed_there n procedure a same) cell)

-- an element that passes
record Passing {X : Type 0} (test : X → Bool) (xs : List X) : Type 0 where
  number : ℕ
  element : X
  there : slice_get xs number ≡ Some element
  passes : test element ≡ true

passing_in : {X : Type 0} (test : X → Bool) (xs : List X) → list_any test xs ≡ true → Passing test xs
passing_in test [] h = cc
passing_in test (x ∷ xs) h = choose (test x) refl h (passing_in test xs)
  where
    choose : (b : Bool) → test x ≡ b → (b || list_any test xs) ≡ true → (list_any test xs ≡ true → Passing test xs) → Passing test (x ∷ xs)
    choose true e g rest = record { number = 0; element = x; there = refl; passes = e }
    choose false e g rest = let p = rest g in record { number = suc p.number; element = p.element; there = p.there; passes = p.passes }

key_of_node : (n : Node) (procedure a : ℕ) → is_node_at procedure a n ≡ true → key n ≡ (procedure, a)
key_of_node n procedure a h =
    let q = and_parts _ _ h in
    let e : n.procedure ≡ procedure = eqb-true _ _ q.0 in
    let f : n.address ≡ a = eqb-true _ _ q.1 in
    ap (λ m. (m, n.address)) e ∙ ap (λ m. (procedure, m)) f

-- a node there with such a cell is one of them
pub up_to_found :
    (nodes : List Node) (procedure a at least first after : ℕ) (next : Option ℕ)
    → IsFound (map key nodes) (procedure, a) first after
    → ((i b : ℕ) (n : Node) → first ≤ i → i < after → slice_get nodes i ≡ Some n → least ≤ b → list_any (is_at b) n.state.cells ≡ true → IsUpTo next b)
    → least ≤ at → has_cell_there nodes procedure a at ≡ true → IsUpTo next at
unfolding has_cell_there
up_to_found nodes procedure a at least first after next found each le there =
    let p = passing_in (λ m. is_node_at procedure a m && list_any (is_at at) m.state.cells) nodes there in
    let both = and_parts _ _ p.passes in
    let inside = found.all p.number (keyed nodes p.number p.element (procedure, a) p.there (key_of_node p.element procedure a both.0)) in
    each p.number at p.element inside.0 inside.1 p.there le both.1

-- ---- the lowest address

-- the lowest address, from one on, at which one of the nodes before a number has a cell
pub record IsLowest (nodes : List Node) (procedure a least first number : ℕ) (next : Option ℕ) : Type 0 where
  pub some : IfSome next (λ at. (least ≤ at) × (has_cell_there nodes procedure a at ≡ true))
  pub first_one :
      (i at : ℕ) (n : Node) → first ≤ i → i < number → slice_get nodes i ≡ Some n → least ≤ at → list_any (is_at at) n.state.cells ≡ true
      → IsUpTo next at

either_some : (P : ℕ → Type 0) (left right next : Option ℕ) → IfSome next (λ at. (left ≡ Some at) ⊎ (right ≡ Some at)) → IfSome left P → IfSome right P → IfSome next P
either_some P left right None h p q = tt
either_some P left right (Some at) h p q =
    elim h [
      | inl e ↦ subst (λ (o : Option ℕ). IfSome o P) e p
      | inr e ↦ subst (λ (o : Option ℕ). IfSome o P) e q
    ]

some_more : (P Q : ℕ → Type 0) (o : Option ℕ) → ((at : ℕ) → P at → Q at) → IfSome o P → IfSome o Q
some_more P Q None h p = tt
some_more P Q (Some at) h p = h at p

-- one node more
pub IsLowest-next :
    (nodes : List Node) (procedure a least first after number : ℕ) (m : Node) (cells : List Cell) (before here next : Option ℕ)
    → IsFound (map key nodes) (procedure, a) first after → first ≤ number → number < after → slice_get nodes number ≡ Some m → cells ≡ m.state.cells
    → IfSome here (λ at. (least ≤ at) × (list_any (is_at at) cells ≡ true)) → ((at : ℕ) → least ≤ at → list_any (is_at at) cells ≡ true → IsUpTo here at)
    → IfSome next (λ at. (before ≡ Some at) ⊎ (here ≡ Some at)) → ((at : ℕ) → IsUpTo before at → IsUpTo next at) → ((at : ℕ) → IsUpTo here at → IsUpTo next at)
    → IsLowest nodes procedure a least first number before → IsLowest nodes procedure a least first (number + 1) next
IsLowest-next nodes procedure a least first after number m cells before here next found from lt there are some lowest one left right h =
    record {
      some = either_some (λ at. (least ≤ at) × (has_cell_there nodes procedure a at ≡ true)) before here next one h.some
          (some_more (λ at. (least ≤ at) × (list_any (is_at at) cells ≡ true)) (λ at. (least ≤ at) × (has_cell_there nodes procedure a at ≡ true)) here
          (λ at k. (k.0, has_cell_found nodes procedure a at first after number m found from lt there (subst (λ cs. list_any (is_at at) cs ≡ true) are k.1))) some);
      first_one = λ i at n begin before_end is le cell. elim (split i number before_end) [
        | inl less ↦ left at (h.first_one i at n begin less is le cell)
        | inr e ↦ right at (lowest at le (subst (λ cs. list_any (is_at at) cs ≡ true) (same i n e is) cell))
      ];
    }
  where
    split : (i k : ℕ) → i < k + 1 → (i < k) ⊎ (i ≡ k)
    split i k h = grind arith

    same : (i : ℕ) (n : Node) → i ≡ number → slice_get nodes i ≡ Some n → n.state.cells ≡ cells
    same i n e is =
        let both : Some n ≡ Some m = sym is ∙ (ap (slice_get nodes) e ∙ there) in
        let node : n ≡ m = cc in
        ap (λ (k : Node). k.state.cells) node ∙ sym are
