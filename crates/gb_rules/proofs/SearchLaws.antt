-- A node that covers lies among those with its key.
use Rattle.std.proofs.Common.{◌≡◌, ℕ, zero, suc, ◌+◌, ◌≤◌, ◌<◌, Bool, true, false, ◌&&◌, ◌==◌, List, [], ◌∷◌, map, slice_get, ◌⊎◌, inl, inr, Option, Some, None, refl, sym, ◌∙◌, ap, subst, arith}
use Rattle.std.proofs.lemmas.Bool.{or_right, and_parts, eqb-true}
use Rattle.std.proofs.lemmas.Bool.Decides.{nat_tests}
use Rattle.std.proofs.lemmas.Option.{slice_get_within, get_or_from_slice_get, slice_get-map}
use Rattle.std.specs.Prelude.{◌||◌, option_map, is_some, IfSome, IfNone}
use Rattle.std.specs.List.{Contains, list_any}
use Rattle.gb_calls.specs.Below.gb_rows.Rows.{IsFound}
use Rattle.gb_successors.specs.Below.gb_domain.declared.rules.Rules.{Rules}
use Rattle.gb_successors.specs.Below.gb_domain.Summaries.{Program}
use Rattle.gb_successors.specs.Below.gb_domain.Certificate.{Certificate}
use Rattle.gb_successors.specs.Below.gb_domain.Types.{AbsState, Node}
use Rattle.gb_calls.specs.Below.gb_states.Rules.{key}
use Rattle.gb_successors.specs.Below.gb_product.Covering.{covers}
use Rattle.gb_rules.specs.Covered.{is_cover, is_covered_by_one, covered_at}

-- one that passes
pub found_at : {X : Type 0} (test : X → Bool) (xs : List X) (i : ℕ) (x : X) → slice_get xs i ≡ Some x → test x ≡ true → list_any test xs ≡ true
found_at test [] i x at passes = cc
found_at test (y ∷ ys) zero x at passes = let e : y ≡ x = cc in rw (e, passes) refl
found_at test (y ∷ ys) (suc i) x at passes = rw (found_at test ys i x at passes) (or_right (test y) true refl)

-- none of the elements before a number passes
abbrev NoneBefore : {X : Type 0} → (X → Bool) → List X → ℕ → Type 0
NoneBefore {X} test xs i = (j : ℕ) (x : X) → j < i → slice_get xs j ≡ Some x → test x ≡ false

-- none passes
none_at : {X : Type 0} (test : X → Bool) (xs : List X) → ((j : ℕ) (x : X) → slice_get xs j ≡ Some x → test x ≡ false) → list_any test xs ≡ false
none_at test [] h = refl
none_at test (y ∷ ys) h = rw (h 0 y refl, none_at test ys (λ j x at. h (suc j) x at)) refl

from_true : (b : Bool) → (b ≡ true → ⊥) → b ≡ false
from_true true h = absurd (h refl)
from_true false h = refl

has_key : (program : Program) (procedure a : ℕ) (s : AbsState) (n : Node) → is_cover program procedure a s n ≡ true → key n ≡ (procedure, a)
has_key program procedure a s n h =
    let p = and_parts _ _ h in
    let q = and_parts _ _ p.0 in
    let e : n.procedure ≡ procedure = eqb-true _ _ q.0 in
    let f : n.address ≡ a = eqb-true _ _ q.1 in
    ap (λ m. (m, n.address)) e ∙ ap (λ m. (procedure, m)) f

pub keyed : (nodes : List Node) (i : ℕ) (n : Node) (k : ℕ × ℕ) → slice_get nodes i ≡ Some n → key n ≡ k → slice_get (map key nodes) i ≡ Some k
keyed nodes i n k at e = slice_get-map key nodes i ∙ (ap (option_map key) at ∙ ap Some e)

-- before the nodes with the key none covers
none_before : (program : Program) (nodes : List Node) (procedure a : ℕ) (s : AbsState) (first after : ℕ) → IsFound (map key nodes) (procedure, a) first after
    → NoneBefore (is_cover program procedure a s) nodes first
none_before program nodes procedure a s first after found = λ j n lt at.
    from_true (is_cover program procedure a s n) (λ h. let p = found.all j (keyed nodes j n (procedure, a) at (has_key program procedure a s n h)) in let least : first ≤ j = p.0 in absurd (omega arith))

-- none of the nodes from one number to below another covers
abbrev pub NoneBetween : Program → List Node → AbsState → ℕ → ℕ → Type 0
NoneBetween program nodes s from i = (j : ℕ) (n : Node) → from ≤ j → j < i → slice_get nodes j ≡ Some n → covers program s n.state ≡ false

-- the node at hand doesn't cover either
pub none_yet : (program : Program) (nodes : List Node) (s : AbsState) (from i : ℕ) (n : Node) → slice_get nodes i ≡ Some n → covers program s n.state ≡ false → NoneBetween program nodes s from i
    → NoneBetween program nodes s from (i + 1)
none_yet program nodes s from i n at apart before = λ j m least lt there.
    elim (split j i lt) [ inl less ↦ before j m least less there | inr e ↦ told j m e there ]
  where
    split : (j i : ℕ) → j < i + 1 → (j < i) ⊎ (j ≡ i)
    split j i lt = grind arith

    told : (j : ℕ) (m : Node) → j ≡ i → slice_get nodes j ≡ Some m → covers program s m.state ≡ false
    told j m e there =
        let here : Some m ≡ Some n = sym there ∙ (ap (slice_get nodes) e ∙ at) in
        let same : m ≡ n = cc in
        ap (λ (k : Node). covers program s k.state) same ∙ apart

-- behind the nodes with the key none covers
none_covers : (program : Program) (nodes : List Node) (procedure a : ℕ) (s : AbsState) (first after i : ℕ) → IsFound (map key nodes) (procedure, a) first after → after ≤ i
    → NoneBefore (is_cover program procedure a s) nodes i → false ≡ is_covered_by_one program nodes procedure a s
unfolding is_covered_by_one
none_covers program nodes procedure a s first after i found le before = sym (none_at (is_cover program procedure a s) nodes (λ j n at.
    from_true (is_cover program procedure a s n) (λ h. let p = found.all j (keyed nodes j n (procedure, a) at (has_key program procedure a s n h)) in let most : j < after = p.1 in let no : is_cover program procedure a s n ≡ false = before j n (omega arith) at in cc)))

-- a node among those with the key covers
one_covers : (program : Program) (nodes : List Node) (procedure a : ℕ) (s : AbsState) (first after i : ℕ) (n : Node) → IsFound (map key nodes) (procedure, a) first after → first ≤ i → i < after
    → slice_get nodes i ≡ Some n → covers program s n.state ≡ true → true ≡ is_covered_by_one program nodes procedure a s
unfolding is_covered_by_one
one_covers program nodes procedure a s first after i n found least most at h =
    let e = found.each i least most in
    let f = keyed nodes i n (key n) at refl in
    let same : key n ≡ (procedure, a) = cc in
    let p : n.procedure ≡ procedure = ap (λ k. k.0) same in
    let q : n.address ≡ a = ap (λ k. k.1) same in
    sym (found_at (is_cover program procedure a s) nodes i n at (covering n.procedure procedure n.address a (covers program s n.state) p q h))
  where
    covering : (m procedure b a : ℕ) (c : Bool) → m ≡ procedure → b ≡ a → c ≡ true → ((m == procedure) && (b == a) && c) ≡ true
    covering m procedure b a c e f h = grind (arith, nat_tests)

-- the node with a number among them covers
pub found_covers : (program : Program) (nodes : List Node) (procedure a : ℕ) (s : AbsState) (first after i : ℕ) → IsFound (map key nodes) (procedure, a) first after → first ≤ i → i < after
    → IfSome (slice_get nodes i) (λ n. covers program s n.state ≡ true) → true ≡ is_covered_by_one program nodes procedure a s
found_covers program nodes procedure a s first after i found least most h = by (slice_get nodes i) refl h
  where
    by : (o : Option Node) → slice_get nodes i ≡ o → IfSome o (λ n. covers program s n.state ≡ true) → true ≡ is_covered_by_one program nodes procedure a s
    by None e h =
        let missing : slice_get (map key nodes) i ≡ None = slice_get-map key nodes i ∙ ap (option_map key) e in
        let there : slice_get (map key nodes) i ≡ Some (procedure, a) = found.each i least most in
        cc
    by (Some n) e h = one_covers program nodes procedure a s first after i n found least most e h

-- none of them covers, from one number on and before it
none_around : (program : Program) (nodes : List Node) (procedure a : ℕ) (s : AbsState) (first near after : ℕ) → IsFound (map key nodes) (procedure, a) first after → NoneBetween program nodes s near after
    → NoneBetween program nodes s first near → false ≡ is_covered_by_one program nodes procedure a s
none_around program nodes procedure a s first near after found behind before = none_covers program nodes procedure a s first after after found (omega arith) each
  where
    uncovered : (b c : Bool) → c ≡ false → (b && c) ≡ false
    uncovered true c e = e
    uncovered false c e = refl

    side : (i j : ℕ) → (i ≤ j) ⊎ (j < i)
    side i j = grind arith

    each : NoneBefore (is_cover program procedure a s) nodes after
    each j n lt at = elim (side first j) [
      | inl least ↦ uncovered ((n.procedure == procedure) && (n.address == a)) (covers program s n.state) (elim (side near j) [ inl high ↦ behind j n high lt at | inr low ↦ before j n least low at ])
      | inr less ↦ none_before program nodes procedure a s first after found j n less at
    ]

-- none of them covers from one number on: one does where one is found before it
pub found_around : (program : Program) (nodes : List Node) (procedure a : ℕ) (s : AbsState) (first near after : ℕ) (o : Option ℕ) → IsFound (map key nodes) (procedure, a) first after → near ≤ after
    → NoneBetween program nodes s near after → IfSome o (λ i. (first ≤ i) × (i < near)) → IfSome o (λ i. IfSome (slice_get nodes i) (λ n. covers program s n.state ≡ true))
    → IfNone o (NoneBetween program nodes s first near) → is_some o ≡ is_covered_by_one program nodes procedure a s
found_around program nodes procedure a s first near after None found le behind inside covering before = none_around program nodes procedure a s first near after found behind before
found_around program nodes procedure a s first near after (Some i) found le behind inside covering before =
    let most : i < near = inside.1 in
    found_covers program nodes procedure a s first after i found inside.0 (omega arith) covering

-- the node with a number covers
pub covered_by : (program : Program) (rules : Rules) (cert : Certificate) (procedure a : ℕ) (s : AbsState) (i : ℕ) (n : Node) (has covering : Bool) → IfSome (slice_get cert.nodes i) (λ m. has ≡ ((m.procedure == procedure) && (m.address == a)))
    → slice_get cert.nodes i ≡ Some n → covering ≡ covers program s n.state → has ≡ true → covering ≡ true → true ≡ covered_at program rules cert procedure a s
unfolding covered_at is_covered_by_one
covered_by program rules cert procedure a s i n has covering key at is keyed covers =
    let told : has ≡ ((n.procedure == procedure) && (n.address == a)) = subst (λ (o : Option Node). IfSome o (λ m. has ≡ ((m.procedure == procedure) && (m.address == a)))) at key in
    let both : is_cover program procedure a s n ≡ true = both_true _ _ (sym told ∙ keyed) (sym is ∙ covers) in
    sym (or_left _ _ (found_at (is_cover program procedure a s) cert.nodes i n at both))
  where
    both_true : (b c : Bool) → b ≡ true → c ≡ true → (b && c) ≡ true
    both_true true c e f = f
    both_true false c e f = e

    or_left : (b c : Bool) → b ≡ true → (b || c) ≡ true
    or_left true c e = refl
    or_left false c e = cc

-- the element with a number is an element
pub Contains-slice_get : {X : Type 0} (xs : List X) (i : ℕ) (x : X) → slice_get xs i ≡ Some x → Contains xs x
Contains-slice_get xs i x h = (i, slice_get_within xs i x h, get_or_from_slice_get xs i x x h)
