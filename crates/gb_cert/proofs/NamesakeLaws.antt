-- Procedures of version 4 stand by the addresses at which they begin, so those of one address are found as rows are.
use Rattle.std.proofs.Common.{◌≡◌, ℕ, zero, suc, ◌+◌, ◌-◌, ◌≤◌, ◌<◌, Bool, true, false, ◌&&◌, ◌||◌, ◌==◌, nat_lt, nat_le, List, [], ◌∷◌, length, map, Some, refl, sym, ap, ◌∙◌, subst, arith}
use Rattle.std.specs.Prelude.{slice_get}
use Rattle.std.proofs.lemmas.Bool.{and_parts}
use Rattle.std.proofs.lemmas.Bool.Decides.{nat_tests}
use Rattle.std.proofs.lemmas.List.{length-map}
use Rattle.gb_rows.specs.Rows.{is_before, AreInOrder, IsFound}
use Rattle.gb_domain.specs.Types.{ProcedureParts, Node}
use Rattle.gb_domain.specs.Certificate.{Certificate}
use Rattle.gb_states.specs.WholeRules.{entry_in, is_in_order, is_uncrowded, are_in_order, in_order_by, IsCertificate}
use Rattle.gb_cert.specs.Namesakes.{behind_main, start_of, starts, AreAmong, AreNamesakes}

-- ---- the keys

pub starts_length : (c : Certificate) → length (starts c) ≡ length c.procedures - 1
unfolding starts
starts_length c = by c.procedures
  where
    by : (ps : List ProcedureParts) → length (map (start_of c.nodes) (behind_main ps)) ≡ length ps - 1
    by [] = refl
    by (main ∷ ps) = let same = length-map ps (start_of c.nodes) in omega arith

map-at : (nodes : List Node) (ps : List ProcedureParts) (i address : ℕ) → i < length ps → address ≡ entry_in nodes (slice_get ps i) → slice_get (map (start_of nodes) ps) i ≡ Some (0, address)
map-at nodes [] i address lt e = absurd (omega arith)
map-at nodes (p ∷ ps) zero address lt e = ap (λ (n : ℕ). Some (0, n)) (sym e)
map-at nodes (p ∷ ps) (suc i) address lt e = map-at nodes ps i address (omega arith) e

at-map : (nodes : List Node) (ps : List ProcedureParts) (i : ℕ) (k : ℕ × ℕ) → slice_get (map (start_of nodes) ps) i ≡ Some k → (i < length ps) × (k ≡ (0, entry_in nodes (slice_get ps i)))
at-map nodes [] i k e = absurd (cc)
at-map nodes (p ∷ ps) zero k e = let same : start_of nodes p ≡ k = cc in (omega arith, sym same)
at-map nodes (p ∷ ps) (suc i) k e = let h = at-map nodes ps i k e in (omega (arith, h.0), h.1)

-- the key of the procedure with the number behind
pub start_at : (c : Certificate) (i address : ℕ) → i + 1 < length c.procedures → address ≡ entry_in c.nodes (slice_get c.procedures (i + 1)) → slice_get (starts c) i ≡ Some (0, address)
unfolding starts
start_at c i address = by c.procedures
  where
    by : (ps : List ProcedureParts) → i + 1 < length ps → address ≡ entry_in c.nodes (slice_get ps (i + 1)) → slice_get (map (start_of c.nodes) (behind_main ps)) i ≡ Some (0, address)
    by [] lt e = absurd (omega arith)
    by (main ∷ ps) lt e =
        let next : i + 1 ≡ suc i = omega arith in
        map-at c.nodes ps i address (omega arith) (subst (λ (n : ℕ). address ≡ entry_in c.nodes (slice_get (main ∷ ps) n)) next e)

started : (c : Certificate) (i : ℕ) (k : ℕ × ℕ) → slice_get (starts c) i ≡ Some k → (i + 1 < length c.procedures) × (k ≡ (0, entry_in c.nodes (slice_get c.procedures (i + 1))))
unfolding starts
started c i k = by c.procedures
  where
    by : (ps : List ProcedureParts) → slice_get (map (start_of c.nodes) (behind_main ps)) i ≡ Some k → (i + 1 < length ps) × (k ≡ (0, entry_in c.nodes (slice_get ps (i + 1))))
    by [] e = absurd (cc)
    by (main ∷ ps) e =
        let next : suc i ≡ i + 1 = omega arith in
        let h = at-map c.nodes ps i k e in
        (omega (arith, h.0), subst (λ (n : ℕ). k ≡ (0, entry_in c.nodes (slice_get (main ∷ ps) n))) next h.1)

-- ---- their order

ordered-parts : (ps : List ProcedureParts) (nodes : List Node) (number count : ℕ) → are_in_order ps nodes number (suc count) ≡ true → (is_in_order ps nodes number ≡ true) × (are_in_order ps nodes (number + 1) count ≡ true)
unfolding are_in_order
ordered-parts ps nodes number count h =
    and_parts (is_in_order ps nodes number) (are_in_order ps nodes (number + 1) count) (and_parts (is_uncrowded ps nodes number) (is_in_order ps nodes number && are_in_order ps nodes (number + 1) count) h).1

ordered-first : (ps : List ProcedureParts) (nodes : List Node) (number n : ℕ) → number ≤ n → is_in_order ps nodes number ≡ true → (number + 1 ≤ n → is_in_order ps nodes n ≡ true) → is_in_order ps nodes n ≡ true
ordered-first ps nodes number n le first others = choose (nat_le n number) refl
  where
    choose : (b : Bool) → nat_le n number ≡ b → is_in_order ps nodes n ≡ true
    choose true e = let same : number ≡ n = grind (arith, nat_tests) in subst (λ (m : ℕ). is_in_order ps nodes m ≡ true) same first
    choose false e = let more : number + 1 ≤ n = grind (arith, nat_tests) in others more

ordered-at : (ps : List ProcedureParts) (nodes : List Node) (number count n : ℕ) → are_in_order ps nodes number count ≡ true → number ≤ n → n < number + count → is_in_order ps nodes n ≡ true
ordered-at ps nodes number zero n h le lt = absurd (omega arith)
ordered-at ps nodes number (suc count) n h le lt =
    let parts = ordered-parts ps nodes number count h in
    ordered-first ps nodes number n le parts.0 (λ more. ordered-at ps nodes (number + 1) count n parts.1 more (omega arith))

step-up : (n a b : ℕ) → (nat_lt n 2 || nat_le a b) ≡ true → 2 ≤ n → a ≤ b
step-up n a b h le = grind (arith, nat_tests)

next-up : (ps : List ProcedureParts) (nodes : List Node) (i : ℕ) → is_in_order ps nodes (i + 1) ≡ true → 0 < i → entry_in nodes (slice_get ps i) ≤ entry_in nodes (slice_get ps (i + 1))
next-up ps nodes i h some =
    let before : (i + 1) - 1 ≡ i = omega arith in
    subst (λ (n : ℕ). entry_in nodes (slice_get ps n) ≤ entry_in nodes (slice_get ps (i + 1))) before (step-up (i + 1) (entry_in nodes (slice_get ps ((i + 1) - 1))) (entry_in nodes (slice_get ps (i + 1))) h (omega arith))

up : (ps : List ProcedureParts) (nodes : List Node) (i d : ℕ) → are_in_order ps nodes 0 (length ps) ≡ true → 0 < i → i + d < length ps → entry_in nodes (slice_get ps i) ≤ entry_in nodes (slice_get ps (i + d))
up ps nodes i zero h some lt = let same : i ≡ i + 0 = omega arith in subst (λ (n : ℕ). entry_in nodes (slice_get ps i) ≤ entry_in nodes (slice_get ps n)) same (omega arith)
up ps nodes i (suc d) h some lt =
    let same : (i + d) + 1 ≡ i + suc d = omega arith in
    let before : entry_in nodes (slice_get ps i) ≤ entry_in nodes (slice_get ps (i + d)) = up ps nodes i d h some (omega arith) in
    let last : entry_in nodes (slice_get ps (i + d)) ≤ entry_in nodes (slice_get ps ((i + d) + 1)) = next-up ps nodes (i + d) (ordered-at ps nodes 0 (length ps) ((i + d) + 1) h (omega arith) (omega arith)) (omega arith) in
    subst (λ (n : ℕ). entry_in nodes (slice_get ps i) ≤ entry_in nodes (slice_get ps n)) same (omega arith)

not-before : (a b : ℕ × ℕ) (m n : ℕ) → a ≡ (0, m) → b ≡ (0, n) → m ≤ n → is_before b a ≡ false
not-before a b m n e f le = rw (e, f) (plain m n le)
  where
    plain : (m n : ℕ) → m ≤ n → is_before (0, n) (0, m) ≡ false
    plain m n le = grind (arith, nat_tests)

fourth-order : (c : Certificate) → (c.version == 4) ≡ true → IsCertificate c → are_in_order c.procedures c.nodes 0 (length c.procedures) ≡ true
fourth-order c fourth h = subst (λ (b : Bool). in_order_by b c.procedures c.nodes ≡ true) fourth h.order

pub starts-in-order : (c : Certificate) → (c.version == 4) ≡ true → IsCertificate c → AreInOrder (starts c)
starts-in-order c fourth h i j a b le e f =
    let one = started c i a e in
    let two = started c j b f in
    let same : (i + 1) + (j - i) ≡ j + 1 = omega arith in
    let more : entry_in c.nodes (slice_get c.procedures (i + 1)) ≤ entry_in c.nodes (slice_get c.procedures ((i + 1) + (j - i))) = up c.procedures c.nodes (i + 1) (j - i) (fourth-order c fourth h) (omega arith) (omega (arith, two.0)) in
    not-before a b (entry_in c.nodes (slice_get c.procedures (i + 1))) (entry_in c.nodes (slice_get c.procedures (j + 1))) one.1 two.1
    (subst (λ (n : ℕ). entry_in c.nodes (slice_get c.procedures (i + 1)) ≤ entry_in c.nodes (slice_get c.procedures n)) same more)

-- ---- those that begin at an address

below : (ps : List ProcedureParts) (i : ℕ) (p : ProcedureParts) → slice_get ps i ≡ Some p → i < length ps
below [] i p e = absurd (cc)
below (q ∷ ps) zero p e = omega arith
below (q ∷ ps) (suc i) p e = omega (arith, below ps i p e)

among : (c : Certificate) (address first after : ℕ) → IsCertificate c → IsFound (starts c) (0, address) first after → AreAmong c address (first + 1) (after + 1)
among c address first after h f = record {
  behind_main = omega arith;
  within = let few = f.within in let some = h.some_procedure in let many = starts_length c in omega arith;
  all = by;
}
  where
    by : (i : ℕ) (p : ProcedureParts) → 0 < i → slice_get c.procedures i ≡ Some p → entry_in c.nodes (Some p) ≡ address → (first + 1 ≤ i) × (i < after + 1)
    by zero p some at e = absurd (omega arith)
    by (suc i) p some at e =
        let next : suc i ≡ i + 1 = omega arith in
        let there : slice_get c.procedures (i + 1) ≡ Some p = subst (λ (n : ℕ). slice_get c.procedures n ≡ Some p) next at in
        let begins : address ≡ entry_in c.nodes (slice_get c.procedures (i + 1)) = sym e ∙ sym (ap (entry_in c.nodes) there) in
        let is = f.all i (start_at c i address (below c.procedures (i + 1) p there) begins) in
        (omega (arith, is.0), omega (arith, is.1))

second-same : (a b : ℕ × ℕ) → a ≡ b → a.1 ≡ b.1
second-same a b e = ap (λ (k : ℕ × ℕ). k.1) e

pub namesakes-found : (c : Certificate) (address first after : ℕ) → IsCertificate c → IsFound (starts c) (0, address) first after → AreNamesakes c address (first + 1) (after + 1)
namesakes-found c address first after h f = record {
  among = among c address first after h f;
  each = by;
}
  where
    by : (i : ℕ) (p : ProcedureParts) → first + 1 ≤ i → i < after + 1 → slice_get c.procedures i ≡ Some p → entry_in c.nodes (Some p) ≡ address
    by zero p le lt at = absurd (omega arith)
    by (suc i) p le lt at =
        let next : suc i ≡ i + 1 = omega arith in
        let there : slice_get c.procedures (i + 1) ≡ Some p = subst (λ (n : ℕ). slice_get c.procedures n ≡ Some p) next at in
        let key = started c i (0, address) (f.each i (omega arith) (omega arith)) in
        sym (ap (entry_in c.nodes) there) ∙ sym (second-same (0, address) (0, entry_in c.nodes (slice_get c.procedures (i + 1))) key.1)

-- Their numbers fit.
pub namesakes-few : (c : Certificate) (address first after : ℕ) → length c.procedures ≤ 65535 → IsCertificate c → IsFound (starts c) (0, address) first after → (first + 1 ≤ 65535) × (after + 1 ≤ 65535)
namesakes-few c address first after few h f =
    let order = f.order in
    let within = f.within in
    let some = h.some_procedure in
    let many = starts_length c in
    (omega arith, omega arith)

-- As many keys as procedures but main.
pub starts-few : (c : Certificate) → length c.procedures ≤ 65535 → length (starts c) ≤ 65535
starts-few c few = let many = starts_length c in omega arith
