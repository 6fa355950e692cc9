-- A certificate in version 4, by way of version 3, part by part.
use Rattle.std.proofs.Common.{◌≡◌, ℕ, zero, suc, ◌+◌, ◌-◌, ◌≤◌, ◌<◌, Bool, true, false, not, ◌==◌, ◌&&◌, nat_le, nat_lt, List, [], ◌∷◌, ◌++◌, length, map, take, drop, get_or, slice_get, Option, Some, None, refl, sym, ◌∙◌, ap, subst, arith, append_assoc, if◌then◌else◌}
use Rattle.std.specs.Prelude.{IfSome, option_map}
use Rattle.std.specs.List.{AllByRecursion, flat_map, insert, list_all}
use Rattle.std.proofs.lemmas.Bool.{and_parts}
use Rattle.std.proofs.lemmas.Bool.Decides.{nat_tests}
use Rattle.std.proofs.lemmas.List.{drop_more, append-nil, take_all, length-append}
use Rattle.std.proofs.lemmas.Grind.{flat_map-append}
use Rattle.std.proofs.lemmas.List.Folds.{flat_map-map}
use Rattle.std.proofs.lemmas.Option.{slice_get_within, get_or_from_slice_get}
use Rattle.gb_ops.specs.declared.machine.Region.{Region}
use Rattle.gb_domain.specs.declared.rules.Rules.{Rules}
use Rattle.gb_domain.specs.declared.rules.Rules.TheVariants.{Simple, Extended}
use Rattle.gb_domain.specs.Types.{AbsState, ProcedureParts, Node}
use Rattle.gb_domain.specs.Certificate.{Certificate}
use Rattle.gb_domain.specs.Limits.{rules_of, item_room}
use Rattle.gb_domain.specs.Rules.{IsChain}
use Rattle.gb_command_line.specs.Below.gb_verify.Below.gb_states.declared.role.Role.{Role}
use Rattle.gb_command_line.specs.Below.gb_verify.Below.gb_states.declared.role.Role.TheVariants as role
use Rattle.gb_command_line.specs.Below.gb_verify.Below.gb_states.Rules.{IsState, IsProcedure, IsNode, IsCertificate, is_state_sayable, is_core_sayable, is_sayable, is_cell_sayable, is_silent, is_after, key}
use Rattle.gb_command_line.specs.Below.gb_fields.Limits.{node_limit}
use Rattle.gb_domain.specs.declared.summary.Fact.{Fact}
use Rattle.gb_command_line.specs.Below.gb_verify.Below.gb_states.WholeRules.{entry_in, address_in, procedure_forms, form_in}
use Rattle.gb_command_line.specs.Below.gb_verify.Below.gb_states.WholeSpelling as whole
use Rattle.gb_command_line.specs.Below.gb_verify.Below.gb_states.Spelling as spelled
use Rattle.gb_command_line.specs.Below.gb_verify.Below.gb_states.Numbers.{word, quad}
use Rattle.gb_events.specs.Sinks.{Gains}
use Rattle.gb_events.specs.Sinks.{GainsBeginning}
use Rattle.gb_events.proofs.Below.gb_text_laws.Remaining.{Remains, remains_less, remains_cut, remains_none}
use Rattle.gb_command_line.specs.Below.gb_verify.Widened.{below_items, widened_by, widened, widened_node, widened_procedure}
use Rattle.gb_program.specs.Fourth.{AreNumbers, IsFree, IsOlder, entry_address, fourth, fourth_by, fourth_forms, fourth_text, order, fourth_node, fourth_procedure, grouped, has_return_word, listed, new_entry, nodes_of, place, placed, placed_one, sorted, where_own, widened_node_by, widened_procedure_by}
use Rattle.gb_events.proofs.Below.gb_verify_laws.WidenedLaws.{map_long, procedures_long, sayable}
use Rattle.gb_events.proofs.Below.gb_verify_laws.WidenedText.{node_at, procedure_at}

-- ---- by way of version 3

pub node_in : (c : Certificate) (i : ℕ) (n : Node) → slice_get c.nodes i ≡ Some n → slice_get (widened c).nodes i ≡ Some (widened_node_by (rules_of c.version) n)
node_in c i n e = by (rules_of c.version)
  where
    by : (rules : Rules) → slice_get (widened_by rules c).nodes i ≡ Some (widened_node_by rules n)
    by Simple = node_at c.nodes i n e
    by Extended = e

pub procedure_in : (c : Certificate) (i : ℕ) (p : ProcedureParts) → slice_get c.procedures i ≡ Some p → slice_get (widened c).procedures i ≡ Some (widened_procedure_by (rules_of c.version) (i == 0) p)
procedure_in c i p e = by (rules_of c.version)
  where
    by : (rules : Rules) → slice_get (widened_by rules c).procedures i ≡ Some (widened_procedure_by rules (i == 0) p)
    by Simple = procedure_at c.procedures i p e
    by Extended = e

pub nodes_long : (c : Certificate) → length (widened c).nodes ≡ length c.nodes
nodes_long c = by (rules_of c.version)
  where
    by : (rules : Rules) → length (widened_by rules c).nodes ≡ length c.nodes
    by Simple = map_long widened_node c.nodes
    by Extended = refl

pub all_procedures : (c : Certificate) → length (widened c).procedures ≡ length c.procedures
all_procedures c = by (rules_of c.version)
  where
    by : (rules : Rules) → length (widened_by rules c).procedures ≡ length c.procedures
    by Simple = procedures_long c.procedures
    by Extended = refl

pub same_owner : (rules : Rules) (n : Node) → (widened_node_by rules n).procedure ≡ n.procedure
unfolding widened_node
same_owner Simple n = refl
same_owner Extended n = refl

pub same_address : (rules : Rules) (n : Node) → (widened_node_by rules n).address ≡ n.address
unfolding widened_node
same_address Simple n = refl
same_address Extended n = refl

pub same_entry : (rules : Rules) (is_main : Bool) (p : ProcedureParts) → (widened_procedure_by rules is_main p).entry ≡ p.entry
unfolding widened_procedure
same_entry Simple true p = refl
same_entry Simple false p = refl
same_entry Extended is_main p = refl

-- ---- certificates of versions 1 to 3

procedure_of_chain : (rules : Rules) (region : Region) (nodes : ℕ) (is_main : Bool) (ps : List ProcedureParts) (i : ℕ) (p : ProcedureParts) → IsChain (IsProcedure rules region nodes) is_after is_main ps → slice_get ps i ≡ Some p
    → (b : Bool) × IsProcedure rules region nodes b p
procedure_of_chain rules region nodes is_main [] i p h e = cc
procedure_of_chain rules region nodes is_main (q ∷ qs) zero p h e = let same : q ≡ p = cc in (is_main, subst (λ (z : ProcedureParts). IsProcedure rules region nodes is_main z) same h.0)
procedure_of_chain rules region nodes is_main (q ∷ qs) (suc i) p h e = procedure_of_chain rules region nodes false qs i p h.1 e

pub procedure_of : (c : Certificate) (i : ℕ) (p : ProcedureParts) → IsCertificate c → slice_get c.procedures i ≡ Some p → (b : Bool) × IsProcedure (rules_of c.version) c.region (length c.nodes) b p
procedure_of c i p h e = procedure_of_chain (rules_of c.version) c.region (length c.nodes) true c.procedures i p h.procedures e

node_of_chain : (rules : Rules) (region : Region) (procedures : ℕ) (before : ℕ × ℕ) (ns : List Node) (i : ℕ) (n : Node) → IsChain (IsNode rules region procedures) key before ns → slice_get ns i ≡ Some n
    → (k : ℕ × ℕ) × IsNode rules region procedures k n
node_of_chain rules region procedures before [] i n h e = cc
node_of_chain rules region procedures before (m ∷ ms) zero n h e = let same : m ≡ n = cc in (before, subst (λ (z : Node). IsNode rules region procedures before z) same h.0)
node_of_chain rules region procedures before (m ∷ ms) (suc i) n h e = node_of_chain rules region procedures (key m) ms i n h.1 e

pub node_of : (c : Certificate) (i : ℕ) (n : Node) → IsCertificate c → slice_get c.nodes i ≡ Some n → (k : ℕ × ℕ) × IsNode (rules_of c.version) c.region (length c.procedures) k n
node_of c i n h e = node_of_chain (rules_of c.version) c.region (length c.procedures) (0, 0) c.nodes i n h.nodes e

pub entry_within : (c : Certificate) (i : ℕ) (p : ProcedureParts) → IsCertificate c → slice_get c.procedures i ≡ Some p → p.entry < length c.nodes
entry_within c i p h e = (procedure_of c i p h e).1.entry

-- ---- their states

older_parts : (b : Bool) (s : AbsState) → is_state_sayable Extended s ≡ true → length (below_items b ++ s.items) ≤ 255 → IsOlder b s
older_parts b s h room =
    let p = and_parts (is_core_sayable Extended s.core) (list_all (is_sayable Extended) s.items && (list_all (is_cell_sayable Extended) s.cells && is_silent s.summary)) h in
    let q = and_parts (list_all (is_sayable Extended) s.items) (list_all (is_cell_sayable Extended) s.cells && is_silent s.summary) p.1 in
    let r = and_parts (list_all (is_cell_sayable Extended) s.cells) (is_silent s.summary) q.1 in
    record { core = p.0; items = q.0; cells = r.0; silent = r.1; room = room }

room_in : (b : Bool) (s : AbsState) → length s.items ≤ item_room Simple → length (below_items b ++ s.items) ≤ 255
unfolding item_room
room_in true s h = omega (arith, h)
room_in false s h = omega (arith, h)

all_room : (s : AbsState) → length s.items ≤ item_room Extended → length s.items ≤ 255
unfolding item_room
all_room s h = h

older_by : (rules : Rules) (number : ℕ) (role : Role) (region : Region) (s : AbsState) → IsState rules role region s → IsOlder (has_return_word rules number) s
older_by Simple number role region s h = older_parts (not (number == 0)) s (sayable s h.sayable) (room_in (not (number == 0)) s h.item_count)
older_by Extended number role region s h = older_parts false s h.sayable (all_room s h.item_count)

pub node_older : (c : Certificate) (i : ℕ) (n : Node) → IsCertificate c → slice_get c.nodes i ≡ Some n → IsOlder (has_return_word (rules_of c.version) n.procedure) n.state
node_older c i n h e = older_by (rules_of c.version) n.procedure _ c.region n.state (node_of c i n h e).1.state

main_by : (rules : Rules) → has_return_word rules 0 ≡ false
main_by Simple = refl
main_by Extended = refl

exit_by : (rules : Rules) (region : Region) (o : Option AbsState) → IfSome o (IsState rules role.Exit region) → IfSome o (IsOlder false)
exit_by rules region None h = tt
exit_by rules region (Some s) h = subst (λ (b : Bool). IsOlder b s) (main_by rules) (older_by rules 0 role.Exit region s h)

pub exit_older : (c : Certificate) (i : ℕ) (p : ProcedureParts) → IsCertificate c → slice_get c.procedures i ≡ Some p → IfSome p.exit (IsOlder false)
exit_older c i p h e = exit_by (rules_of c.version) c.region p.exit (procedure_of c i p h e).1.exit

-- and where their one byte is

pub node_free : (c : Certificate) (i : ℕ) (n : Node) → IsCertificate c → slice_get c.nodes i ≡ Some n → IsFree c.region n.state
node_free c i n h e = (node_of c i n h e).1.state.relations.byte.address

exit_free_by : (rules : Rules) (region : Region) (o : Option AbsState) → IfSome o (IsState rules role.Exit region) → IfSome o (IsFree region)
exit_free_by rules region None h = tt
exit_free_by rules region (Some s) h = h.relations.byte.address

pub exit_free : (c : Certificate) (i : ℕ) (p : ProcedureParts) → IsCertificate c → slice_get c.procedures i ≡ Some p → IfSome p.exit (IsFree c.region)
exit_free c i p h e = exit_free_by (rules_of c.version) c.region p.exit (procedure_of c i p h e).1.exit

-- ---- the order

pub entry_is : (c : Certificate) (number : ℕ) (p : ProcedureParts) (n : Node) → slice_get c.procedures number ≡ Some p → slice_get c.nodes p.entry ≡ Some n → n.address ≡ entry_address (widened c) number
entry_is c number p n e f =
    let rules = rules_of c.version in
    let q : ProcedureParts = widened_procedure_by rules (number == 0) p in
    sym (ap (entry_in (widened c).nodes) (procedure_in c number p e)
    ∙ ap (λ (i : ℕ). address_in (slice_get (widened c).nodes i)) (same_entry rules (number == 0) p)
    ∙ ap address_in (node_in c p.entry n f)
    ∙ same_address rules n)

pub number_at : (count : ℕ) (ns : List ℕ) (i d : ℕ) → AreNumbers count ns → i < length ns → get_or ns i d < count
number_at count [] i d h lt = absurd (omega (arith, lt))
number_at count (n ∷ ns) zero d h lt = h.0
number_at count (n ∷ ns) (suc i) d h lt = number_at count ns i d h.1 (omega (arith, lt))

pub place_here : (begins : ℕ → ℕ) (address i entry d : ℕ) (ns : List ℕ) → place begins address ns ≡ i + place begins address (drop i ns) → i < length ns → entry ≡ begins (get_or ns i d) → address < entry
    → i ≡ place begins address ns
unfolding place
place_here begins address i entry d ns h lt e above =
    sym (h ∙ ap (λ (m : ℕ). i + m) (ap (place begins address) (drop_more ns i d lt) ∙ found (get_or ns i d) (drop (i + 1) ns) (subst (λ (m : ℕ). address < m) e above)) ∙ none i)
  where
    none : (n : ℕ) → n + 0 ≡ n
    none n = omega arith

    found : (n : ℕ) (ms : List ℕ) → address < begins n → place begins address (n ∷ ms) ≡ 0
    found n ms g = let test : nat_le (begins n) address ≡ false = grind (arith, nat_tests) in rw test refl

pub place_on : (begins : ℕ → ℕ) (address i entry d : ℕ) (ns : List ℕ) → place begins address ns ≡ i + place begins address (drop i ns) → i < length ns → entry ≡ begins (get_or ns i d) → entry ≤ address
    → place begins address ns ≡ (i + 1) + place begins address (drop (i + 1) ns)
unfolding place
place_on begins address i entry d ns h lt e below =
    h ∙ ap (λ (m : ℕ). i + m) (ap (place begins address) (drop_more ns i d lt) ∙ past (get_or ns i d) (drop (i + 1) ns) (subst (λ (m : ℕ). m ≤ address) e below)) ∙ moved i (place begins address (drop (i + 1) ns))
  where
    moved : (n m : ℕ) → n + suc m ≡ (n + 1) + m
    moved n m = omega arith

    past : (n : ℕ) (ms : List ℕ) → begins n ≤ address → place begins address (n ∷ ms) ≡ suc (place begins address ms)
    past n ms g = let test : nat_le (begins n) address ≡ true = grind (arith, nat_tests) in rw test refl

place_none : (begins : ℕ → ℕ) (address : ℕ) (ns : List ℕ) (i : ℕ) → length ns ≤ i → place begins address (drop i ns) ≡ 0
unfolding place
place_none begins address [] zero h = refl
place_none begins address [] (suc i) h = refl
place_none begins address (n ∷ ns) zero h = absurd (omega (arith, h))
place_none begins address (n ∷ ns) (suc i) h = place_none begins address ns i (omega (arith, h))

pub place_end : (begins : ℕ → ℕ) (address i : ℕ) (ns : List ℕ) → place begins address ns ≡ i + place begins address (drop i ns) → i ≡ length ns → length ns ≡ place begins address ns
place_end begins address i ns h e =
    let none : place begins address (drop i ns) ≡ 0 = place_none begins address ns i (omega (arith, e)) in
    omega (arith, h, e, none)

pub inserted : (count : ℕ) (ns : List ℕ) (i n : ℕ) → AreNumbers count ns → n < count → AreNumbers count (insert ns i n)
inserted count [] zero n h lt = (lt, tt)
inserted count [] (suc i) n h lt = (lt, tt)
inserted count (m ∷ ms) zero n h lt = (lt, h)
inserted count (m ∷ ms) (suc i) n h lt = (h.0, inserted count ms i n h.1 lt)

pub sorted_next : (begins : ℕ → ℕ) (number entry at : ℕ) (ns new : List ℕ) → 1 ≤ number → ns ≡ sorted begins (number - 1) → new ≡ insert ns at number → at ≡ place begins entry ns → entry ≡ begins number
    → new ≡ sorted begins (number + 1 - 1)
unfolding sorted
sorted_next begins zero entry at ns new some e f g h = absurd (omega (arith, some))
sorted_next begins (suc n) entry at ns new some e f g h =
    let less : suc n - 1 ≡ n = omega arith in
    let same : suc n + 1 - 1 ≡ suc n = omega arith in
    let before : ns ≡ sorted begins n = e ∙ ap (sorted begins) less in
    f
    ∙ ap (λ (k : ℕ). insert ns k (suc n)) (g ∙ ap (λ (a : ℕ). place begins a ns) h)
    ∙ ap (λ (l : List ℕ). insert l (place begins (begins (suc n)) l) (suc n)) before
    ∙ sym (ap (sorted begins) same)

pub order_is : (c : Certificate) (none main others all : List ℕ) → none ≡ [] → main ≡ none ++ 0 ∷ [] → others ≡ sorted (entry_address (widened c)) (length c.procedures - 1) → all ≡ main ++ others
    → all ≡ order (widened c)
unfolding order
order_is c none main others all e f g h =
    h
    ∙ ap (λ (l : List ℕ). l ++ others) (f ∙ ap (λ (l : List ℕ). l ++ 0 ∷ []) e)
    ∙ ap (λ (l : List ℕ). 0 ∷ l) (g ∙ ap (λ (n : ℕ). sorted (entry_address (widened c)) (n - 1)) (sym (all_procedures c)))

-- ---- counting nodes

equal : (a b : ℕ) → a ≡ b → (a == b) ≡ true
equal a b h = grind (arith, nat_tests)

unequal : (a b : ℕ) → (a ≡ b → ⊥) → (a == b) ≡ false
unequal a b h = grind (arith, nat_tests)

one_more : (b : Bool) (m : Node) (xs ys : List Node) (k : ℕ) → length xs ≡ length ys + k → length (where_own b m xs) ≡ length (where_own b m ys) + k
one_more true m xs ys k h = omega (arith, h)
one_more false m xs ys k h = h

count_by : (number : ℕ) (ns : List Node) (i : ℕ) (n : Node) → slice_get ns i ≡ Some n → length (nodes_of number (take (suc i) ns)) ≡ length (nodes_of number (take i ns)) + length (where_own (n.procedure == number) n [])
unfolding nodes_of
count_by number [] i n e = cc
count_by number (m ∷ ms) zero n e = let same : m ≡ n = cc in ap (λ (z : Node). length (where_own (z.procedure == number) z [])) same ∙ none_before (length (where_own (n.procedure == number) n []))
  where
    none_before : (k : ℕ) → k ≡ 0 + k
    none_before k = omega arith
count_by number (m ∷ ms) (suc i) n e = one_more (m.procedure == number) m (nodes_of number (take (suc i) ms)) (nodes_of number (take i ms)) (length (where_own (n.procedure == number) n [])) (count_by number ms i n e)

counted : (c : Certificate) (number i : ℕ) (n : Node) → slice_get c.nodes i ≡ Some n
    → length (nodes_of number (take (i + 1) (widened c).nodes)) ≡ length (nodes_of number (take i (widened c).nodes)) + length (where_own (n.procedure == number) (widened_node_by (rules_of c.version) n) [])
counted c number i n e =
    let m : Node = widened_node_by (rules_of c.version) n in
    let next : i + 1 ≡ suc i = omega arith in
    ap (λ (k : ℕ). length (nodes_of number (take k (widened c).nodes))) next
    ∙ count_by number (widened c).nodes i m (node_in c i n e)
    ∙ ap (λ (o : ℕ). length (nodes_of number (take i (widened c).nodes)) + length (where_own (o == number) m [])) (same_owner (rules_of c.version) n)

pub counted_own : (c : Certificate) (number i count owner : ℕ) (n : Node) → slice_get c.nodes i ≡ Some n → owner ≡ n.procedure → owner ≡ number → count ≡ length (nodes_of number (take i (widened c).nodes))
    → count + 1 ≡ length (nodes_of number (take (i + 1) (widened c).nodes))
counted_own c number i count owner n e f h g =
    let own : (n.procedure == number) ≡ true = subst (λ (o : ℕ). (o == number) ≡ true) f (equal owner number h) in
    ap (λ (k : ℕ). k + 1) g ∙ sym (counted c number i n e ∙ ap (λ (b : Bool). length (nodes_of number (take i (widened c).nodes)) + length (where_own b (widened_node_by (rules_of c.version) n) [])) own)

pub counted_other : (c : Certificate) (number i count owner : ℕ) (n : Node) → slice_get c.nodes i ≡ Some n → owner ≡ n.procedure → (owner ≡ number → ⊥) → count ≡ length (nodes_of number (take i (widened c).nodes))
    → count ≡ length (nodes_of number (take (i + 1) (widened c).nodes))
counted_other c number i count owner n e f h g =
    let other : (n.procedure == number) ≡ false = subst (λ (o : ℕ). (o == number) ≡ false) f (unequal owner number h) in
    g ∙ sym (counted c number i n e ∙ ap (λ (b : Bool). length (nodes_of number (take i (widened c).nodes)) + length (where_own b (widened_node_by (rules_of c.version) n) [])) other ∙ none (length (nodes_of number (take i (widened c).nodes))))
  where
    none : (k : ℕ) → k + 0 ≡ k
    none k = omega arith

pub nodes_few : (c : Certificate) → IsCertificate c → length c.nodes ≤ 1048576
unfolding node_limit
nodes_few c h = few c.version (length c.nodes) h.node_count
  where
    few : (version n : ℕ) → n ≤ node_limit version → n ≤ 1048576
    few version n g = grind (arith, nat_tests)

-- all nodes are the first ones
pub all_counted : (c : Certificate) (number count end : ℕ) → end ≡ length c.nodes → count ≡ length (nodes_of number (take end (widened c).nodes)) → count ≡ length (nodes_of number (widened c).nodes)
all_counted c number count end e h = h ∙ ap (λ (l : List Node). length (nodes_of number l)) (take_all end (widened c).nodes (omega (arith, e, nodes_long c)))

grouped_long : (j k : ℕ) (nodes : List Node) (numbers : List ℕ) → length (grouped j nodes numbers) ≡ length (grouped k nodes numbers)
unfolding grouped
grouped_long j k nodes [] = refl
grouped_long j k nodes (n ∷ ns) =
    let one = length-append (map (fourth_node j) (nodes_of n nodes)) (grouped (suc j) nodes ns) in
    let other = length-append (map (fourth_node k) (nodes_of n nodes)) (grouped (suc k) nodes ns) in
    omega (arith, one, other, map_long (fourth_node j) (nodes_of n nodes), map_long (fourth_node k) (nodes_of n nodes), grouped_long (suc j) (suc k) nodes ns)

grouped_more : (k : ℕ) (nodes : List Node) (n : ℕ) (ns : List ℕ) → length (grouped k nodes (n ∷ ns)) ≡ length (nodes_of n nodes) + length (grouped k nodes ns)
unfolding grouped
grouped_more k nodes n ns =
    let one = length-append (map (fourth_node k) (nodes_of n nodes)) (grouped (suc k) nodes ns) in
    omega (arith, one, map_long (fourth_node k) (nodes_of n nodes), grouped_long (suc k) k nodes ns)

pub total_next : (nodes : List Node) (ns : List ℕ) (i d total count : ℕ) → i < length ns → total + length (grouped 0 nodes (drop i ns)) ≡ length (grouped 0 nodes ns) → count ≡ length (nodes_of (get_or ns i d) nodes)
    → (total + count) + length (grouped 0 nodes (drop (i + 1) ns)) ≡ length (grouped 0 nodes ns)
total_next nodes ns i d total count lt h e =
    let step = ap (λ (l : List ℕ). length (grouped 0 nodes l)) (drop_more ns i d lt) ∙ grouped_more 0 nodes (get_or ns i d) (drop (i + 1) ns) in
    omega (arith, h, e, step)

nothing_grouped : (nodes : List Node) (ns : List ℕ) (i : ℕ) → length ns ≤ i → length (grouped 0 nodes (drop i ns)) ≡ 0
unfolding grouped
nothing_grouped nodes [] zero h = refl
nothing_grouped nodes [] (suc i) h = refl
nothing_grouped nodes (n ∷ ns) zero h = absurd (omega (arith, h))
nothing_grouped nodes (n ∷ ns) (suc i) h = nothing_grouped nodes ns i (omega (arith, h))

pub total_end : (nodes : List Node) (ns : List ℕ) (i total : ℕ) → i ≡ length ns → total + length (grouped 0 nodes (drop i ns)) ≡ length (grouped 0 nodes ns) → total ≡ length (grouped 0 nodes ns)
total_end nodes ns i total e h = omega (arith, h, nothing_grouped nodes ns i (omega (arith, e)))

-- ---- texts, part by part, however a part is spelled

pub placed_is : (spell : ProcedureParts → List ℕ) (c : Certificate) (before number count : ℕ) (p : ProcedureParts) (rules : Rules) → slice_get c.procedures number ≡ Some p → rules ≡ rules_of c.version → count ≡ length (nodes_of number (take p.entry (widened c).nodes))
    → spell (fourth_procedure (before + count) (widened_procedure_by rules (number == 0) p)) ≡ flat_map spell (placed_one (widened c) before number)
placed_is spell c before number count p rules e f g =
    let w : Certificate = widened c in
    let q : ProcedureParts = widened_procedure_by (rules_of c.version) (number == 0) p in
    let own : (k : ℕ) → before + length (nodes_of number (take k w.nodes)) ≡ before + length (nodes_of number (take k w.nodes)) = λ k. refl in
    ap (λ (r : Rules). spell (fourth_procedure (before + count) (widened_procedure_by r (number == 0) p))) f
    ∙ ap (λ (k : ℕ). spell (fourth_procedure (before + k) q)) (g ∙ ap (λ (k : ℕ). length (nodes_of number (take k w.nodes))) (sym (same_entry (rules_of c.version) (number == 0) p)))
    ∙ sym (append-nil (spell (fourth_procedure (new_entry w.nodes before number q) q)))
    ∙ sym (ap (λ (o : Option ProcedureParts). flat_map spell (listed (option_map (λ (z : ProcedureParts). fourth_procedure (new_entry w.nodes before number z) z) o))) (procedure_in c number p e))

pub placed_left : (spell : ProcedureParts → List ℕ) (c : Certificate) (before : ℕ) (ns : List ℕ) (i d : ℕ) → i < length ns
    → flat_map spell (placed c before (drop i ns)) ≡ flat_map spell (placed_one c before (get_or ns i d)) ++ flat_map spell (placed c (before + length (nodes_of (get_or ns i d) c.nodes)) (drop (i + 1) ns))
unfolding placed
placed_left spell c before ns i d lt =
    ap (λ (l : List ℕ). flat_map spell (placed c before l)) (drop_more ns i d lt)
    ∙ flat_map-append spell (placed_one c before (get_or ns i d)) (placed c (before + length (nodes_of (get_or ns i d) c.nodes)) (drop (i + 1) ns))

pub placed_end : (spell : ProcedureParts → List ℕ) (c : Certificate) (before : ℕ) (ns : List ℕ) (i : ℕ) → length ns ≤ i → flat_map spell (placed c before (drop i ns)) ≡ []
unfolding placed
placed_end spell c before [] zero h = refl
placed_end spell c before [] (suc i) h = refl
placed_end spell c before (n ∷ ns) zero h = absurd (omega (arith, h))
placed_end spell c before (n ∷ ns) (suc i) h = placed_end spell c before ns i (omega (arith, h))

pub group_left : (spell : Node → List ℕ) (number new : ℕ) (ns : List Node) (i : ℕ) (n : Node) → slice_get ns i ≡ Some n
    → flat_map (λ m. spell (fourth_node new m)) (nodes_of number (drop i ns)) ≡ flat_map (λ m. spell (fourth_node new m)) (where_own (n.procedure == number) n (nodes_of number (drop (i + 1) ns)))
unfolding nodes_of
group_left spell number new ns i n e =
    ap (λ (l : List Node). flat_map (λ m. spell (fourth_node new m)) (nodes_of number l)) (drop_more ns i n (slice_get_within ns i n e))
    ∙ ap (λ (z : Node). flat_map (λ m. spell (fourth_node new m)) (where_own (z.procedure == number) z (nodes_of number (drop (i + 1) ns)))) (get_or_from_slice_get ns i n n e)

pub group_end : (spell : Node → List ℕ) (number new : ℕ) (ns : List Node) (i : ℕ) → length ns ≤ i → flat_map (λ m. spell (fourth_node new m)) (nodes_of number (drop i ns)) ≡ []
unfolding nodes_of
group_end spell number new [] zero h = refl
group_end spell number new [] (suc i) h = refl
group_end spell number new (n ∷ ns) zero h = absurd (omega (arith, h))
group_end spell number new (n ∷ ns) (suc i) h = group_end spell number new ns i (omega (arith, h))

pub grouped_left : (spell : Node → List ℕ) (nodes : List Node) (ns : List ℕ) (i d : ℕ) → i < length ns
    → flat_map spell (grouped i nodes (drop i ns)) ≡ flat_map (λ n. spell (fourth_node i n)) (nodes_of (get_or ns i d) nodes) ++ flat_map spell (grouped (i + 1) nodes (drop (i + 1) ns))
unfolding grouped
grouped_left spell nodes ns i d lt =
    let next : suc i ≡ i + 1 = omega arith in
    let old : ℕ = get_or ns i d in
    ap (λ (l : List ℕ). flat_map spell (grouped i nodes l)) (drop_more ns i d lt)
    ∙ flat_map-append spell (map (fourth_node i) (nodes_of old nodes)) (grouped (suc i) nodes (drop (i + 1) ns))
    ∙ ap (λ (t : List ℕ). t ++ flat_map spell (grouped (suc i) nodes (drop (i + 1) ns))) (flat_map-map spell (fourth_node i) (nodes_of old nodes))
    ∙ ap (λ (k : ℕ). flat_map (λ n. spell (fourth_node i n)) (nodes_of old nodes) ++ flat_map spell (grouped k nodes (drop (i + 1) ns))) next

pub grouped_end : (spell : Node → List ℕ) (k : ℕ) (nodes : List Node) (ns : List ℕ) (i : ℕ) → length ns ≤ i → flat_map spell (grouped k nodes (drop i ns)) ≡ []
unfolding grouped
grouped_end spell k nodes [] zero h = refl
grouped_end spell k nodes [] (suc i) h = refl
grouped_end spell k nodes (n ∷ ns) zero h = absurd (omega (arith, h))
grouped_end spell k nodes (n ∷ ns) (suc i) h = grouped_end spell k nodes ns i (omega (arith, h))

-- ---- on their way to a sink

group_now : (spell : Node → List ℕ) (c : Certificate) (old new i : ℕ) (n : Node) → slice_get c.nodes i ≡ Some n
    → flat_map (λ m. spell (fourth_node new m)) (nodes_of old (drop i (widened c).nodes))
    ≡ flat_map (λ m. spell (fourth_node new m)) (where_own (n.procedure == old) (widened_node_by (rules_of c.version) n) (nodes_of old (drop (i + 1) (widened c).nodes)))
group_now spell c old new i n e =
    let m : Node = widened_node_by (rules_of c.version) n in
    group_left spell old new (widened c).nodes i m (node_in c i n e)
    ∙ ap (λ (o : ℕ). flat_map (λ z. spell (fourth_node new z)) (where_own (o == old) m (nodes_of old (drop (i + 1) (widened c).nodes)))) (same_owner (rules_of c.version) n)

own_now : (spell : Node → List ℕ) (c : Certificate) (old new i owner : ℕ) (n : Node) (rules : Rules) (bytes : List ℕ) → slice_get c.nodes i ≡ Some n → owner ≡ n.procedure → owner ≡ old → rules ≡ rules_of c.version
    → bytes ≡ spell (fourth_node new (widened_node_by rules n))
    → flat_map (λ m. spell (fourth_node new m)) (nodes_of old (drop i (widened c).nodes)) ≡ bytes ++ flat_map (λ m. spell (fourth_node new m)) (nodes_of old (drop (i + 1) (widened c).nodes))
own_now spell c old new i owner n rules bytes e f g h t =
    let m : Node = widened_node_by (rules_of c.version) n in
    let own : (n.procedure == old) ≡ true = equal n.procedure old (sym f ∙ g) in
    group_now spell c old new i n e
    ∙ ap (λ (b : Bool). flat_map (λ z. spell (fourth_node new z)) (where_own b m (nodes_of old (drop (i + 1) (widened c).nodes)))) own
    ∙ ap (λ (l : List ℕ). l ++ flat_map (λ z. spell (fourth_node new z)) (nodes_of old (drop (i + 1) (widened c).nodes))) (sym (t ∙ ap (λ (r : Rules). spell (fourth_node new (widened_node_by r n))) h))

pub group_taken : (spell : Node → List ℕ) (c : Certificate) (old new i owner : ℕ) (n : Node) (rules : Rules) (bytes text : List ℕ) (before mid after : Option (List ℕ)) → slice_get c.nodes i ≡ Some n → owner ≡ n.procedure → owner ≡ old → rules ≡ rules_of c.version
    → bytes ≡ spell (fourth_node new (widened_node_by rules n))
    → Remains before text mid (flat_map (λ m. spell (fourth_node new m)) (nodes_of old (drop i (widened c).nodes))) → Gains mid bytes after
    → Remains before text after (flat_map (λ m. spell (fourth_node new m)) (nodes_of old (drop (i + 1) (widened c).nodes)))
group_taken spell c old new i owner n rules bytes text before mid after e f g h t r w = remains_less before mid after text bytes _ (subst (λ (l : List ℕ). Remains before text mid l) (own_now spell c old new i owner n rules bytes e f g h t) r) w

pub group_cut : (spell : Node → List ℕ) (c : Certificate) (old new i owner : ℕ) (n : Node) (rules : Rules) (bytes text : List ℕ) (before mid after : Option (List ℕ)) → slice_get c.nodes i ≡ Some n → owner ≡ n.procedure → owner ≡ old → rules ≡ rules_of c.version
    → bytes ≡ spell (fourth_node new (widened_node_by rules n))
    → Remains before text mid (flat_map (λ m. spell (fourth_node new m)) (nodes_of old (drop i (widened c).nodes))) → GainsBeginning mid bytes after → GainsBeginning before text after
group_cut spell c old new i owner n rules bytes text before mid after e f g h t r w = remains_cut before mid after text bytes _ (subst (λ (l : List ℕ). Remains before text mid l) (own_now spell c old new i owner n rules bytes e f g h t) r) w

pub group_passed : (spell : Node → List ℕ) (c : Certificate) (old new i owner : ℕ) (n : Node) (text : List ℕ) (before mid : Option (List ℕ)) → slice_get c.nodes i ≡ Some n → owner ≡ n.procedure → (owner ≡ old → ⊥)
    → Remains before text mid (flat_map (λ m. spell (fourth_node new m)) (nodes_of old (drop i (widened c).nodes)))
    → Remains before text mid (flat_map (λ m. spell (fourth_node new m)) (nodes_of old (drop (i + 1) (widened c).nodes)))
group_passed spell c old new i owner n text before mid e f g r =
    let other : (n.procedure == old) ≡ false = subst (λ (o : ℕ). (o == old) ≡ false) f (unequal owner old g) in
    subst (λ (l : List ℕ). Remains before text mid l)
    (group_now spell c old new i n e ∙ ap (λ (b : Bool). flat_map (λ z. spell (fourth_node new z)) (where_own b (widened_node_by (rules_of c.version) n) (nodes_of old (drop (i + 1) (widened c).nodes)))) other) r

pub group_done : (spell : Node → List ℕ) (c : Certificate) (old new i : ℕ) (text : List ℕ) (before now : Option (List ℕ)) → length c.nodes ≤ i
    → Remains before text now (flat_map (λ m. spell (fourth_node new m)) (nodes_of old (drop i (widened c).nodes))) → Gains before text now
group_done spell c old new i text before now h r =
    remains_none before now text (subst (λ (l : List ℕ). Remains before text now l) (group_end spell old new (widened c).nodes i (omega (arith, h, nodes_long c))) r)

pub nodes_taken : (spell : Node → List ℕ) (nodes : List Node) (ns : List ℕ) (i d : ℕ) (text : List ℕ) (before mid after : Option (List ℕ)) → i < length ns → Remains before text mid (flat_map spell (grouped i nodes (drop i ns)))
    → Gains mid (flat_map (λ n. spell (fourth_node i n)) (nodes_of (get_or ns i d) nodes)) after → Remains before text after (flat_map spell (grouped (i + 1) nodes (drop (i + 1) ns)))
nodes_taken spell nodes ns i d text before mid after lt r w = remains_less before mid after text _ _ (subst (λ (l : List ℕ). Remains before text mid l) (grouped_left spell nodes ns i d lt) r) w

pub nodes_cut : (spell : Node → List ℕ) (nodes : List Node) (ns : List ℕ) (i d : ℕ) (text : List ℕ) (before mid after : Option (List ℕ)) → i < length ns → Remains before text mid (flat_map spell (grouped i nodes (drop i ns)))
    → GainsBeginning mid (flat_map (λ n. spell (fourth_node i n)) (nodes_of (get_or ns i d) nodes)) after → GainsBeginning before text after
nodes_cut spell nodes ns i d text before mid after lt r w = remains_cut before mid after text _ _ (subst (λ (l : List ℕ). Remains before text mid l) (grouped_left spell nodes ns i d lt) r) w

pub nodes_done : (spell : Node → List ℕ) (nodes : List Node) (ns : List ℕ) (i : ℕ) (text : List ℕ) (before now : Option (List ℕ)) → length ns ≤ i → Remains before text now (flat_map spell (grouped i nodes (drop i ns))) → Gains before text now
nodes_done spell nodes ns i text before now h r = remains_none before now text (subst (λ (l : List ℕ). Remains before text now l) (grouped_end spell i nodes ns i h) r)

pub procedures_taken : (spell : ProcedureParts → List ℕ) (c : Certificate) (ns : List ℕ) (i d so_far count : ℕ) (bytes text : List ℕ) (before mid after : Option (List ℕ)) → i < length ns → bytes ≡ flat_map spell (placed_one c so_far (get_or ns i d))
    → count ≡ length (nodes_of (get_or ns i d) c.nodes) → Remains before text mid (flat_map spell (placed c so_far (drop i ns))) → Gains mid bytes after
    → Remains before text after (flat_map spell (placed c (so_far + count) (drop (i + 1) ns)))
procedures_taken spell c ns i d so_far count bytes text before mid after lt e f r w =
    subst (λ (k : ℕ). Remains before text after (flat_map spell (placed c (so_far + k) (drop (i + 1) ns)))) (sym f)
    (remains_less before mid after text _ _ (subst (λ (l : List ℕ). Remains before text mid l) (placed_left spell c so_far ns i d lt) r) (subst (λ (l : List ℕ). Gains mid l after) e w))

pub procedures_cut : (spell : ProcedureParts → List ℕ) (c : Certificate) (ns : List ℕ) (i d so_far : ℕ) (bytes text : List ℕ) (before mid after : Option (List ℕ)) → i < length ns → bytes ≡ flat_map spell (placed_one c so_far (get_or ns i d))
    → Remains before text mid (flat_map spell (placed c so_far (drop i ns))) → GainsBeginning mid bytes after → GainsBeginning before text after
procedures_cut spell c ns i d so_far bytes text before mid after lt e r w =
    remains_cut before mid after text _ _ (subst (λ (l : List ℕ). Remains before text mid l) (placed_left spell c so_far ns i d lt) r) (subst (λ (l : List ℕ). GainsBeginning mid l after) e w)

pub procedures_done : (spell : ProcedureParts → List ℕ) (c : Certificate) (ns : List ℕ) (i so_far : ℕ) (text : List ℕ) (before now : Option (List ℕ)) → length ns ≤ i → Remains before text now (flat_map spell (placed c so_far (drop i ns))) → Gains before text now
procedures_done spell c ns i so_far text before now h r = remains_none before now text (subst (λ (l : List ℕ). Remains before text now l) (placed_end spell c so_far ns i h) r)

-- ---- the whole

widened_not_fourth : (c : Certificate) → (c.version == 4) ≡ false → ((widened c).version == 4) ≡ false
widened_not_fourth c h = by (rules_of c.version)
  where
    by : (rules : Rules) → ((widened_by rules c).version == 4) ≡ false
    by Simple = refl
    by Extended = h

no_facts : (c : Certificate) → IsCertificate c → (widened c).facts ≡ []
no_facts c h = by (rules_of c.version)
  where
    by : (rules : Rules) → (widened_by rules c).facts ≡ []
    by Simple = h.facts
    by Extended = h.facts

same_region : (c : Certificate) → (widened c).region ≡ c.region
same_region c = by (rules_of c.version)
  where
    by : (rules : Rules) → (widened_by rules c).region ≡ c.region
    by Simple = refl
    by Extended = refl

pub fourth_is : (c : Certificate) → (c.version == 4) ≡ false
    → fourth (widened c) ≡ record (widened c) { version = 4; procedures = placed (widened c) 0 (order (widened c)); nodes = grouped 0 (widened c).nodes (order (widened c)) }
fourth_is c older = ap (λ (b : Bool). fourth_by b (widened c)) (widened_not_fourth c older)

pub text_is : (c : Certificate) → IsCertificate c → (c.version == 4) ≡ false
    → (whole.head (fourth (widened c)) ++ (0 ∷ 0 ∷ [])) ++ (flat_map (whole.procedure c.region) (placed (widened c) 0 (order (widened c))) ++ flat_map (whole.node c.region (fourth_forms c)) (grouped 0 (widened c).nodes (order (widened c)))) ≡ fourth_text c
unfolding whole.spelling whole.facts
text_is c h older =
    let w : Certificate = widened c in
    let parts : Region → List ProcedureParts → List ℕ =
    λ region ps. flat_map (whole.procedure region) (placed w 0 (order w)) ++ flat_map (whole.node region (form_in (procedure_forms ps))) (grouped 0 w.nodes (order w)) in
    let own : List ℕ = parts w.region (placed w 0 (order w)) in
    append_assoc (whole.head (fourth w)) (0 ∷ 0 ∷ []) (parts c.region (fourth w).procedures)
    ∙ ap (λ (region : Region). whole.head (fourth w) ++ (0 ∷ 0 ∷ parts region (fourth w).procedures)) (sym (same_region c))
    ∙ ap (λ (z : Certificate). whole.head (fourth w) ++ (0 ∷ 0 ∷ parts w.region z.procedures)) (fourth_is c older)
    ∙ ap (λ (fs : List Fact). whole.head (fourth w) ++ (whole.facts fs ++ own)) (sym (no_facts c h))
    ∙ sym (ap whole.spelling (fourth_is c older) ∙ ap (λ (z : Certificate). whole.head z ++ (whole.facts w.facts ++ own)) (sym (fourth_is c older)))

-- the head's bytes, one by one
pub head_is : (c : Certificate) (first last procedures nodes : List ℕ) (count total : ℕ) → (c.version == 4) ≡ false → first ≡ word c.region.first → last ≡ word c.region.last
    → procedures ≡ word count → count ≡ length (placed (widened c) 0 (order (widened c))) → nodes ≡ quad total → total ≡ length (grouped 0 (widened c).nodes (order (widened c)))
    → (0x47 ∷ 0x42 ∷ 0x42 ∷ 0x58 ∷ 4 ∷ []) ++ (first ++ (last ++ (procedures ++ (nodes ++ (0 ∷ 0 ∷ []))))) ≡ whole.head (fourth (widened c)) ++ (0 ∷ 0 ∷ [])
unfolding whole.head spelled.node_number
head_is c first last procedures nodes count total older e f g h i j =
    rw (e, f, g, h, i, j) (by (rules_of c.version) ∙ sym (ap (λ (z : Certificate). whole.head z ++ (0 ∷ 0 ∷ [])) (fourth_is c older)))
  where
    by : (rules : Rules)
        → (0x47 ∷ 0x42 ∷ 0x42 ∷ 0x58 ∷ 4 ∷ []) ++ (word c.region.first ++ (word c.region.last ++ (word (length (placed (widened c) 0 (order (widened c)))) ++ (quad (length (grouped 0 (widened c).nodes (order (widened c)))) ++ (0 ∷ 0 ∷ [])))))
        ≡ whole.head (record (widened_by rules c) { version = 4; procedures = placed (widened c) 0 (order (widened c)); nodes = grouped 0 (widened c).nodes (order (widened c)) }) ++ (0 ∷ 0 ∷ [])
    by Simple = refl
    by Extended = refl

slice_get_some : (ps : List ProcedureParts) (i : ℕ) → i < length ps → slice_get ps i ≡ None → ⊥
slice_get_some [] i lt e = absurd (omega (arith, lt))
slice_get_some (p ∷ ps) zero lt e = cc
slice_get_some (p ∷ ps) (suc i) lt e = slice_get_some ps i (omega (arith, lt)) e

-- there are as many procedures as before
listed_one : (c : Certificate) (before number : ℕ) → number < length c.procedures → length (placed_one c before number) ≡ 1
listed_one c before number lt = by (slice_get c.procedures number) (λ e. slice_get_some c.procedures number lt e)
  where
    by : (o : Option ProcedureParts) → (o ≡ None → ⊥) → length (listed (option_map (λ (z : ProcedureParts). fourth_procedure (new_entry c.nodes before number z) z) o)) ≡ 1
    by None h = absurd (h refl)
    by (Some p) h = refl

placed_long : (c : Certificate) (before : ℕ) (numbers : List ℕ) → AreNumbers (length c.procedures) numbers → length (placed c before numbers) ≡ length numbers
unfolding placed
placed_long c before [] h = refl
placed_long c before (n ∷ ns) h =
    let rest : List ProcedureParts = placed c (before + length (nodes_of n c.nodes)) ns in
    let one = length-append (placed_one c before n) rest in
    omega (arith, one, listed_one c before n h.0, placed_long c (before + length (nodes_of n c.nodes)) ns h.1)

length-inserted : (ns : List ℕ) (i n : ℕ) → length (insert ns i n) ≡ length ns + 1
length-inserted [] zero n = refl
length-inserted [] (suc i) n = refl
length-inserted (m ∷ ms) zero n = omega arith
length-inserted (m ∷ ms) (suc i) n = omega (arith, length-inserted ms i n)

sorted_long : (begins : ℕ → ℕ) (n : ℕ) → length (sorted begins n) ≡ n
unfolding sorted
sorted_long begins zero = refl
sorted_long begins (suc n) = omega (arith, length-inserted (sorted begins n) (place begins (begins (suc n)) (sorted begins n)) (suc n), sorted_long begins n)

pub order_long : (c : Certificate) → 1 ≤ length c.procedures → length (order (widened c)) ≡ length c.procedures
unfolding order
order_long c some = omega (arith, some, sorted_long (entry_address (widened c)) (length (widened c).procedures - 1), all_procedures c)

pub count_is : (c : Certificate) (numbers : List ℕ) (count : ℕ) → IsCertificate c → count ≡ length c.procedures → numbers ≡ order (widened c) → AreNumbers (length c.procedures) numbers → count ≡ length (placed (widened c) 0 (order (widened c)))
count_is c numbers count h e f g =
    let are : AreNumbers (length (widened c).procedures) (order (widened c)) = subst (λ (n : ℕ). AreNumbers n (order (widened c))) (sym (all_procedures c)) (subst (λ (l : List ℕ). AreNumbers (length c.procedures) l) f g) in
    omega (arith, e, placed_long (widened c) 0 (order (widened c)) are, order_long c h.some_procedure)
