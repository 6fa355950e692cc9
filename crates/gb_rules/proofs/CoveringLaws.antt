-- Where states are covered at an address, some node of the procedure there means each of their machine states.
use Rattle.gb_successors.specs.Below.gb_domain.declared.pairs.PairBounds.{PairBounds}
use Rattle.gb_successors.specs.Below.gb_pairs.Sound.{AreWithin}
use Rattle.gb_successors.specs.Below.gb_product.Meaning.{entered_with}
use Rattle.gb_rules.specs.Procedures.{entered_of}
use Rattle.std.proofs.Common.{◌≡◌, ℕ, zero, suc, ◌+◌, ◌≤◌, ◌<◌, Bool, true, false, ◌&&◌, ◌||◌, ◌==◌, ◌⊎◌, inl, inr, List, [], ◌∷◌, length, refl, sym, ◌∙◌, ap, subst, arith}
use Rattle.std.proofs.lemmas.Bool.{and_parts, eqb-true}
use Rattle.std.specs.List.{Contains, list_any}
use Rattle.std.proofs.lemmas.List.Folds.{Any-from_list_any}
use Rattle.gb_ops.specs.declared.registers.Registers.{Registers}
use Rattle.gb_ops.specs.Registers.{get}
use Rattle.gb_ops.specs.Play.{MState}
use Rattle.gb_successors.specs.Below.gb_domain.declared.rules.Rules.{Rules}
use Rattle.gb_successors.specs.Below.gb_domain.declared.places.OneByte.{OneByte}
use Rattle.gb_successors.specs.Below.gb_domain.declared.places.StackBytes.{StackBytes}
use Rattle.gb_successors.specs.Below.gb_domain.declared.relations.Relations.{Relations}
use Rattle.gb_successors.specs.Below.gb_domain.declared.rules.Rules.TheVariants.{Simple, Extended}
use Rattle.gb_successors.specs.Below.gb_domain.declared.types.Cell.{Cell}
use Rattle.gb_successors.specs.Below.gb_domain.Limits.{cell_room}
use Rattle.gb_successors.specs.Below.gb_domain.Values.{has_low_bits}
use Rattle.gb_successors.specs.Below.gb_domain.declared.types.Val.{Val}
use Rattle.gb_successors.specs.Below.gb_domain.Summaries.{Program, SummaryParts}
use Rattle.gb_successors.specs.Below.gb_domain.Types.{AbsState, Node}
use Rattle.gb_successors.specs.Below.gb_domain.Certificate.{Certificate}
use Rattle.std.specs.Prelude.{not, Option, Some, None, option_map, IfSome}
use Rattle.gb_successors.specs.Below.gb_domain.Areas.{is_free_byte}
use Rattle.gb_successors.specs.Below.gb_domain.Pairs.{ArePairs}
use Rattle.gb_successors.specs.Below.gb_abs.Covering.{covers_items}
use Rattle.gb_successors.specs.Below.gb_abs.Operations.{with_core}
use Rattle.gb_successors.specs.Below.gb_abs.Storage.{peek}
use Rattle.gb_successors.proofs.Below.gb_abs_laws.StackLaws.{MeansParts-with_core}
use Rattle.gb_successors.specs.Below.gb_pairs.Meaning.{AreBytes}
use Rattle.gb_successors.specs.Below.gb_product.declared.parts.Product.{Product}
use Rattle.gb_successors.specs.Below.gb_product.Sound.{MeansProduct, IsMeantProduct}
use Rattle.gb_successors.proofs.Below.gb_product_laws.ControllerLaws.{reduced_wholly_sound, AreKept, reduced_wholly_kept}
use Rattle.gb_successors.specs.Below.gb_product.Covering.{covers, covers_relations, byte_in, values_in}
use Rattle.gb_successors.specs.Below.gb_product.Below.gb_copies.Covering.{covers_address, covers_byte}
use Rattle.gb_successors.specs.Below.gb_relations.Sound.{IsBytePlaced}
use Rattle.gb_successors.specs.Below.gb_product.Held.{stack_held}
use Rattle.gb_rules.specs.Procedures.{setting_of}
use Rattle.gb_successors.specs.Below.gb_product.Meaning.{AreRelated, IsSummarized, Means}
use Rattle.gb_successors.specs.Below.gb_product.Reduced.{reduced, reduced_wholly}
use Rattle.gb_successors.specs.Below.gb_abs.Meaning.{Activation, Holds, MeansParts}
use Rattle.gb_successors.proofs.Below.gb_product_laws.CoveringLaws.{Holds-byte, HoldsKnown-means, Means-covered}
use Rattle.gb_successors.proofs.Below.gb_product_laws.SummaryLaws.{has_cells_with_cell, HoldSummary-with_cells}
use Rattle.gb_successors.proofs.ToldLaws.{AllByRecursion-with_cell}
use Rattle.gb_successors.proofs.Below.gb_abs_laws.OperationLaws.{MeansParts-with_value}
use Rattle.gb_rules.specs.declared.by_values.Parted.{Parted}
use Rattle.gb_rules.specs.declared.by_values.Parted.TheVariants as parted
use Rattle.gb_rules.specs.Covered.{all_from, count_of, covered_at, is_cover, is_covered_by_byte, is_covered_by_bytes, is_covered_by_cell, is_covered_by_one, is_covered_by_register, is_covered_by_values, is_covered_if, is_node_at, is_value_covered, known_of, reduced_state, registers, with_byte, with_one, with_product, with_value}

items_counted : (s t : List Val) → covers_items s t ≡ true → length t ≡ length s
items_counted [] [] h = refl
items_counted [] (t ∷ ts) h = cc
items_counted (s ∷ ss) [] h = cc
items_counted (s ∷ ss) (t ∷ ts) h = ap suc (items_counted ss ts (and_parts _ _ h).1)

pub covered_items : (program : Program) (s t : AbsState) → covers program s t ≡ true → length t.items ≡ length s.items
unfolding covers
covered_items program s t h = items_counted s.items t.items (second _ _ _ _ _ h)
  where
    second : (a b c d e : Bool) → (a && b && c && d && e) ≡ true → b ≡ true
    second true true c d e h = refl
    second true false c d e h = cc
    second false b c d e h = cc

-- a place in memory of the one byte is none, or that which there was
abbrev pub IsAmong : Option ℕ → Option ℕ → Type 0
IsAmong places None = Unit {0}
IsAmong places (Some a) = places ≡ Some a

address_among : (s t : Option ℕ) → covers_address s t ≡ true → IsAmong s t
address_among s None h = tt
address_among None (Some a) h = cc
address_among (Some b) (Some a) h = ap Some (eqb-true b a h)

covered_byte : (program : Program) (registers : Registers Val) (cells : List Cell) (m : SummaryParts) (s t : Relations) → covers_relations program registers cells m s t ≡ true → covers_byte s.byte t.byte ≡ true
unfolding covers_relations
covered_byte program registers cells m s t h = first _ _ _ h
  where
    first : (a b c : Bool) → (a && b && c) ≡ true → a ≡ true
    first true b c h = refl
    first false b c h = cc

covered_address : (s t : OneByte) → covers_byte s t ≡ true → covers_address s.address t.address ≡ true
unfolding covers_byte
covered_address s t h = second _ _ _ h
  where
    second : (a b c : Bool) → (a && b && c) ≡ true → b ≡ true
    second a true c h = refl
    second true false c h = cc
    second false false c h = cc

covered_relations : (program : Program) (s t : AbsState) → covers program s t ≡ true → covers_relations program s.core.registers s.cells s.summary s.relations t.relations ≡ true
unfolding covers
covered_relations program s t h =
    let p = and_parts _ _ h in
    let q = and_parts _ _ p.0 in
    q.1

-- the place of what covers is among those that are covered
pub covered_place : (program : Program) (s t : AbsState) → covers program s t ≡ true → IsAmong s.relations.byte.address t.relations.byte.address
covered_place program s t h =
    address_among s.relations.byte.address t.relations.byte.address (covered_address s.relations.byte t.relations.byte (covered_byte program s.core.registers s.cells s.summary s.relations t.relations (covered_relations program s t h)))

-- where one may lie the other does
pub IsBytePlaced-among : (k : StackBytes) (s t : Option ℕ) → IsAmong s t → IsBytePlaced k s → IsBytePlaced k t
IsBytePlaced-among k s None among h = tt
IsBytePlaced-among k s (Some a) among h = subst (λ (o : Option ℕ). IsBytePlaced k o) among h

-- in the same procedure, where as many items are held
pub place_found :
    (cert : Certificate) (procedure m items count : ℕ) (s t : Option ℕ) → m ≡ procedure → count ≡ items → IsAmong s t → IsBytePlaced (stack_held (setting_of cert procedure) cert.region items) s
    → IsBytePlaced (stack_held (setting_of cert m) cert.region count) t
place_found cert procedure m items count s t same equal among h =
    subst (λ n. IsBytePlaced (stack_held (setting_of cert n) cert.region count) t) (sym same)
    (subst (λ n. IsBytePlaced (stack_held (setting_of cert procedure) cert.region n) t) (sym equal) (IsBytePlaced-among (stack_held (setting_of cert procedure) cert.region items) s t among h))

-- a node that means the state, at an address of the procedure
pub record IsFoundAt (cert : Certificate) (procedure a : ℕ) (items : ℕ) (places : Option ℕ) (entry : Activation) (base : ℕ) (y : MState) : Type 0 where
  pub node : Node
  pub is_node : Contains cert.nodes node
  pub procedure_is : node.procedure ≡ procedure
  pub address : node.address ≡ a
  pub means : Means node.state entry base y
  pub count : length node.state.items ≡ items
  pub place : IsAmong places node.state.relations.byte.address

found_by_one : (cert : Certificate) (procedure a : ℕ) (s : AbsState) (entry : Activation) (base : ℕ) (y : MState) → is_covered_by_one entry.program cert.nodes procedure a s ≡ true → Means s entry base y
    → IsFoundAt cert procedure a (length s.items) s.relations.byte.address entry base y
unfolding is_covered_by_one
found_by_one cert procedure a s entry base y h m =
    let p = Any-from_list_any (is_cover entry.program procedure a s) cert.nodes h in
    let q = and_parts _ _ p.4 in
    let r = and_parts _ _ q.0 in
    record {
      node = p.1;
      is_node = (p.0, p.2, p.3);
      procedure_is = eqb-true _ _ r.0;
      address = eqb-true _ _ r.1;
      means = Means-covered s p.1.state entry base y q.1 m;
      count = covered_items entry.program s p.1.state q.1;
      place = covered_place entry.program s p.1.state q.1;
    }

one_of_them : (test : ℕ → Bool) (first n v : ℕ) → all_from test first n ≡ true → first ≤ v → v < first + n → test v ≡ true
one_of_them test first zero v h le lt = absurd (omega arith)
one_of_them test first (suc n) v h le lt =
    let p = and_parts _ _ h in
    elim (split first n v lt) [ inl less ↦ one_of_them test first n v p.0 le less | inr same ↦ subst (λ k. test k ≡ true) (sym same) p.1 ]
  where
    split : (first n v : ℕ) → v < first + suc n → (v < first + n) ⊎ (v ≡ first + n)
    split first n v h = grind arith

-- ---- reducing

-- what reducing asks of states and a machine state: by the rules of versions 1 and 2 nothing
record CanReduce (entered : PairBounds) (s : AbsState) (entry : Activation) (y : MState) : Type 0 where
  may_be : ℕ → Bool
  pairs : ArePairs may_be s.relations.pairs
  bytes : AreBytes y.processor.registers
  within : AreWithin entered (entered_with entry)

abbrev IsReducible : Rules → PairBounds → AbsState → Activation → MState → Type 0
IsReducible Simple entered s entry y = Unit {0}
IsReducible Extended entered s entry y = CanReduce entered s entry y

left_is_meant :
    (rules : Rules) (entered : PairBounds) (s : AbsState) (entry : Activation) (base : ℕ) (y : MState) → IsReducible rules entered s entry y → Means s entry base y
    → IsMeantProduct (reduced_wholly entry.program rules entered s.core s.relations s.cells s.summary) entry y
unfolding reduced_wholly reduced
left_is_meant Simple entered s entry base y can m = record { core = m.parts.core; related = m.related }
left_is_meant Extended entered s entry base y can m =
    let known = HoldsKnown-means s entry base y m in
    (reduced_wholly_sound can.may_be entry.program Extended entered s.core s.relations s.cells s.summary (λ e. can.pairs)).gives entry y refl can.within can.bytes known.bytes known.cells_hold known.summary m.parts.core m.related

MeansParts-with_product : (s : AbsState) (p : Product) (entry : Activation) (base : ℕ) (y : MState) → p.core.stack_set ≡ s.core.stack_set → MeansProduct p entry y → MeansParts s entry base y
    → MeansParts (with_core s p.core) entry base y
MeansParts-with_product s p entry base y stack q m = MeansParts-with_core s p.core entry base y y m q.core refl refl refl (λ set. sym stack ∙ set)

product_means : (s : AbsState) (p : Product) (entry : Activation) (base : ℕ) (y : MState) → MeansParts (with_core s p.core) entry base y → AreRelated p.relations entry y → IsSummarized s entry y → Means (with_product s p) entry base y
product_means s p entry base y m related summary =
    record {
      parts = record { core = m.core; memory = m.memory; sp = m.sp; stack = m.stack; items = m.items; cells = m.cells };
      related = related;
      summary = summary;
    }

-- where something is left of states that mean y, a node stands for that
found_left : (cert : Certificate) (procedure a : ℕ) (s : AbsState) (o : Option Product) (entry : Activation) (base : ℕ) (y : MState) → IsMeantProduct o entry y → IfSome o (AreKept s.core s.relations)
    → is_covered_if entry.program cert.nodes procedure a (option_map (with_product s) o) ≡ true → MeansParts s entry base y → IsSummarized s entry y → IsFoundAt cert procedure a (length s.items) s.relations.byte.address entry base y
found_left cert procedure a s None entry base y q cut h m summary = absurd q
found_left cert procedure a s (Some p) entry base y q cut h m summary =
    subst (λ (b : OneByte). IsFoundAt cert procedure a (length s.items) b.address entry base y) cut.1
    (found_by_one cert procedure a (with_product s p) entry base y h (product_means s p entry base y (MeansParts-with_product s p entry base y cut.0 q m) q.related summary))

-- a node stands for what reducing leaves of states that mean y
found_reduced :
    (rules : Rules) (entered : PairBounds) (cert : Certificate) (procedure a : ℕ) (s : AbsState) (entry : Activation) (base : ℕ) (y : MState) → IsReducible rules entered s entry y
    → is_covered_if entry.program cert.nodes procedure a (reduced_state entry.program rules entered s) ≡ true → Means s entry base y → IsFoundAt cert procedure a (length s.items) s.relations.byte.address entry base y
unfolding reduced_state
found_reduced rules entered cert procedure a s entry base y can h m =
    found_left cert procedure a s (reduced_wholly entry.program rules entered s.core s.relations s.cells s.summary) entry base y (left_is_meant rules entered s entry base y can m)
    (reduced_wholly_kept entry.program rules entered s.core s.relations s.cells s.summary) h m.parts m.summary

-- ---- value by value

-- the machine's own value
abbrev value_at : Parted → MState → ℕ
value_at (parted.Register r) y = get r y.processor.registers
value_at (parted.Byte at v) y = peek y.storage at

-- the states with it mean the machine's state
with_one_means :
    (by : Parted) (s : AbsState) (entry : Activation) (base : ℕ) (y : MState) → Holds (known_of by s) entry (value_at by y) → Means s entry base y → Means (with_one by s (value_at by y)) entry base y
unfolding with_value with_byte
with_one_means (parted.Register r) s entry base y h m = record { parts = MeansParts-with_value r s entry base y m.parts; related = m.related; summary = m.summary }
with_one_means (parted.Byte at v) s entry base y h m =
    let n = peek y.storage at in
    let c : Cell = record { address = at; val = record v { lo = n; hi = n; low_bits = 0 } } in
    let one : Holds c.val entry n = record { least = omega arith; most = omega arith; low = refl; origin = h.origin } in
    record {
      parts = record {
        core = m.parts.core;
        memory = m.parts.memory;
        sp = m.parts.sp;
        stack = m.parts.stack;
        items = m.parts.items;
        cells = AllByRecursion-with_cell (λ d. Holds d.val entry (peek y.storage d.address)) (cell_room Extended) c s.cells one m.parts.cells;
      };
      related = m.related;
      summary = HoldSummary-with_cells entry.program s.cells _ s.summary y.processor (peek y.storage) y.storage.banks (has_cells_with_cell (cell_room Extended) c s.cells) m.summary;
    }

same_relations : (by : Parted) (s : AbsState) (n : ℕ) → (with_one by s n).relations ≡ s.relations
unfolding with_value with_byte
same_relations (parted.Register r) s n = refl
same_relations (parted.Byte at v) s n = refl

same_items : (by : Parted) (s : AbsState) (n : ℕ) → (with_one by s n).items ≡ s.items
unfolding with_value with_byte
same_items (parted.Register r) s n = refl
same_items (parted.Byte at v) s n = refl

reducible_one : (rules : Rules) (entered : PairBounds) (by : Parted) (s : AbsState) (n : ℕ) (entry : Activation) (y : MState) → IsReducible rules entered s entry y → IsReducible rules entered (with_one by s n) entry y
reducible_one Simple entered by s n entry y can = tt
reducible_one Extended entered by s n entry y can =
    record { may_be = can.may_be; pairs = subst (λ (r : Relations). ArePairs can.may_be r.pairs) (sym (same_relations by s n)) can.pairs; bytes = can.bytes; within = can.within }

asked : (b c : Bool) → b ≡ true → (not b || c) ≡ true → c ≡ true
asked true c e h = h
asked false c e h = cc

-- a node stands for those with the machine's own value, as far as they are left
found_by_values :
    (rules : Rules) (entered : PairBounds) (cert : Certificate) (procedure a : ℕ) (s : AbsState) (by : Parted) (entry : Activation) (base : ℕ) (y : MState)
    → IsReducible rules entered s entry y → Holds (known_of by s) entry (value_at by y) → is_covered_by_values entry.program rules entered cert.nodes procedure a s by ≡ true → Means s entry base y
    → IsFoundAt cert procedure a (length s.items) s.relations.byte.address entry base y
unfolding is_covered_by_values is_value_covered
found_by_values rules entered cert procedure a s by entry base y can holds h m =
    let n = value_at by y in
    let least = holds.least in
    let most = holds.most in
    let one = one_of_them (λ v. not (has_low_bits (known_of by s) v) || is_covered_if entry.program cert.nodes procedure a (reduced_state entry.program rules entered (with_one by s v)))
    (known_of by s).lo (count_of (known_of by s)) n h least (omega arith) in
    subst (λ items. IsFoundAt cert procedure a (length items) s.relations.byte.address entry base y) (same_items by s n)
    (subst (λ (r : Relations). IsFoundAt cert procedure a (length (with_one by s n).items) r.byte.address entry base y) (same_relations by s n)
    (found_reduced rules entered cert procedure a (with_one by s n) entry base y (reducible_one rules entered by s n entry y can) (asked _ _ holds.low one) (with_one_means by s entry base y holds m)))

found_by_byte :
    (rules : Rules) (entered : PairBounds) (cert : Certificate) (procedure a : ℕ) (s : AbsState) (at : ℕ) (entry : Activation) (base : ℕ) (y : MState)
    → IsReducible rules entered s entry y → is_covered_by_byte entry.program rules entered cert.nodes procedure a s at ≡ true → Means s entry base y
    → IsFoundAt cert procedure a (length s.items) s.relations.byte.address entry base y
unfolding is_covered_by_byte
found_by_byte rules entered cert procedure a s at entry base y can h m =
    found_by_values rules entered cert procedure a s (parted.Byte at (byte_in entry.program (values_in s) s.cells s.summary at)) entry base y can
    (Holds-byte s at entry base y m) (and_parts _ _ h).1 m

found_by_bytes :
    (rules : Rules) (entered : PairBounds) (cert : Certificate) (procedure a : ℕ) (s : AbsState) (entry : Activation) (base : ℕ) (y : MState)
    → IsReducible rules entered s entry y → is_covered_by_bytes entry.program rules entered cert.nodes procedure a s ≡ true → Means s entry base y
    → IsFoundAt cert procedure a (length s.items) s.relations.byte.address entry base y
unfolding is_covered_by_bytes
found_by_bytes rules entered cert procedure a s entry base y can h m =
    let node = Any-from_list_any (λ n. is_node_at procedure a n && list_any (is_covered_by_cell entry.program rules entered cert.nodes procedure a s) n.state.cells) cert.nodes h in
    let cell = Any-from_list_any (is_covered_by_cell entry.program rules entered cert.nodes procedure a s) node.1.state.cells (and_parts _ _ node.4).1 in
    found_by_byte rules entered cert procedure a s cell.1.address entry base y can cell.4 m

-- states that are covered at an address: a node there means each of their machine states
found_where :
    (rules : Rules) (cert : Certificate) (procedure a : ℕ) (s : AbsState) (entry : Activation) (base : ℕ) (y : MState)
    → IsReducible rules (entered_of cert procedure) s entry y → covered_at entry.program rules cert procedure a s ≡ true → Means s entry base y → IsFoundAt cert procedure a (length s.items) s.relations.byte.address entry base y
unfolding covered_at
found_where rules cert procedure a s entry base y can h m =
    by (is_covered_by_one entry.program cert.nodes procedure a s) (list_any (is_covered_by_register entry.program rules entered cert.nodes procedure a s) registers) refl refl h
  where
    entered : PairBounds
    entered = entered_of cert procedure

    register : list_any (is_covered_by_register entry.program rules entered cert.nodes procedure a s) registers ≡ true → IsFoundAt cert procedure a (length s.items) s.relations.byte.address entry base y
    register e =
        let p = Any-from_list_any (is_covered_by_register entry.program rules entered cert.nodes procedure a s) registers e in
        found_by_values rules entered cert procedure a s (parted.Register p.1) entry base y can (m.parts.core.registers p.1) p.4 m

    by :
        (b c : Bool) → is_covered_by_one entry.program cert.nodes procedure a s ≡ b → list_any (is_covered_by_register entry.program rules entered cert.nodes procedure a s) registers ≡ c
        → (b || (c || (cert.version == 4) && is_covered_by_bytes entry.program rules entered cert.nodes procedure a s)) ≡ true → IsFoundAt cert procedure a (length s.items) s.relations.byte.address entry base y
    by true c e f t = found_by_one cert procedure a s entry base y e m
    by false true e f t = register f
    by false false e f t = found_by_bytes rules entered cert procedure a s entry base y can (and_parts _ _ t).1 m

-- by the rules of versions 1 and 2
pub found_at : (cert : Certificate) (procedure a : ℕ) (s : AbsState) (entry : Activation) (base : ℕ) (y : MState) → covered_at entry.program Simple cert procedure a s ≡ true → Means s entry base y
    → IsFoundAt cert procedure a (length s.items) s.relations.byte.address entry base y
found_at cert procedure a s entry base y h m = found_where Simple cert procedure a s entry base y tt h m

-- by any rules
pub found_by : (rules : Rules) (cert : Certificate) (procedure a : ℕ) (s : AbsState) (entry : Activation) (base : ℕ) (y : MState) → ArePairs (is_free_byte cert.region) s.relations.pairs → AreBytes y.processor.registers → AreWithin (entered_of cert procedure) (entered_with entry)
    → covered_at entry.program rules cert procedure a s ≡ true → Means s entry base y → IsFoundAt cert procedure a (length s.items) s.relations.byte.address entry base y
found_by Simple cert procedure a s entry base y pairs bytes within h m = found_where Simple cert procedure a s entry base y tt h m
found_by Extended cert procedure a s entry base y pairs bytes within h m = found_where Extended cert procedure a s entry base y (record { may_be = is_free_byte cert.region; pairs = pairs; bytes = bytes; within = within }) h m
