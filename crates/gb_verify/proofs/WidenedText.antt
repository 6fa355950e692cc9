-- The text of a certificate in version 3, from its parts.
use Rattle.std.proofs.Common.{◌≡◌, ℕ, zero, suc, ◌+◌, ◌/◌, ◌≤◌, ◌<◌, Bool, true, false, not, ◌==◌, List, [], ◌∷◌, ◌++◌, length, map, drop, get_or, slice_get, Option, Some, None, refl, sym, ◌∙◌, ap, subst, arith, append_assoc, ◌&&◌}
use Rattle.std.specs.Prelude.{IfSome}
use Rattle.std.specs.List.{flat_map, list_all}
use Rattle.std.proofs.lemmas.List.{drop_more}
use Rattle.std.proofs.lemmas.Option.{slice_get_within, get_or_from_slice_get}
use Rattle.gb_rules.specs.Below.gb_domain.declared.types.Val.{Val}
use Rattle.gb_rules.specs.Below.gb_domain.declared.types.Cell.{Cell}
use Rattle.gb_rules.specs.Below.gb_domain.declared.relations.Relations.{Relations}
use Rattle.gb_rules.specs.Below.gb_domain.declared.rules.Rules.{Rules}
use Rattle.gb_rules.specs.Below.gb_domain.declared.rules.Rules.TheVariants.{Simple, Extended}
use Rattle.gb_rules.specs.Below.gb_domain.RelationRules.{compared, is_test_alone, test_alone}
use Rattle.gb_rules.specs.Below.gb_domain.Types.{AbsState, ProcedureParts, Node}
use Rattle.gb_rules.specs.Below.gb_domain.Certificate.{Certificate}
use Rattle.gb_rules.specs.Below.gb_domain.Limits.{rules_of, item_room}
use Rattle.gb_rules.specs.Below.gb_domain.Rules.{IsChain}
use Rattle.gb_ops.specs.declared.machine.Region.{Region}
use Rattle.gb_rules.specs.Below.gb_states.declared.role.Role.{Role}
use Rattle.gb_rules.specs.Below.gb_states.declared.role.Role.TheVariants as role
use Rattle.gb_rules.specs.Below.gb_states.Rules.{IsState, IsProcedure, IsNode, IsCertificate, is_after, key, is_core_sayable, is_sayable, is_cell_sayable, is_silent}
use Rattle.std.proofs.lemmas.Bool.Decides.{nat_tests}
use Rattle.gb_rules.specs.Below.gb_fields.Limits.{unit}
use Rattle.gb_rules.specs.Below.gb_states.RelationSpelling.{relations, places_by, pairs}
use Rattle.gb_rules.specs.Below.gb_states.Spelling as spelled
use Rattle.gb_rules.proofs.Below.gb_states_laws.RelationLaws.{is-alone}
use Rattle.gb_text.specs.Sink.{Gains}
use Rattle.gb_text.specs.Text.{GainsBeginning}
use Rattle.gb_text.proofs.Gained.{gains_both, begins_first, begins_second}
use Rattle.gb_text.proofs.Remaining.{Remains, remains_less, remains_cut}
use Rattle.gb_verify.specs.Widened.{below_items, above_return_word, widened_node, widened_procedure, widened_procedures, widened_by, widened, IsNarrow}
use Rattle.gb_verify.proofs.WidenedLaws.{map_long, procedures_long, sayable}
use Rattle.std.proofs.lemmas.Bool.{and_parts}

-- ---- a text in two parts

pub joined : (first second text : List ℕ) (old mid new : Option (List ℕ)) → first ++ second ≡ text → Gains old first mid → Gains mid second new → Gains old text new
joined first second text old mid new e g h = subst (λ t. Gains old t new) e (gains_both old mid new first second g h)

pub begun : (first second text : List ℕ) (old new : Option (List ℕ)) → first ++ second ≡ text → GainsBeginning old first new → GainsBeginning old text new
begun first second text old new e h = subst (λ t. GainsBeginning old t new) e (begins_first old new first second h)

pub gone_on : (first second text : List ℕ) (old mid new : Option (List ℕ)) → first ++ second ≡ text → Gains old first mid → GainsBeginning mid second new → GainsBeginning old text new
gone_on first second text old mid new e g h = subst (λ t. GainsBeginning old t new) e (begins_second old mid new first second g h)

-- ---- texts of lists, one element after another

left : {X : Type 0} (write : X → List ℕ) (xs : List X) (i : ℕ) (x : X) → slice_get xs i ≡ Some x → flat_map write (drop i xs) ≡ write x ++ flat_map write (drop (i + 1) xs)
left write xs i x h = ap (flat_map write) (drop_more xs i x (slice_get_within xs i x h)) ∙ ap (λ q. write q ++ flat_map write (drop (i + 1) xs)) (get_or_from_slice_get xs i x x h)

pub taken : {X : Type 0} (write : X → List ℕ) (old mid new : Option (List ℕ)) (text : List ℕ) (xs : List X) (i : ℕ) (x : X) → slice_get xs i ≡ Some x
    → Remains old text mid (flat_map write (drop i xs)) → Gains mid (write x) new → Remains old text new (flat_map write (drop (i + 1) xs))
taken write old mid new text xs i x h r g = remains_less old mid new text _ _ (subst (λ t. Remains old text mid t) (left write xs i x h) r) g

pub cut : {X : Type 0} (write : X → List ℕ) (old mid new : Option (List ℕ)) (text : List ℕ) (xs : List X) (i : ℕ) (x : X) → slice_get xs i ≡ Some x
    → Remains old text mid (flat_map write (drop i xs)) → GainsBeginning mid (write x) new → GainsBeginning old text new
cut write old mid new text xs i x h r g = remains_cut old mid new text _ _ (subst (λ t. Remains old text mid t) (left write xs i x h) r) g

-- the same where the element stands at its place, or there is another in its stead
left_at : {X : Type 0} (write : X → List ℕ) (xs : List X) (i : ℕ) (x : X) → i < length xs → flat_map write (drop i xs) ≡ write (get_or xs i x) ++ flat_map write (drop (i + 1) xs)
left_at write xs i x h = ap (flat_map write) (drop_more xs i x h)

pub taken_at : {X : Type 0} (write : X → List ℕ) (old mid new : Option (List ℕ)) (text bytes : List ℕ) (xs : List X) (i : ℕ) (x : X) → i < length xs → bytes ≡ write (get_or xs i x)
    → Remains old text mid (flat_map write (drop i xs)) → Gains mid bytes new → Remains old text new (flat_map write (drop (i + 1) xs))
taken_at write old mid new text bytes xs i x h e r g = remains_less old mid new text _ _ (subst (λ t. Remains old text mid t) (left_at write xs i x h) r) (subst (λ t. Gains mid t new) e g)

pub cut_at : {X : Type 0} (write : X → List ℕ) (old mid new : Option (List ℕ)) (text bytes : List ℕ) (xs : List X) (i : ℕ) (x : X) → i < length xs → bytes ≡ write (get_or xs i x)
    → Remains old text mid (flat_map write (drop i xs)) → GainsBeginning mid bytes new → GainsBeginning old text new
cut_at write old mid new text bytes xs i x h e r g = remains_cut old mid new text _ _ (subst (λ t. Remains old text mid t) (left_at write xs i x h) r) (subst (λ t. GainsBeginning mid t new) e g)

-- ---- states

one_each : (n : ℕ) → n ≡ n / unit Extended
unfolding unit
one_each n = omega arith

pub items_text : (is_entered : Bool) (vs : List Val) (n : ℕ) (below own : List ℕ) → n ≡ length (below_items is_entered ++ vs) → below ≡ flat_map spelled.val (below_items is_entered) → own ≡ flat_map spelled.val vs
    → (n ∷ []) ++ (below ++ own) ≡ spelled.items Extended (below_items is_entered ++ vs)
unfolding spelled.val
items_text is_entered vs n below own e f g =
    ap (λ (k : ℕ). k ∷ (below ++ own)) (e ∙ one_each (length (below_items is_entered ++ vs)))
    ∙ ap (λ (b : List ℕ). (length (below_items is_entered ++ vs) / unit Extended) ∷ b) (ap (λ (b : List ℕ). b ++ own) f ∙ ap (λ (b : List ℕ). flat_map spelled.val (below_items is_entered) ++ b) g ∙ by is_entered)
  where
    by : (b : Bool) → flat_map spelled.val (below_items b) ++ flat_map spelled.val vs ≡ flat_map spelled.val (below_items b ++ vs)
    by true = refl
    by false = refl

abbrev told_bytes : Option ℕ → List ℕ
told_bytes None = 0 ∷ []
told_bytes (Some n) = 1 ∷ 1 ∷ []

alone_text : (t : Option ℕ) → told_bytes t ≡ relations (test_alone t)
unfolding relations places_by pairs
alone_text None = refl
alone_text (Some n) = refl

pub told_text : (r : Relations) (t : Option ℕ) → is_test_alone r ≡ true → t ≡ compared r.byte.test → told_bytes t ≡ relations r
told_text r t h e = alone_text t ∙ ap (λ (o : Option ℕ). relations (test_alone o)) e ∙ ap (λ (q : Relations). relations q) (sym (is-alone r h))

pub cells_text : (cells : List Cell) (n : ℕ) (bytes : List ℕ) → n ≡ length cells → bytes ≡ flat_map spelled.cell cells → (n ∷ []) ++ bytes ≡ spelled.counted spelled.cell cells
cells_text cells n bytes e f = rw (e, f) refl

pub state_text : (is_entered : Bool) (s : AbsState) (core told : List ℕ) → core ≡ spelled.core s.core (compared s.relations.byte.test) → told ≡ relations s.relations
    → core ++ (spelled.items Extended (below_items is_entered ++ s.items) ++ (told ++ spelled.counted spelled.cell s.cells)) ≡ spelled.state Extended (above_return_word is_entered s)
unfolding spelled.state
state_text is_entered s core told e f = rw (e, f) refl

pub node_text : (n : Node) (s : AbsState) (front : List ℕ) (is_entered : Bool) → front ≡ (n.procedure ∷ spelled.word n.address) ++ spelled.word n.bank → s ≡ n.state → is_entered ≡ not (n.procedure == 0)
    → front ++ spelled.state Extended (above_return_word is_entered s) ≡ spelled.node Extended (widened_node n)
unfolding spelled.node widened_node
node_text n s front is_entered e f h =
    ap (λ (b : List ℕ). b ++ spelled.state Extended (above_return_word is_entered s)) e
    ∙ ap (λ (z : AbsState). ((n.procedure ∷ spelled.word n.address) ++ spelled.word n.bank) ++ spelled.state Extended (above_return_word is_entered z)) f
    ∙ ap (λ (b : Bool). ((n.procedure ∷ spelled.word n.address) ++ spelled.word n.bank) ++ spelled.state Extended (above_return_word b n.state)) h
    ∙ append_assoc (n.procedure ∷ spelled.word n.address) (spelled.word n.bank) (spelled.state Extended (above_return_word (not (n.procedure == 0)) n.state))

-- ---- procedures

pub exit_text : (exit : Option AbsState) (s : AbsState) → exit ≡ Some s → (1 ∷ []) ++ spelled.state Extended (above_return_word false s) ≡ spelled.exit Extended exit
unfolding spelled.exit
exit_text exit s e = rw e refl

pub procedure_text : (is_main : Bool) (p : ProcedureParts) (front : List ℕ) → front ≡ spelled.node_number 3 p.entry ++ (spelled.word p.base ++ spelled.word (widened_procedure is_main p).need)
    → front ++ (spelled.counted spelled.range (widened_procedure is_main p).ranges ++ spelled.exit Extended p.exit) ≡ spelled.procedure 3 (widened_procedure is_main p)
unfolding spelled.procedure spelled.body rules_of widened_procedure
procedure_text is_main p front e =
    ap (λ (b : List ℕ). b ++ rest is_main) e
    ∙ append_assoc (spelled.node_number 3 p.entry) (spelled.word p.base ++ spelled.word (widened_procedure is_main p).need) (rest is_main)
    ∙ ap (λ (b : List ℕ). spelled.node_number 3 p.entry ++ b) (append_assoc (spelled.word p.base) (spelled.word (widened_procedure is_main p).need) (rest is_main))
    ∙ ap (λ (n : ℕ). spelled.node_number 3 p.entry ++ (spelled.word p.base ++ (spelled.word n ++ rest is_main))) (one_each (widened_procedure is_main p).need)
    ∙ by is_main
  where
    rest : Bool → List ℕ
    rest b = spelled.counted spelled.range (widened_procedure b p).ranges ++ spelled.exit Extended p.exit

    by : (b : Bool) → spelled.node_number 3 p.entry ++ (spelled.word p.base ++ (spelled.word ((widened_procedure b p).need / unit Extended) ++ rest b)) ≡ spelled.procedure 3 (widened_procedure b p)
    by true = refl
    by false = refl

-- ---- certificates

pub node_at : (ns : List Node) (i : ℕ) (n : Node) → slice_get ns i ≡ Some n → slice_get (map widened_node ns) i ≡ Some (widened_node n)
node_at [] i n e = cc
node_at (m ∷ ms) zero n e = let same : m ≡ n = cc in ap (λ (z : Node). Some (widened_node z)) same
node_at (m ∷ ms) (suc i) n e = node_at ms i n e

other_at : (ps : List ProcedureParts) (i : ℕ) (p : ProcedureParts) → slice_get ps i ≡ Some p → slice_get (map (widened_procedure false) ps) i ≡ Some (widened_procedure false p)
other_at [] i p e = cc
other_at (q ∷ qs) zero p e = let same : q ≡ p = cc in ap (λ (z : ProcedureParts). Some (widened_procedure false z)) same
other_at (q ∷ qs) (suc i) p e = other_at qs i p e

not_first : (i : ℕ) → (suc i == 0) ≡ false
not_first i = grind (arith, nat_tests)

pub procedure_at : (ps : List ProcedureParts) (i : ℕ) (p : ProcedureParts) → slice_get ps i ≡ Some p → slice_get (widened_procedures ps) i ≡ Some (widened_procedure (i == 0) p)
procedure_at [] i p e = cc
procedure_at (q ∷ qs) zero p e = let same : q ≡ p = cc in ap (λ (z : ProcedureParts). Some (widened_procedure true z)) same
procedure_at (q ∷ qs) (suc i) p e = other_at qs i p e ∙ ap (λ (b : Bool). Some (widened_procedure b p)) (sym (not_first i))

head_text : (c : Certificate) → spelled.head (record c { version = 3 }) ≡ spelled.head (widened_by Simple c)
unfolding spelled.head
head_text c = rw (procedures_long c.procedures, map_long widened_node c.nodes) refl

pub widened_text : (c : Certificate) (head : List ℕ) → rules_of c.version ≡ Simple → head ≡ spelled.head (record c { version = 3 })
    → head ++ (flat_map (spelled.procedure 3) (widened_procedures c.procedures) ++ flat_map (spelled.node Extended) (map widened_node c.nodes)) ≡ spelled.spelling (widened c)
unfolding spelled.spelling rules_of
widened_text c head simple e =
    ap (λ (b : List ℕ). b ++ (flat_map (spelled.procedure 3) (widened_procedures c.procedures) ++ flat_map (spelled.node Extended) (map widened_node c.nodes))) (e ∙ head_text c)
    ∙ ap (λ (rules : Rules). spelled.spelling (widened_by rules c)) (sym simple)

-- ---- states of versions 1 and 2 are narrow

narrow : (role : Role) (region : Region) (s : AbsState) → IsState Simple role region s → IsNarrow s
unfolding item_room
narrow role region s h =
    let p = and_parts (is_core_sayable Extended s.core) (list_all (is_sayable Extended) s.items && (list_all (is_cell_sayable Extended) s.cells && is_silent s.summary)) (sayable s h.sayable) in
    let q = and_parts (list_all (is_sayable Extended) s.items) (list_all (is_cell_sayable Extended) s.cells && is_silent s.summary) p.1 in
    let r = and_parts (list_all (is_cell_sayable Extended) s.cells) (is_silent s.summary) q.1 in
    record { items = h.item_count; relations = h.known; core = p.0; items_sayable = q.0; cells_sayable = r.0 }

nodes_narrow : (region : Region) (procedures : ℕ) (before : ℕ × ℕ) (ns : List Node) (i : ℕ) (n : Node) → IsChain (IsNode Simple region procedures) key before ns → slice_get ns i ≡ Some n → IsNarrow n.state
nodes_narrow region procedures before [] i n h e = cc
nodes_narrow region procedures before (m ∷ ms) zero n h e = let same : m ≡ n = cc in subst (λ (z : Node). IsNarrow z.state) same (narrow _ region m.state h.0.state)
nodes_narrow region procedures before (m ∷ ms) (suc i) n h e = nodes_narrow region procedures (key m) ms i n h.1 e

pub node_narrow : (c : Certificate) (i : ℕ) (n : Node) → IsCertificate c → rules_of c.version ≡ Simple → slice_get c.nodes i ≡ Some n → IsNarrow n.state
node_narrow c i n h simple e = nodes_narrow c.region (length c.procedures) (0, 0) c.nodes i n (subst (λ rules. IsChain (IsNode rules c.region (length c.procedures)) key (0, 0) c.nodes) simple h.nodes) e

nodes_owned : (rules : Rules) (region : Region) (procedures : ℕ) (before : ℕ × ℕ) (ns : List Node) (i : ℕ) (n : Node) → IsChain (IsNode rules region procedures) key before ns → slice_get ns i ≡ Some n → n.procedure < procedures
nodes_owned rules region procedures before [] i n h e = cc
nodes_owned rules region procedures before (m ∷ ms) zero n h e = let same : m ≡ n = cc in subst (λ (z : Node). z.procedure < procedures) same h.0.procedure
nodes_owned rules region procedures before (m ∷ ms) (suc i) n h e = nodes_owned rules region procedures (key m) ms i n h.1 e

-- the number of a node's procedure is a byte
pub owner_few : (c : Certificate) (i : ℕ) (n : Node) → IsCertificate c → slice_get c.nodes i ≡ Some n → n.procedure ≤ 255
owner_few c i n h e =
    let owned : n.procedure < length c.procedures = nodes_owned (rules_of c.version) c.region (length c.procedures) (0, 0) c.nodes i n h.nodes e in
    let few : length c.procedures ≤ 255 = h.procedure_count in
    omega arith

exit_narrow : (region : Region) (o : Option AbsState) → IfSome o (IsState Simple role.Exit region) → IfSome o IsNarrow
exit_narrow region None h = tt
exit_narrow region (Some s) h = narrow role.Exit region s h

exits_narrow : (region : Region) (nodes : ℕ) (is_main : Bool) (ps : List ProcedureParts) (i : ℕ) (p : ProcedureParts) → IsChain (IsProcedure Simple region nodes) is_after is_main ps → slice_get ps i ≡ Some p → IfSome p.exit IsNarrow
exits_narrow region nodes is_main [] i p h e = cc
exits_narrow region nodes is_main (q ∷ qs) zero p h e = let same : q ≡ p = cc in subst (λ (z : ProcedureParts). IfSome z.exit IsNarrow) same (exit_narrow region q.exit h.0.exit)
exits_narrow region nodes is_main (q ∷ qs) (suc i) p h e = exits_narrow region nodes false qs i p h.1 e

pub procedure_narrow : (c : Certificate) (i : ℕ) (p : ProcedureParts) → IsCertificate c → rules_of c.version ≡ Simple → slice_get c.procedures i ≡ Some p → IfSome p.exit IsNarrow
procedure_narrow c i p h simple e = exits_narrow c.region (length c.nodes) true c.procedures i p (subst (λ rules. IsChain (IsProcedure rules c.region (length c.nodes)) is_after true c.procedures) simple h.procedures) e
