-- What is written of a certificate, part by part, and that a certificate keeps each limit.
use Rattle.std.proofs.Common.{◌≡◌, ℕ, zero, suc, ◌≤◌, ◌<◌, get_or, ◌%◌, Bool, true, false, not, ◌&&◌, ◌||◌, ◌==◌, nat_lt, nat_le, List, [], ◌∷◌, ◌++◌, length, map, Option, Some, None, IfSome, refl, sym, ap, subst, ◌∙◌, append_assoc, arith}
use Rattle.std.proofs.lemmas.Bool.Decides.{nat_tests}
use Rattle.std.specs.List.{AllByRecursion, flat_map, list_all, list_any}
use Rattle.std.proofs.lemmas.List.{length-map}
use Rattle.gb_ops.specs.declared.machine.Region.{Region}
use Rattle.gb_ops.specs.declared.op.Register.{Register}
use Rattle.gb_ops.specs.declared.op.Register.TheVariants as register
use Rattle.gb_ops.specs.Registers.{get}
use Rattle.gb_domain.specs.declared.types.Val.{Val}
use Rattle.gb_domain.specs.declared.types.Cell.{Cell}
use Rattle.gb_domain.specs.declared.rules.Rules.{Rules}
use Rattle.gb_domain.specs.declared.rules.Rules.TheVariants.{Simple, Extended}
use Rattle.gb_domain.specs.declared.summary.Fact.{Fact}
use Rattle.gb_domain.specs.Rules.{IsChain, after_cell}
use Rattle.gb_domain.specs.Limits.{rules_of, item_room, cell_room}
use Rattle.gb_domain.specs.Types.{AbsState}
use Rattle.gb_states.specs.declared.form.ProcedureForm.{ProcedureForm}
use Rattle.gb_states.specs.Below.gb_fields.Limits.{node_limit, procedure_limit_by, range_limit, range_room, item_limit, unit}
use Rattle.gb_states.specs.Below.gb_fields.Rules.{usual_base}
use Rattle.gb_states.specs.declared.role.Role.{Role}
use Rattle.gb_states.specs.declared.role.Role.TheVariants as role
use Rattle.gb_states.specs.Links.{are_linked}
use Rattle.gb_states.specs.Rules.{IsState, IsProcedure, is_base_of, is_whole, is_after, key, role_of, is_state_sayable, may_be_known}
use Rattle.gb_states.specs.WholeRules.{kept_for, no_form, procedure_form, IsValIn, IsCellIn, IsStateIn, AreFactsBy, IsProcedureBy, IsNodeBy, IsCertificate}
use Rattle.gb_states.specs.WholeSpelling as spelled
use Rattle.gb_states.specs.WholeSpelling.{spelling}
use Rattle.gb_cert.specs.declared.writer.Version.{Version}
use Rattle.gb_cert.specs.declared.writer.Version.TheVariants as version
use Rattle.gb_cert.specs.declared.writer.ProcedurePlan.{ProcedurePlan}
use Rattle.gb_cert.specs.declared.writer.NodePlan.{NodePlan}
use Rattle.gb_cert.specs.declared.writer.CertificatePlan.{CertificatePlan}
use Rattle.gb_cert.specs.declared.writer.WriteFault.{WriteFault}
use Rattle.gb_cert.specs.declared.writer.WriteFault.TheVariants as fault
use Rattle.gb_cert.specs.Spelled as by_version
use Rattle.gb_cert.specs.Written.{number_of, is_fourth, rules_in, procedure_of, form_of, node_of, certificate_of, exit_of, fact_room_by, is_tagged, says_state, is_half, has_many_items, has_many_cells, is_related, has_unsayable, exit_has, returns_with, stands_with, have_states, has_half_need, says_base, say_base, is_wide, is_deep, has_no_entry, has_no_owner, names_many, has_mark, IsProcedureFault, IsNodeFault, IsWriteFault}
use Rattle.gb_cert.proofs.Refusing.{Says}
use Rattle.gb_cert.proofs.SpelledLaws.{procedure-is, node-is}
use Rattle.gb_cert.proofs.WholeCertificateLaws.{few-kept, room_few}

-- ---- the bytes

flat_map-map : {X Y : Type 0} (f : Y → List ℕ) (g : X → Y) (xs : List X) → flat_map f (map g xs) ≡ flat_map (λ x. f (g x)) xs
flat_map-map f g [] = refl
flat_map-map f g (x ∷ xs) = ap (λ t. f (g x) ++ t) (flat_map-map f g xs)

flat_map-same : {X : Type 0} (f g : X → List ℕ) (xs : List X) → ((x : X) → f x ≡ g x) → flat_map f xs ≡ flat_map g xs
flat_map-same f g [] same = refl
flat_map-same f g (x ∷ xs) same = rw (same x, flat_map-same f g xs same) refl

procedures-written : (v : Version) (region : Region) (ps : List ProcedurePlan) → flat_map (λ p. by_version.procedure v region (procedure_of p)) ps ≡ flat_map (spelled.procedure_by (is_fourth v) (number_of v) region) (map procedure_of ps)
procedures-written v region ps =
    flat_map-same (λ p. by_version.procedure v region (procedure_of p)) (λ p. spelled.procedure_by (is_fourth v) (number_of v) region (procedure_of p)) ps (λ p. procedure-is v region (procedure_of p))
    ∙ sym (flat_map-map (spelled.procedure_by (is_fourth v) (number_of v) region) procedure_of ps)

nodes-written : (v : Version) (region : Region) (of : ℕ → ProcedureForm) (ns : List NodePlan) → flat_map (λ n. by_version.node v region of (node_of n)) ns ≡ flat_map (spelled.node_by (is_fourth v) (number_of v) region of) (map node_of ns)
nodes-written v region of ns =
    flat_map-same (λ n. by_version.node v region of (node_of n)) (λ n. spelled.node_by (is_fourth v) (number_of v) region of (node_of n)) ns (λ n. node-is v region of (node_of n))
    ∙ sym (flat_map-map (spelled.node_by (is_fourth v) (number_of v) region of) node_of ns)

-- the form of the procedure with this number has its base
pub form_there : (ps : List ProcedurePlan) (number : ℕ) (p : ProcedurePlan) → number < length ps → p ≡ get_or ps number p → p.base ≡ (form_of ps number).base
form_there [] number p lt e = absurd (omega arith)
form_there (q ∷ qs) zero p lt e = ap (λ (r : ProcedurePlan). r.base) e
form_there (q ∷ qs) (suc number) p lt e = form_there qs number p (omega arith) e

-- a head, then facts, then procedures, then nodes
pub certificate_written : (old first second third new : List ℕ) (plan : CertificatePlan)
    → first ≡ old ++ spelled.head (certificate_of plan)
    → second ≡ first ++ spelled.facts_by (is_fourth plan.version) plan.facts.now
    → third ≡ second ++ flat_map (λ p. by_version.procedure plan.version plan.region (procedure_of p)) plan.procedures.now
    → new ≡ third ++ flat_map (λ n. by_version.node plan.version plan.region (form_of plan.procedures.now) (node_of n)) plan.nodes.now
    → new ≡ old ++ spelled.spelling (certificate_of plan)
unfolding spelling
certificate_written old first second third new plan a b c d =
    rw (d, c, b, a, procedures-written plan.version plan.region plan.procedures.now, nodes-written plan.version plan.region (form_of plan.procedures.now) plan.nodes.now)
    (append_assoc ((old ++ spelled.head (certificate_of plan)) ++ spelled.facts_by (is_fourth plan.version) plan.facts.now) _ _ ∙ (append_assoc (old ++ spelled.head (certificate_of plan)) _ _ ∙ append_assoc old _ _))

-- ---- what a certificate gives of each state

not_is : (b : Bool) → b ≡ true → not b ≡ false
not_is b h = rw h refl

not_more : (limit n : ℕ) → n ≤ limit → nat_lt limit n ≡ false
not_more limit n h = grind (arith, nat_tests)

-- each number of bytes is whole
bytes_whole : (n : ℕ) → is_whole Extended n ≡ true
unfolding unit
bytes_whole n = let e : n % 1 ≡ 0 = omega arith in rw e refl

-- of a state of versions 1 to 3
record OlderSays (rules : Rules) (s : AbsState) : Type 0 where
  half : not (is_whole rules (length s.items)) ≡ false
  items : nat_lt (item_room rules) (length s.items) ≡ false
  cells : nat_lt (cell_room rules) (length s.cells) ≡ false
  related : not (may_be_known rules s.relations) ≡ false
  unsayable : not (is_state_sayable rules s) ≡ false

older_says : (rules : Rules) (role : Role) (region : Region) (s : AbsState) → IsState rules role region s → OlderSays rules s
older_says rules role region s h = record {
  half = not_is (is_whole rules (length s.items)) h.whole;
  items = not_more (item_room rules) (length s.items) h.item_count;
  cells = not_more (cell_room rules) (length s.cells) h.cell_count;
  related = not_is (may_be_known rules s.relations) h.known;
  unsayable = not_is (is_state_sayable rules s) h.sayable;
}

few_bits : (n : ℕ) (b : Bool) → (n == 0 || nat_le n 7 && b) ≡ true → nat_lt n 8 ≡ true
few_bits n b h = grind (arith, nat_tests)

more_room : (least kept : ℕ) → kept ≤ 16 → nat_le least kept ≡ true → nat_le least 16 ≡ true
more_room least kept few h = grind (arith, nat_tests)

both_true : (a b : Bool) → a ≡ true → b ≡ true → (a && b) ≡ true
both_true a b e f = rw (e, f) refl

-- a value of a procedure that names no more addresses than there may be
tagged : (kept : ℕ) (v : Val) → kept ≤ 16 → IsValIn kept v → is_tagged v ≡ true
tagged kept v few h = both_true _ _ (few_bits v.low_bits _ h.val.strided) (more_room (kept_for v.origin) kept few h.origin)

vals_tagged : (kept : ℕ) (vs : List Val) → kept ≤ 16 → AllByRecursion (IsValIn kept) vs → list_all is_tagged vs ≡ true
vals_tagged kept [] few h = refl
vals_tagged kept (v ∷ vs) few h = both_true (is_tagged v) (list_all is_tagged vs) (tagged kept v few h.0) (vals_tagged kept vs few h.1)

cells_tagged : (kept : ℕ) (region : Region) (least : ℕ) (cs : List Cell) → kept ≤ 16 → IsChain (IsCellIn kept region) after_cell least cs → list_all (λ (c : Cell). is_tagged c.val) cs ≡ true
cells_tagged kept region least [] few h = refl
cells_tagged kept region least (c ∷ cs) few h = both_true (is_tagged c.val) (list_all (λ (c : Cell). is_tagged c.val) cs) (tagged kept c.val few h.0.val) (cells_tagged kept region (after_cell c) cs few h.1)

all_true : (ie a b c d e h l items cells : Bool) → ie ≡ true → a ≡ true → b ≡ true → c ≡ true → d ≡ true → e ≡ true → h ≡ true → l ≡ true → items ≡ true → cells ≡ true
    → ((true && (ie && (a && (b && (c && (d && (e && (h && l)))))))) && (items && (cells && true))) ≡ true
all_true ie a b c d e h l items cells h1 h2 h3 h4 h5 h6 h7 h8 h9 h10 = rw (h1, h2, h3, h4, h5, h6, h7, h8, h9, h10) refl

fourth_said : (facts : ℕ) (form : ProcedureForm) (role : Role) (region : Region) (s : AbsState) → form.kept ≤ 16 → IsStateIn facts form role region s → says_state version.Four s ≡ true
fourth_said facts form role region s few h =
    let value : (r : Register) → is_tagged (get r s.core.registers) ≡ true = λ r. tagged form.kept (get r s.core.registers) few (h.core.registers r) in
    all_true (is_tagged s.core.ie) (is_tagged s.core.registers.a) (is_tagged s.core.registers.b) (is_tagged s.core.registers.c) (is_tagged s.core.registers.d) (is_tagged s.core.registers.e) (is_tagged s.core.registers.h) (is_tagged s.core.registers.l) (list_all is_tagged s.items) (list_all (λ (c : Cell). is_tagged c.val) s.cells)
    (tagged form.kept s.core.ie few h.core.ie) (value register.A) (value register.B) (value register.C) (value register.D) (value register.E) (value register.H) (value register.L) (vals_tagged form.kept s.items few h.items) (cells_tagged form.kept region 0 s.cells few h.cells)

fourth_says : (facts : ℕ) (form : ProcedureForm) (role : Role) (region : Region) (s : AbsState) → form.kept ≤ 16 → IsStateIn facts form role region s → Says version.Four s
unfolding item_room item_limit cell_room
fourth_says facts form role region s few h = record {
  half = not_is (is_whole Extended (length s.items)) (bytes_whole (length s.items));
  items = not_more 255 (length s.items) h.item_count;
  cells = not_more 64 (length s.cells) h.cell_count;
  related = not_is (are_linked true s.relations.pairs) h.linked;
  unsayable = not_is (says_state version.Four s) (fourth_said facts form role region s few h);
}

-- of a state of any version
abbrev IsStateBy : Bool → ℕ → ℕ → ProcedureForm → Role → Region → AbsState → Type 0
IsStateBy true n facts form role region s = (form.kept ≤ 16) × IsStateIn facts form role region s
IsStateBy false n facts form role region s = IsState (rules_of n) role region s

state_says : (v : Version) (facts : ℕ) (form : ProcedureForm) (role : Role) (region : Region) (s : AbsState) → IsStateBy (is_fourth v) (number_of v) facts form role region s → Says v s
state_says version.One facts form role region s h = let o = older_says (rules_of 1) role region s h in record { half = o.half; items = o.items; cells = o.cells; related = o.related; unsayable = o.unsayable }
state_says version.Two facts form role region s h = let o = older_says (rules_of 2) role region s h in record { half = o.half; items = o.items; cells = o.cells; related = o.related; unsayable = o.unsayable }
state_says version.Three facts form role region s h = let o = older_says (rules_of 3) role region s h in record { half = o.half; items = o.items; cells = o.cells; related = o.related; unsayable = o.unsayable }
state_says version.Four facts form role region s h = fourth_says facts form role region s h.0 h.1

-- ---- what a certificate gives of each procedure

-- The procedure keeps each limit.
record Fits (v : Version) (nodes : ℕ) (p : ProcedurePlan) : Type 0 where
  wide : is_wide p ≡ false
  deep : is_deep p ≡ false
  entry : has_no_entry nodes p ≡ false
  half : has_half_need (rules_in v) p ≡ false
  kept : names_many v p ≡ false
  mark : has_mark v p ≡ false
  exit : IfSome (exit_of p.exit) (Says v)

range_few : (rules : Rules) (is_main : Bool) → range_room rules is_main ≤ range_limit
unfolding range_room
range_few Simple true = omega arith
range_few Simple false = omega arith
range_few Extended true = omega arith
range_few Extended false = omega arith

exit_says : (v : Version) (facts : ℕ) (form : ProcedureForm) (region : Region) (o : Option AbsState) → IfSome o (IsStateBy (is_fourth v) (number_of v) facts form role.Exit region) → IfSome o (Says v)
exit_says v facts form region None h = tt
exit_says v facts form region (Some s) h = state_says v facts form role.Exit region s h

with_few : (facts : ℕ) (form : ProcedureForm) (region : Region) (o : Option AbsState) → form.kept ≤ 16 → IfSome o (IsStateIn facts form role.Exit region) → IfSome o (IsStateBy true 4 facts form role.Exit region)
with_few facts form region None few h = tt
with_few facts form region (Some s) few h = (few, h)

-- of versions 1 to 3
record OlderFits (rules : Rules) (nodes : ℕ) (p : ProcedurePlan) : Type 0 where
  wide : is_wide p ≡ false
  deep : is_deep p ≡ false
  entry : has_no_entry nodes p ≡ false
  half : has_half_need rules p ≡ false
  kept : nat_lt 0 (length p.kept.now) ≡ false
  mark : not (p.mark == 0) ≡ false

older_fits : (rules : Rules) (region : Region) (nodes : ℕ) (is_main : Bool) (p : ProcedurePlan) → IsProcedure rules region nodes is_main (procedure_of p) → OlderFits rules nodes p
older_fits rules region nodes is_main p h = record {
  wide = (let few = range_few rules is_main in grind (arith, nat_tests, h.range_count, few));
  deep = grind (arith, nat_tests, h.need);
  entry = grind (arith, nat_tests, h.entry);
  half = not_is (is_whole rules p.need) h.whole;
  kept = rw h.kept refl;
  mark = rw h.mark refl;
}

fits : (v : Version) (facts : ℕ) (region : Region) (nodes : ℕ) (is_main : Bool) (p : ProcedurePlan) → IsProcedureBy (is_fourth v) (number_of v) facts region nodes is_main (procedure_of p) → Fits v nodes p
fits version.One facts region nodes is_main p h = let o = older_fits (rules_of 1) region nodes is_main p h in record { wide = o.wide; deep = o.deep; entry = o.entry; half = o.half; kept = o.kept; mark = o.mark; exit = exit_says version.One facts no_form region (exit_of p.exit) h.exit }
fits version.Two facts region nodes is_main p h = let o = older_fits (rules_of 2) region nodes is_main p h in record { wide = o.wide; deep = o.deep; entry = o.entry; half = o.half; kept = o.kept; mark = o.mark; exit = exit_says version.Two facts no_form region (exit_of p.exit) h.exit }
fits version.Three facts region nodes is_main p h = let o = older_fits (rules_of 3) region nodes is_main p h in record { wide = o.wide; deep = o.deep; entry = o.entry; half = o.half; kept = o.kept; mark = o.mark; exit = exit_says version.Three facts no_form region (exit_of p.exit) h.exit }
fits version.Four facts region nodes is_main p h =
    let few = room_few is_main region p.kept.now h.kept in
    record {
      wide = (let most = range_few Extended is_main in grind (arith, nat_tests, h.range_count, most));
      deep = grind (arith, nat_tests, h.need);
      entry = grind (arith, nat_tests, h.entry);
      half = not_is (is_whole Extended p.need) (bytes_whole p.need);
      kept = not_more 16 (length p.kept.now) few;
      mark = refl;
      exit = exit_says version.Four facts (procedure_form (procedure_of p)) region (exit_of p.exit) (with_few facts (procedure_form (procedure_of p)) region (exit_of p.exit) few h.exit);
    }

all_fit : (v : Version) (facts : ℕ) (region : Region) (nodes : ℕ) (is_main : Bool) (ps : List ProcedurePlan) → IsChain (IsProcedureBy (is_fourth v) (number_of v) facts region nodes) is_after is_main (map procedure_of ps) → AllByRecursion (Fits v nodes) ps
all_fit v facts region nodes is_main [] h = tt
all_fit v facts region nodes is_main (p ∷ ps) h = (fits v facts region nodes is_main p h.0, all_fit v facts region nodes false ps h.1)

both_false : {a b : Bool} → a ≡ false → b ≡ false → (a || b) ≡ false
both_false e f = rw (e, f) refl

-- A test that fails on each passes on none.
none : {X : Type 0} (P : X → Type 0) (test : X → Bool) (xs : List X) → ((x : X) → P x → test x ≡ false) → AllByRecursion P xs → list_any test xs ≡ false
none P test [] fails h = refl
none P test (x ∷ xs) fails h = both_false (fails x h.0) (none P test xs fails h.1)

exit_without : (v : Version) (p : AbsState → Bool) (o : Option AbsState) → ((s : AbsState) → Says v s → p s ≡ false) → IfSome o (Says v) → exit_has p o ≡ false
exit_without v p None fails h = refl
exit_without v p (Some s) fails h = fails s h

-- ---- bases

older_base : (rules : Rules) (is_main : Bool) (region : Region) (p : ProcedurePlan) → is_base_of rules is_main region p.base ≡ true → says_base rules is_main region p ≡ false
older_base Simple is_main region p h = not_is (p.base == usual_base is_main region) h
older_base Extended is_main region p h = refl

no_base : (v : Version) (facts : ℕ) (region : Region) (nodes : ℕ) (is_main : Bool) (p : ProcedurePlan) → IsProcedureBy (is_fourth v) (number_of v) facts region nodes is_main (procedure_of p) → says_base (rules_in v) is_main region p ≡ false
no_base version.One facts region nodes is_main p h = older_base (rules_of 1) is_main region p h.base
no_base version.Two facts region nodes is_main p h = older_base (rules_of 2) is_main region p h.base
no_base version.Three facts region nodes is_main p h = older_base (rules_of 3) is_main region p h.base
no_base version.Four facts region nodes is_main p h = refl

no_bases : (v : Version) (facts : ℕ) (region : Region) (nodes : ℕ) (ps : List ProcedurePlan) → IsChain (IsProcedureBy (is_fourth v) (number_of v) facts region nodes) is_after false (map procedure_of ps) → list_any (says_base (rules_in v) false region) ps ≡ false
no_bases v facts region nodes [] h = refl
no_bases v facts region nodes (p ∷ ps) h = both_false (no_base v facts region nodes false p h.0) (no_bases v facts region nodes ps h.1)

no_base_said : (v : Version) (facts : ℕ) (region : Region) (nodes : ℕ) (ps : List ProcedurePlan) → IsChain (IsProcedureBy (is_fourth v) (number_of v) facts region nodes) is_after true (map procedure_of ps) → say_base (rules_in v) region ps ≡ false
no_base_said v facts region nodes [] h = refl
no_base_said v facts region nodes (p ∷ ps) h = both_false (no_base v facts region nodes true p h.0) (no_bases v facts region nodes ps h.1)

-- ---- what a certificate gives of each node

record Stands (v : Version) (procedures : ℕ) (n : NodePlan) : Type 0 where
  owner : has_no_owner procedures n ≡ false
  state : Says v n.state.now

stands : (v : Version) (facts : ℕ) (of : ℕ → ProcedureForm) (region : Region) (procedures : ℕ) (before : ℕ × ℕ) (n : NodePlan) → ((p : ℕ) → is_fourth v ≡ true → (of p).kept ≤ 16) → IsNodeBy (is_fourth v) (number_of v) facts of region procedures before (node_of n) → Stands v procedures n
stands version.One facts of region procedures before n few h = record { owner = grind (arith, nat_tests, h.procedure); state = state_says version.One facts no_form (role_of n.procedure) region n.state.now h.state }
stands version.Two facts of region procedures before n few h = record { owner = grind (arith, nat_tests, h.procedure); state = state_says version.Two facts no_form (role_of n.procedure) region n.state.now h.state }
stands version.Three facts of region procedures before n few h = record { owner = grind (arith, nat_tests, h.procedure); state = state_says version.Three facts no_form (role_of n.procedure) region n.state.now h.state }
stands version.Four facts of region procedures before n few h = record { owner = grind (arith, nat_tests, h.procedure); state = state_says version.Four facts (of n.procedure) (role_of n.procedure) region n.state.now (few n.procedure refl, h.state) }

all_stand : (v : Version) (facts : ℕ) (of : ℕ → ProcedureForm) (region : Region) (procedures : ℕ) (before : ℕ × ℕ) (ns : List NodePlan) → ((p : ℕ) → is_fourth v ≡ true → (of p).kept ≤ 16) → IsChain (IsNodeBy (is_fourth v) (number_of v) facts of region procedures) key before (map node_of ns)
    → AllByRecursion (Stands v procedures) ns
all_stand v facts of region procedures before [] few h = tt
all_stand v facts of region procedures before (n ∷ ns) few h = (stands v facts of region procedures before n few h.0, all_stand v facts of region procedures (key (node_of n)) ns few h.1)

-- ---- certificates keep each limit

-- The parts of a plan that is a certificate do.
record FitsAll (plan : CertificatePlan) : Type 0 where
  procedures : AllByRecursion (Fits plan.version (length plan.nodes.now)) plan.procedures.now
  nodes : AllByRecursion (Stands plan.version (length plan.procedures.now)) plan.nodes.now

fits_all : (plan : CertificatePlan) → IsCertificate (certificate_of plan) → FitsAll plan
fits_all plan h =
    let count = length-map plan.nodes.now node_of in
    let owners = length-map plan.procedures.now procedure_of in
    let v = plan.version in
    let facts = length plan.facts.now in
    let of : ℕ → ProcedureForm = form_of plan.procedures.now in
    let few : (p : ℕ) → is_fourth plan.version ≡ true → (of p).kept ≤ 16 = few-kept (is_fourth plan.version) (number_of plan.version) facts plan.region (length (map node_of plan.nodes.now)) true (map procedure_of plan.procedures.now) h.procedures in
    record {
      procedures = all_fit plan.version facts plan.region (length plan.nodes.now) true plan.procedures.now (subst (λ n. IsChain (IsProcedureBy (is_fourth plan.version) (number_of plan.version) facts plan.region n) is_after true (map procedure_of plan.procedures.now)) count h.procedures);
      nodes = all_stand plan.version facts of plan.region (length plan.procedures.now) (0, 0) plan.nodes.now few (subst (λ n. IsChain (IsNodeBy (is_fourth plan.version) (number_of plan.version) facts of plan.region n) key (0, 0) (map node_of plan.nodes.now)) owners h.nodes);
    }

-- a test that fails on each state that the version can say
no_states : (plan : CertificatePlan) (p : AbsState → Bool) → ((s : AbsState) → Says plan.version s → p s ≡ false) → FitsAll plan → have_states p plan.procedures.now plan.nodes.now ≡ false
no_states plan p fails h =
    both_false (none (Fits plan.version (length plan.nodes.now)) (returns_with p) plan.procedures.now (λ q f. exit_without plan.version p (exit_of q.exit) fails f.exit) h.procedures)
    (none (Stands plan.version (length plan.procedures.now)) (stands_with p) plan.nodes.now (λ n f. fails n.state.now f.state) h.nodes)

no_procedures : (plan : CertificatePlan) (test : ProcedurePlan → Bool) → ((p : ProcedurePlan) → Fits plan.version (length plan.nodes.now) p → test p ≡ false) → FitsAll plan → list_any test plan.procedures.now ≡ false
no_procedures plan test fails h = none (Fits plan.version (length plan.nodes.now)) test plan.procedures.now fails h.procedures

not_so : {X : Type 0} → false ≡ true → X
not_so e = cc

facts_few : (b : Bool) (region : Region) (facts : List Fact) → AreFactsBy b region facts → length facts ≤ fact_room_by b
facts_few true region facts h = h.few
facts_few false region facts h = rw h (omega arith)

pub refused_by : (plan : CertificatePlan) (f : WriteFault) → IsCertificate (certificate_of plan) → IsWriteFault plan f → f ≡ fault.Memory
refused_by plan fault.Memory h e = refl
refused_by plan fault.Facts h e = let few = facts_few (is_fourth plan.version) plan.region plan.facts.now h.facts in absurd (omega (arith, few, e))
refused_by plan fault.Procedures h e =
    let few : length plan.procedures.now ≤ procedure_limit_by (is_fourth plan.version) = subst (λ n. n ≤ procedure_limit_by (is_fourth plan.version)) (length-map plan.procedures.now procedure_of) h.procedure_count in
    absurd (omega (arith, few, e))
refused_by plan fault.Nodes h e =
    let few : length plan.nodes.now ≤ node_limit (number_of plan.version) = subst (λ n. n ≤ node_limit (number_of plan.version)) (length-map plan.nodes.now node_of) h.node_count in
    absurd (omega (arith, few, e))
refused_by plan fault.HalfWord h e =
    let all = fits_all plan h in
    not_so (sym (both_false (no_procedures plan (has_half_need (rules_in plan.version)) (λ p f. f.half) all) (no_states plan (is_half (rules_in plan.version)) (λ s f. f.half) all)) ∙ e)
refused_by plan fault.Items h e = not_so (sym (no_states plan (has_many_items (rules_in plan.version)) (λ s f. f.items) (fits_all plan h)) ∙ e)
refused_by plan fault.Cells h e = not_so (sym (no_states plan (has_many_cells (rules_in plan.version)) (λ s f. f.cells) (fits_all plan h)) ∙ e)
refused_by plan fault.Relations h e = not_so (sym (no_states plan (is_related plan.version) (λ s f. f.related) (fits_all plan h)) ∙ e)
refused_by plan fault.Values h e = not_so (sym (no_states plan (has_unsayable plan.version) (λ s f. f.unsayable) (fits_all plan h)) ∙ e)
refused_by plan fault.Base h e = not_so (sym (no_base_said plan.version (length plan.facts.now) plan.region _ plan.procedures.now h.procedures) ∙ e)
refused_by plan fault.Ranges h e = not_so (sym (no_procedures plan is_wide (λ p f. f.wide) (fits_all plan h)) ∙ e)
refused_by plan fault.Need h e = not_so (sym (no_procedures plan is_deep (λ p f. f.deep) (fits_all plan h)) ∙ e)
refused_by plan fault.Entry h e = not_so (sym (no_procedures plan (has_no_entry (length plan.nodes.now)) (λ p f. f.entry) (fits_all plan h)) ∙ e)
refused_by plan fault.Kept h e = not_so (sym (no_procedures plan (names_many plan.version) (λ p f. f.kept) (fits_all plan h)) ∙ e)
refused_by plan fault.Mark h e = not_so (sym (no_procedures plan (has_mark plan.version) (λ p f. f.mark) (fits_all plan h)) ∙ e)
refused_by plan fault.Owner h e = not_so (sym (none (Stands plan.version (length plan.procedures.now)) (has_no_owner (length plan.procedures.now)) plan.nodes.now (λ n f. f.owner) (fits_all plan h).nodes) ∙ e)

-- ---- a fault of a procedure or a node is one of the certificate

pub procedure_fault : (plan : CertificatePlan) (f : WriteFault) → IsProcedureFault plan.version (length plan.nodes.now) plan.procedures.now f → IsWriteFault plan f
procedure_fault plan fault.Memory e = tt
procedure_fault plan fault.Ranges e = e
procedure_fault plan fault.Need e = e
procedure_fault plan fault.Entry e = e
procedure_fault plan fault.Kept e = e
procedure_fault plan fault.Mark e = e
procedure_fault plan _ e = absurd e

pub node_fault : (plan : CertificatePlan) (f : WriteFault) → IsNodeFault (length plan.procedures.now) plan.nodes.now f → IsWriteFault plan f
node_fault plan fault.Memory e = tt
node_fault plan fault.Owner e = e
node_fault plan _ e = absurd e
