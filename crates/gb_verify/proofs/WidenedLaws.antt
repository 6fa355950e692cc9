-- A certificate stays one in version 3.
use Rattle.std.proofs.Common.{◌≡◌, ℕ, if◌then◌else◌, zero, suc, ◌+◌, ◌≤◌, Bool, true, false, not, ◌&&◌, ◌||◌, ◌==◌, nat_le, nat_lt, List, [], ◌∷◌, ◌++◌, length, map, Option, Some, None, refl, sym, ◌∙◌, ap, subst, arith}
use Rattle.std.specs.Prelude.{slice_get, IfSome, min}
use Rattle.std.specs.List.{list_all}
use Rattle.std.proofs.lemmas.Bool.{and_parts}
use Rattle.std.proofs.lemmas.Bool.Decides.{nat_tests}
use Rattle.gb_ops.specs.declared.machine.Region.{Region}
use Rattle.gb_ops.specs.declared.registers.Registers.{Registers}
use Rattle.gb_rules.specs.Below.gb_domain.declared.types.Val.{Val}
use Rattle.gb_rules.specs.Below.gb_domain.declared.types.Cell.{Cell}
use Rattle.gb_rules.specs.Below.gb_domain.declared.rules.Rules.{Rules}
use Rattle.gb_rules.specs.Below.gb_domain.declared.rules.Rules.TheVariants.{Simple, Extended}
use Rattle.gb_rules.specs.Below.gb_domain.Types.{AbsState, ProcedureParts, Node}
use Rattle.gb_rules.specs.Below.gb_domain.Certificate.{Certificate}
use Rattle.gb_rules.specs.Below.gb_domain.Limits.{rules_of, item_room, cell_room}
use Rattle.gb_rules.specs.Below.gb_domain.Rules.{IsChain, IsVal}
use Rattle.gb_rules.specs.Below.gb_domain.Values.{have_same}
use Rattle.gb_rules.specs.Below.gb_fields.Limits.{unit, node_limit, range_room}
use Rattle.gb_rules.specs.Below.gb_states.declared.role.Role.{Role}
use Rattle.gb_rules.specs.Below.gb_states.declared.role.Role.TheVariants as role
use Rattle.gb_rules.specs.Below.gb_states.Rules.{is_whole, may_be_pushed, is_return_origin, is_declared_origin, is_all_or_none, may_be_of, is_sayable, are_sayable, is_core_sayable, is_cell_sayable, is_silent, is_state_sayable, IsState, IsProcedure, IsNode, IsCertificate, is_of, have_entries, is_after, key}
use Rattle.gb_rules.proofs.Below.gb_states_laws.RelationLaws.{alone_known}
use Rattle.gb_rules.proofs.Below.gb_states_laws.StateLaws.{limit_bound}
use Rattle.gb_verify.specs.Widened.{return_word, above_return_word, widened_node, widened_need, widened_procedure, widened_procedures, widened_by, widened}

-- ---- states

any_whole : (n : ℕ) → is_whole Extended n ≡ true
unfolding unit
any_whole n = grind (arith, nat_tests)

both : {a b : Bool} → a ≡ true → b ≡ true → (a && b) ≡ true
both e f = rw (e, f) refl

neither : (a b : Bool) → not (a || b) ≡ true → not b ≡ true
neither true b h = cc
neither false b h = h

val_sayable : (v : Val) → is_sayable Simple v ≡ true → is_sayable Extended v ≡ true
val_sayable v h =
    let p = and_parts (may_be_of Simple v.origin) (v.low_bits == 0) h in
    both (neither (is_return_origin v.origin) (is_declared_origin v.origin) p.0) p.1

vals_sayable : (vs : List Val) → list_all (is_sayable Simple) vs ≡ true → list_all (is_sayable Extended) vs ≡ true
vals_sayable [] h = refl
vals_sayable (v ∷ vs) h =
    let p = and_parts (is_sayable Simple v) (list_all (is_sayable Simple) vs) h in
    both (val_sayable v p.0) (vals_sayable vs p.1)

cells_sayable : (cs : List Cell) → list_all (is_cell_sayable Simple) cs ≡ true → list_all (is_cell_sayable Extended) cs ≡ true
cells_sayable [] h = refl
cells_sayable (c ∷ cs) h =
    let p = and_parts (is_sayable Simple c.val) (list_all (is_cell_sayable Simple) cs) h in
    both (val_sayable c.val p.0) (cells_sayable cs p.1)

registers_sayable : (s : Registers Val) → are_sayable Simple s ≡ true → are_sayable Extended s ≡ true
registers_sayable s h =
    let of : Val → Bool = is_sayable Simple in
    let a = and_parts (of s.a) (of s.b && (of s.c && (of s.d && (of s.e && (of s.h && of s.l))))) h in
    let b = and_parts (of s.b) (of s.c && (of s.d && (of s.e && (of s.h && of s.l)))) a.1 in
    let c = and_parts (of s.c) (of s.d && (of s.e && (of s.h && of s.l))) b.1 in
    let d = and_parts (of s.d) (of s.e && (of s.h && of s.l)) c.1 in
    let e = and_parts (of s.e) (of s.h && of s.l) d.1 in
    let l = and_parts (of s.h) (of s.l) e.1 in
    both (val_sayable s.a a.0) (both (val_sayable s.b b.0) (both (val_sayable s.c c.0) (both (val_sayable s.d d.0) (both (val_sayable s.e e.0) (both (val_sayable s.h l.0) (val_sayable s.l l.1))))))

pub sayable : (s : AbsState) → is_state_sayable Simple s ≡ true → is_state_sayable Extended s ≡ true
sayable s h =
    let p = and_parts (is_core_sayable Simple s.core) (list_all (is_sayable Simple) s.items && (list_all (is_cell_sayable Simple) s.cells && is_silent s.summary)) h in
    let k = and_parts (is_all_or_none s.core.ctl.kept) (is_sayable Simple s.core.ie && are_sayable Simple s.core.registers) p.0 in
    let c = and_parts (is_sayable Simple s.core.ie) (are_sayable Simple s.core.registers) k.1 in
    let l = and_parts (list_all (is_sayable Simple) s.items) (list_all (is_cell_sayable Simple) s.cells && is_silent s.summary) p.1 in
    let m = and_parts (list_all (is_cell_sayable Simple) s.cells) (is_silent s.summary) l.1 in
    both (both k.0 (both (val_sayable s.core.ie c.0) (registers_sayable s.core.registers c.1))) (both (vals_sayable s.items l.0) (both (cells_sayable s.cells m.0) m.1))

pushed : (role : Role) (stack_set : Bool) (n : ℕ) → may_be_pushed Simple role stack_set n ≡ true → may_be_pushed Extended role stack_set n ≡ true
pushed role.Main b n h = h
pushed role.Other b n h = h
pushed role.Exit true n h = refl
pushed role.Exit false n h = h

items_fit : (n : ℕ) → n ≤ item_room Simple → n + 2 ≤ item_room Extended
unfolding item_room
items_fit n h = omega arith

cells_fit : (n : ℕ) → n ≤ cell_room Simple → n ≤ cell_room Extended
unfolding cell_room
cells_fit n h = omega arith

state_extended : (role : Role) (region : Region) (s : AbsState) → IsState Simple role region s → IsState Extended role region s
state_extended role region s h = record {
  core = h.core;
  stack = h.stack;
  pushed = pushed role s.core.stack_set (length s.items) h.pushed;
  items = h.items;
  whole = any_whole (length s.items);
  item_count = omega (arith, items_fit (length s.items) h.item_count);
  cells = h.cells;
  cell_count = cells_fit (length s.cells) h.cell_count;
  relations = h.relations;
  known = alone_known s.relations h.known;
  sayable = sayable s h.sayable;
}

stack_set : (b : Bool) (n : ℕ) → (b || false) ≡ true → may_be_pushed Extended role.Other b n ≡ true
stack_set true n h = refl
stack_set false n h = cc

any_byte : (v : Val) → v.lo ≡ 0 → v.hi ≡ 255 → v.low_bits ≡ 0 → IsVal v
any_byte v e f g = record { order = omega (arith, e, f); hi = omega (arith, f); strided = subst (λ n. (n == 0 || nat_le n 7 && (nat_lt v.lo v.hi && have_same n v.hi v.lo)) ≡ true) (sym g) refl }

state_entered : (region : Region) (s : AbsState) → IsState Simple role.Other region s → IsState Extended role.Other region (above_return_word true s)
state_entered region s h =
    let e = state_extended role.Other region s h in
    record {
      core = e.core;
      stack = e.stack;
      pushed = stack_set s.core.stack_set (length (return_word ++ s.items)) e.stack;
      items = (any_byte _ refl refl refl, (any_byte _ refl refl refl, e.items));
      whole = any_whole (length (return_word ++ s.items));
      item_count = omega (arith, items_fit (length s.items) h.item_count);
      cells = e.cells;
      cell_count = e.cell_count;
      relations = e.relations;
      known = e.known;
      sayable = e.sayable;
    }

-- a node's state, by whether it is main's
state_widened : (is_main : Bool) (region : Region) (s : AbsState) → IsState Simple (if is_main then role.Main else role.Other) region s → IsState Extended (if is_main then role.Main else role.Other) region (above_return_word (not is_main) s)
state_widened true region s h = state_extended role.Main region s h
state_widened false region s h = state_entered region s h

node_widened : (region : Region) (procedures : ℕ) (before : ℕ × ℕ) (n : Node) → IsNode Simple region procedures before n → IsNode Extended region procedures before (widened_node n)
unfolding widened_node
node_widened region procedures before n h = record {
  procedure = h.procedure;
  order = h.order;
  address = h.address;
  bank = h.bank;
  state = state_widened (n.procedure == 0) region n.state h.state;
}

nodes_widened : (region : Region) (procedures : ℕ) (before : ℕ × ℕ) (ns : List Node) → IsChain (IsNode Simple region procedures) key before ns → IsChain (IsNode Extended region procedures) key before (map widened_node ns)
unfolding widened_node
nodes_widened region procedures before [] h = tt
nodes_widened region procedures before (n ∷ ns) h = (node_widened region procedures before n h.0, nodes_widened region procedures (key n) ns h.1)

pub map_long : {X Y : Type 0} (f : X → Y) (xs : List X) → length (map f xs) ≡ length xs
map_long f [] = refl
map_long f (x ∷ xs) = ap suc (map_long f xs)

-- ---- procedures

exit_extended : (region : Region) (o : Option AbsState) → IfSome o (IsState Simple role.Exit region) → IfSome o (IsState Extended role.Exit region)
exit_extended region None h = tt
exit_extended region (Some s) h = state_extended role.Exit region s h

main_widened : (region : Region) (nodes : ℕ) (p : ProcedureParts) → IsProcedure Simple region nodes true p → IsProcedure Extended region nodes true (widened_procedure true p)
unfolding widened_procedure range_room
main_widened region nodes p h = record {
  entry = h.entry;
  base = h.base;
  need = h.need;
  whole = any_whole p.need;
  room = h.room;
  ranges = tt;
  range_count = omega arith;
  kept = h.kept;
  mark = h.mark;
  exit = exit_extended region p.exit h.exit;
  main = h.main;
}

no_base : (b c : Bool) → b ≡ true → (b || c) ≡ true
no_base true c h = refl
no_base false c h = cc

least_need : (n : ℕ) → min 8192 n ≤ 8192
least_need n = grind (arith, nat_tests)

other_widened : (region : Region) (nodes : ℕ) (p : ProcedureParts) → IsProcedure Simple region nodes false p → IsProcedure Extended region nodes false (widened_procedure false p)
unfolding widened_procedure range_room
other_widened region nodes p h = record {
  entry = h.entry;
  base = no_base (p.base == 0) _ h.base;
  need = least_need (p.need + 2);
  whole = any_whole (widened_need p.need);
  room = refl;
  ranges = h.ranges;
  range_count = h.range_count;
  kept = h.kept;
  mark = h.mark;
  exit = exit_extended region p.exit h.exit;
  main = h.main;
}

others_widened : (region : Region) (nodes : ℕ) (ps : List ProcedureParts) → IsChain (IsProcedure Simple region nodes) is_after false ps → IsChain (IsProcedure Extended region nodes) is_after false (map (widened_procedure false) ps)
others_widened region nodes [] h = tt
others_widened region nodes (p ∷ ps) h = (other_widened region nodes p h.0, others_widened region nodes ps h.1)

procedures_widened : (region : Region) (nodes : ℕ) (ps : List ProcedureParts) → IsChain (IsProcedure Simple region nodes) is_after true ps → IsChain (IsProcedure Extended region nodes) is_after true (widened_procedures ps)
procedures_widened region nodes [] h = tt
procedures_widened region nodes (p ∷ ps) h = (main_widened region nodes p h.0, others_widened region nodes ps h.1)

pub procedures_long : (ps : List ProcedureParts) → length (widened_procedures ps) ≡ length ps
procedures_long [] = refl
procedures_long (p ∷ ps) = ap suc (map_long (widened_procedure false) ps)

-- ---- entries

entry_widened : (number : ℕ) (ns : List Node) (e : ℕ) → is_of number (slice_get (map widened_node ns) e) ≡ is_of number (slice_get ns e)
unfolding widened_node
entry_widened number [] e = refl
entry_widened number (n ∷ ns) zero = refl
entry_widened number (n ∷ ns) (suc e) = entry_widened number ns e

others_entered : (number : ℕ) (ps : List ProcedureParts) (ns : List Node) → have_entries number (map (widened_procedure false) ps) (map widened_node ns) ≡ have_entries number ps ns
unfolding have_entries widened_procedure
others_entered number [] ns = refl
others_entered number (p ∷ ps) ns = rw (entry_widened number ns p.entry, others_entered (number + 1) ps ns) refl

entries_widened : (ps : List ProcedureParts) (ns : List Node) → have_entries 0 (widened_procedures ps) (map widened_node ns) ≡ have_entries 0 ps ns
unfolding have_entries widened_procedure
entries_widened [] ns = refl
entries_widened (p ∷ ps) ns = rw (entry_widened 0 ns p.entry, others_entered 1 ps ns) refl

-- ---- certificates

node_room : (version n : ℕ) → n ≤ node_limit version → n ≤ node_limit 3
unfolding node_limit
node_room version n h = limit_bound version n h

rules_of_3 : rules_of 3 ≡ Extended
unfolding rules_of
rules_of_3 = refl

certificate_widened : (c : Certificate) → rules_of c.version ≡ Simple → IsCertificate c → IsCertificate (widened_by Simple c)
unfolding rules_of
certificate_widened c simple h =
    let procedures = subst (λ rules. IsChain (IsProcedure rules c.region (length c.nodes)) is_after true c.procedures) simple h.procedures in
    let nodes = subst (λ rules. IsChain (IsNode rules c.region (length c.procedures)) key (0, 0) c.nodes) simple h.nodes in
    record {
      version = refl;
      region = h.region;
      whole = any_whole _;
      some_procedure = rw (procedures_long c.procedures) h.some_procedure;
      procedure_count = rw (procedures_long c.procedures) h.procedure_count;
      some_node = rw (map_long widened_node c.nodes) h.some_node;
      node_count = rw (map_long widened_node c.nodes) (node_room c.version (length c.nodes) h.node_count);
      procedures = rw (map_long widened_node c.nodes) (procedures_widened c.region (length c.nodes) c.procedures procedures);
      nodes = rw (procedures_long c.procedures) (nodes_widened c.region (length c.procedures) (0, 0) c.nodes nodes);
      entries = entries_widened c.procedures c.nodes ∙ h.entries;
      facts = h.facts;
    }

-- each certificate is one in version 3
pub is_widened : (c : Certificate) → IsCertificate c → IsCertificate (widened c)
is_widened c h = by (rules_of c.version) refl
  where
    by : (rules : Rules) → rules_of c.version ≡ rules → IsCertificate (widened_by rules c)
    by Simple e = certificate_widened c e h
    by Extended e = h
