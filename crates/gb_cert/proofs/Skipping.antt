-- Walking over fields is reading them, and forgetting their values.
use Rattle.std.proofs.Common.{◌≡◌, ℕ, suc, ◌-◌, ◌+◌, ◌≤◌, ◌<◌, Bool, true, false, List, ◌∷◌, Option, Some, Result, Ok, Err, refl, sym, ◌∙◌, ap, subst, arith}
use Rattle.gb_ops.specs.declared.machine.Region.{Region}
use Rattle.gb_states.specs.Below.gb_fields.declared.fault.CertFault.{CertFault}
use Rattle.gb_domain.specs.declared.types.Val.{Val}
use Rattle.gb_domain.specs.declared.types.Cell.{Cell}
use Rattle.gb_domain.specs.declared.rules.Rules.{Rules}
use Rattle.gb_domain.specs.declared.relations.Relations.{Relations}
use Rattle.gb_domain.specs.Limits.{rules_of}
use Rattle.gb_states.specs.declared.role.Role.{Role}
use Rattle.gb_states.specs.declared.role.Role.TheVariants as role
use Rattle.gb_domain.specs.Types.{AbsState, Node}
use Rattle.gb_states.specs.Below.gb_fields.Format.{Read, go_on, followed, both, mapped, optional, several}
use Rattle.gb_cert.specs.Borrowed.{front_at}
use Rattle.gb_cert.specs.Skipping.{skipped, past}
use Rattle.gb_cert.proofs.Placing.{mapped_wrong}
use Rattle.gb_states.specs.Rules.{role_of, key}
use Rattle.gb_states.specs.Below.gb_fields.Limits.{unit}
use Rattle.gb_domain.specs.Limits.{cell_room}
use Rattle.gb_domain.specs.Rules.{after_cell}
use Rattle.gb_states.specs.declared.form.Form.TheVariants.{Older}
use Rattle.gb_states.specs.Forms.{vals_by, cell_by}
use Rattle.gb_states.specs.Below.gb_fields.Reading.{times, count_within, word_between, returns_at, entry_at, base_at, need_at, key_at}
use Rattle.gb_states.specs.RelationReading.{relations_by}
use Rattle.gb_states.proofs.Formats.{went_on, same_pair}
use Rattle.gb_states.specs.Reading.{Tested, passed, core_at, vals_of, item_count_at, items_at, cell_at, cells_at, to_state, state_at, ranges_at, exit_at, needed_at, body_at, to_procedure, procedure_at, to_node, node_at}

pub skipped-mapped : {X Y : Type 0} (f : X → Y) (r : Read X) (bytes : List ℕ) → skipped (mapped f r) bytes ≡ skipped r bytes
skipped-mapped {X} f r bytes = by (r bytes)
  where
    by : (read : Result (X × List ℕ) CertFault) → go_on (go_on read (λ x rest. Ok (f x, rest))) (λ y rest. Ok rest) ≡ go_on read (λ x rest. Ok rest)
    by (Ok p) = refl
    by (Err e) = refl

pub skipped-both : {X Y : Type 0} (r : Read X) (t : Read Y) (bytes : List ℕ) → skipped (both r t) bytes ≡ past (skipped r bytes) (skipped t)
skipped-both {X} {Y} r t bytes = by (r bytes)
  where
    by : (read : Result (X × List ℕ) CertFault) → go_on {X = X × Y} (go_on read (λ x rest. go_on (t rest) (λ y end. Ok ((x, y), end)))) (λ y rest. Ok rest) ≡ past (go_on read (λ x rest. Ok rest)) (skipped t)
    by (Ok p) = skipped-mapped (λ y. (p.0, y)) t p.1
    by (Err e) = refl

pub skipped-followed : {X Y : Type 0} (r : Read X) (t : X → Read Y) (bytes : List ℕ) (x : X) (rest : List ℕ) → r bytes ≡ Ok (x, rest) → skipped (followed r t) bytes ≡ skipped (t x) rest
skipped-followed r t bytes x rest e = rw e (skipped-mapped (λ y. (x, y)) (t x) rest)

-- ---- so many

pub skips_on : {S X : Type 0} (step : S → Read X) (next : X → S) (s : S) (count i : ℕ) (bytes : List ℕ) (x : X) (after : List ℕ) (total : Result (List ℕ) CertFault) → i < count → step s bytes ≡ Ok (x, after)
    → skipped (several step next s (count - i)) bytes ≡ total → skipped (several step next (next x) (count - (i + 1))) after ≡ total
unfolding several
skips_on step next s count i bytes x after total lt h so_far =
    let k : count - i ≡ suc (count - (i + 1)) = omega arith in
    let one : skipped (several step next s (count - i)) bytes ≡ skipped (several step next (next x) (count - (i + 1))) after = rw (k, h) (skipped-mapped (λ xs. x ∷ xs) (several step next (next x) (count - (i + 1))) after) in
    sym one ∙ so_far

pub skip_ends : {S X : Type 0} (step : S → Read X) (next : X → S) (s : S) (count i : ℕ) (bytes : List ℕ) (e : CertFault) (total : Result (List ℕ) CertFault) → i < count → step s bytes ≡ Err e
    → skipped (several step next s (count - i)) bytes ≡ total → total ≡ Err e
unfolding several
skip_ends step next s count i bytes e total lt h so_far =
    let k : count - i ≡ suc (count - (i + 1)) = omega arith in
    let one : skipped (several step next s (count - i)) bytes ≡ Err e = rw (k, h) refl in
    sym so_far ∙ one

pub skip_done : {S X : Type 0} (step : S → Read X) (next : X → S) (s : S) (count i : ℕ) (bytes : List ℕ) (total : Result (List ℕ) CertFault) → count ≤ i
    → skipped (several step next s (count - i)) bytes ≡ total → total ≡ Ok bytes
unfolding several
skip_done step next s count i bytes total le so_far =
    let k : count - i ≡ 0 = omega arith in
    let one : skipped (several step next s (count - i)) bytes ≡ Ok bytes = rw k refl in
    sym so_far ∙ one

-- ---- the parts of a certificate

pub items_then : (rules : Rules) (role : Role) (stack_set : Bool) (bytes : List ℕ) (n : ℕ) (rest : List ℕ) → item_count_at rules role stack_set bytes ≡ Ok (n, rest) → skipped (items_at rules role stack_set) bytes ≡ skipped (vals_by (Older rules) (times (unit rules) n)) rest
unfolding items_at
items_then rules role stack_set bytes n rest e =
    skipped-mapped (λ p. p.1) (followed (item_count_at rules role stack_set) (λ count. vals_of rules (times (unit rules) count))) bytes
    ∙ skipped-followed (item_count_at rules role stack_set) (λ count. vals_of rules (times (unit rules) count)) bytes n rest e

pub cells_then : (rules : Rules) (region : Region) (bytes : List ℕ) (limit n : ℕ) (rest : List ℕ) → limit ≡ cell_room rules → count_within limit bytes ≡ Ok (n, rest) → skipped (cells_at rules region) bytes ≡ skipped (several (cell_by (Older rules) region) after_cell 0 n) rest
unfolding cells_at
cells_then rules region bytes limit n rest l e =
    skipped-mapped (λ p. p.1) (followed (count_within (cell_room rules)) (several (cell_at rules region) after_cell 0)) bytes
    ∙ skipped-followed (count_within (cell_room rules)) (several (cell_at rules region) after_cell 0) bytes n rest (ap (λ (m : ℕ). count_within m bytes) (sym l) ∙ e)

pub core_then :
    (rules : Rules) (role : Role) (region : Region) (bytes : List ℕ) (core : Tested) (rest : List ℕ) → core_at rules role bytes ≡ Ok (core, rest)
    → skipped (state_at rules role region) bytes ≡ past (skipped (items_at rules role core.0.stack_set) rest) (skipped (both (relations_by rules region core.1) (cells_at rules region)))
unfolding state_at
core_then rules role region bytes core rest e =
    let behind : (k : Tested) → Read (List Val × (Relations × List Cell)) = λ k. both (items_at rules role k.0.stack_set) (both (relations_by rules region k.1) (cells_at rules region)) in
    skipped-mapped to_state (followed (core_at rules role) behind) bytes
    ∙ skipped-followed (core_at rules role) behind bytes core rest e
    ∙ skipped-both (items_at rules role core.0.stack_set) (both (relations_by rules region core.1) (cells_at rules region)) rest

pub pass_then :
    (rules : Rules) (role : Role) (region : Region) (bytes : List ℕ) (k : Bool × Option ℕ) (rest : List ℕ) → mapped passed (core_at rules role) bytes ≡ Ok (k, rest)
    → skipped (state_at rules role region) bytes ≡ past (skipped (items_at rules role k.0) rest) (skipped (both (relations_by rules region k.1) (cells_at rules region)))
pass_then rules role region bytes k rest e =
    let core = went_on (core_at rules role bytes) (λ x rest. Ok (passed x, rest)) (k, rest) e in
    let p = same_pair (passed core.0) k core.1 rest core.3 in
    let then = core_then rules role region bytes core.0 core.1 core.2 in
    subst (λ (q : Bool × Option ℕ). skipped (state_at rules role region) bytes ≡ past (skipped (items_at rules role q.0) rest) (skipped (both (relations_by rules region q.1) (cells_at rules region)))) p.0
    (subst (λ (r : List ℕ). skipped (state_at rules role region) bytes ≡ past (skipped (items_at rules role core.0.0.stack_set) r) (skipped (both (relations_by rules region core.0.1) (cells_at rules region)))) p.1 then)

pub no_pass : (rules : Rules) (role : Role) (region : Region) (bytes : List ℕ) (e : CertFault) → mapped passed (core_at rules role) bytes ≡ Err e → skipped (state_at rules role region) bytes ≡ Err e
unfolding state_at
no_pass rules role region bytes e h = rw (mapped_wrong passed (core_at rules role bytes) e h) refl

pub ruleset skip_state = (pass_then, no_pass)

pub exit_then : (rules : Rules) (is_main : Bool) (region : Region) (bytes rest : List ℕ) → returns_at is_main bytes ≡ Ok (true, rest) → skipped (exit_at rules is_main region) bytes ≡ skipped (state_at rules role.Exit region) rest
unfolding exit_at
exit_then rules is_main region bytes rest e =
    skipped-mapped (λ p. p.1) (followed (returns_at is_main) (λ returns. optional returns (state_at rules role.Exit region))) bytes
    ∙ skipped-followed (returns_at is_main) (λ returns. optional returns (state_at rules role.Exit region)) bytes true rest e
    ∙ skipped-mapped Some (state_at rules role.Exit region) rest

pub no_exit : (rules : Rules) (is_main : Bool) (region : Region) (bytes rest : List ℕ) → returns_at is_main bytes ≡ Ok (false, rest) → skipped (exit_at rules is_main region) bytes ≡ Ok rest
unfolding exit_at
no_exit rules is_main region bytes rest e = rw e refl

pub exit_wrong : (rules : Rules) (is_main : Bool) (region : Region) (bytes : List ℕ) (e : CertFault) → returns_at is_main bytes ≡ Err e → skipped (exit_at rules is_main region) bytes ≡ Err e
unfolding exit_at
exit_wrong rules is_main region bytes e h = rw h refl

pub ruleset skip_exit = (exit_then, no_exit, exit_wrong)

pub front_then : (rules : Rules) (is_main : Bool) (region : Region) (bytes : List ℕ) → skipped (front_at rules is_main region) bytes ≡ past (skipped (base_at rules is_main region) bytes) (skipped (both (need_at rules is_main region) (ranges_at rules is_main region)))
front_then rules is_main region bytes = skipped-both (base_at rules is_main region) (both (need_at rules is_main region) (ranges_at rules is_main region)) bytes

pub ruleset skip_front = (front_then)

pub ranges_then : (rules : Rules) (is_main : Bool) (region : Region) (bytes : List ℕ) (need : ℕ) (first : List ℕ) → need_at rules is_main region bytes ≡ Ok (need, first) → skipped (both (need_at rules is_main region) (ranges_at rules is_main region)) bytes ≡ skipped (ranges_at rules is_main region) first
ranges_then rules is_main region bytes need first e = skipped-followed (need_at rules is_main region) (λ n. ranges_at rules is_main region) bytes need first e

pub no_ranges : (rules : Rules) (is_main : Bool) (region : Region) (bytes : List ℕ) (e : CertFault) → need_at rules is_main region bytes ≡ Err e → skipped (both (need_at rules is_main region) (ranges_at rules is_main region)) bytes ≡ Err e
no_ranges rules is_main region bytes e h = rw h refl

pub ruleset skip_need = (ranges_then, no_ranges)

pub need_then :
    (rules : Rules) (is_main : Bool) (region : Region) (bytes : List ℕ) (need : ℕ) (first : List ℕ) → need_at rules is_main region bytes ≡ Ok (need, first)
    → skipped (needed_at rules is_main region) bytes ≡ past (skipped (ranges_at rules is_main region) first) (skipped (exit_at rules is_main region))
need_then rules is_main region bytes need first e =
    skipped-followed (need_at rules is_main region) (λ n. both (ranges_at rules is_main region) (exit_at rules is_main region)) bytes need first e
    ∙ skipped-both (ranges_at rules is_main region) (exit_at rules is_main region) first

pub no_need : (rules : Rules) (is_main : Bool) (region : Region) (bytes : List ℕ) (e : CertFault) → need_at rules is_main region bytes ≡ Err e → skipped (needed_at rules is_main region) bytes ≡ Err e
no_need rules is_main region bytes e h = rw h refl

pub ruleset skip_needed = (need_then, no_need)

pub base_then : (rules : Rules) (is_main : Bool) (region : Region) (bytes : List ℕ) → skipped (body_at rules is_main region) bytes ≡ past (skipped (base_at rules is_main region) bytes) (skipped (needed_at rules is_main region))
base_then rules is_main region bytes = skipped-both (base_at rules is_main region) (needed_at rules is_main region) bytes

pub ruleset skip_body = (base_then)

pub entry_then : (version : ℕ) (region : Region) (nodes : ℕ) (is_main : Bool) (bytes : List ℕ) (entry : ℕ) (first : List ℕ) → entry_at version nodes bytes ≡ Ok (entry, first) → skipped (procedure_at version region nodes is_main) bytes ≡ skipped (body_at (rules_of version) is_main region) first
unfolding procedure_at
entry_then version region nodes is_main bytes entry first e =
    skipped-mapped to_procedure (both (entry_at version nodes) (body_at (rules_of version) is_main region)) bytes
    ∙ skipped-followed (entry_at version nodes) (λ n. body_at (rules_of version) is_main region) bytes entry first e

pub no_entry : (version : ℕ) (region : Region) (nodes : ℕ) (is_main : Bool) (bytes : List ℕ) (e : CertFault) → entry_at version nodes bytes ≡ Err e → skipped (procedure_at version region nodes is_main) bytes ≡ Err e
unfolding procedure_at
no_entry version region nodes is_main bytes e h = rw h refl

pub ruleset skip_procedure = (entry_then, no_entry)

-- ---- for a walk that tells where it stops

pub bank_then : (rules : Rules) (region : Region) (procedures : ℕ) (before : ℕ × ℕ) (bytes : List ℕ) (k : ℕ × ℕ) (first : List ℕ) (bank : ℕ) (second : List ℕ) → key_at procedures before bytes ≡ Ok (k, first) → word_between 0 511 first ≡ Ok (bank, second)
    → mapped key (node_at rules region procedures before) bytes ≡ past (skipped (state_at rules (role_of k.0) region) second) (λ rest. Ok (k, rest))
unfolding node_at
bank_then rules region procedures before bytes k first bank second e f = rw (e, f) (by (state_at rules (role_of k.0) region second))
  where
    by : (read : Result (AbsState × List ℕ) CertFault) → go_on {X = Node} (go_on {X = (ℕ × ℕ) × (ℕ × AbsState)} (go_on {X = ℕ × AbsState} (go_on read (λ y end. Ok ((bank, y), end))) (λ y end. Ok ((k, y), end))) (λ x rest. Ok (to_node x, rest))) (λ x rest. (let r : Result ((ℕ × ℕ) × List ℕ) CertFault = Ok (key x, rest) in r)) ≡ past (go_on read (λ x rest. (let r : Result (List ℕ) CertFault = Ok rest in r))) (λ rest. Ok (k, rest))
    by (Ok p) = refl
    by (Err e) = refl
