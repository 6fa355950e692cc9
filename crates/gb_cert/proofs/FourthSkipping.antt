-- Walking over fields of version 4, and over procedures and nodes of any version, is reading them, and forgetting their values.
use Rattle.std.proofs.Common.{◌≡◌, ℕ, zero, suc, Bool, true, false, ◌==◌, List, [], ◌∷◌, length, Option, Some, Result, Ok, Err, refl, sym, ◌∙◌, ap, subst}
use Rattle.gb_ops.specs.declared.machine.Region.{Region}
use Rattle.gb_states.specs.declared.form.ProcedureForm.{ProcedureForm}
use Rattle.gb_states.specs.Below.gb_fields.declared.fault.CertFault.{CertFault}
use Rattle.gb_domain.specs.declared.types.Cell.{Cell}
use Rattle.gb_domain.specs.declared.types.Val.{Val}
use Rattle.gb_domain.specs.declared.types.Range.{Range}
use Rattle.gb_domain.specs.declared.relations.Relations.{Relations}
use Rattle.gb_domain.specs.declared.rules.Rules.TheVariants.{Extended}
use Rattle.gb_domain.specs.Limits.{rules_of}
use Rattle.gb_domain.specs.Summaries.{SummaryParts}
use Rattle.gb_domain.specs.Types.{AbsState, ProcedureParts, Node}
use Rattle.gb_states.specs.declared.role.Role.{Role}
use Rattle.gb_states.specs.declared.role.Role.TheVariants as role
use Rattle.gb_states.specs.Below.gb_fields.Format.{Read, go_on, followed, both, mapped, optional, several, byte}
use Rattle.gb_domain.specs.Limits.{cell_room}
use Rattle.gb_domain.specs.Rules.{after_cell}
use Rattle.gb_states.specs.declared.form.Form.TheVariants.{Fourth}
use Rattle.gb_states.specs.Below.gb_fields.Reading.{count_within, word_between, returns_at, entry_at, base_at, need_at}
use Rattle.gb_states.specs.Below.gb_fields.Reading.{key_at as older_key_at}
use Rattle.gb_states.specs.Rules.{role_of, key}
use Rattle.gb_states.specs.Reading as simple
use Rattle.gb_states.specs.Reading.{Tested, item_count_at, ranges_at, to_node}
use Rattle.gb_states.specs.Forms.{form_by, val_by, cell_by, vals_by, state_by, passed}
use Rattle.gb_states.specs.WholeRules.{stack_bytes, procedure_form, no_form, form_in}
use Rattle.gb_states.specs.WholeReading.{core_at, items_at, told_at, cell_at, cells_at, to_state, behind_items, state_at, exit_at, kept_addresses_at, named_at, to_procedure, procedure_at, key_at, node_at, key_by, procedure_by, node_by}
use Rattle.gb_states.proofs.Formats.{went_on, same_pair}
use Rattle.gb_cert.specs.Places.{form_if}
use Rattle.gb_cert.specs.Skipping.{skipped, past, form_named, count_items}
use Rattle.gb_cert.proofs.Placing.{mapped_wrong}
use Rattle.gb_cert.proofs.Skipping.{skipped-mapped, skipped-followed}

-- ---- states

abbrev Behind : Type 0
Behind = List Val × ((Relations × SummaryParts) × List Cell)

abbrev then_items : ℕ → ProcedureForm → Role → Region → Tested → Read Behind
then_items facts form role region k = followed (items_at form.kept role k.0.stack_set) (λ items. behind_items facts form role region k (length items))

core_then : (facts : ℕ) (form : ProcedureForm) (role : Role) (region : Region) (bytes : List ℕ) (core : Tested) (rest : List ℕ) → core_at form.kept role bytes ≡ Ok (core, rest) → skipped (state_at facts form role region) bytes ≡ skipped (then_items facts form role region core) rest
unfolding state_at
core_then facts form role region bytes core rest e =
    skipped-mapped to_state (followed (core_at form.kept role) (then_items facts form role region)) bytes
    ∙ skipped-followed (core_at form.kept role) (then_items facts form role region) bytes core rest e

abbrev Passed : Type 0
Passed = Bool × (Bool × Option ℕ)

-- what is behind so many items, where a core was passed
abbrev past_items : ℕ → ProcedureForm → Role → Region → Passed → ℕ → Read ((Relations × SummaryParts) × List Cell)
past_items facts form role region k count = both (told_at facts (stack_bytes form role region count) k.1.0 k.1.1) (cells_at form.kept region)

abbrev behind_passed : ℕ → ProcedureForm → Role → Region → Passed → Read Behind
behind_passed facts form role region k = followed (items_at form.kept role k.0) (λ items. past_items facts form role region k (length items))

pass-behind : (facts : ℕ) (form : ProcedureForm) (role : Role) (region : Region) (bytes : List ℕ) (k : Passed) (rest : List ℕ) → mapped (passed role) (core_at form.kept role) bytes ≡ Ok (k, rest) → skipped (state_at facts form role region) bytes ≡ skipped (behind_passed facts form role region k) rest
pass-behind facts form role region bytes k rest e =
    let core = went_on (core_at form.kept role bytes) (λ x rest. Ok (passed role x, rest)) (k, rest) e in
    let p = same_pair (passed role core.0) k core.1 rest core.3 in
    let then = core_then facts form role region bytes core.0 core.1 core.2 in
    subst (λ (q : Passed). skipped (state_at facts form role region) bytes ≡ skipped (behind_passed facts form role region q) rest) p.0
    (subst (λ (r : List ℕ). skipped (state_at facts form role region) bytes ≡ skipped (behind_passed facts form role region (passed role core.0)) r) p.1 then)

-- the core was passed, and so many items
pub items_then : (facts : ℕ) (form : ProcedureForm) (role : Role) (region : Region) (bytes : List ℕ) (k : Passed) (first : List ℕ) (count : ℕ) (rest : List ℕ) → mapped (passed role) (core_at form.kept role) bytes ≡ Ok (k, first) → mapped count_items (items_at form.kept role k.0) first ≡ Ok (count, rest)
    → skipped (state_at facts form role region) bytes ≡ skipped (past_items facts form role region k count) rest
items_then facts form role region bytes k first count rest e f =
    let items = went_on (items_at form.kept role k.0 first) (λ x rest. Ok (count_items x, rest)) (count, rest) f in
    let p = same_pair (count_items items.0) count items.1 rest items.3 in
    let then = pass-behind facts form role region bytes k first e ∙ skipped-followed (items_at form.kept role k.0) (λ items. past_items facts form role region k (length items)) first items.0 items.1 items.2 in
    subst (λ (n : ℕ). skipped (state_at facts form role region) bytes ≡ skipped (past_items facts form role region k n) rest) p.0 (subst (λ (r : List ℕ). skipped (state_at facts form role region) bytes ≡ skipped (past_items facts form role region k (count_items items.0)) r) p.1 then)

pub no_items : (facts : ℕ) (form : ProcedureForm) (role : Role) (region : Region) (bytes : List ℕ) (k : Passed) (first : List ℕ) (e : CertFault) → mapped (passed role) (core_at form.kept role) bytes ≡ Ok (k, first) → mapped count_items (items_at form.kept role k.0) first ≡ Err e → skipped (state_at facts form role region) bytes ≡ Err e
no_items facts form role region bytes k first e h f = pass-behind facts form role region bytes k first h ∙ rw (mapped_wrong count_items (items_at form.kept role k.0 first) e f) refl

pub no_pass : (facts : ℕ) (form : ProcedureForm) (role : Role) (region : Region) (bytes : List ℕ) (e : CertFault) → mapped (passed role) (core_at form.kept role) bytes ≡ Err e → skipped (state_at facts form role region) bytes ≡ Err e
unfolding state_at
no_pass facts form role region bytes e h = rw (mapped_wrong (passed role) (core_at form.kept role bytes) e h) refl

pub ruleset skip_state = (items_then, no_items, no_pass)

-- ---- items

several_many : {S X : Type 0} (step : S → Read X) (next : X → S) (n : ℕ) (s : S) (bytes : List ℕ) (xs : List X) (rest : List ℕ) → several step next s n bytes ≡ Ok (xs, rest) → length xs ≡ n
unfolding several
several_many {S} {X} step next zero s bytes xs rest e = sym (ap (λ (l : List X). length l) (same_pair [] xs bytes rest e).0)
several_many {S} {X} step next (suc n) s bytes xs rest e =
    let c = went_on (step s bytes) (λ x rest. go_on (several step next (next x) n rest) (λ xs end. Ok (x ∷ xs, end))) (xs, rest) e in
    let d = went_on (several step next (next c.0) n c.1) (λ ys end. Ok (c.0 ∷ ys, end)) (xs, rest) c.3 in
    let p = same_pair (c.0 ∷ d.0) xs d.1 rest d.3 in
    sym (ap (λ (l : List X). length l) p.0) ∙ ap suc (several_many step next n (next c.0) c.1 d.0 d.1 d.2)

abbrev vals_read : ProcedureForm → ℕ → Read (List Val)
vals_read form count = vals_by (Fourth 0 form) count

items_counted : (form : ProcedureForm) (role : Role) (stack_set : Bool) (bytes : List ℕ) (count : ℕ) (first : List ℕ) → item_count_at Extended role stack_set bytes ≡ Ok (count, first) → items_at form.kept role stack_set bytes ≡ go_on (vals_read form count first) (λ x rest. Ok (x, rest))
unfolding items_at
items_counted form role stack_set bytes count first e = rw e (by (vals_read form count first))
  where
    by : (read : Result (List Val × List ℕ) CertFault) → go_on {X = ℕ × List Val} (go_on read (λ y end. Ok ((count, y), end))) (λ x rest. (let q : Result (List Val × List ℕ) CertFault = Ok (x.1, rest) in q)) ≡ go_on read (λ x rest. Ok (x, rest))
    by (Ok p) = refl
    by (Err e) = refl

pub vals_then : (form : ProcedureForm) (role : Role) (stack_set : Bool) (bytes : List ℕ) (count : ℕ) (first rest : List ℕ) → item_count_at Extended role stack_set bytes ≡ Ok (count, first) → skipped (vals_by (Fourth 0 form) count) first ≡ Ok rest → mapped count_items (items_at form.kept role stack_set) bytes ≡ Ok (count, rest)
vals_then form role stack_set bytes count first rest e f =
    let c = went_on (vals_read form count first) (λ x rest. Ok rest) rest f in
    let then : c.1 ≡ rest = one c.1 rest c.3 in
    let many = several_many {S = Unit {0}} (λ s. val_by (Fourth 0 form)) (λ v. tt) count tt first c.0 c.1 c.2 in
    ap (λ (r : Result (List Val × List ℕ) CertFault). go_on r (λ x rest. (let q : Result (ℕ × List ℕ) CertFault = Ok (count_items x, rest) in q))) (items_counted form role stack_set bytes count first e ∙ ap (λ (r : Result (List Val × List ℕ) CertFault). go_on r (λ x rest. (let q : Result (List Val × List ℕ) CertFault = Ok (x, rest) in q))) c.2) ∙ rw (many, then) refl
  where
    one : (a b : List ℕ) → (let q : Result (List ℕ) CertFault = Ok a in q) ≡ Ok b → a ≡ b
    one a b e = cc

pub no_vals : (form : ProcedureForm) (role : Role) (stack_set : Bool) (bytes : List ℕ) (count : ℕ) (first : List ℕ) (d : CertFault) → item_count_at Extended role stack_set bytes ≡ Ok (count, first) → skipped (vals_by (Fourth 0 form) count) first ≡ Err d → mapped count_items (items_at form.kept role stack_set) bytes ≡ Err d
no_vals form role stack_set bytes count first d e f =
    ap (λ (r : Result (List Val × List ℕ) CertFault). go_on r (λ x rest. (let q : Result (ℕ × List ℕ) CertFault = Ok (count_items x, rest) in q))) (items_counted form role stack_set bytes count first e) ∙ by (vals_read form count first) f
  where
    by : (read : Result (List Val × List ℕ) CertFault) → go_on read (λ x rest. (let q : Result (List ℕ) CertFault = Ok rest in q)) ≡ Err d → go_on {X = List Val} (go_on read (λ x rest. (let q : Result (List Val × List ℕ) CertFault = Ok (x, rest) in q))) (λ x rest. (let q : Result (ℕ × List ℕ) CertFault = Ok (count_items x, rest) in q)) ≡ Err d
    by (Ok p) f = cc
    by (Err e) f = cc

pub no_count : (form : ProcedureForm) (role : Role) (stack_set : Bool) (bytes : List ℕ) (d : CertFault) → item_count_at Extended role stack_set bytes ≡ Err d → mapped count_items (items_at form.kept role stack_set) bytes ≡ Err d
unfolding items_at
no_count form role stack_set bytes d e = rw e refl

pub ruleset skip_items = (vals_then, no_vals, no_count)

pub cells_then : (form : ProcedureForm) (region : Region) (bytes : List ℕ) (limit n : ℕ) (rest : List ℕ) → limit ≡ cell_room Extended → count_within limit bytes ≡ Ok (n, rest) → skipped (cells_at form.kept region) bytes ≡ skipped (several (cell_by (Fourth 0 form) region) after_cell 0 n) rest
unfolding cells_at
cells_then form region bytes limit n rest l e =
    skipped-mapped (λ p. p.1) (followed (count_within (cell_room Extended)) (several (cell_at form.kept region) after_cell 0)) bytes
    ∙ skipped-followed (count_within (cell_room Extended)) (several (cell_at form.kept region) after_cell 0) bytes n rest (ap (λ (m : ℕ). count_within m bytes) (sym l) ∙ e)

-- ---- procedures

pub exit_then : (facts : ℕ) (form : ProcedureForm) (is_main : Bool) (region : Region) (bytes rest : List ℕ) → returns_at is_main bytes ≡ Ok (true, rest) → skipped (exit_at facts form is_main region) bytes ≡ skipped (state_at facts form role.Exit region) rest
unfolding exit_at
exit_then facts form is_main region bytes rest e =
    skipped-mapped (λ p. p.1) (followed (returns_at is_main) (λ returns. optional returns (state_at facts form role.Exit region))) bytes
    ∙ skipped-followed (returns_at is_main) (λ returns. optional returns (state_at facts form role.Exit region)) bytes true rest e
    ∙ skipped-mapped Some (state_at facts form role.Exit region) rest

pub no_exit : (facts : ℕ) (form : ProcedureForm) (is_main : Bool) (region : Region) (bytes rest : List ℕ) → returns_at is_main bytes ≡ Ok (false, rest) → skipped (exit_at facts form is_main region) bytes ≡ Ok rest
unfolding exit_at
no_exit facts form is_main region bytes rest e = rw e refl

pub exit_wrong : (facts : ℕ) (form : ProcedureForm) (is_main : Bool) (region : Region) (bytes : List ℕ) (e : CertFault) → returns_at is_main bytes ≡ Err e → skipped (exit_at facts form is_main region) bytes ≡ Err e
unfolding exit_at
exit_wrong facts form is_main region bytes e h = rw h refl

pub ruleset skip_exit = (exit_then, no_exit, exit_wrong)

abbrev Named : Type 0
Named = (List ℕ × ℕ) × Option AbsState

pub mark_then : (facts base : ℕ) (is_main : Bool) (region : Region) (bytes : List ℕ) (kept first : List ℕ) (mark : ℕ) (second : List ℕ) → kept_addresses_at is_main region bytes ≡ Ok (kept, first) → byte first ≡ Ok (mark, second)
    → mapped (form_named base) (named_at facts base is_main region) bytes ≡ past (skipped (exit_at facts (record { kept = length kept; base = base }) is_main region) second) (λ rest. Ok (record { kept = length kept; base = base }, rest))
unfolding named_at
mark_then facts base is_main region bytes kept first mark second e f = rw (e, f) (by (exit_at facts (record { kept = length kept; base = base }) is_main region second))
  where
    by : (read : Result (Option AbsState × List ℕ) CertFault) → go_on {X = Named} (go_on read (λ y end. Ok (((kept, mark), y), end))) (λ x rest. (let r : Result (ProcedureForm × List ℕ) CertFault = Ok (form_named base x, rest) in r)) ≡ past (go_on read (λ x rest. (let r : Result (List ℕ) CertFault = Ok rest in r))) (λ rest. Ok (record { kept = length kept; base = base }, rest))
    by (Ok p) = refl
    by (Err e) = refl

pub no_mark : (facts base : ℕ) (is_main : Bool) (region : Region) (bytes : List ℕ) (kept first : List ℕ) (e : CertFault) → kept_addresses_at is_main region bytes ≡ Ok (kept, first) → byte first ≡ Err e → mapped (form_named base) (named_at facts base is_main region) bytes ≡ Err e
unfolding named_at
no_mark facts base is_main region bytes kept first e h f = rw (h, f) refl

pub no_kept : (facts base : ℕ) (is_main : Bool) (region : Region) (bytes : List ℕ) (e : CertFault) → kept_addresses_at is_main region bytes ≡ Err e → mapped (form_named base) (named_at facts base is_main region) bytes ≡ Err e
unfolding named_at
no_kept facts base is_main region bytes e h = rw h refl

pub ruleset skip_named = (mark_then, no_mark, no_kept)

pub no_entry : (facts : ℕ) (region : Region) (nodes : ℕ) (is_main : Bool) (bytes : List ℕ) (e : CertFault) → entry_at 4 nodes bytes ≡ Err e → mapped procedure_form (procedure_at facts region nodes is_main) bytes ≡ Err e
unfolding procedure_at
no_entry facts region nodes is_main bytes e h = rw h refl

pub no_base : (facts : ℕ) (region : Region) (nodes : ℕ) (is_main : Bool) (bytes : List ℕ) (entry : ℕ) (first : List ℕ) (e : CertFault) → entry_at 4 nodes bytes ≡ Ok (entry, first) → base_at Extended is_main region first ≡ Err e
    → mapped procedure_form (procedure_at facts region nodes is_main) bytes ≡ Err e
unfolding procedure_at
no_base facts region nodes is_main bytes entry first e h g = rw (h, g) refl

pub no_need : (facts : ℕ) (region : Region) (nodes : ℕ) (is_main : Bool) (bytes : List ℕ) (entry : ℕ) (first : List ℕ) (base : ℕ) (second : List ℕ) (e : CertFault) → entry_at 4 nodes bytes ≡ Ok (entry, first) → base_at Extended is_main region first ≡ Ok (base, second) → need_at Extended is_main region second ≡ Err e
    → mapped procedure_form (procedure_at facts region nodes is_main) bytes ≡ Err e
unfolding procedure_at
no_need facts region nodes is_main bytes entry first base second e h g f = rw (h, g, f) refl

pub no_ranges : (facts : ℕ) (region : Region) (nodes : ℕ) (is_main : Bool) (bytes : List ℕ) (entry : ℕ) (first : List ℕ) (base : ℕ) (second : List ℕ) (need : ℕ) (third : List ℕ) (e : CertFault) → entry_at 4 nodes bytes ≡ Ok (entry, first) → base_at Extended is_main region first ≡ Ok (base, second)
    → need_at Extended is_main region second ≡ Ok (need, third) → skipped (ranges_at Extended is_main region) third ≡ Err e → mapped procedure_form (procedure_at facts region nodes is_main) bytes ≡ Err e
unfolding procedure_at
no_ranges facts region nodes is_main bytes entry first base second need third e h g f r = rw (h, g, f, wrong (ranges_at Extended is_main region third) r) refl
  where
    wrong : (read : Result (List Range × List ℕ) CertFault) → go_on read (λ x rest. (let r : Result (List ℕ) CertFault = Ok rest in r)) ≡ Err e → read ≡ Err e
    wrong (Ok p) k = cc
    wrong (Err d) k = cc

pub ranges_then : (facts : ℕ) (region : Region) (nodes : ℕ) (is_main : Bool) (bytes : List ℕ) (entry : ℕ) (first : List ℕ) (base : ℕ) (second : List ℕ) (need : ℕ) (third fourth : List ℕ) → entry_at 4 nodes bytes ≡ Ok (entry, first) → base_at Extended is_main region first ≡ Ok (base, second)
    → need_at Extended is_main region second ≡ Ok (need, third) → skipped (ranges_at Extended is_main region) third ≡ Ok fourth → mapped procedure_form (procedure_at facts region nodes is_main) bytes ≡ mapped (form_named base) (named_at facts base is_main region) fourth
unfolding procedure_at
ranges_then facts region nodes is_main bytes entry first base second need third fourth h g f r =
    let ranges = went_on (ranges_at Extended is_main region third) (λ x rest. Ok rest) fourth r in
    let then : ranges.1 ≡ fourth = one ranges.1 fourth ranges.3 in
    rw (h, g, f, ranges.2, then) (by ranges.0 (named_at facts base is_main region fourth))
  where
    one : (a b : List ℕ) → (let q : Result (List ℕ) CertFault = Ok a in q) ≡ Ok b → a ≡ b
    one a b e = cc

    by : (ranges : List Range) (read : Result (Named × List ℕ) CertFault)
        → go_on {X = ProcedureParts} (go_on {X = ℕ × (ℕ × (ℕ × (List Range × Named)))} (go_on {X = ℕ × (ℕ × (List Range × Named))} (go_on {X = ℕ × (List Range × Named)} (go_on {X = List Range × Named} (go_on read (λ y end. Ok ((ranges, y), end))) (λ y end. Ok ((need, y), end))) (λ y end. Ok ((base, y), end))) (λ y end. Ok ((entry, y), end))) (λ x rest. Ok (to_procedure x, rest))) (λ x rest. (let r : Result (ProcedureForm × List ℕ) CertFault = Ok (procedure_form x, rest) in r))
        ≡ go_on read (λ x rest. (let r : Result (ProcedureForm × List ℕ) CertFault = Ok (form_named base x, rest) in r))
    by ranges (Ok p) = refl
    by ranges (Err e) = refl

pub ruleset skip_procedure = (ranges_then, no_ranges, no_need, no_base, no_entry)

pub older_then : (version facts : ℕ) (region : Region) (nodes : ℕ) (is_main : Bool) (bytes : List ℕ) → (version == 4) ≡ false → mapped (form_if (version == 4)) (procedure_by (version == 4) version facts region nodes is_main) bytes ≡ past (skipped (simple.procedure_at version region nodes is_main) bytes) (λ rest. Ok (no_form, rest))
older_then version facts region nodes is_main bytes older = ap (λ (b : Bool). mapped (form_if b) (procedure_by b version facts region nodes is_main) bytes) older ∙ by (simple.procedure_at version region nodes is_main bytes)
  where
    by : (read : Result (ProcedureParts × List ℕ) CertFault) → go_on read (λ x rest. (let r : Result (ProcedureForm × List ℕ) CertFault = Ok (form_if false x, rest) in r)) ≡ past (go_on read (λ x rest. (let r : Result (List ℕ) CertFault = Ok rest in r))) (λ rest. Ok (no_form, rest))
    by (Ok p) = refl
    by (Err e) = refl

pub ruleset skip_older_procedure = (older_then)

-- ---- nodes

abbrev bank_read : (ℕ × ℕ) → ℕ → Result (AbsState × List ℕ) CertFault → Result ((ℕ × ℕ) × List ℕ) CertFault
bank_read k bank read = go_on {X = Node} (go_on {X = (ℕ × ℕ) × (ℕ × AbsState)} (go_on {X = ℕ × AbsState} (go_on read (λ y end. Ok ((bank, y), end))) (λ y end. Ok ((k, y), end))) (λ x rest. Ok (to_node x, rest))) (λ x rest. Ok (key x, rest))

state-read : (k : ℕ × ℕ) (bank : ℕ) (read : Result (AbsState × List ℕ) CertFault) → bank_read k bank read ≡ past (go_on read (λ x rest. (let r : Result (List ℕ) CertFault = Ok rest in r))) (λ rest. Ok (k, rest))
state-read k bank (Ok p) = refl
state-read k bank (Err e) = refl

bank-by : (b : Bool) (version facts : ℕ) (forms : List ProcedureForm) (region : Region) (procedures : ℕ) (before : ℕ × ℕ) (bytes : List ℕ) (k : ℕ × ℕ) (first : List ℕ) (bank : ℕ) (second : List ℕ) → key_by b procedures before bytes ≡ Ok (k, first) → word_between 0 511 first ≡ Ok (bank, second)
    → mapped key (node_by b version facts (form_in forms) region procedures before) bytes ≡ past (skipped (state_by (form_by b version facts (form_in forms k.0)) (role_of k.0) region) second) (λ rest. Ok (k, rest))
unfolding simple.node_at node_at key_at older_key_at
bank-by true version facts forms region procedures before bytes k first bank second e f = rw (e, f) (state-read k bank (state_at facts (form_in forms k.0) (role_of k.0) region second))
bank-by false version facts forms region procedures before bytes k first bank second e f = rw (e, f) (state-read k bank (simple.state_at (rules_of version) (role_of k.0) region second))

pub bank_then : (version facts : ℕ) (forms : List ProcedureForm) (region : Region) (procedures : ℕ) (before : ℕ × ℕ) (bytes : List ℕ) (k : ℕ × ℕ) (first : List ℕ) (bank : ℕ) (second : List ℕ) → key_by (version == 4) procedures before bytes ≡ Ok (k, first) → word_between 0 511 first ≡ Ok (bank, second)
    → mapped key (node_by (version == 4) version facts (form_in forms) region procedures before) bytes ≡ past (skipped (state_by (form_by (version == 4) version facts (form_in forms k.0)) (role_of k.0) region) second) (λ rest. Ok (k, rest))
bank_then version = bank-by (version == 4) version

no-bank-by : (b : Bool) (version facts : ℕ) (forms : List ProcedureForm) (region : Region) (procedures : ℕ) (before : ℕ × ℕ) (bytes : List ℕ) (k : ℕ × ℕ) (first : List ℕ) (e : CertFault) → key_by b procedures before bytes ≡ Ok (k, first) → word_between 0 511 first ≡ Err e → mapped key (node_by b version facts (form_in forms) region procedures before) bytes ≡ Err e
unfolding simple.node_at node_at key_at older_key_at
no-bank-by true version facts forms region procedures before bytes k first e h f = rw (h, f) refl
no-bank-by false version facts forms region procedures before bytes k first e h f = rw (h, f) refl

pub no_bank : (version facts : ℕ) (forms : List ProcedureForm) (region : Region) (procedures : ℕ) (before : ℕ × ℕ) (bytes : List ℕ) (k : ℕ × ℕ) (first : List ℕ) (e : CertFault) → key_by (version == 4) procedures before bytes ≡ Ok (k, first) → word_between 0 511 first ≡ Err e → mapped key (node_by (version == 4) version facts (form_in forms) region procedures before) bytes ≡ Err e
no_bank version = no-bank-by (version == 4) version

no-key-by : (b : Bool) (version facts : ℕ) (forms : List ProcedureForm) (region : Region) (procedures : ℕ) (before : ℕ × ℕ) (bytes : List ℕ) (e : CertFault) → key_by b procedures before bytes ≡ Err e → mapped key (node_by b version facts (form_in forms) region procedures before) bytes ≡ Err e
unfolding simple.node_at node_at key_at older_key_at
no-key-by true version facts forms region procedures before bytes e h = rw h refl
no-key-by false version facts forms region procedures before bytes e h = rw h refl

pub no_key : (version facts : ℕ) (forms : List ProcedureForm) (region : Region) (procedures : ℕ) (before : ℕ × ℕ) (bytes : List ℕ) (e : CertFault) → key_by (version == 4) procedures before bytes ≡ Err e → mapped key (node_by (version == 4) version facts (form_in forms) region procedures before) bytes ≡ Err e
no_key version = no-key-by (version == 4) version

pub ruleset skip_node = (bank_then, no_bank, no_key)
