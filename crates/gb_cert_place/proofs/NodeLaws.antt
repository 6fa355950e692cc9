-- Where a walk over a node stops, by its parts.
use Rattle.std.proofs.Common.{◌≡◌, ℕ, ◌==◌, Bool, true, false, List, Ok, refl, sym, ◌∙◌, subst}
use Rattle.gb_ops.specs.declared.machine.Region.{Region}
use Rattle.gb_domain.specs.Types.{AbsState}
use Rattle.gb_fields.specs.Format.{Read, followed, both, mapped}
use Rattle.gb_fields.specs.Reading.{word_between}
use Rattle.gb_fields.specs.Reading as older
use Rattle.gb_states.specs.declared.form.ProcedureForm.{ProcedureForm}
use Rattle.gb_states.specs.declared.form.Form.{Form}
use Rattle.gb_states.specs.declared.role.Role.{Role}
use Rattle.gb_states.specs.Forms.{form_by, state_by}
use Rattle.gb_states.specs.Rules.{role_of, key}
use Rattle.gb_states.specs.Reading as simple
use Rattle.gb_states.specs.Reading.{to_node}
use Rattle.gb_states.specs.WholeRules.{form_in}
use Rattle.gb_states.specs.WholeReading as whole
use Rattle.gb_states.specs.WholeReading.{key_by, node_by}
use Rattle.gb_cert.specs.Skipping.{skipped}
use Rattle.gb_cert_place.specs.declared.block.Stop.{Stop}
use Rattle.gb_cert_place.specs.declared.block.Block.{Block}
use Rattle.gb_cert_place.specs.declared.block.Block.TheVariants as block
use Rattle.gb_cert_place.specs.Blocks.{read_block}
use Rattle.gb_cert_place.specs.Standing.{InState}
use Rattle.gb_cert_place.specs.Stops.{Stopped}
use Rattle.gb_cert_place.proofs.FieldsAreLocal.{IsLocal-word_between}
use Rattle.gb_cert_place.proofs.WholeFieldsAreLocal.{IsLocal-key_by}
use Rattle.gb_cert_place.proofs.BlockLaws.{no_key, no_bank}
use Rattle.gb_cert_place.proofs.WalkLaws.{was_read, is_mapped, is_followed, Stopped-first, Stopped-mapped, Stopped-block, Stopped-then, Stopped-as}

-- what is behind a node's key
abbrev behind_key : Bool → ℕ → ℕ → List ProcedureForm → Region → ℕ × ℕ → Read (ℕ × AbsState)
behind_key fourth version facts forms region k = both (word_between 0 511) (state_by (form_by fourth version facts (form_in forms k.0)) (role_of k.0) region)

abbrev fields_of : Bool → ℕ → ℕ → List ProcedureForm → Region → ℕ → ℕ × ℕ → Read ((ℕ × ℕ) × (ℕ × AbsState))
fields_of fourth version facts forms region procedures before = followed (key_by fourth procedures before) (behind_key fourth version facts forms region)

node_is : (fourth : Bool) (version facts : ℕ) (forms : List ProcedureForm) (region : Region) (procedures : ℕ) (before : ℕ × ℕ) (bytes : List ℕ) → mapped to_node (fields_of fourth version facts forms region procedures before) bytes ≡ node_by fourth version facts (form_in forms) region procedures before bytes
unfolding simple.node_at whole.node_at whole.key_at older.key_at
node_is true version facts forms region procedures before bytes = refl
node_is false version facts forms region procedures before bytes = refl

of_node : (fourth : Bool) (version facts : ℕ) (forms : List ProcedureForm) (region : Region) (procedures : ℕ) (before : ℕ × ℕ) (bytes : List ℕ) (s : Stop) → Stopped (fields_of fourth version facts forms region procedures before) bytes s
    → Stopped (mapped key (node_by fourth version facts (form_in forms) region procedures before)) bytes s
of_node fourth version facts forms region procedures before bytes s p =
    Stopped-mapped key (node_by fourth version facts (form_in forms) region procedures before) bytes s
    (Stopped-as (mapped to_node (fields_of fourth version facts forms region procedures before)) (node_by fourth version facts (form_in forms) region procedures before) bytes s (node_is fourth version facts forms region procedures before)
    (Stopped-mapped to_node (fields_of fourth version facts forms region procedures before) bytes s p))

pub stop_in_key : (version facts : ℕ) (forms : List ProcedureForm) (region : Region) (procedures : ℕ) (before : ℕ × ℕ) (bytes : List ℕ) (s : Stop) → Stopped (read_block (block.Key version procedures before)) bytes s
    → Stopped (mapped key (node_by (version == 4) version facts (form_in forms) region procedures before)) bytes s
unfolding read_block
stop_in_key version facts forms region procedures before bytes s p =
    of_node (version == 4) version facts forms region procedures before bytes s (Stopped-first (key_by (version == 4) procedures before) (behind_key (version == 4) version facts forms region) bytes s (Stopped-block (key_by (version == 4) procedures before) bytes s p))

pub stop_in_bank : (version facts : ℕ) (forms : List ProcedureForm) (region : Region) (procedures : ℕ) (before : ℕ × ℕ) (bytes : List ℕ) (k : ℕ × ℕ) (first : List ℕ) (s : Stop) → key_by (version == 4) procedures before bytes ≡ Ok (k, first) → Stopped (read_block block.Bank) first s
    → Stopped (mapped key (node_by (version == 4) version facts (form_in forms) region procedures before)) bytes s
unfolding read_block
stop_in_bank version facts forms region procedures before bytes k first s h p =
    of_node (version == 4) version facts forms region procedures before bytes s (Stopped-then (key_by (version == 4) procedures before) (behind_key (version == 4) version facts forms region) (IsLocal-key_by (version == 4) procedures before) bytes k first s h
    (Stopped-first (word_between 0 511) (λ x. state_by (form_by (version == 4) version facts (form_in forms k.0)) (role_of k.0) region) first s (Stopped-block (word_between 0 511) first s p)))

-- the state's form and role are those of the node's procedure
moved : (form other : Form) (role same_role : Role) (region : Region) (bytes : List ℕ) (s : Stop) → form ≡ other → role ≡ same_role → Stopped (state_by form role region) bytes s → Stopped (state_by other same_role region) bytes s
moved form other role same_role region bytes s e f p = subst (λ (r : Role). Stopped (state_by other r region) bytes s) f (subst (λ (g : Form). Stopped (state_by g role region) bytes s) e p)

pub stop_in_state : (version facts : ℕ) (forms : List ProcedureForm) (region : Region) (procedures : ℕ) (before : ℕ × ℕ) (bytes : List ℕ) (k : ℕ × ℕ) (first : List ℕ) (bank : ℕ) (second : List ℕ) (form : Form) (role : Role) (of : ProcedureForm) (s : Stop)
    → key_by (version == 4) procedures before bytes ≡ Ok (k, first) → word_between 0 511 first ≡ Ok (bank, second) → of ≡ form_in forms k.0 → form ≡ form_by (version == 4) version facts of → role ≡ role_of k.0
    → Stopped (state_by form role region) second s → Stopped (mapped key (node_by (version == 4) version facts (form_in forms) region procedures before)) bytes s
stop_in_state version facts forms region procedures before bytes k first bank second form role of s h g few same f p =
    let e : form ≡ form_by (version == 4) version facts (form_in forms k.0) = subst (λ n. form ≡ form_by (version == 4) version facts n) few same in
    of_node (version == 4) version facts forms region procedures before bytes s (Stopped-then (key_by (version == 4) procedures before) (behind_key (version == 4) version facts forms region) (IsLocal-key_by (version == 4) procedures before) bytes k first s h
    (Stopped-then (word_between 0 511) (λ x. state_by (form_by (version == 4) version facts (form_in forms k.0)) (role_of k.0) region) (IsLocal-word_between 0 511) first bank second s g
    (moved form (form_by (version == 4) version facts (form_in forms k.0)) role (role_of k.0) region second s e f p)))

pub node_passed : (version facts : ℕ) (forms : List ProcedureForm) (region : Region) (procedures : ℕ) (before : ℕ × ℕ) (bytes : List ℕ) (k : ℕ × ℕ) (first : List ℕ) (bank : ℕ) (second : List ℕ) (form : Form) (role : Role) (of : ProcedureForm) (end : List ℕ)
    → key_by (version == 4) procedures before bytes ≡ Ok (k, first) → word_between 0 511 first ≡ Ok (bank, second) → of ≡ form_in forms k.0 → form ≡ form_by (version == 4) version facts of → role ≡ role_of k.0
    → skipped (state_by form role region) second ≡ Ok end → mapped key (node_by (version == 4) version facts (form_in forms) region procedures before) bytes ≡ Ok (k, end)
node_passed version facts forms region procedures before bytes k first bank second form role of end h g few same f p =
    let e : form ≡ form_by (version == 4) version facts (form_in forms k.0) = subst (λ n. form ≡ form_by (version == 4) version facts n) few same in
    let q = subst (λ (r : Role). skipped (state_by (form_by (version == 4) version facts (form_in forms k.0)) r region) second ≡ Ok end) f (subst (λ (m : Form). skipped (state_by m role region) second ≡ Ok end) e p) in
    let w = was_read (state_by (form_by (version == 4) version facts (form_in forms k.0)) (role_of k.0) region) second end q in
    let n : node_by (version == 4) version facts (form_in forms) region procedures before bytes ≡ Ok (to_node (k, (bank, w.0)), end) =
    sym (node_is (version == 4) version facts forms region procedures before bytes)
    ∙ is_mapped to_node (fields_of (version == 4) version facts forms region procedures before) bytes (k, (bank, w.0)) (to_node (k, (bank, w.0))) end
    (is_followed (key_by (version == 4) procedures before) (behind_key (version == 4) version facts forms region) bytes k first (bank, w.0) end h
    (is_followed (word_between 0 511) (λ x. state_by (form_by (version == 4) version facts (form_in forms k.0)) (role_of k.0) region) first bank second w.0 end g w.1)) refl in
    is_mapped key (node_by (version == 4) version facts (form_in forms) region procedures before) bytes (to_node (k, (bank, w.0))) k end n refl

pub in_same_state : (form other : Form) (role same_role : Role) (region : Region) (bytes : List ℕ) (b : Block) (rest : List ℕ) → form ≡ other → role ≡ same_role → InState form role region bytes b rest → InState other same_role region bytes b rest
in_same_state form other role same_role region bytes b rest e f a = subst (λ (r : Role). InState other r region bytes b rest) f (subst (λ (g : Form). InState g role region bytes b rest) e a)

pub ruleset walk_node = (no_key, no_bank, stop_in_key, stop_in_bank, stop_in_state, node_passed)
