-- Where a walk over a procedure stops, by its parts.
use Rattle.std.proofs.Common.{◌≡◌, ℕ, ◌==◌, Bool, true, false, List, Ok, refl, sym, ◌∙◌, ap, subst}
use Rattle.gb_ops.specs.declared.machine.Region.{Region}
use Rattle.gb_domain.specs.declared.rules.Rules.{Rules}
use Rattle.gb_domain.specs.declared.types.Range.{Range}
use Rattle.gb_domain.specs.Types.{ProcedureParts}
use Rattle.gb_fields.specs.Rules.{any_rules_by, any_rules_of}
use Rattle.gb_fields.specs.Format.{Read, both, mapped}
use Rattle.gb_fields.specs.Reading.{base_at, need_at, entry_at}
use Rattle.gb_states.specs.declared.form.ProcedureForm.{ProcedureForm}
use Rattle.gb_states.specs.Reading as simple
use Rattle.gb_states.specs.Reading.{ranges_at}
use Rattle.gb_cert.specs.Places.{form_if}
use Rattle.gb_states.specs.WholeReading as whole
use Rattle.gb_states.specs.WholeReading.{procedure_by}
use Rattle.gb_states.proofs.FieldLaws.{same}
use Rattle.gb_cert.specs.Skipping.{skipped}
use Rattle.gb_cert_place.specs.declared.block.Stop.{Stop}
use Rattle.gb_cert_place.specs.declared.block.Block.{Block}
use Rattle.gb_cert_place.specs.declared.block.Block.TheVariants as block
use Rattle.gb_cert_place.specs.declared.block.Part.{Part}
use Rattle.gb_cert_place.specs.Standing.{InNeeded, InBody, BehindBase}
use Rattle.gb_cert_place.specs.Blocks.{read_block}
use Rattle.gb_cert_place.specs.Forms.{Ending, ending_by, ending_form, Needed, needed_by, needed_form, base_if, body_by, body_form}
use Rattle.gb_cert_place.specs.Stops.{Stopped}
use Rattle.gb_cert_place.proofs.FieldsAreLocal.{IsLocal-need, IsLocal-ranges, IsLocal-base, IsLocal-entry}
use Rattle.gb_cert_place.proofs.BlockLaws.{no_entry, no_need}
use Rattle.gb_cert_place.proofs.WalkLaws.{was_read, was_mapped, is_mapped, is_followed, Stopped-first, Stopped-mapped, Stopped-unmapped, Stopped-block, Stopped-then, Stopped-after, Stopped-as}

-- ---- the need, the ranges and what is behind them

abbrev ranges_ending : (fourth : Bool) → ℕ → ℕ → Bool → Region → ℕ → Read (List Range × Ending fourth)
ranges_ending fourth version facts is_main region base = both (ranges_at (any_rules_by fourth version) is_main region) (ending_by fourth version facts is_main region base)

need_stops : (fourth : Bool) (version facts base : ℕ) (is_main : Bool) (region : Region) (bytes : List ℕ) (s : Stop) → Stopped (read_block (block.Need (any_rules_by fourth version) is_main region)) bytes s → Stopped (mapped (needed_form fourth base) (needed_by fourth version facts is_main region base)) bytes s
unfolding read_block
need_stops fourth version facts base is_main region bytes s p =
    Stopped-mapped (needed_form fourth base) (needed_by fourth version facts is_main region base) bytes s (Stopped-first (need_at (any_rules_by fourth version) is_main region) (λ x. ranges_ending fourth version facts is_main region base) bytes s (Stopped-block (need_at (any_rules_by fourth version) is_main region) bytes s p))

pub stop_in_need : (version facts base : ℕ) (is_main : Bool) (region : Region) (bytes : List ℕ) (rules : Rules) (s : Stop) → rules ≡ any_rules_of version → Stopped (read_block (block.Need rules is_main region)) bytes s
    → Stopped (mapped (needed_form (version == 4) base) (needed_by (version == 4) version facts is_main region base)) bytes s
stop_in_need version facts base is_main region bytes rules s same p = need_stops (version == 4) version facts base is_main region bytes s (subst (λ (r : Rules). Stopped (read_block (block.Need r is_main region)) bytes s) same p)

ranges_stop : (fourth : Bool) (version facts base : ℕ) (is_main : Bool) (region : Region) (bytes : List ℕ) (need : ℕ) (first : List ℕ) (s : Stop) → need_at (any_rules_by fourth version) is_main region bytes ≡ Ok (need, first) → Stopped (ranges_at (any_rules_by fourth version) is_main region) first s
    → Stopped (mapped (needed_form fourth base) (needed_by fourth version facts is_main region base)) bytes s
ranges_stop fourth version facts base is_main region bytes need first s g p =
    Stopped-mapped (needed_form fourth base) (needed_by fourth version facts is_main region base) bytes s (Stopped-then (need_at (any_rules_by fourth version) is_main region) (λ x. ranges_ending fourth version facts is_main region base) (IsLocal-need (any_rules_by fourth version) is_main region) bytes need first s g
    (Stopped-first (ranges_at (any_rules_by fourth version) is_main region) (λ x. ending_by fourth version facts is_main region base) first s p))

pub stop_in_ranges : (version facts base : ℕ) (is_main : Bool) (region : Region) (bytes : List ℕ) (rules : Rules) (need : ℕ) (first : List ℕ) (s : Stop) → rules ≡ any_rules_of version → need_at rules is_main region bytes ≡ Ok (need, first) → Stopped (ranges_at rules is_main region) first s
    → Stopped (mapped (needed_form (version == 4) base) (needed_by (version == 4) version facts is_main region base)) bytes s
stop_in_ranges version facts base is_main region bytes rules need first s same g p =
    ranges_stop (version == 4) version facts base is_main region bytes need first s (subst (λ (r : Rules). need_at r is_main region bytes ≡ Ok (need, first)) same g) (subst (λ (r : Rules). Stopped (ranges_at r is_main region) first s) same p)

ending_stops : (fourth : Bool) (version facts base : ℕ) (is_main : Bool) (region : Region) (bytes : List ℕ) (need : ℕ) (first second : List ℕ) (s : Stop) → need_at (any_rules_by fourth version) is_main region bytes ≡ Ok (need, first)
    → skipped (ranges_at (any_rules_by fourth version) is_main region) first ≡ Ok second → Stopped (mapped (ending_form fourth base) (ending_by fourth version facts is_main region base)) second s → Stopped (mapped (needed_form fourth base) (needed_by fourth version facts is_main region base)) bytes s
ending_stops fourth version facts base is_main region bytes need first second s g k p =
    Stopped-mapped (needed_form fourth base) (needed_by fourth version facts is_main region base) bytes s (Stopped-then (need_at (any_rules_by fourth version) is_main region) (λ x. ranges_ending fourth version facts is_main region base) (IsLocal-need (any_rules_by fourth version) is_main region) bytes need first s g
    (Stopped-after (ranges_at (any_rules_by fourth version) is_main region) (ending_by fourth version facts is_main region base) (IsLocal-ranges (any_rules_by fourth version) is_main region) first second s k
    (Stopped-unmapped (ending_form fourth base) (ending_by fourth version facts is_main region base) second s p)))

pub stop_behind_ranges : (version facts base : ℕ) (is_main : Bool) (region : Region) (bytes : List ℕ) (rules : Rules) (need : ℕ) (first second : List ℕ) (s : Stop) → rules ≡ any_rules_of version → need_at rules is_main region bytes ≡ Ok (need, first)
    → skipped (ranges_at rules is_main region) first ≡ Ok second → Stopped (mapped (ending_form (version == 4) base) (ending_by (version == 4) version facts is_main region base)) second s
    → Stopped (mapped (needed_form (version == 4) base) (needed_by (version == 4) version facts is_main region base)) bytes s
stop_behind_ranges version facts base is_main region bytes rules need first second s same g k p =
    ending_stops (version == 4) version facts base is_main region bytes need first second s (subst (λ (r : Rules). need_at r is_main region bytes ≡ Ok (need, first)) same g) (subst (λ (r : Rules). skipped (ranges_at r is_main region) first ≡ Ok second) same k) p

needed_read : (fourth : Bool) (version facts base : ℕ) (is_main : Bool) (region : Region) (bytes : List ℕ) (need : ℕ) (first second : List ℕ) (of : ProcedureForm) (end : List ℕ) → need_at (any_rules_by fourth version) is_main region bytes ≡ Ok (need, first)
    → skipped (ranges_at (any_rules_by fourth version) is_main region) first ≡ Ok second → mapped (ending_form fourth base) (ending_by fourth version facts is_main region base) second ≡ Ok (of, end)
    → mapped (needed_form fourth base) (needed_by fourth version facts is_main region base) bytes ≡ Ok (of, end)
needed_read fourth version facts base is_main region bytes need first second of end g k m =
    let r = was_read (ranges_at (any_rules_by fourth version) is_main region) first second k in
    let e = was_mapped (ending_form fourth base) (ending_by fourth version facts is_main region base) second of end m in
    is_mapped (needed_form fourth base) (needed_by fourth version facts is_main region base) bytes (need, (r.0, e.0)) of end
    (is_followed (need_at (any_rules_by fourth version) is_main region) (λ x. ranges_ending fourth version facts is_main region base) bytes need first (r.0, e.0) end g
    (is_followed (ranges_at (any_rules_by fourth version) is_main region) (λ x. ending_by fourth version facts is_main region base) first r.0 second e.0 end r.1 e.1)) e.2

pub needed_passed : (version facts base : ℕ) (is_main : Bool) (region : Region) (bytes : List ℕ) (rules : Rules) (need : ℕ) (first second : List ℕ) (of : ProcedureForm) (end : List ℕ) → rules ≡ any_rules_of version → need_at rules is_main region bytes ≡ Ok (need, first)
    → skipped (ranges_at rules is_main region) first ≡ Ok second → mapped (ending_form (version == 4) base) (ending_by (version == 4) version facts is_main region base) second ≡ Ok (of, end)
    → mapped (needed_form (version == 4) base) (needed_by (version == 4) version facts is_main region base) bytes ≡ Ok (of, end)
needed_passed version facts base is_main region bytes rules need first second of end same g k m =
    needed_read (version == 4) version facts base is_main region bytes need first second of end (subst (λ (r : Rules). need_at r is_main region bytes ≡ Ok (need, first)) same g) (subst (λ (r : Rules). skipped (ranges_at r is_main region) first ≡ Ok second) same k) m

-- ---- all but the entry

-- what is behind a base
abbrev behind_base : (fourth : Bool) → ℕ → ℕ → Bool → Region → ℕ → Read (Needed fourth)
behind_base fourth version facts is_main region base = needed_by fourth version facts is_main region (base_if fourth base)

base_stops : (fourth : Bool) (version facts : ℕ) (is_main : Bool) (region : Region) (bytes : List ℕ) (s : Stop) → Stopped (mapped (base_if fourth) (base_at (any_rules_by fourth version) is_main region)) bytes s → Stopped (mapped (body_form fourth) (body_by fourth version facts is_main region)) bytes s
base_stops fourth version facts is_main region bytes s p =
    Stopped-mapped (body_form fourth) (body_by fourth version facts is_main region) bytes s
    (Stopped-first (base_at (any_rules_by fourth version) is_main region) (behind_base fourth version facts is_main region) bytes s (Stopped-unmapped (base_if fourth) (base_at (any_rules_by fourth version) is_main region) bytes s p))

pub stop_in_body_base : (version facts : ℕ) (is_main : Bool) (region : Region) (bytes : List ℕ) (s : Stop) → Stopped (mapped (base_if (version == 4)) (base_at (any_rules_of version) is_main region)) bytes s
    → Stopped (mapped (body_form (version == 4)) (body_by (version == 4) version facts is_main region)) bytes s
stop_in_body_base version facts is_main region bytes s p = base_stops (version == 4) version facts is_main region bytes s p

needed_stops : (fourth : Bool) (version facts : ℕ) (is_main : Bool) (region : Region) (bytes : List ℕ) (base : ℕ) (rest : List ℕ) (s : Stop) → mapped (base_if fourth) (base_at (any_rules_by fourth version) is_main region) bytes ≡ Ok (base, rest)
    → Stopped (mapped (needed_form fourth base) (needed_by fourth version facts is_main region base)) rest s → Stopped (mapped (body_form fourth) (body_by fourth version facts is_main region)) bytes s
needed_stops fourth version facts is_main region bytes base rest s g p =
    let b = was_mapped (base_if fourth) (base_at (any_rules_by fourth version) is_main region) bytes base rest g in
    let q = Stopped-unmapped (needed_form fourth base) (needed_by fourth version facts is_main region base) rest s p in
    Stopped-mapped (body_form fourth) (body_by fourth version facts is_main region) bytes s
    (Stopped-then (base_at (any_rules_by fourth version) is_main region) (behind_base fourth version facts is_main region) (IsLocal-base (any_rules_by fourth version) is_main region) bytes b.0 rest s b.1
    (subst (λ (n : ℕ). Stopped (needed_by fourth version facts is_main region n) rest s) (sym b.2) q))

pub stop_in_body_needed : (version facts : ℕ) (is_main : Bool) (region : Region) (bytes : List ℕ) (base : ℕ) (rest : List ℕ) (s : Stop) → mapped (base_if (version == 4)) (base_at (any_rules_of version) is_main region) bytes ≡ Ok (base, rest)
    → Stopped (mapped (needed_form (version == 4) base) (needed_by (version == 4) version facts is_main region base)) rest s → Stopped (mapped (body_form (version == 4)) (body_by (version == 4) version facts is_main region)) bytes s
stop_in_body_needed version facts is_main region bytes base rest s g p = needed_stops (version == 4) version facts is_main region bytes base rest s g p

body_read : (fourth : Bool) (version facts : ℕ) (is_main : Bool) (region : Region) (bytes : List ℕ) (base : ℕ) (mid : List ℕ) (of : ProcedureForm) (end : List ℕ) → mapped (base_if fourth) (base_at (any_rules_by fourth version) is_main region) bytes ≡ Ok (base, mid)
    → mapped (needed_form fourth base) (needed_by fourth version facts is_main region base) mid ≡ Ok (of, end) → mapped (body_form fourth) (body_by fourth version facts is_main region) bytes ≡ Ok (of, end)
body_read fourth version facts is_main region bytes base mid of end g m =
    let b = was_mapped (base_if fourth) (base_at (any_rules_by fourth version) is_main region) bytes base mid g in
    let m2 = subst (λ (n : ℕ). mapped (needed_form fourth n) (needed_by fourth version facts is_main region n) mid ≡ Ok (of, end)) (sym b.2) m in
    let e = was_mapped (needed_form fourth (base_if fourth b.0)) (behind_base fourth version facts is_main region b.0) mid of end m2 in
    is_mapped (body_form fourth) (body_by fourth version facts is_main region) bytes (b.0, e.0) of end
    (is_followed (base_at (any_rules_by fourth version) is_main region) (behind_base fourth version facts is_main region) bytes b.0 mid e.0 end b.1 e.1) e.2

pub body_passed : (version facts : ℕ) (is_main : Bool) (region : Region) (bytes : List ℕ) (base : ℕ) (mid : List ℕ) (of : ProcedureForm) (end : List ℕ) → mapped (base_if (version == 4)) (base_at (any_rules_of version) is_main region) bytes ≡ Ok (base, mid)
    → mapped (needed_form (version == 4) base) (needed_by (version == 4) version facts is_main region base) mid ≡ Ok (of, end) → mapped (body_form (version == 4)) (body_by (version == 4) version facts is_main region) bytes ≡ Ok (of, end)
body_passed version facts is_main region bytes base mid of end g m = body_read (version == 4) version facts is_main region bytes base mid of end g m

-- where the blocks stand, by what base is asked for
pub behind_base_in : (number version facts : ℕ) (is_main : Bool) (region : Region) (bytes : List ℕ) (base : ℕ) (first : List ℕ) (p : Part) (b : Block) (rest : List ℕ) → mapped (base_if (version == 4)) (base_at (any_rules_of version) is_main region) bytes ≡ Ok (base, first)
    → InNeeded number version facts base is_main region first p b rest → InBody number version facts is_main region bytes p b rest
behind_base_in number version facts is_main region bytes base first p b rest g a =
    let was = was_mapped (base_if (version == 4)) (base_at (any_rules_of version) is_main region) bytes base first g in
    BehindBase was.1 (subst (λ (n : ℕ). InNeeded number version facts n is_main region first p b rest) (sym was.2) a)

-- ---- procedures

abbrev to_procedure_by : (fourth : Bool) → ℕ × (ℕ × Needed fourth) → ProcedureParts
to_procedure_by true p = whole.to_procedure p
to_procedure_by false p = simple.to_procedure p

-- a procedure, by its parts
abbrev parted_procedure : Bool → ℕ → ℕ → Region → ℕ → Bool → Read ProcedureParts
parted_procedure fourth version facts region nodes is_main = mapped (to_procedure_by fourth) (both (entry_at version nodes) (body_by fourth version facts is_main region))

procedure_is : (fourth : Bool) (version facts : ℕ) (region : Region) (nodes : ℕ) (is_main : Bool) (bytes : List ℕ) → (version == 4) ≡ fourth → parted_procedure fourth version facts region nodes is_main bytes ≡ procedure_by fourth version facts region nodes is_main bytes
unfolding simple.procedure_at whole.procedure_at
procedure_is true version facts region nodes is_main bytes e = ap (λ v. mapped (to_procedure_by true) (both (entry_at v nodes) (body_by true version facts is_main region)) bytes) (same version 4 e)
procedure_is false version facts region nodes is_main bytes e = refl

-- its form is that of its parts
form_is : (fourth : Bool) (p : ℕ × (ℕ × Needed fourth)) → form_if fourth (to_procedure_by fourth p) ≡ body_form fourth p.1
form_is true p = refl
form_is false p = refl

of_procedure : (version facts : ℕ) (region : Region) (nodes : ℕ) (is_main : Bool) (bytes : List ℕ) (s : Stop) → Stopped (both (entry_at version nodes) (body_by (version == 4) version facts is_main region)) bytes s
    → Stopped (mapped (form_if (version == 4)) (procedure_by (version == 4) version facts region nodes is_main)) bytes s
of_procedure version facts region nodes is_main bytes s p =
    Stopped-mapped (form_if (version == 4)) (procedure_by (version == 4) version facts region nodes is_main) bytes s
    (Stopped-as (parted_procedure (version == 4) version facts region nodes is_main) (procedure_by (version == 4) version facts region nodes is_main) bytes s (λ b. procedure_is (version == 4) version facts region nodes is_main b refl)
    (Stopped-mapped (to_procedure_by (version == 4)) (both (entry_at version nodes) (body_by (version == 4) version facts is_main region)) bytes s p))

pub stop_in_entry : (version facts : ℕ) (region : Region) (nodes : ℕ) (is_main : Bool) (bytes : List ℕ) (s : Stop) → Stopped (read_block (block.Entry version nodes)) bytes s → Stopped (mapped (form_if (version == 4)) (procedure_by (version == 4) version facts region nodes is_main)) bytes s
unfolding read_block
stop_in_entry version facts region nodes is_main bytes s p =
    of_procedure version facts region nodes is_main bytes s (Stopped-first (entry_at version nodes) (λ x. body_by (version == 4) version facts is_main region) bytes s (Stopped-block (entry_at version nodes) bytes s p))

pub stop_in_body : (version facts : ℕ) (region : Region) (nodes : ℕ) (is_main : Bool) (bytes : List ℕ) (entry : ℕ) (first : List ℕ) (s : Stop) → entry_at version nodes bytes ≡ Ok (entry, first) → Stopped (mapped (body_form (version == 4)) (body_by (version == 4) version facts is_main region)) first s
    → Stopped (mapped (form_if (version == 4)) (procedure_by (version == 4) version facts region nodes is_main)) bytes s
stop_in_body version facts region nodes is_main bytes entry first s h p =
    of_procedure version facts region nodes is_main bytes s (Stopped-then (entry_at version nodes) (λ x. body_by (version == 4) version facts is_main region) (IsLocal-entry version nodes) bytes entry first s h
    (Stopped-unmapped (body_form (version == 4)) (body_by (version == 4) version facts is_main region) first s p))

procedure_read : (fourth : Bool) (version facts : ℕ) (region : Region) (nodes : ℕ) (is_main : Bool) (bytes : List ℕ) (entry : ℕ) (first : List ℕ) (of : ProcedureForm) (end : List ℕ) → (version == 4) ≡ fourth → entry_at version nodes bytes ≡ Ok (entry, first)
    → mapped (body_form fourth) (body_by fourth version facts is_main region) first ≡ Ok (of, end) → mapped (form_if fourth) (procedure_by fourth version facts region nodes is_main) bytes ≡ Ok (of, end)
procedure_read fourth version facts region nodes is_main bytes entry first of end same h m =
    let b = was_mapped (body_form fourth) (body_by fourth version facts is_main region) first of end m in
    let p : procedure_by fourth version facts region nodes is_main bytes ≡ Ok (to_procedure_by fourth (entry, b.0), end) =
    sym (procedure_is fourth version facts region nodes is_main bytes same)
    ∙ is_mapped (to_procedure_by fourth) (both (entry_at version nodes) (body_by fourth version facts is_main region)) bytes (entry, b.0) (to_procedure_by fourth (entry, b.0)) end
    (is_followed (entry_at version nodes) (λ x. body_by fourth version facts is_main region) bytes entry first b.0 end h b.1) refl in
    is_mapped (form_if fourth) (procedure_by fourth version facts region nodes is_main) bytes (to_procedure_by fourth (entry, b.0)) of end p (form_is fourth (entry, b.0) ∙ b.2)

pub procedure_passed : (version facts : ℕ) (region : Region) (nodes : ℕ) (is_main : Bool) (bytes : List ℕ) (entry : ℕ) (first : List ℕ) (of : ProcedureForm) (end : List ℕ) → entry_at version nodes bytes ≡ Ok (entry, first)
    → mapped (body_form (version == 4)) (body_by (version == 4) version facts is_main region) first ≡ Ok (of, end) → mapped (form_if (version == 4)) (procedure_by (version == 4) version facts region nodes is_main) bytes ≡ Ok (of, end)
procedure_passed version facts region nodes is_main bytes entry first of end h m = procedure_read (version == 4) version facts region nodes is_main bytes entry first of end refl h m

pub ruleset walk_needed = (no_need, stop_in_need, stop_in_ranges, stop_behind_ranges, needed_passed)

pub ruleset walk_body = (stop_in_body_base, stop_in_body_needed, body_passed)

pub ruleset walk_procedure = (no_entry, stop_in_entry, stop_in_body, procedure_passed)
