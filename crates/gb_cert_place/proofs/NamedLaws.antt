-- Where a walk over what version 4 names stops: facts, the addresses that a procedure names to be kept, and its mark.
use Rattle.std.proofs.Common.{◌≡◌, ℕ, ◌==◌, Bool, true, false, List, length, Option, Ok, refl, sym, ◌∙◌, ap, subst, arith}
use Rattle.std.proofs.lemmas.Bool.Decides.{nat_tests}
use Rattle.gb_ops.specs.declared.machine.Region.{Region}
use Rattle.gb_domain.specs.declared.rules.Rules.{Rules}
use Rattle.gb_domain.specs.Limits.{rules_of}
use Rattle.gb_domain.specs.Types.{AbsState}
use Rattle.gb_fields.specs.Limits.{fact_limit, kept_room}
use Rattle.gb_fields.specs.Format.{Read, followed, both, mapped, several, byte}
use Rattle.gb_fields.specs.Reading.{count_within, word_count_within}
use Rattle.gb_states.specs.declared.form.ProcedureForm.{ProcedureForm}
use Rattle.gb_states.specs.declared.form.Form.TheVariants.{Older, Fourth}
use Rattle.gb_states.specs.Reading as simple
use Rattle.gb_states.specs.WholeRules.{after_address, no_form}
use Rattle.gb_states.specs.WholeReading.{fact_at, facts_at, facts_by, free_address_at, kept_addresses_at, exit_at, named_at}
use Rattle.gb_cert.specs.Skipping.{skipped, form_named}
use Rattle.gb_cert.specs.Borrowed.{exit_by}
use Rattle.gb_cert_place.specs.declared.block.Stop.{Stop}
use Rattle.gb_cert_place.specs.declared.block.Part.{Part}
use Rattle.gb_cert_place.specs.declared.block.Part.TheVariants as part
use Rattle.gb_cert_place.specs.declared.block.Block.{Block}
use Rattle.gb_cert_place.specs.declared.block.Block.TheVariants as block
use Rattle.gb_cert_place.specs.Blocks.{read_block}
use Rattle.gb_cert_place.specs.Forms.{ending_by, ending_form}
use Rattle.gb_cert_place.specs.Standing.{InExit, InNamed, AtMark, BehindMark}
use Rattle.gb_cert_place.specs.Stops.{Stopped}
use Rattle.gb_cert_place.proofs.Locality.{IsLocal-byte, IsLocal-both}
use Rattle.gb_cert_place.proofs.FieldsAreLocal.{IsLocal-count_within}
use Rattle.gb_cert_place.proofs.WholeFieldsAreLocal.{IsLocal-word_count_within, IsLocal-kept_addresses}
use Rattle.gb_cert_place.proofs.BlockLaws.{no_fact_count, no_kept_count, no_mark}
use Rattle.gb_cert_place.proofs.PartLaws.{same_skipped, several-many}
use Rattle.gb_cert_place.proofs.WalkLaws.{was_read, was_mapped, is_mapped, is_followed, Stopped-first, Stopped-mapped, Stopped-unmapped, Stopped-block, Stopped-then, Stopped-as}

-- ---- which version it is

pub is_fourth : (version : ℕ) → version ≡ 4 → (version == 4) ≡ true
is_fourth version e = subst (λ (v : ℕ). (v == 4) ≡ true) (sym e) refl

pub is_not_fourth : (version : ℕ) → (version ≡ 4 → ⊥) → (version == 4) ≡ false
is_not_fourth version n = grind (arith, nat_tests)

-- ---- what was read

-- a count, and so many
counted_many : {S X : Type 0} (count : Read ℕ) (step : S → Read X) (next : X → S) (s : S) (bytes : List ℕ) (n : ℕ) (rest end : List ℕ) → count bytes ≡ Ok (n, rest) → skipped (several step next s n) rest ≡ Ok end
    → mapped length (mapped (λ p. p.1) (followed count (several step next s))) bytes ≡ Ok (n, end)
counted_many {S} {X} count step next s bytes n rest end h g =
    let w = was_read (several step next s n) rest end g in
    let e : mapped (λ p. p.1) (followed count (several step next s)) bytes ≡ Ok (w.0, end) = is_mapped (λ p. p.1) (followed count (several step next s)) bytes (n, w.0) w.0 end (is_followed count (several step next s) bytes n rest w.0 end h w.1) refl in
    is_mapped length (mapped (λ p. p.1) (followed count (several step next s))) bytes w.0 n end e (several-many step next n s rest w.0 end w.1)

-- ---- addresses to be kept

pub stop_in_kept_count : (is_main : Bool) (region : Region) (bytes : List ℕ) (s : Stop) → Stopped (read_block (block.KeptCount is_main)) bytes s → Stopped (mapped length (kept_addresses_at is_main region)) bytes s
unfolding read_block kept_addresses_at
stop_in_kept_count is_main region bytes s p = Stopped-mapped length _ bytes s (Stopped-mapped _ _ bytes s (Stopped-first _ _ bytes s (Stopped-block (count_within (kept_room is_main)) bytes s p)))

pub in_kept : (is_main : Bool) (region : Region) (bytes : List ℕ) (limit count : ℕ) (rest : List ℕ) (s : Stop) → limit ≡ kept_room is_main → count_within limit bytes ≡ Ok (count, rest) → Stopped (several (free_address_at region) after_address 0 count) rest s
    → Stopped (mapped length (kept_addresses_at is_main region)) bytes s
unfolding kept_addresses_at
in_kept is_main region bytes limit count rest s same h p =
    Stopped-mapped length _ bytes s (Stopped-mapped _ _ bytes s (Stopped-then (count_within (kept_room is_main)) (several (free_address_at region) after_address 0) (IsLocal-count_within (kept_room is_main)) bytes count rest s (subst (λ n. count_within n bytes ≡ Ok (count, rest)) same h) p))

pub kept_passed : (is_main : Bool) (region : Region) (bytes : List ℕ) (limit count : ℕ) (rest end : List ℕ) → limit ≡ kept_room is_main → count_within limit bytes ≡ Ok (count, rest) → skipped (several (free_address_at region) after_address 0 count) rest ≡ Ok end
    → mapped length (kept_addresses_at is_main region) bytes ≡ Ok (count, end)
unfolding kept_addresses_at
kept_passed is_main region bytes limit count rest end same h g = counted_many (count_within (kept_room is_main)) (free_address_at region) after_address 0 bytes count rest end (subst (λ n. count_within n bytes ≡ Ok (count, rest)) same h) g

-- ---- the mark and the exit

exit_is : (facts : ℕ) (form : ProcedureForm) (is_main : Bool) (region : Region) (bytes : List ℕ) → exit_by (Fourth facts form) is_main region bytes ≡ exit_at facts form is_main region bytes
unfolding exit_by exit_at
exit_is facts form is_main region bytes = refl

-- of a procedure that names so many addresses, and has this base
abbrev formed : ℕ → ℕ → ProcedureForm
formed base kept = record { kept = kept; base = base }

older_exit_is : (rules : Rules) (is_main : Bool) (region : Region) (bytes : List ℕ) → exit_by (Older rules) is_main region bytes ≡ simple.exit_at rules is_main region bytes
unfolding exit_by simple.exit_at
older_exit_is rules is_main region bytes = refl

abbrev marked : Bool → Region → Read (List ℕ × ℕ)
marked is_main region = both (kept_addresses_at is_main region) byte

abbrev exit_behind : ℕ → ℕ → Bool → Region → List ℕ × ℕ → Read (Option AbsState)
exit_behind facts base is_main region d = exit_at facts (formed base (length d.0)) is_main region

pub stop_in_kept : (facts base : ℕ) (is_main : Bool) (region : Region) (bytes : List ℕ) (s : Stop) → Stopped (mapped length (kept_addresses_at is_main region)) bytes s → Stopped (mapped (form_named base) (named_at facts base is_main region)) bytes s
unfolding named_at
stop_in_kept facts base is_main region bytes s p =
    Stopped-mapped (form_named base) _ bytes s (Stopped-first (marked is_main region) (exit_behind facts base is_main region) bytes s (Stopped-first (kept_addresses_at is_main region) (λ x. byte) bytes s (Stopped-unmapped length (kept_addresses_at is_main region) bytes s p)))

pub stop_in_mark : (facts base : ℕ) (is_main : Bool) (region : Region) (bytes : List ℕ) (kept : ℕ) (rest : List ℕ) (s : Stop) → mapped length (kept_addresses_at is_main region) bytes ≡ Ok (kept, rest) → Stopped (read_block block.Mark) rest s → Stopped (mapped (form_named base) (named_at facts base is_main region)) bytes s
unfolding named_at read_block
stop_in_mark facts base is_main region bytes kept rest s h p =
    let k = was_mapped length (kept_addresses_at is_main region) bytes kept rest h in
    Stopped-mapped (form_named base) _ bytes s (Stopped-first (marked is_main region) (exit_behind facts base is_main region) bytes s
    (Stopped-then (kept_addresses_at is_main region) (λ x. byte) (IsLocal-kept_addresses is_main region) bytes k.0 rest s k.1 (Stopped-block byte rest s p)))

pub stop_behind_mark : (facts base : ℕ) (is_main : Bool) (region : Region) (bytes : List ℕ) (kept : ℕ) (first : List ℕ) (mark : ℕ) (second : List ℕ) (s : Stop) → mapped length (kept_addresses_at is_main region) bytes ≡ Ok (kept, first) → byte first ≡ Ok (mark, second)
    → Stopped (exit_by (Fourth facts (formed base kept)) is_main region) second s → Stopped (mapped (form_named base) (named_at facts base is_main region)) bytes s
unfolding named_at
stop_behind_mark facts base is_main region bytes kept first mark second s h g p =
    let k = was_mapped length (kept_addresses_at is_main region) bytes kept first h in
    let q = subst (λ n. Stopped (exit_by (Fourth facts (formed base n)) is_main region) second s) (sym k.2) p in
    Stopped-mapped (form_named base) _ bytes s (Stopped-then (marked is_main region) (exit_behind facts base is_main region) (IsLocal-both _ _ (IsLocal-kept_addresses is_main region) IsLocal-byte) bytes (k.0, mark) second s
    (is_followed (kept_addresses_at is_main region) (λ x. byte) bytes k.0 first mark second k.1 g)
    (Stopped-as (exit_by (Fourth facts (formed base (length k.0))) is_main region) (exit_at facts (formed base (length k.0)) is_main region) second s (exit_is facts (formed base (length k.0)) is_main region) q))

pub named_passed : (facts base : ℕ) (is_main : Bool) (region : Region) (bytes : List ℕ) (kept : ℕ) (first : List ℕ) (mark : ℕ) (second end : List ℕ) → mapped length (kept_addresses_at is_main region) bytes ≡ Ok (kept, first) → byte first ≡ Ok (mark, second)
    → skipped (exit_by (Fourth facts (formed base kept)) is_main region) second ≡ Ok end → mapped (form_named base) (named_at facts base is_main region) bytes ≡ Ok (formed base kept, end)
unfolding named_at
named_passed facts base is_main region bytes kept first mark second end h g e =
    let k = was_mapped length (kept_addresses_at is_main region) bytes kept first h in
    let q = subst (λ n. skipped (exit_by (Fourth facts (formed base n)) is_main region) second ≡ Ok end) (sym k.2) e in
    let w = was_read (exit_at facts (formed base (length k.0)) is_main region) second end (sym (same_skipped (exit_by (Fourth facts (formed base (length k.0))) is_main region) (exit_at facts (formed base (length k.0)) is_main region) second (exit_is facts (formed base (length k.0)) is_main region second)) ∙ q) in
    is_mapped (form_named base) (followed (marked is_main region) (exit_behind facts base is_main region)) bytes ((k.0, mark), w.0) (formed base kept) end
    (is_followed (marked is_main region) (exit_behind facts base is_main region) bytes (k.0, mark) second w.0 end (is_followed (kept_addresses_at is_main region) (λ x. byte) bytes k.0 first mark second k.1 g) w.1) (ap (formed base) k.2)

-- where the blocks stand, by how many addresses there are
pub in_mark : (number facts base : ℕ) (is_main : Bool) (region : Region) (bytes : List ℕ) (kept : ℕ) (rest : List ℕ) → mapped length (kept_addresses_at is_main region) bytes ≡ Ok (kept, rest) → InNamed number facts base is_main region bytes (part.Procedure number) block.Mark rest
in_mark number facts base is_main region bytes kept rest h = let k = was_mapped length (kept_addresses_at is_main region) bytes kept rest h in AtMark k.1

pub behind_mark : (number facts base : ℕ) (is_main : Bool) (region : Region) (bytes : List ℕ) (kept : ℕ) (first : List ℕ) (mark : ℕ) (second rest : List ℕ) (p : Part) (b : Block) → mapped length (kept_addresses_at is_main region) bytes ≡ Ok (kept, first) → byte first ≡ Ok (mark, second)
    → InExit number (Fourth facts (formed base kept)) is_main region second p b rest → InNamed number facts base is_main region bytes p b rest
behind_mark number facts base is_main region bytes kept first mark second rest p b h g a =
    let k = was_mapped length (kept_addresses_at is_main region) bytes kept first h in
    BehindMark k.1 g (subst (λ n. InExit number (Fourth facts (formed base n)) is_main region second p b rest) (sym k.2) a)

-- ---- what is behind a procedure's ranges

pub stop_in_named : (version facts base : ℕ) (is_main : Bool) (region : Region) (bytes : List ℕ) (s : Stop) → (version == 4) ≡ true → Stopped (mapped (form_named base) (named_at facts base is_main region)) bytes s
    → Stopped (mapped (ending_form (version == 4) base) (ending_by (version == 4) version facts is_main region base)) bytes s
stop_in_named version facts base is_main region bytes s e p = subst (λ (b : Bool). Stopped (mapped (ending_form b base) (ending_by b version facts is_main region base)) bytes s) (sym e) p

pub ending_named : (version facts base : ℕ) (is_main : Bool) (region : Region) (bytes : List ℕ) (of : ProcedureForm) (end : List ℕ) → (version == 4) ≡ true → mapped (form_named base) (named_at facts base is_main region) bytes ≡ Ok (of, end)
    → mapped (ending_form (version == 4) base) (ending_by (version == 4) version facts is_main region base) bytes ≡ Ok (of, end)
ending_named version facts base is_main region bytes of end e h = subst (λ (b : Bool). mapped (ending_form b base) (ending_by b version facts is_main region base) bytes ≡ Ok (of, end)) (sym e) h

pub stop_in_older_exit : (version facts base : ℕ) (is_main : Bool) (region : Region) (bytes : List ℕ) (rules : Rules) (s : Stop) → (version == 4) ≡ false → rules ≡ rules_of version → Stopped (exit_by (Older rules) is_main region) bytes s
    → Stopped (mapped (ending_form (version == 4) base) (ending_by (version == 4) version facts is_main region base)) bytes s
stop_in_older_exit version facts base is_main region bytes rules s e same p =
    let q = subst (λ (r : Rules). Stopped (exit_by (Older r) is_main region) bytes s) same p in
    subst (λ (b : Bool). Stopped (mapped (ending_form b base) (ending_by b version facts is_main region base)) bytes s) (sym e)
    (Stopped-mapped (ending_form false base) (simple.exit_at (rules_of version) is_main region) bytes s (Stopped-as (exit_by (Older (rules_of version)) is_main region) (simple.exit_at (rules_of version) is_main region) bytes s (older_exit_is (rules_of version) is_main region) q))

pub ending_older : (version facts base : ℕ) (is_main : Bool) (region : Region) (bytes : List ℕ) (rules : Rules) (end : List ℕ) → (version == 4) ≡ false → rules ≡ rules_of version → skipped (exit_by (Older rules) is_main region) bytes ≡ Ok end
    → mapped (ending_form (version == 4) base) (ending_by (version == 4) version facts is_main region base) bytes ≡ Ok (no_form, end)
ending_older version facts base is_main region bytes rules end e same h =
    let q = subst (λ (r : Rules). skipped (exit_by (Older r) is_main region) bytes ≡ Ok end) same h in
    let w = was_read (simple.exit_at (rules_of version) is_main region) bytes end (sym (same_skipped (exit_by (Older (rules_of version)) is_main region) (simple.exit_at (rules_of version) is_main region) bytes (older_exit_is (rules_of version) is_main region bytes)) ∙ q) in
    subst (λ (b : Bool). mapped (ending_form b base) (ending_by b version facts is_main region base) bytes ≡ Ok (no_form, end)) (sym e)
    (is_mapped (ending_form false base) (simple.exit_at (rules_of version) is_main region) bytes w.0 no_form end w.1 refl)

-- ---- facts

pub facts_absent : (version : ℕ) (region : Region) (bytes : List ℕ) → (version == 4) ≡ false → mapped length (facts_by (version == 4) region) bytes ≡ Ok (0, bytes)
facts_absent version region bytes e = subst (λ (b : Bool). mapped length (facts_by b region) bytes ≡ Ok (0, bytes)) (sym e) refl

pub stop_in_fact_count : (version : ℕ) (region : Region) (bytes : List ℕ) (s : Stop) → (version == 4) ≡ true → Stopped (read_block block.FactCount) bytes s → Stopped (mapped length (facts_by (version == 4) region)) bytes s
unfolding read_block facts_at
stop_in_fact_count version region bytes s e p =
    subst (λ (b : Bool). Stopped (mapped length (facts_by b region)) bytes s) (sym e)
    (Stopped-mapped length _ bytes s (Stopped-mapped _ _ bytes s (Stopped-first (word_count_within fact_limit) (several {S = Unit {0}} (λ s. fact_at region) (λ f. tt) tt) bytes s (Stopped-block (word_count_within fact_limit) bytes s p))))

pub in_facts : (version : ℕ) (region : Region) (bytes : List ℕ) (count : ℕ) (rest : List ℕ) (s : Stop) → (version == 4) ≡ true → word_count_within fact_limit bytes ≡ Ok (count, rest) → Stopped (several {S = Unit {0}} (λ s. fact_at region) (λ f. tt) tt count) rest s
    → Stopped (mapped length (facts_by (version == 4) region)) bytes s
unfolding facts_at
in_facts version region bytes count rest s e h p =
    subst (λ (b : Bool). Stopped (mapped length (facts_by b region)) bytes s) (sym e)
    (Stopped-mapped length _ bytes s (Stopped-mapped _ _ bytes s (Stopped-then (word_count_within fact_limit) (several {S = Unit {0}} (λ s. fact_at region) (λ f. tt) tt) (IsLocal-word_count_within fact_limit) bytes count rest s h p)))

pub facts_passed : (version : ℕ) (region : Region) (bytes : List ℕ) (count : ℕ) (rest end : List ℕ) → (version == 4) ≡ true → word_count_within fact_limit bytes ≡ Ok (count, rest) → skipped (several {S = Unit {0}} (λ s. fact_at region) (λ f. tt) tt count) rest ≡ Ok end
    → mapped length (facts_by (version == 4) region) bytes ≡ Ok (count, end)
unfolding facts_at
facts_passed version region bytes count rest end e h g =
    subst (λ (b : Bool). mapped length (facts_by b region) bytes ≡ Ok (count, end)) (sym e)
    (counted_many {S = Unit {0}} (word_count_within fact_limit) (λ s. fact_at region) (λ f. tt) tt bytes count rest end h g)

pub ruleset walk_kept = (no_kept_count, stop_in_kept_count, in_kept, kept_passed)

pub ruleset walk_named = (no_mark, stop_in_kept, stop_in_mark, stop_behind_mark, named_passed)

pub ruleset walk_ending = (stop_in_named, ending_named, stop_in_older_exit, ending_older)

pub ruleset walk_facts = (no_fact_count, facts_absent, stop_in_fact_count, in_facts, facts_passed)
